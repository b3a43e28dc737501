-- The rule of pairs, as a loop over the pairs of a recording meets it. Assumes nothing.
use Rattle.std.proofs.Common.{◌≡◌, ℕ, zero, suc, ◌+◌, ◌*◌, ◌/◌, ◌<◌, ◌≤◌, ◌≢◌, Bool, true, false, ltb, List, [], ◌∷◌, ◌++◌, length, get_or, take, drop, set, sym, refl, ap, ◌∙◌, append_assoc, append-nil, arith, eq-eqb, ne_eqb}
use Rattle.std.proofs.lemmas.List.{drop_more, length-take-le, take-append-drop, take_more_set, drop-set-lt, drop-drop, length-drop}
use Rattle.std.proofs.lemmas.Bool.{cond-true, cond-false}
use Rattle.std.specs.Int.{from_bool}
use Rattle.std.specs.Simd.{first_chunks}
use Rattle.extractors.specs.PairsRule.{pairs}
use Rattle.extractors.specs.Bits.{byte, bytes}
use Rattle.extractors.specs.Calls.{Written}
use Rattle.extractors.proofs.Writing.{length_bytes}

-- TWO CODES AT ANY PLACE

pub two : (x : List ℕ) (i : ℕ) → i + 2 ≤ length x → drop i x ≡ get_or x i 0 ∷ (get_or x (i + 1) 0 ∷ drop (i + 2) x)
two x i h =
    let a : i < length x = omega arith in
    let b : i + 1 < length x = omega arith in
    let e : i + 1 + 1 ≡ i + 2 = omega arith in
    drop_more x i 0 a ∙ ap (λ r. get_or x i 0 ∷ r) (drop_more x (i + 1) 0 b ∙ ap (λ j. get_or x (i + 1) 0 ∷ drop j x) e)

module _ (x : List ℕ) (i : ℕ) (h : i + 2 ≤ length x) where
  pub pairs_same : get_or x i 0 ≡ get_or x (i + 1) 0 → pairs (drop i x) ≡ pairs (drop (i + 2) x)
  pairs_same e = ap pairs (two x i h) ∙ cond-true _ _ _ (eq-eqb (get_or x i 0) (get_or x (i + 1) 0) e)

  pub pairs_other : (get_or x i 0 ≡ get_or x (i + 1) 0 → ⊥) → pairs (drop i x) ≡ ltb (get_or x (i + 1) 0) (get_or x i 0) ∷ pairs (drop (i + 2) x)
  pairs_other e = ap pairs (two x i h) ∙ cond-false _ _ _ (ne_eqb (get_or x i 0) (get_or x (i + 1) 0) e)

-- THE PAIRS OF A RECORDING

pub chunk_at : (n k : ℕ) (x : List ℕ) (j : ℕ) → j < k → get_or (first_chunks n k x) j [] ≡ take n (drop (n * j) x)
chunk_at n zero x j h = absurd (omega arith)
chunk_at n (suc k) x zero h = let e : n * 0 ≡ 0 = omega arith in ap (λ i. take n (drop i x)) (sym e)
chunk_at n (suc k) x (suc j) h =
    let e : n + n * j ≡ n * suc j = omega arith in
    chunk_at n k (drop n x) j (omega arith) ∙ ap (take n) (drop-drop (n * j) n x ∙ ap (λ i. drop i x) e)

front_two : (r : List ℕ) → 2 ≤ length r → r ≡ get_or (take 2 r) 0 0 ∷ (get_or (take 2 r) 1 0 ∷ drop 2 r)
front_two [] h = absurd (omega arith)
front_two (a ∷ []) h = absurd (omega arith)
front_two (a ∷ (b ∷ r)) h = refl

module _ (x : List ℕ) (ps : List (List ℕ)) (front : ps ≡ first_chunks 2 (length x / 2) x) (many : length ps ≡ length x / 2) (j : ℕ) where
  -- pair j stands before what is left behind it
  pub pair_at : j < length ps → drop (2 * j) x ≡ get_or (get_or ps j []) 0 0 ∷ (get_or (get_or ps j []) 1 0 ∷ drop (2 * (j + 1)) x)
  pair_at h =
      let e : 2 * j + 2 ≡ 2 * (j + 1) = omega arith in
      let p : get_or ps j [] ≡ take 2 (drop (2 * j) x) = ap (λ l. get_or l j []) front ∙ chunk_at 2 (length x / 2) x j (omega arith) in
      front_two (drop (2 * j) x) (omega (arith, length-drop (2 * j) x))
      ∙ ap (λ l. get_or l 0 0 ∷ (get_or l 1 0 ∷ drop 2 (drop (2 * j) x))) (sym p)
      ∙ ap (λ r. get_or (get_or ps j []) 0 0 ∷ (get_or (get_or ps j []) 1 0 ∷ r)) (drop-drop 2 (2 * j) x ∙ ap (λ i. drop i x) e)

  -- behind the last pair stands at most a single code
  pub pairs_end : length ps ≤ j → length (drop (2 * j) x) < 2
  pairs_end h = omega (arith, length-drop (2 * j) x)

-- THE LOOP THAT WRITES THE BITS OF PAIRS

-- k bits of x stand at the front of out, which held before; those of the codes in rest are still to be written
pub record Writing (x before rest : List ℕ) (k : ℕ) (out : List ℕ) : Type 0 where
  pub room : k + length rest ≤ length x
  pub front : bytes (pairs x) ≡ take k out ++ bytes (pairs rest)
  pub behind : drop k out ≡ drop k before

from_bool-byte : (b : Bool) → from_bool b ≡ byte b
from_bool-byte true = refl
from_bool-byte false = refl

module _ (x before : List ℕ) (a b : ℕ) (rest : List ℕ) (k : ℕ) (out : List ℕ) (w : Writing x before (a ∷ (b ∷ rest)) k out) where
  pub write_same : a ≡ b → Writing x before rest k out
  write_same e = record { room = omega (arith, w.room); front = w.front ∙ ap (λ s. take k out ++ bytes s) (cond-true _ _ _ (eq-eqb a b e)); behind = w.behind }

  pub write_other : (a ≢ b) → k < length out → Writing x before rest (k + 1) (set out k (from_bool (ltb b a)))
  write_other e l =
      let v = from_bool (ltb b a) in
      let lt : k < k + 1 = omega arith in
      record {
        room = omega (arith, w.room);
        front =
            w.front ∙ ap (λ s. take k out ++ bytes s) (cond-false _ _ _ (ne_eqb a b e)) ∙ ap (λ c. take k out ++ (c ∷ bytes (pairs rest))) (sym (from_bool-byte (ltb b a)))
            ∙ sym (append_assoc (take k out) (v ∷ []) (bytes (pairs rest))) ∙ ap (λ s. s ++ bytes (pairs rest)) (sym (take_more_set out k v l));
        behind = drop-set-lt (k + 1) out k v lt ∙ sym (drop-drop 1 k out) ∙ ap (drop 1) w.behind ∙ drop-drop 1 k before;
      }

pub no_pairs : (rest : List ℕ) → length rest < 2 → pairs rest ≡ []
no_pairs [] h = refl
no_pairs (a ∷ []) h = refl
no_pairs (a ∷ (b ∷ rest)) h = absurd (omega arith)

-- the whole front is written
pub write_all : (x before rest : List ℕ) (k : ℕ) (out : List ℕ) → Writing x before rest k out → length rest < 2 → k ≤ length out → Written (pairs x) before k out
write_all x before rest k out w short room =
    let front : bytes (pairs x) ≡ take k out = w.front ∙ ap (λ s. take k out ++ bytes s) (no_pairs rest short) ∙ append-nil (take k out) in
    let n : k ≡ length (pairs x) = sym (length-take-le k out room) ∙ ap length (sym front) ∙ length_bytes (pairs x) in
    (n, sym (take-append-drop k out) ∙ ap (λ s. s ++ drop k out) (sym front) ∙ ap (λ s. bytes (pairs x) ++ s) (w.behind ∙ ap (λ i. drop i before) n))
