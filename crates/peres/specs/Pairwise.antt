-- The two lists of a recording's pairs: their lengths and codes, and how a loop over the recording meets them. Assumes nothing.
use Rattle.std.specs.Prelude.{◌≡◌, ℕ, zero, suc, ◌+◌, ◌-◌, ◌*◌, ◌<◌, ◌≤◌, Bool, true, false, cond, not, List, [], ◌∷◌, ◌++◌, length, drop, ◌==◌, ◌≢◌, nat_lt, slice_index, slice_index_or, slice_set, refl}
use Rattle.std.specs.Int.{from_bool}
use Rattle.std.proofs.Common.{sym, ap, ◌∙◌, append_assoc, append-nil, arith, eq-eqb, ne_eqb}
use Rattle.std.proofs.lemmas.Bool.{cond-true, cond-false}
use Rattle.classes.specs.Recordings.{Codes, Recording}
use Rattle.extractors.specs.Calls.{Written}
use Rattle.extractors.specs.PairsRule.{pairs}
use Rattle.extractors.proofs.Pairing.{two, Writing, write_same, write_other, write_all}
use Rattle.peres.specs.PeresRule.{differ, common, peres}

-- LENGTHS AND CODES

-- each pair gives a bit or a common code
pub pair_lengths : (x : List ℕ) → (length (pairs x) + length (common x) ≡ length (differ x)) × (2 * length (differ x) ≤ length x)
pair_lengths [] = (refl, omega arith)
pair_lengths (a ∷ []) = (refl, omega arith)
pair_lengths (a ∷ (b ∷ x)) = (at (a == b) (pair_lengths x).0, let h = (pair_lengths x).1 in omega arith)
  where
    at : (e : Bool) → length (pairs x) + length (common x) ≡ length (differ x) → length (cond e (pairs x) (nat_lt b a ∷ pairs x)) + length (cond e (a ∷ common x) (common x)) ≡ suc (length (differ x))
    at true h = omega arith
    at false h = omega arith

pub differ_codes : (x : List ℕ) → Codes 2 (differ x)
differ_codes [] = tt
differ_codes (a ∷ []) = tt
differ_codes (a ∷ (b ∷ x)) = (at (a == b), differ_codes x)
  where
    at : (e : Bool) → cond e 0 1 < 2
    at true = omega arith
    at false = omega arith

pub common_codes : (m : ℕ) (x : List ℕ) → Codes m x → Codes m (common x)
common_codes m [] h = tt
common_codes m (a ∷ []) h = tt
common_codes m (a ∷ (b ∷ x)) h = at (a == b) (common_codes m x h.1.1)
  where
    at : (e : Bool) → Codes m (common x) → Codes m (cond e (a ∷ common x) (common x))
    at true r = (h.0, r)
    at false r = r

pub differ_recorded : (x : List ℕ) → Recording 2 x → Recording 2 (differ x)
differ_recorded x r = let few : length x ≤ 4096 = r.1 in (differ_codes x, omega (arith, (pair_lengths x).1))

pub common_recorded : (x : List ℕ) → Recording 2 x → Recording 2 (common x)
common_recorded x r = let few : length x ≤ 4096 = r.1 in (common_codes 2 x r.0, omega (arith, (pair_lengths x).0, (pair_lengths x).1))

-- one step of a depth that is not 0
pub peres_step : (d : ℕ) (f : List ℕ → List Bool) (x : List ℕ) → (d ≢ 0) → peres d f x ≡ pairs x ++ (peres (d - 1) f (differ x) ++ peres (d - 1) f (common x))
peres_step zero f x h = absurd (h refl)
peres_step (suc d) f x h = let e : d ≡ suc d - 1 = omega arith in ap (λ k. pairs x ++ (peres k f (differ x) ++ peres k f (common x))) e

-- THE LOOP OVER THE PAIRS

-- a list grows by the element that one turn takes from the rest
list_more : {X : Type 0} (all done rest done' : List X) (y : X) → all ≡ done ++ (y ∷ rest) → done' ≡ done ++ (y ∷ []) → all ≡ done' ++ rest
list_more all done rest done' y e d = e ∙ sym (append_assoc done (y ∷ []) rest) ∙ ap (λ z. z ++ rest) (sym d)

list_all : {X : Type 0} (all done rest : List X) → all ≡ done ++ rest → rest ≡ [] → done ≡ all
list_all all done rest e r = sym (e ∙ ap (λ z. done ++ z) r ∙ append-nil done)

module _ (x : List ℕ) (i : ℕ) (h : i + 2 ≤ length x) where
  differ_more : differ (drop i x) ≡ cond (slice_index x i == slice_index x (i + 1)) 0 1 ∷ differ (drop (i + 2) x)
  differ_more = ap differ (two x i h)

  common_same : slice_index_or x i 0 ≡ slice_index x (i + 1) → common (drop i x) ≡ slice_index x (i + 1) ∷ common (drop (i + 2) x)
  common_same e = ap common (two x i h) ∙ cond-true _ _ _ (eq-eqb (slice_index x i) (slice_index x (i + 1)) e) ∙ ap (λ a. a ∷ common (drop (i + 2) x)) e

  common_other : (slice_index x i ≢ slice_index x (i + 1)) → common (drop i x) ≡ common (drop (i + 2) x)
  common_other e = ap common (two x i h) ∙ cond-false _ _ _ (ne_eqb (slice_index x i) (slice_index x (i + 1)) e)

no_pairs_left : (rest : List ℕ) → length rest < 2 → (differ rest ≡ []) × (common rest ≡ [])
no_pairs_left [] h = (refl, refl)
no_pairs_left (a ∷ []) h = (refl, refl)
no_pairs_left (a ∷ (b ∷ rest)) h = absurd (omega arith)

-- the codes in rest are still to be read: k bits stand in out, which held before, and the lists so far are u and v
pub record Reading (x before rest : List ℕ) (k : ℕ) (out u v : List ℕ) : Type 0 where
  pub bits : Writing x before rest k out
  pub first : differ x ≡ u ++ differ rest
  pub second : common x ≡ v ++ common rest

flag : (e : Bool) → from_bool (not e) ≡ cond e 0 1
flag true = refl
flag false = refl

module _ (x before : List ℕ) (a b : ℕ) (rest : List ℕ) (k : ℕ) (out u v : List ℕ) (reading : Reading x before (a ∷ (b ∷ rest)) k out u v) where
  differ_read : (u' : List ℕ) → u' ≡ u ++ (from_bool (not (a == b)) ∷ []) → differ x ≡ u' ++ differ rest
  differ_read u' du = list_more (differ x) u (differ rest) u' (cond (a == b) 0 1) reading.first (du ∙ ap (λ c. u ++ (c ∷ [])) (flag (a == b)))

  pub reading_same : a ≡ b → (u' v' : List ℕ) → u' ≡ u ++ (from_bool (not (a == b)) ∷ []) → v' ≡ v ++ (a ∷ []) → Reading x before rest k out u' v'
  reading_same e u' v' du dv =
      let c : common (a ∷ (b ∷ rest)) ≡ a ∷ common rest = cond-true _ _ _ (eq-eqb a b e) in
      record {
        bits = write_same x before a b rest k out reading.bits e;
        first = differ_read u' du;
        second = list_more (common x) v (common rest) v' a (reading.second ∙ ap (λ r. v ++ r) c) dv;
      }

  pub reading_other : (a ≢ b) → k < length out → (u' : List ℕ) → u' ≡ u ++ (from_bool (not (a == b)) ∷ []) → Reading x before rest (k + 1) (slice_set out k (from_bool (nat_lt b a))) u' v
  reading_other e room u' du =
      let c : common (a ∷ (b ∷ rest)) ≡ common rest = cond-false _ _ _ (ne_eqb a b e) in
      record {
        bits = write_other x before a b rest k out reading.bits e room;
        first = differ_read u' du;
        second = reading.second ∙ ap (λ r. v ++ r) c;
      }

pub reading_all : (x before rest : List ℕ) (k : ℕ) (out u v : List ℕ) → Reading x before rest k out u v → length rest < 2 → k ≤ length out → Written (pairs x) before k out × (u ≡ differ x) × (v ≡ common x)
reading_all x before rest k out u v reading short room =
    let none = no_pairs_left rest short in (
      write_all x before rest k out reading.bits short room,
      list_all (differ x) u (differ rest) reading.first none.0,
      list_all (common x) v (common rest) reading.second none.1,
    )
