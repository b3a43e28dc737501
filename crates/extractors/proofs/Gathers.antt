-- Bit strings gathered for the numbers from 0 upward, and taken apart again. Assumes nothing.
use Rattle.std.proofs.Common.{◌≡◌, ℕ, zero, suc, ◌+◌, ◌<◌, Bool, true, false, cond, eqb, List, [], ◌∷◌, ◌++◌, length, take, drop, refl, ap, ◌∙◌, subst, ap₂, inl, inr, add-one, arith, length-append, length-drop, take-append-drop, length-take}
use Rattle.std.proofs.lemmas.Bool.{cases_eq, eqb-true, cond-true, cond-false, eq-eqb, ne_eqb}
use Rattle.extractors.specs.Bits.{gather}

pub gather_next : (n : ℕ) (f : ℕ → List Bool) → gather (n + 1) f ≡ gather n f ++ f n
gather_next n f = ap (λ k. gather k f) (add-one n)

pub gather_same : (n : ℕ) (f g : ℕ → List Bool) → ((s : ℕ) → s < n → f s ≡ g s) → gather n f ≡ gather n g
gather_same zero f g h = refl
gather_same (suc n) f g h = ap₂ ◌++◌ (gather_same n f g (λ s k. h s (omega arith))) (h n (omega arith))

pub gather_none : (n : ℕ) (f : ℕ → List Bool) → ((s : ℕ) → f s ≡ []) → gather n f ≡ []
gather_none zero f h = refl
gather_none (suc n) f h = ap₂ ◌++◌ (gather_none n f h) (h n)

pub length_gather : (n : ℕ) (f g : ℕ → List Bool) → ((s : ℕ) → length (f s) ≡ length (g s)) → length (gather n f) ≡ length (gather n g)
length_gather zero f g h = refl
length_gather (suc n) f g h = omega (arith, length-append (gather n f) (f n), length-append (gather n g) (g n), length_gather n f g h, h n)

append_cancel : (k l p q : List Bool) → length k ≡ length p → k ++ l ≡ p ++ q → (k ≡ p) × (l ≡ q)
append_cancel [] l [] q h e = (refl, e)
append_cancel [] l (c ∷ p) q h e = absurd (omega arith)
append_cancel (b ∷ k) l [] q h e = absurd (omega arith)
append_cancel (b ∷ k) l (c ∷ p) q h e =
    let b=c : b ≡ c = cc in
    let tails : k ++ l ≡ p ++ q = cc in
    let same : length k ≡ length p = omega arith in
    let r = append_cancel k l p q same tails in
    (ap₂ (λ d m. d ∷ m) b=c r.0, r.1)

-- strings of known lengths are decided by what they gather to
pub gather_decides : (n : ℕ) (f g : ℕ → List Bool) → ((s : ℕ) → length (f s) ≡ length (g s)) → gather n f ≡ gather n g → (s : ℕ) → s < n → f s ≡ g s
gather_decides zero f g h e s k = absurd (omega arith)
gather_decides (suc n) f g h e s k = at (append_cancel (gather n f) (f n) (gather n g) (g n) (length_gather n f g h) e) (gather_decides n f g h)
  where
    at : (gather n f ≡ gather n g) × (f n ≡ g n) → (gather n f ≡ gather n g → (r : ℕ) → r < n → f r ≡ g r) → f s ≡ g s
    at r ih = elim (cases_eq n s) [ inl q ↦ subst (λ u. f u ≡ g u) q r.1 | inr ne ↦ ih r.0 s (omega arith) ]

-- t cut into parts as long as those of d
abbrev pub parts : ℕ → (ℕ → List Bool) → List Bool → ℕ → List Bool
parts zero d t s = d s
parts (suc n) d t s = cond (eqb n s) (drop (length (gather n d)) t) (parts n d (take (length (gather n d)) t) s)

pub length_parts : (n : ℕ) (d : ℕ → List Bool) (t : List Bool) → length t ≡ length (gather n d) → (s : ℕ) → length (parts n d t s) ≡ length (d s)
length_parts zero d t h s = refl
length_parts (suc n) d t h s = at (length_parts n d (take k t) (omega (arith, length-take k t, length-append (gather n d) (d n))) s) (eqb n s) refl
  where
    k : ℕ
    k = length (gather n d)

    at : length (parts n d (take k t) s) ≡ length (d s) → (b : Bool) → eqb n s ≡ b → length (cond b (drop k t) (parts n d (take k t) s)) ≡ length (d s)
    at ih true q = omega (arith, length-drop k t, length-append (gather n d) (d n), ap (λ u. length (d u)) (eqb-true n s q))
    at ih false q = ih

pub gather_parts : (n : ℕ) (d : ℕ → List Bool) (t : List Bool) → length t ≡ length (gather n d) → gather n (parts n d t) ≡ t
gather_parts zero d [] h = refl
gather_parts zero d (b ∷ t) h = absurd (omega arith)
gather_parts (suc n) d t h =
    let k = length (gather n d) in
    let few : length (take k t) ≡ k = omega (arith, length-take k t, length-append (gather n d) (d n)) in
    ap₂ ◌++◌
    (gather_same n (parts (suc n) d t) (parts n d (take k t)) (λ s l. cond-false (eqb n s) (drop k t) (parts n d (take k t) s) (ne_eqb n s (λ e. omega arith))) ∙ gather_parts n d (take k t) few)
    (cond-true (eqb n n) (drop k t) (parts n d (take k t) n) (eq-eqb n n refl))
    ∙ take-append-drop k t
