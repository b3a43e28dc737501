-- Lemmas on letters read as codes.
use Rattle.std.proofs.Common.{◌≡◌, ℕ, ◌<◌, Bool, true, false, List, [], ◌∷◌, map, length, get_or, is_some, Some, None, Option, sym, ap, ◌∙◌, arith}
use Rattle.std.specs.List.{AllByRecursion, AllWithin, HoldsAt}
use Rattle.std.specs.Option.{MatchOption}
use Rattle.std.proofs.lemmas.List.{length-map}
use Rattle.noise_file.specs.First.{unless, first_over}
use Rattle.noise_file.specs.Reading.{stray_at, stray, ReadAs}
use Rattle.noise_file.proofs.Firsts.{over_first, over_found, over_none}

pub codes_below : (m : ℕ) (f : ℕ → Option ℕ) → ((l c : ℕ) → f l ≡ Some c → c < m) → (letters codes : List ℕ) → map Some codes ≡ map f letters → AllByRecursion (λ c. c < m) codes
codes_below m f law letters [] h = tt
codes_below m f law [] (c ∷ cs) h = let z : ◌≡◌ {A = ℕ} 0 1 = cc in let no : ⊥ = omega arith in elim no [ ]
codes_below m f law (l ∷ ls) (c ∷ cs) h =
    let here : f l ≡ Some c = cc in
    let rest : map Some cs ≡ map f ls = cc in
    (law l c here, codes_below m f law ls cs rest)

pub read_as : (m : ℕ) (f : ℕ → Option ℕ) → ((l c : ℕ) → f l ≡ Some c → c < m) → (letters codes : List ℕ) → map Some codes ≡ map f letters → ReadAs m f letters codes
read_as m f law letters codes h =
    record { coded = h; below = codes_below m f law letters codes h; as_many = sym (length-map codes Some) ∙ (ap length h ∙ length-map letters f) }

-- the first letter that has no code
pub stray_here : (f : ℕ → Option ℕ) (letters : List ℕ) (i : ℕ) → i < length letters → first_over i (stray_at f letters) ≡ None → is_some (f (get_or letters i 0)) ≡ false → Some i ≡ stray f letters
stray_here f letters i l before here = sym (over_first (stray_at f letters) i (length letters) i before (rw here) l)

pub stray_below : (f : ℕ → Option ℕ) (letters : List ℕ) (k : ℕ) → Some k ≡ stray f letters → k < length letters
stray_below f letters k h = at (over_found (stray_at f letters) (length letters) k (sym h))
  where
    same : (b : Bool) (i : ℕ) → unless b i ≡ Some k → i ≡ k
    same true i e = cc
    same false i e = cc

    at : (i : ℕ) × (i < length letters) × (stray_at f letters i ≡ Some k) → k < length letters
    at (i, l, e) = let s : i ≡ k = same _ i e in omega arith

-- what a search for the first letter without a code answers
pub stray_is : (f : ℕ → Option ℕ) (letters : List ℕ) (r : Option ℕ) → MatchOption r (AllWithin (λ l. is_some (f l) ≡ true) letters 0 (length letters)) (λ i. (i < length letters) × HoldsAt (λ l. is_some (f l) ≡ false) letters i × AllWithin (λ l. is_some (f l) ≡ true) letters 0 i) → r ≡ stray f letters
stray_is f letters None h = sym (over_none (stray_at f letters) (length letters) (λ k l. rw (h k 0 (omega arith) l)))
stray_is f letters (Some i) h = stray_here f letters i h.0 (over_none (stray_at f letters) i (λ k l. rw (h.2 k 0 (omega arith) l))) (h.1 0)
