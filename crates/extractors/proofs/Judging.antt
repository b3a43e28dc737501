-- The refusals of an extractor: the first stray code as a search finds it, and what a call that nothing refuses was given. Assumes nothing.
use Rattle.std.proofs.Common.{◌≡◌, ℕ, suc, ◌*◌, ◌<◌, ◌≤◌, Bool, true, false, Bor, Iter, Some, List, [], ◌∷◌, length, None, Option, refl, sym, ◌∙◌, subst, ⊎_elim, add-one, arith, le-ltb, lt-ltb}
use Rattle.std.proofs.lemmas.Iterator.{IsFirst-from_position, YieldsList-from_slice, index_from_first}
use Rattle.std.proofs.iter.Yields.{fronts}
use denote.Param.Members.{Mut}
use Rattle.std.specs.Fn.{Called}
use Rattle.std.specs.Iterator.{FindsPosition}
use Rattle.std.specs.Slice.Iter.{iter_rest}
use Rattle.std.specs.List.{AllWithin, HoldsAt}
use Rattle.std.specs.Option.{MatchOption, unwrap_or}
use Rattle.std.proofs.lemmas.Bool.{cond-true, cond-false, cases_lt}
use Rattle.std.proofs.lemmas.Bool.Decides.{nat_tests}
use Rattle.classes.specs.Recordings.{Sized, Codes, Recording, width}
use Rattle.extractors.specs.declared.fault.ExtractorFault.{ExtractorFault}
use Rattle.extractors.specs.declared.fault.ExtractorFault.TheVariants.{Memory}
use Rattle.extractors.specs.Calls.{first_stray, due, RefusedAs}

-- what the search for a code that is not below the size finds
pub stray_found : {F : Type 0} (g : Mut F (Bor ℕ × Unit {0}) Bool) (m : ℕ) (x : List ℕ) (s u : Iter ℕ) (f : F) (r : Option ℕ) → FindsPosition fronts g s f r u → iter_rest s ≡ x → ((y : Bor ℕ) (q : F) → Called g f (y, tt) true q → m ≤ y.now) → ((y : Bor ℕ) (q : F) → Called g f (y, tt) false q → (q ≡ f) × (y.now < m))
    → MatchOption r (first_stray m x ≡ length x) (λ i. (i < length x) × (first_stray m x ≡ i))
stray_found g m x s u f r ran whole over below = at r found (index_from_first (first_stray m) (λ c. m ≤ c) (λ c. c < m) refl (λ c x h. cond-false _ _ _ (le-ltb c m h)) (λ c x h. cond-true _ _ _ (lt-ltb c m h) ∙ sym (add-one (first_stray m x))) x r found)
  where
    found : MatchOption r (AllWithin (λ c. c < m) x 0 (length x)) (λ i. (i < length x) × HoldsAt (λ c. m ≤ c) x i × AllWithin (λ c. c < m) x 0 i)
    found = IsFirst-from_position u f r (λ c. m ≤ c) (λ c. c < m) ran (YieldsList-from_slice x whole) over below

    at : (o : Option ℕ) → MatchOption o (AllWithin (λ c. c < m) x 0 (length x)) (λ i. (i < length x) × HoldsAt (λ c. m ≤ c) x i × AllWithin (λ c. c < m) x 0 i) → first_stray m x ≡ unwrap_or o (length x) → MatchOption o (first_stray m x ≡ length x) (λ i. (i < length x) × (first_stray m x ≡ i))
    at (Some i) h e = (h.0, e)
    at None h e = e

-- no stray code is to have every code below the size
pub none_stray : (m : ℕ) (x : List ℕ) → Codes m x → length x ≤ first_stray m x
none_stray m [] r = omega arith
none_stray m (c ∷ x) r =
    let e : first_stray m (c ∷ x) ≡ suc (first_stray m x) = cond-true _ _ _ (lt-ltb c m r.0) in
    let h : length x ≤ first_stray m x = none_stray m x r.1 in
    omega arith

pub stray_none_codes : (m : ℕ) (x : List ℕ) → length x ≤ first_stray m x → Codes m x
stray_none_codes m [] h = tt
stray_none_codes m (c ∷ x) h = ⊎_elim
    (λ l. let e : first_stray m (c ∷ x) ≡ suc (first_stray m x) = cond-true _ _ _ (lt-ltb c m l) in (l, stray_none_codes m x (omega arith)))
    (λ l. let e : first_stray m (c ∷ x) ≡ 0 = cond-false _ _ _ (le-ltb c m l) in absurd (omega arith))
    (cases_lt c m)

-- WHAT A CALL THAT NOTHING REFUSES WAS GIVEN

pub record Sound (m : ℕ) (x : List ℕ) (k : ℕ) : Type 0 where
  pub sized : Sized m
  pub recording : Recording m x
  pub room : width m * length x ≤ k

pub sound : (m : ℕ) (x : List ℕ) (k : ℕ) → due m x k ≡ None → Sound m x k
sound m x k e =
    let sized : Sized m = (grind (arith, nat_tests), grind (arith, nat_tests)) in
    let few : length x ≤ 4096 = grind (arith, nat_tests) in
    let good : length x ≤ first_stray m x = grind (arith, nat_tests) in
    let wide : width m * length x ≤ k = grind (arith, nat_tests) in
    record { sized = sized; recording = (stray_none_codes m x good, few); room = wide }

pub unrefused : (m : ℕ) (x : List ℕ) (k : ℕ) → Sized m → Recording m x → width m * length x ≤ k → due m x k ≡ None
unrefused m x k sized rec room =
    let good : length x ≤ first_stray m x = none_stray m x rec.0 in
    grind (arith, nat_tests)

-- where no fault is due, only memory can be wanting
pub memory_only : (o : Option ExtractorFault) (e : ExtractorFault) → o ≡ None → RefusedAs o e → e ≡ Memory
memory_only o e none r = subst (λ d. RefusedAs d e) none r
