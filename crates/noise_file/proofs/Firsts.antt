-- Lemmas on rules that are judged in order.
use Rattle.std.proofs.Common.{◌≡◌, ℕ, zero, suc, ◌+◌, ◌<◌, ◌≤◌, Bool, true, false, ◌⊎◌, is_some, Some, None, Err, Option, Result, sym, refl, ap, ◌∙◌, inl, inr, add-one, arith}
use Rattle.std.proofs.lemmas.Bool.{cases_lt}
use Rattle.std.specs.Option.{ok_or}
use Rattle.std.specs.Result.{IsErrAnd}
use Rattle.std.proofs.lemmas.Result.{err_from_is_err_and}
use Rattle.extractors.specs.Calls.{Judged}
use Rattle.noise_file.specs.First.{unless, first, first_over}

pub silent : {X : Type 0} (a b : Option X) → first a b ≡ None → (a ≡ None) × (b ≡ None)
silent None b h = (refl, h)
silent (Some x) b h = (h, cc)

pub passed : {X : Type 0} (a b : Option X) → a ≡ None → first a b ≡ b
passed None b h = refl
passed (Some x) b h = cc

pub stopped : {X : Type 0} (a b : Option X) (x : X) → a ≡ Some x → first a b ≡ Some x
stopped None b x h = cc
stopped (Some y) b x h = h

pub held : {X : Type 0} (b : Bool) (x : X) → unless b x ≡ None → b ≡ true
held true x h = refl
held false x h = cc

-- where `ok_or` refuses, there was no value, and the refusal is the one that it was given
pub refused : {X E : Type 0} (o : Option X) (e x : E) (r : Result X E) → r ≡ ok_or o e → r ≡ Err x → (is_some o ≡ false) × (x ≡ e)
refused None e x r h s = (refl, cc)
refused (Some y) e x r h s = cc

-- a fault that climbs by `?` is the one that is due
pub climbs : {X F : Type 0} (d : Option F) (r : Result X F) (e : F) → IsErrAnd r (λ y. y ≡ e) → d ≡ Some e → Judged d r
climbs d r e h is = let p = err_from_is_err_and r h in rw (p.1, p.2) is

-- one rule more
pub over_more : {X : Type 0} (f : ℕ → Option X) (n : ℕ) → first_over n f ≡ None → first_over (n + 1) f ≡ f n
over_more f n h = rw add-one (passed (first_over n f) (f n) h)

-- a rule that answers is not passed by
pub over_stays : {X : Type 0} (f : ℕ → Option X) (n k : ℕ) (x : X) → first_over n f ≡ Some x → n ≤ k → first_over k f ≡ Some x
over_stays f n zero x h l = let e : n ≡ 0 = omega arith in cc
over_stays f n (suc k) x h l = at (λ s. over_stays f n k x h s) (cases_lt n (suc k))
  where
    at : (n ≤ k → first_over k f ≡ Some x) → (n < suc k) ⊎ (suc k ≤ n) → first_over (suc k) f ≡ Some x
    at before (inl lt) = stopped (first_over k f) (f k) x (before (omega arith))
    at before (inr ge) = let e : n ≡ suc k = omega arith in cc

pub over_first : {X : Type 0} (f : ℕ → Option X) (i n : ℕ) (x : X) → first_over i f ≡ None → f i ≡ Some x → i < n → first_over n f ≡ Some x
over_first f i n x h here l = over_stays f (i + 1) n x (over_more f i h ∙ here) (omega arith)

-- where all rules are silent, so is each
pub over_silent : {X : Type 0} (f : ℕ → Option X) (n : ℕ) → first_over n f ≡ None → (i : ℕ) → i < n → f i ≡ None
over_silent f zero h i l = let z : ⊥ = omega arith in elim z [ ]
over_silent f (suc n) h i l = at (λ s. over_silent f n (silent (first_over n f) (f n) h).0 i s) (cases_lt i n)
  where
    at : (i < n → f i ≡ None) → (i < n) ⊎ (n ≤ i) → f i ≡ None
    at before (inl lt) = before lt
    at before (inr ge) = let e : i ≡ n = omega arith in ap f e ∙ (silent (first_over n f) (f n) h).1

pub over_none : {X : Type 0} (f : ℕ → Option X) (n : ℕ) → ((i : ℕ) → i < n → f i ≡ None) → first_over n f ≡ None
over_none f zero h = refl
over_none f (suc n) h = passed (first_over n f) (f n) (over_none f n (λ i l. h i (omega arith))) ∙ h n (omega arith)

-- an answer comes from one of the rules
pub over_found : {X : Type 0} (f : ℕ → Option X) (n : ℕ) (x : X) → first_over n f ≡ Some x → (i : ℕ) × (i < n) × (f i ≡ Some x)
over_found f zero x h = let z : ◌≡◌ {A = ℕ} 0 1 = cc in let no : ⊥ = omega arith in elim no [ ]
over_found {X = X} f (suc n) x h = at (first_over n f) refl (λ e. over_found f n x e)
  where
    at : (o : Option X) → first_over n f ≡ o → (first_over n f ≡ Some x → (i : ℕ) × (i < n) × (f i ≡ Some x)) → (i : ℕ) × (i < suc n) × (f i ≡ Some x)
    at None e before = (n, omega arith, sym (passed (first_over n f) (f n) e) ∙ h)
    at (Some y) e before =
        let same : Some y ≡ Some x = sym (stopped (first_over n f) (f n) y e) ∙ h in
        let b = before (e ∙ same) in
        (b.0, omega (arith, b.1), b.2)
