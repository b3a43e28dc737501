-- The room is the bound on every yield of a recording that is not too long.
use Rattle.std.proofs.Common.{◌≡◌, ℕ, ◌-◌, ◌*◌, ◌^◌, ◌≤◌, min, Bool, List, length, sym, subst, mul-le-mul, arith}
use Rattle.classes.specs.Recordings.{Sized, Recording, width}
use Rattle.classes.specs.Evenness.{Even}
use Rattle.classes.proofs.Yields.{yield_bound}
use Rattle.extractors.proofs.judge.room.Goals as goal

within : (m n w r : ℕ) → w ≡ width m → w ≤ 4 → r ≡ min (w * n) (2 ^ 64 - 1)
    → Sized m → (f : List ℕ → List Bool) → Even m f → (x : List ℕ) → Recording m x → length x ≡ n → length (f x) ≤ r
within m n w r wide most is sized f even x rec long =
    let bound : length (f x) ≤ w * n = subst (λ k. length (f x) ≤ w * k) long (subst (λ v. length (f x) ≤ v * length x) (sym wide) (yield_bound m sized f even x rec)) in
    let few : n ≤ 4096 = subst (λ k. k ≤ 4096) long rec.1 in
    let small : w * n ≤ 4 * 4096 = mul-le-mul most few in
    omega arith

pub returns-clause-suffices : goal.returns-clause-suffices
returns-clause-suffices c = within c.args.size c.args.n c.width.result c.saturating_mul.result c.width.ensures.value c.width.ensures.most c.saturating_mul.ensures
