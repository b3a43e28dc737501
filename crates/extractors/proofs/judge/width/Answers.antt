-- The table's width is the least.
use Rattle.std.proofs.Common.{◌≡◌, ℕ, subst, arith}
use Rattle.std.proofs.lemmas.Bool.Decides.{nat_tests}
use Rattle.classes.specs.Recordings.{LeastWidth, Sized, width}
use Rattle.classes.proofs.Widths.{width_least}
use Rattle.extractors.proofs.judge.width.Goals as goal

least_at : (m w : ℕ) → width m ≡ w → Sized m → LeastWidth m w
least_at m w e sized = subst (LeastWidth m) e (width_least m sized)

pub returns-in-3-to-4-clause-least : goal.returns-in-3-to-4-clause-least
returns-in-3-to-4-clause-least c = least_at c.args.size 2 (grind (arith, nat_tests))

pub returns-in-5-to-8-clause-least : goal.returns-in-5-to-8-clause-least
returns-in-5-to-8-clause-least c = least_at c.args.size 3 (grind (arith, nat_tests))

pub returns-in_default-clause-least : goal.returns-in_default-clause-least
returns-in_default-clause-least c = least_at c.args.size 4 (grind (arith, nat_tests))
