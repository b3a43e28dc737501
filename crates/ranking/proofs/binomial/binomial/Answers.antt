-- The entry is that of Pascal's triangle; past the end of a row there is nothing to choose.
use Rattle.std.proofs.Common.{◌+◌, ◌*◌, ◌≤◌, sym, mul-le-mul, arith}
use Rattle.ranking.specs.Pascal.{choose_over, entry}
use Rattle.ranking.proofs.binomial.binomial.Goals as goal

pub bounds-n : goal.bounds-n
bounds-n c =
    let h : c.args.n + 1 ≤ 61 = omega arith in
    let m : c.args.n * (c.args.n + 1) ≤ 60 * 61 = mul-le-mul c.requires h in
    omega arith

pub returns-then-k-n : goal.returns-then-k-n
returns-then-k-n c = sym (choose_over c.args.n c.args.k c.if-k-n.true)

pub returns : goal.returns
returns c = entry c.args.n c.args.k (omega arith) c.requires
