-- A turn writes one bit of the position.
use Rattle.std.proofs.Common.{◌-◌, length, sym, ◌∙◌, arith}
use Rattle.ranking.proofs.GroupWriting.{flag, written, all_written}
use Rattle.ranking.proofs.group.write_bits.Goals as goal

pub loop-i-preserved : goal.loop-i-preserved
loop-i-preserved c =
    let a = length c.args.bits.now in
    written a c.args.position c.loop-i.i c.from.result c.loop-i.bits c.requires.within (sym c.loop-i.auto.bits) c.loop-i-test.true c.loop-i.invariant
    (c.from.ensures ∙ flag c.args.position (a - 1 - c.loop-i.i))

pub returns : goal.returns
returns c = all_written (length c.args.bits.now) c.args.position c.loop-i.bits c.loop-i.auto.bits (λ k h. c.loop-i.invariant k (omega arith))
