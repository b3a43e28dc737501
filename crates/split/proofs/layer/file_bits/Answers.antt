-- A turn files the next bit of a code in the node of its prefix.
use Rattle.std.proofs.Common.{arith}
use Rattle.split.proofs.Noding.{lead_below}
use Rattle.split.proofs.layer.file_bits.Goals as goal

pub file-requires : goal.file-requires
file-requires c =
    omega (arith, c.loop-code.invariant.keys, c.from.ensures, lead_below c.args.w c.args.d c.args.codes.now c.loop-code.code-index c.loop-code-test.true c.requires.deep c.requires.coded)
