-- One byte more moves the lean by one.
use Rattle.std.proofs.Common.{arith}
use Rattle.std.proofs.lemmas.Grind.{common_steps}
use Rattle.std.proofs.lemmas.Int.{ints}
use Rattle.well.proofs.Leaning.{flags_more, lean_push}
use Rattle.well.proofs.queue.moves.lean_of.Goals as goal

pub loop-byte-preserved : goal.loop-byte-preserved
loop-byte-preserved c = grind (arith, ints, common_steps, flags_more, lean_push)
