-- The number is what the bits read so far write.
use Rattle.std.proofs.Common.{◌≡◌, take}
use Rattle.well.specs.Lean.{flags}
use Rattle.well.specs.Packing.{value}
use Rattle.well.proofs.queue.moves.number_of.Given as goal

abbrev pub invariant-loop-byte : goal.invariant-loop-byte
invariant-loop-byte l = l.number ≡ value (flags (take l.byte-index l.tray))
