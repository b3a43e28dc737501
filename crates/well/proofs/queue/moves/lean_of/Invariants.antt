-- The lean is that of the bits read so far, and lies within their number.
use Rattle.std.proofs.Common.{◌≡◌, take, pos, neg_ℤ, ◌≤ℤ◌}
use Rattle.well.specs.Lean.{lean, flags}
use Rattle.well.proofs.queue.moves.lean_of.Given as goal

abbrev pub invariant-loop-byte : goal.invariant-loop-byte
invariant-loop-byte l =
    (l.lean ≡ lean (flags (take l.byte-index l.tray)))
    × (l.lean ≤ℤ pos l.byte-index)
    × (neg_ℤ (pos l.byte-index) ≤ℤ l.lean)
