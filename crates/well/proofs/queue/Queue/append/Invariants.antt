-- The bits held are those at the start and the bits of the bytes read so far.
use Rattle.std.proofs.Common.{◌≡◌, ◌+◌, ◌*◌, ◌/◌, ◌++◌, length, take}
use Rattle.well.specs.Held.{held}
use Rattle.well.specs.Lean.{flags}
use Rattle.well.proofs.queue.Queue.append.Given as goal

abbrev pub invariant-loop-eight : goal.invariant-loop-eight
invariant-loop-eight l = held l.self ≡ held l.fn.self ++ flags (take (8 * l.eight-index) l.tray)

abbrev pub invariant-loop-byte : goal.invariant-loop-byte
invariant-loop-byte l = held l.self ≡ held l.fn.self ++ flags (take (length l.tray / 8 * 8 + l.byte-index) l.tray)
