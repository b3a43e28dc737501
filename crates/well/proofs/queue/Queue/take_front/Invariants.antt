-- The bytes filled so far are packed from the oldest bits, which the queue no longer holds.
use Rattle.std.proofs.Common.{◌≡◌, ◌*◌, take, drop}
use Rattle.well.specs.Held.{held}
use Rattle.well.specs.Packing.{packed}
use Rattle.well.proofs.queue.Queue.take_front.Given as goal

abbrev pub invariant-loop-byte : goal.invariant-loop-byte
invariant-loop-byte l =
    (take l.byte-index l.key ≡ packed l.byte-index (held l.initial.self))
    × (held l.self ≡ drop (8 * l.byte-index) (held l.initial.self))
