-- How many bits a queue holds.
use Rattle.std.proofs.Common.{◌≡◌, ◌+◌, ◌*◌, length, arith, length-append}
use Rattle.std.specs.VecDeque.{deque_len}
use Rattle.well.specs.declared.queue.Queue.{Queue}
use Rattle.well.specs.Held.{held}
use Rattle.well.specs.Packing.{digits, unpacked}
use Rattle.well.proofs.Packs.{length_digits, length_unpacked}

pub held_length : (q : Queue) → length (held q) ≡ 8 * deque_len q.bytes + q.tail.count
held_length q = omega (arith, length-append (unpacked q.bytes.items) (digits q.tail.count q.tail.number), length_unpacked q.bytes.items, length_digits q.tail.count q.tail.number, q.bytes.ok.0)
