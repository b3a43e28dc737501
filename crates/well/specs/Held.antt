-- The bits that a queue holds.
--   held   the bits of the queue, the oldest first: those of its whole bytes, and the tail behind them
use Rattle.std.specs.Prelude.{Bool, List, ◌++◌}
use Rattle.well.specs.declared.queue.Queue.{Queue}
use Rattle.well.specs.Packing.{digits, unpacked}

abbrev pub held : Queue → List Bool
held queue = unpacked queue.bytes.items ++ digits queue.tail.count queue.tail.number
