-- The bits are those of the whole bytes and the few behind them.
use Rattle.std.proofs.Common.{arith}
use Rattle.well.proofs.Holding.{held_length}
use Rattle.well.proofs.queue.Queue.len.Goals as goal

pub returns-clause-value : goal.returns-clause-value
returns-clause-value c = omega (arith, held_length c.args.self.now, c.len.ensures)
