-- No more blocks agree than were compared.
use Rattle.std.proofs.Common.{◌≤◌}
use Rattle.rank_check.proofs.compare.compare_blocks.Given as goal

abbrev pub invariant-loop-number : goal.invariant-loop-number
invariant-loop-number l = l.same ≤ l.number
