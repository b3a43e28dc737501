-- The groups not yet passed hold the rank at its position; nothing is written.
use Rattle.std.proofs.Common.{◌≡◌}
use Rattle.ranking.specs.Groups.{group_bits, rank_bits}
use Rattle.ranking.proofs.group.write_rank_bits.Given as goal

abbrev pub invariant-loop-a : goal.invariant-loop-a
invariant-loop-a l = (group_bits l.a l.left l.position ≡ rank_bits l.size l.rank) × (l.tray ≡ l.initial.tray)
