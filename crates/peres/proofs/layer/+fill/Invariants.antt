-- A step goes on with a depth less by one.
use Rattle.peres.proofs.layer.+fill.Given as goal

abbrev pub decreases-fill : goal.decreases-fill
decreases-fill g l = l.depth
