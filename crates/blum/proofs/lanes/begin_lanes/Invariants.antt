-- The lanes of the states so far are begun.
use Rattle.blum.proofs.Placing.{Beginning}
use Rattle.blum.proofs.lanes.begin_lanes.Given as goal

abbrev pub invariant-loop-state : goal.invariant-loop-state
invariant-loop-state l = Beginning l.recording l.state l.at l.cuts
