-- The exits of the codes before i are placed.
use Rattle.blum.proofs.Placing.{Placing}
use Rattle.blum.proofs.lanes.place_exits.Given as goal

abbrev pub invariant-loop-i : goal.invariant-loop-i
invariant-loop-i l = Placing l.recording l.i l.cuts l.exits
