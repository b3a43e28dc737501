-- The exits of the codes so far are counted.
use Rattle.blum.proofs.Placing.{Counting}
use Rattle.blum.proofs.lanes.count_exits.Given as goal

abbrev pub invariant-loop-code : goal.invariant-loop-code
invariant-loop-code l = Counting l.recording l.code-index l.counts
