-- The bits of the states so far stand at the front, within the room of their exits.
use Rattle.classes.specs.Recordings.{width}
use Rattle.extractors.specs.Piles.{bits}
use Rattle.blum.proofs.Loops.{SoFar}
use Rattle.blum.proofs.layer.Blum.fill.Given as goal

abbrev pub invariant-loop-state : goal.invariant-loop-state
invariant-loop-state g l = SoFar (width l.size) (bits (g.E.SymbolExtractor.pile l.self.below) l.size) l.recording l.state l.initial.scratch l.at l.scratch
