-- The bits and codes so far, with those of the pairs not yet read, are those of the recording.
use Rattle.std.proofs.Common.{◌*◌, drop, vec_items}
use Rattle.peres.specs.Pairwise.{Reading}
use Rattle.peres.proofs.parts.take_apart.Given as goal

abbrev pub invariant-loop-a : goal.invariant-loop-a
invariant-loop-a l = Reading l.recording l.initial.out (drop (2 * l.a-index) l.recording) l.given l.out (vec_items l.differing) (vec_items l.agreed)
