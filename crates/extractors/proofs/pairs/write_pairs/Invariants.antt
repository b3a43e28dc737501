-- The bits of the pairs so far stand at the front of the tray, and the rest is as it was.
use Rattle.std.proofs.Common.{◌*◌, drop}
use Rattle.extractors.proofs.Pairing.{Writing}
use Rattle.extractors.proofs.pairs.write_pairs.Given as goal

abbrev pub invariant-loop-a : goal.invariant-loop-a
invariant-loop-a l = Writing l.recording l.initial.tray (drop (2 * l.a-index) l.recording) l.given l.tray
