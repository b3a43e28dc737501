-- The codes so far are those of the letters so far, each of which has one.
use Rattle.std.proofs.Common.{◌≡◌, map, take, Some, None, vec_items}
use Rattle.noise_file.specs.First.{first_over}
use Rattle.noise_file.specs.Reading.{stray_at}
use Rattle.noise_file.proofs.kind.read_body.Given as goal

abbrev pub invariant-loop-i : goal.invariant-loop-i
invariant-loop-i g l = (map Some (vec_items l.codes) ≡ map g.K.Kind.coded (take l.i l.letters)) × (first_over l.i (stray_at g.K.Kind.coded l.letters) ≡ None)
