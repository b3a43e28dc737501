-- Each body so far is of its kind.
use Rattle.std.proofs.Common.{◌≡◌, None}
use Rattle.noise_file.specs.First.{first_over}
use Rattle.noise_file.specs.Rules.{body_due}
use Rattle.noise_file.proofs.bodies.Bodies.judge_letters.Given as goal

abbrev pub invariant-loop-i : goal.invariant-loop-i
invariant-loop-i l = first_over l.i (body_due l.self.contents.bytes.now) ≡ None
