-- Each line so far is in order.
use Rattle.std.proofs.Common.{◌≡◌, None}
use Rattle.noise_file.specs.First.{first_over}
use Rattle.noise_file.specs.Rules.{line_due}
use Rattle.noise_file.proofs.contents.Contents.judge_lines.Given as goal

abbrev pub invariant-loop-i : goal.invariant-loop-i
invariant-loop-i l = first_over l.i (line_due l.self.bytes.now) ≡ None
