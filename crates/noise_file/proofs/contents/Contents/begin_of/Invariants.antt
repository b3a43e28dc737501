-- The place so far is where body k begins.
use Rattle.std.proofs.Common.{◌≡◌, ◌+◌, ◌*◌, ◌≤◌}
use Rattle.noise_file.specs.Contents.{body_at}
use Rattle.noise_file.proofs.contents.Contents.begin_of.Given as goal

abbrev pub invariant-loop-k : goal.invariant-loop-k
invariant-loop-k l = (l.at ≡ body_at l.self.bytes.now l.k) × (l.at ≤ 1022 + 65535 * l.k)
