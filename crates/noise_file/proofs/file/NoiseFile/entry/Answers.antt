-- The letters of an accepted file are of their kinds, and its lengths within the limit.
use Rattle.std.proofs.Common.{◌-◌, ◌<◌, ◌≤◌, arith}
use Rattle.std.proofs.lemmas.Grind.{common_steps}
use Rattle.noise_file.specs.Contents.{entries}
use Rattle.noise_file.proofs.Files.{open_accepted, entry_of_kind, entry_short}
use Rattle.noise_file.proofs.file.NoiseFile.entry.Goals as goal

pub returns : goal.returns
returns c =
    let a = open_accepted _ c.args.self.now.opened in
    let h = rw c.bodies.ensures at c.entry.ensures.holds in
    let from_one : 1 ≤ c.args.number = grind (arith, common_steps) in
    let listed : c.args.number ≤ entries c.args.self.now.bytes.items = grind (arith, common_steps) in
    let l : c.args.number - 1 < entries c.args.self.now.bytes.items = omega arith in
    record { from_one = from_one; listed = listed; holds = h; of_kind = entry_of_kind _ _ _ a l h; short = entry_short _ _ _ a l h }
