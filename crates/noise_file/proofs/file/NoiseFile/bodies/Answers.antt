-- An opened file was judged.
use Rattle.noise_file.proofs.Files.{contents_fit, open_bodies}
use Rattle.noise_file.proofs.file.NoiseFile.bodies.Goals as goal

pub invariant_of-contents : goal.invariant_of-contents
invariant_of-contents c = rw c.as_slice.ensures.value (record { whole = contents_fit _ (open_bodies _ c.args.self.now.opened).0 })

pub invariant_of-result : goal.invariant_of-result
invariant_of-result c = let d = open_bodies _ c.args.self.now.opened in rw c.as_slice.ensures.value (record { in_order = d.0; ended = d.1 })
