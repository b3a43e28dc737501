-- An opened file is an accepted one.
use Rattle.noise_file.proofs.Files.{open_accepted}
use Rattle.noise_file.proofs.file.NoiseFile.key_length.Goals as goal

pub returns-clause-low_bound : goal.returns-clause-low_bound
returns-clause-low_bound c = rw (c.key_length.ensures, c.bodies.ensures) (open_accepted _ c.args.self.now.opened).some_key

pub returns-clause-high_bound : goal.returns-clause-high_bound
returns-clause-high_bound c = rw (c.key_length.ensures, c.bodies.ensures) (open_accepted _ c.args.self.now.opened).short_key
