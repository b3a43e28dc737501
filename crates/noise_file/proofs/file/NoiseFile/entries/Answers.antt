-- An opened file is an accepted one.
use Rattle.noise_file.proofs.Files.{open_accepted}
use Rattle.noise_file.proofs.file.NoiseFile.entries.Goals as goal

pub returns-clause-low_bound : goal.returns-clause-low_bound
returns-clause-low_bound c = rw (c.entries.ensures.value, c.bodies.ensures) (open_accepted _ c.args.self.now.opened).some_entry

pub returns-clause-high_bound : goal.returns-clause-high_bound
returns-clause-high_bound c = rw (c.entries.ensures.value, c.bodies.ensures) (open_accepted _ c.args.self.now.opened).few_entries
