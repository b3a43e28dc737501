-- The kind and the tower of each entry are known, and its body lies in the file.
use Rattle.std.proofs.Common.{rules}
use Rattle.noise_file.proofs.Files.{legible}
use Rattle.noise_file.proofs.bodies.Bodies.entry.Goals as goal

pub unwrap-symbols-requires : goal.unwrap-symbols-requires
unwrap-symbols-requires c = let g = legible _ c.args.self.now.in_order c.args.self.now.ended c.args.i c.requires in search rules

pub unwrap-tower-requires : goal.unwrap-tower-requires
unwrap-tower-requires c = let g = legible _ c.args.self.now.in_order c.args.self.now.ended c.args.i c.requires in search rules

pub overflow_add-letters : goal.overflow_add-letters
overflow_add-letters c = let g = legible _ c.args.self.now.in_order c.args.self.now.ended c.args.i c.requires in search rules

pub slice_bounds-letters-end : goal.slice_bounds-letters-end
slice_bounds-letters-end c = let g = legible _ c.args.self.now.in_order c.args.self.now.ended c.args.i c.requires in search rules
