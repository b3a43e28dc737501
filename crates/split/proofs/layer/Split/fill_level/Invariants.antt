-- The bits of the rows so far stand at the front; they take no more room than these rows have coins.
use Rattle.std.proofs.Common.{◌≤◌, [], length, get_or, take}
use Rattle.std.specs.List.{sum_by}
use Rattle.extractors.specs.Bits.{gather}
use Rattle.extractors.specs.Calls.{Written}
use Rattle.split.proofs.layer.Split.fill_level.Given as goal

abbrev pub invariant-loop-lead : goal.invariant-loop-lead
invariant-loop-lead g l =
    Written (gather l.lead (λ p. g.E.CoinExtractor.gives l.self.below (get_or l.nodes p []))) l.initial.out l.at l.out
    × (l.at ≤ sum_by length (take l.lead l.nodes))
