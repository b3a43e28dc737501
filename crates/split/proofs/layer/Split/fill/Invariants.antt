-- The bits of the levels so far stand at the front; each took no more room than the recording has codes.
use Rattle.std.proofs.Common.{◌*◌, ◌≤◌, length}
use Rattle.extractors.specs.Calls.{Written}
use Rattle.extractors.specs.Bits.{gather}
use Rattle.split.specs.SplitRule.{level}
use Rattle.split.proofs.layer.Split.fill.Given as goal

abbrev pub invariant-loop-d : goal.invariant-loop-d
invariant-loop-d g l =
    Written (gather l.d (λ e. level l.w e (g.E.CoinExtractor.gives l.self.below) l.codes)) l.initial.out l.at l.out
    × (l.at ≤ l.d * length l.codes)
