-- Keys were dealt so far; whatever is dealt from here on follows them.
use Rattle.std.proofs.Common.{length, string_bytes}
use Rattle.well.specs.View.{state}
use Rattle.clean.proofs.Dealing.{Sofar}
use Rattle.clean.proofs.deal.deal_keys.Given as goal

abbrev pub invariant-loop-key : goal.invariant-loop-key
invariant-loop-key l = Sofar (length l.initial.key) (state l.initial.well) (string_bytes l.initial.text) (string_bytes l.text) (state l.well)

abbrev pub decreases-loop-key : goal.decreases-loop-key
decreases-loop-key l = length (state l.well).queue
