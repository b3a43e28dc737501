-- The bits so far are those of the position.
use Rattle.std.proofs.Common.{◌≡◌, ℕ, ◌<◌, length, get_or}
use Rattle.extractors.specs.Bits.{bytes}
use Rattle.ranking.specs.Groups.{in_bits}
use Rattle.ranking.proofs.group.write_bits.Given as goal

abbrev pub invariant-loop-i : goal.invariant-loop-i
invariant-loop-i l = (k : ℕ) → k < l.i → get_or l.bits k 0 ≡ get_or (bytes (in_bits (length l.initial.bits) l.position)) k 0
