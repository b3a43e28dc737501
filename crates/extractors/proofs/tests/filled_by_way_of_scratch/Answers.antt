-- One set bit stands at the front of the scratch, whatever stood there.
use Rattle.std.proofs.Common.{rules, ◌≡◌, ℕ, List, [], ◌∷◌, length, set, drop, true, refl, arith}
use Rattle.extractors.proofs.tests.filled_by_way_of_scratch.Goals as goal

set_first : (out : List ℕ) → length out ≡ 3 → set out 0 1 ≡ 1 ∷ drop 1 out
set_first [] long = absurd (omega arith)
set_first (x ∷ out) long = refl

pub extract_by-requires-clause-fills : goal.extract_by-requires-clause-fills
extract_by-requires-clause-fills g c = (true ∷ [], λ out r out' long k. search (rules, k, set_first out long))
