-- Lanes that stand one behind the other in one list of exits, with a list of cuts: the place where each lane begins, and the end of the last. Assumes nothing.
--   most_states    the most states that an alphabet has
--   part           what stands between the cut of a state and the next
--   parts          the part of each state
--   Within         each part stands in a list of n exits
--   AllCounted     the length of each lane is told
--   exits_before   how many exits the states below a state have
--   AllBegun       behind the first cut stands for each state where its lane begins
--   AllPlaced      the part of each state is its lane, and stands within the list
use Rattle.std.specs.Prelude.{◌≡◌, ℕ, ◌+◌, ◌-◌, ◌<◌, ◌≤◌, List, length, get_or, take, drop, map}
use Rattle.std.specs.List.{range_with_len}
use Rattle.extractors.specs.Lanes.{lane}
use Rattle.blum.specs.Totals.{total}

abbrev pub most_states : ℕ
most_states = 16

abbrev pub part : List ℕ → List ℕ → ℕ → List ℕ
part cuts exits s = take (get_or cuts (s + 1) 0 - get_or cuts s 0) (drop (get_or cuts s 0) exits)

unfoldable pub parts : List ℕ → List ℕ → List (List ℕ)
parts cuts exits = map (part cuts exits) (range_with_len 0 most_states)

abbrev pub Within : List ℕ → ℕ → Type 0
Within cuts n = (s : ℕ) → s < most_states → (get_or cuts s 0 ≤ get_or cuts (s + 1) 0) × (get_or cuts (s + 1) 0 ≤ n)

abbrev pub AllCounted : List ℕ → List ℕ → Type 0
AllCounted x counts = (s : ℕ) → s < most_states → get_or counts s 0 ≡ length (lane s x)

unfoldable pub exits_before : ℕ → List ℕ → ℕ
exits_before s x = total s (λ t. length (lane t x))

pub record AllBegun (x cuts : List ℕ) : Type 0 where
  pub first : get_or cuts 0 0 ≡ 0
  pub each : (s : ℕ) → s < most_states → get_or cuts (s + 1) 0 ≡ exits_before s x

pub record AllPlaced (x cuts exits : List ℕ) : Type 0 where
  pub within : Within cuts (length exits)
  pub each : (s : ℕ) → s < most_states → part cuts exits s ≡ lane s x
