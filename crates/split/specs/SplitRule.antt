-- The rule of the split layer: each code is written in w bits, highest first, and the bits after each prefix are a recording of coins.
--   prefix     the first d of the w bits of a code, as a number
--   next_bit   the bit after them
--   node       of a prefix p of d bits: the next bit of every code with that prefix, in recording order
--   level      the bits that f gives of the nodes with prefixes of d bits, by value
--   split      the bits of all levels, prefixes of 0 to w - 1 bits, shorter prefixes first
use Rattle.std.specs.Prelude.{ℕ, suc, ◌-◌, ◌/◌, ◌%◌, ◌^◌, Bool, List, map, filter, nat_eq}
use Rattle.extractors.specs.Bits.{gather}

abbrev pub prefix : ℕ → ℕ → ℕ → ℕ
prefix w d c = c / 2 ^ (w - d)

abbrev pub next_bit : ℕ → ℕ → ℕ → ℕ
next_bit w d c = prefix w (suc d) c % 2

abbrev pub node : ℕ → ℕ → ℕ → List ℕ → List ℕ
node w d p x = map (next_bit w d) (filter (λ c. nat_eq (prefix w d c) p) x)

abbrev pub level : ℕ → ℕ → (List ℕ → List Bool) → List ℕ → List Bool
level w d f x = gather (2 ^ d) (λ p. f (node w d p x))

abbrev pub split : ℕ → (List ℕ → List Bool) → List ℕ → List Bool
split w f x = gather w (λ d. level w d f x)
