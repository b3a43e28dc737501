-- A rule for blocks, used on a whole recording.
--   in_blocks   the bits of the first k blocks of b codes
--   by_blocks   the recording is cut into blocks of b, a shorter last block is one by itself, and the bits of the blocks follow each other
use Rattle.std.specs.Prelude.{ℕ, zero, suc, Bool, List, [], ◌++◌, length, take, drop}

abbrev pub in_blocks : ℕ → ℕ → (List ℕ → List Bool) → List ℕ → List Bool
in_blocks zero b f x = []
in_blocks (suc k) b f x = f (take b x) ++ in_blocks k b f (drop b x)

-- a recording of n codes has at most n blocks, and an empty block gives nothing
abbrev pub by_blocks : ℕ → (List ℕ → List Bool) → List ℕ → List Bool
by_blocks b f x = in_blocks (length x) b f x
