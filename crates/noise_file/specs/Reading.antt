-- What it is to read letters as codes, for any table f from letters to codes.
--   stray_at   the index i, where letter i has no code
--   stray      the index of the first letter without a code
--   ReadAs     the codes of the letters, in order, each below the size m
--   Misread    why reading fails: the stray letter, by its index, or want of memory
use Rattle.std.specs.Prelude.{◌≡◌, ℕ, ◌<◌, ◌⊎◌, List, map, length, is_some, Some, Option, slice_index}
use Rattle.std.specs.Option.{option_map}
use Rattle.std.specs.List.{AllByRecursion}
use Rattle.noise_file.specs.declared.fault.FileFault.{FileFault}
use Rattle.noise_file.specs.declared.fault.FileFault.TheVariants.{Letter, Memory}
use Rattle.noise_file.specs.First.{unless, first_over}

abbrev pub stray_at : (ℕ → Option ℕ) → List ℕ → ℕ → Option ℕ
stray_at f letters i = unless (is_some (f (slice_index letters i))) i

abbrev pub stray : (ℕ → Option ℕ) → List ℕ → Option ℕ
stray f letters = first_over (length letters) (stray_at f letters)

pub record ReadAs (m : ℕ) (f : ℕ → Option ℕ) (letters codes : List ℕ) : Type 0 where
  pub coded : map Some codes ≡ map f letters
  pub below : AllByRecursion (λ c. c < m) codes
  pub as_many : length codes ≡ length letters

abbrev pub Misread : (ℕ → Option ℕ) → List ℕ → FileFault → Type 0
Misread f letters e = (Some e ≡ option_map Letter (stray f letters)) ⊎ (e ≡ Memory)
