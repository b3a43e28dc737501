-- The entries before this number are cleaned.
use Rattle.std.proofs.Common.{◌≡◌, ◌-◌, vec_items, string_bytes}
use Rattle.well.specs.View.{state}
use Rattle.clean.specs.Cleaning.{EntriesCleaned}
use Rattle.clean.proofs.work.clean_file.Given as goal

abbrev pub invariant-loop-number : goal.invariant-loop-number
invariant-loop-number l = (l.cleaning.file.now ≡ l.file) × EntriesCleaned (vec_items l.file.bytes) (l.number - 1) (string_bytes l.cleaning.text) (state l.cleaning.well)
