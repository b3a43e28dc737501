-- When a ranking is refused as it is made.
--   outside   the fault of a block length that is not from low to high
use Rattle.std.specs.Prelude.{ℕ, cond, Some, None, Option, nat_lt}
use Rattle.extractors.specs.declared.fault.ExtractorFault.{ExtractorFault}
use Rattle.extractors.specs.declared.fault.ExtractorFault.TheVariants.{Parameter}

abbrev pub outside : ℕ → ℕ → ℕ → Option ExtractorFault
outside low high b = cond (nat_lt b low) (Some (Parameter b)) (cond (nat_lt high b) (Some (Parameter b)) None)
