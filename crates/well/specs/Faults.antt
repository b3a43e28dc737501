-- The table of a well's refusals: the number, the layer and the place of each case.
--   refusal_of   the table; an extractor's fault stands in the extractor's table
use Rattle.extractors.specs.declared.fault.Layer.TheVariants.{Well}
use Rattle.extractors.specs.declared.fault.Refusal.{Refusal}
use Rattle.extractors.specs.Faults as extractor
use Rattle.well.specs.declared.fault.WellFault.{WellFault}
use Rattle.well.specs.declared.fault.WellFault.TheVariants.{Extractor, KeyLength, Poured, Full, Short, Mark, Excess}

abbrev pub refusal_of : WellFault → Refusal
refusal_of (Extractor e) = extractor.refusal_of e
refusal_of (KeyLength bytes) = record { number = 6; layer = Well; place = bytes }
refusal_of (Poured gain) = record { number = 20; layer = Well; place = gain }
refusal_of (Full gain) = record { number = 21; layer = Well; place = gain }
refusal_of (Short held) = record { number = 22; layer = Well; place = held }
refusal_of (Mark mark) = record { number = 23; layer = Well; place = mark }
refusal_of (Excess bits) = record { number = 24; layer = Well; place = bits }
