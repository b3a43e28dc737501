-- The table of an extractor's refusals: the number, the layer and the place of each case.
--   refusal_of   the table
use Rattle.extractors.specs.declared.fault.Refusal.{Refusal}
use Rattle.extractors.specs.declared.fault.Layer.TheVariants.{Extractor}
use Rattle.extractors.specs.declared.fault.ExtractorFault.{ExtractorFault}
use Rattle.extractors.specs.declared.fault.ExtractorFault.TheVariants.{Size, Length, Code, Tray, Parameter, Memory}

-- want of memory has the number 0 and the place 0
abbrev pub refusal_of : ExtractorFault → Refusal
refusal_of (Size m) = record { number = 1; layer = Extractor; place = m }
refusal_of (Length n) = record { number = 2; layer = Extractor; place = n }
refusal_of (Code i) = record { number = 3; layer = Extractor; place = i }
refusal_of (Tray k) = record { number = 4; layer = Extractor; place = k }
refusal_of (Parameter p) = record { number = 5; layer = Extractor; place = p }
refusal_of Memory = record { number = 0; layer = Extractor; place = 0 }
