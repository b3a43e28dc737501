-- The table of a file's refusals: the number, the layer and the place of each case.
--   refusal_of   the table
use Rattle.extractors.specs.declared.fault.Refusal.{Refusal}
use Rattle.extractors.specs.declared.fault.Layer.TheVariants.{File}
use Rattle.noise_file.specs.declared.fault.FileFault.{FileFault}
use Rattle.noise_file.specs.declared.fault.FileFault.TheVariants.{Cut, Entries, KeyLength, Kind, Tower, Length, End, Letter, Number, Memory}

-- want of memory has the number 0 and the place 0
abbrev pub refusal_of : FileFault → Refusal
refusal_of (Cut n) = record { number = 7; layer = File; place = n }
refusal_of Entries = record { number = 8; layer = File; place = 0 }
refusal_of KeyLength = record { number = 9; layer = File; place = 1 }
refusal_of (Kind at) = record { number = 10; layer = File; place = at }
refusal_of (Tower at) = record { number = 11; layer = File; place = at }
refusal_of (Length at) = record { number = 12; layer = File; place = at }
refusal_of (End at) = record { number = 13; layer = File; place = at }
refusal_of (Letter at) = record { number = 14; layer = File; place = at }
refusal_of (Number n) = record { number = 15; layer = File; place = n }
refusal_of Memory = record { number = 0; layer = File; place = 0 }
