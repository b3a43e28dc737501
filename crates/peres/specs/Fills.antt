-- What the inner functions of the layer leave: they work on scratch bytes, and only memory can be wanting.
--   TakenApart  the bits of pairs stand at the front of the scratch, and the two lists of a recording are made; or memory was wanting
use Rattle.std.specs.Prelude.{◌≡◌, ℕ, List, Ok, Err, vec_items, Result}
use Rattle.extractors.specs.declared.fault.ExtractorFault.{ExtractorFault}
use Rattle.extractors.specs.declared.fault.ExtractorFault.TheVariants.{Memory}
use Rattle.extractors.specs.Calls.{Written}
use Rattle.extractors.specs.PairsRule.{pairs}
use Rattle.peres.specs.declared.parts.Parts.{Parts}
use Rattle.peres.specs.PeresRule.{differ, common}

abbrev pub TakenApart : List ℕ → List ℕ → Result Parts ExtractorFault → List ℕ → Type 0
TakenApart x out (Ok p) out' = Written (pairs x) out p.yielded out' × (vec_items p.differing ≡ differ x) × (vec_items p.agreed ≡ common x)
TakenApart x out (Err e) out' = e ≡ Memory
