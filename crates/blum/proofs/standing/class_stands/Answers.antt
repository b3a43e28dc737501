-- The law that the extractor keeps, by the theorems of piles.
use Rattle.std.proofs.Common.{refl}
use Rattle.blum.specs.PileTheorems.{counts_even, own_class_even}
use Rattle.blum.proofs.standing.class_stands.Goals as goal

pub returns : goal.returns
returns g c =
    let p = g.E.SymbolExtractor.pile c.args.extractor.now in
    let law = g.met.E.SymbolExtractor.lawful c.args.extractor.now in
    record { counts = counts_even p law; own_class = own_class_even p law; answer = refl }
