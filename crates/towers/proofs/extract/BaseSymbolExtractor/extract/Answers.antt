-- A Peres layer is of the depth and over the extractor that it was made with.
use Rattle.std.proofs.Common.{◌≡◌}
use Rattle.towers.proofs.extract.BaseSymbolExtractor.extract.Goals as goal

pub returns-in-Peres : goal.returns-in-Peres
returns-in-Peres c =
    let made = rw c.unwrap-below.ensures at c.new-in-Peres.ensures.made in
    let depth : c.unwrap-below.result.depth ≡ 12 = made.1 in
    rw c.in-Peres.is (rw depth at c.extract-in-Peres.ensures)

pub returns-in-PeresRanking : goal.returns-in-PeresRanking
returns-in-PeresRanking c =
    let made = rw c.unwrap-below-in-PeresRanking.ensures at c.new-in-PeresRanking-2.ensures.made in
    let block : c.unwrap.result.block ≡ 60 = rw c.unwrap.ensures at c.new-in-PeresRanking.ensures.value in
    rw c.in-PeresRanking.is (rw (made.1, made.0, block) at c.extract-in-PeresRanking.ensures)
