-- The towers by which entries are cleaned: their letters, by character code, and their piles.
--   base_of        the base of a small letter: v is pairs, e symbol ranking, p, q and r split layers over coin extractors
--   capital_of     the base of a capital
--   tower_of       the tower of a tower letter: a capital puts the Blum layer on top
--   tower_letter   the letter of a tower
--   coin_ranked    the bits of coin ranking with blocks of 60
--   base_bits      the bits of a base for a size
--   on_top         a pile with the Blum layer on top, where that is wanted
--   pile_of        the pile of a tower
use Rattle.std.specs.Prelude.{ℕ, Bool, true, false, cond, List, [], Some, None, Option, ◌==◌}
use Rattle.classes.specs.Recordings.{width}
use Rattle.extractors.specs.PairsRule.{pairs}
use Rattle.extractors.specs.Piles.{Pile, Pile.bare, Pile.laned, bits}
use Rattle.ranking.specs.Ranks.{block_bits}
use Rattle.ranking.specs.Blocks.{by_blocks}
use Rattle.peres.specs.PeresRule.{peres}
use Rattle.split.specs.SplitRule.{split}
use Rattle.towers.specs.declared.tower.Base.{Base}
use Rattle.towers.specs.declared.tower.Base.TheVariants.{Pairs, Ranking, Peres, PeresRanking, CoinRanking}
use Rattle.towers.specs.declared.tower.Tower.{Tower}

abbrev pub base_of : ℕ → Option Base
base_of l =
    cond (l == 118) (Some Pairs)
    (cond (l == 101) (Some Ranking)
    (cond (l == 112) (Some Peres)
    (cond (l == 113) (Some PeresRanking)
    (cond (l == 114) (Some CoinRanking)
    None))))

abbrev pub capital_of : ℕ → Option Base
capital_of l =
    cond (l == 86) (Some Pairs)
    (cond (l == 69) (Some Ranking)
    (cond (l == 80) (Some Peres)
    (cond (l == 81) (Some PeresRanking)
    (cond (l == 82) (Some CoinRanking)
    None))))

abbrev pub tower_by : Option Base → Option Base → Option Tower
tower_by (Some base) capital = Some (record { base = base; laned = false })
tower_by None (Some base) = Some (record { base = base; laned = true })
tower_by None None = None

abbrev pub tower_of : ℕ → Option Tower
tower_of l = tower_by (base_of l) (capital_of l)

abbrev pub base_letter : Base → Bool → ℕ
base_letter Pairs lanes = cond lanes 86 118
base_letter Ranking lanes = cond lanes 69 101
base_letter Peres lanes = cond lanes 80 112
base_letter PeresRanking lanes = cond lanes 81 113
base_letter CoinRanking lanes = cond lanes 82 114

abbrev pub tower_letter : Tower → ℕ
tower_letter t = base_letter t.base t.laned

abbrev pub coin_ranked : List ℕ → List Bool
coin_ranked = by_blocks 60 (block_bits 2)

abbrev pub base_bits : Base → ℕ → List ℕ → List Bool
base_bits Pairs m = pairs
base_bits Ranking m = by_blocks 20 (block_bits m)
base_bits Peres m = split (width m) (peres 12 (λ x. []))
base_bits PeresRanking m = split (width m) (peres 4 coin_ranked)
base_bits CoinRanking m = split (width m) coin_ranked

abbrev pub on_top : Bool → Pile → Pile
on_top true p = laned (bits p)
on_top false p = p

abbrev pub pile_of : Tower → Pile
pile_of t = on_top t.laned (bare (base_bits t.base))
