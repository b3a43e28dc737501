-- The pile of every tower keeps the even law, from the laws of the extractors and layers that it is made of.
--   base_even    the bits of a base are even on every count class of every size
--   tower_even   the pile of a tower is lawful
use Rattle.std.specs.Prelude.{Bool, true, false, []}
use Rattle.std.proofs.Common.{lit≤}
use Rattle.classes.specs.Evenness.{Even}
use Rattle.extractors.specs.Piles.{Lawful, Pile.bare}
use Rattle.extractors.specs.PairsEven.{no_bits_even, pairs_even}
use Rattle.ranking.specs.RankingEven.{coin_ranking_even, symbol_ranking_even}
use Rattle.peres.specs.PeresRule.{peres}
use Rattle.peres.specs.PeresEven.{peres_even}
use Rattle.split.specs.SplitEven.{split_even}
use Rattle.towers.specs.declared.tower.Base.{Base}
use Rattle.towers.specs.declared.tower.Base.TheVariants.{Pairs, Ranking, Peres, PeresRanking, CoinRanking}
use Rattle.towers.specs.declared.tower.Tower.{Tower}
use Rattle.towers.specs.Towers.{base_bits, coin_ranked, on_top, pile_of}

coin_ranked_even : Even 2 coin_ranked
coin_ranked_even = coin_ranking_even 60 (lit≤ tt) (lit≤ tt)

pub base_even : (b : Base) → Lawful (bare (base_bits b))
base_even Pairs m sized = pairs_even m
base_even Ranking m sized = symbol_ranking_even 20 (lit≤ tt) (lit≤ tt) m sized
base_even Peres m sized = split_even m (peres 12 (λ x. [])) sized (peres_even 12 (λ x. []) (no_bits_even 2))
base_even PeresRanking m sized = split_even m (peres 4 coin_ranked) sized (peres_even 4 coin_ranked coin_ranked_even)
base_even CoinRanking m sized = split_even m coin_ranked sized coin_ranked_even

topped : (lanes : Bool) (b : Base) → Lawful (on_top lanes (bare (base_bits b)))
topped true b = base_even b
topped false b = base_even b

pub tower_even : (t : Tower) → Lawful (pile_of t)
tower_even t = topped t.laned t.base
