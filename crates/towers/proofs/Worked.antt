-- The worked examples, by computing. Assumes nothing.
use Rattle.std.proofs.Common.{refl}
use Rattle.ranking.specs.Groups.{in_bits, group_bits, rank_bits}
use Rattle.towers.specs.Examples.{Examples}

pub worked : Examples
unfolding in_bits group_bits rank_bits
worked = record {
  pairs_of_coins = refl;
  rank_1001 = refl;
  size_1001 = refl;
  bits_1001 = refl;
  rank_1100 = refl;
  bits_1100 = refl;
  rank_201 = refl;
  size_201 = refl;
  bits_201 = refl;
  peres_over_none = refl;
  peres_over_ranking = refl;
  split_over_peres = refl;
  blum_over_pairs = refl;
  blum_001 = refl;
  blum_0010 = refl;
  blum_0100 = refl;
}
