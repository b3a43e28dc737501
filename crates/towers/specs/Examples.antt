-- Worked examples of the rules.
--   Examples   what each rule gives of a small recording
use Rattle.std.specs.Prelude.{◌≡◌, ℕ, true, false, List, [], ◌∷◌}
use Rattle.classes.specs.Recordings.{width}
use Rattle.extractors.specs.PairsRule.{pairs}
use Rattle.extractors.specs.Lanes.{blum}
use Rattle.ranking.specs.Ranks.{rank, class_size, block_bits}
use Rattle.ranking.specs.Blocks.{by_blocks}
use Rattle.peres.specs.PeresRule.{peres}
use Rattle.split.specs.SplitRule.{split}

abbrev coins : List ℕ
coins = 0 ∷ 1 ∷ 1 ∷ 1 ∷ 0 ∷ 0 ∷ 1 ∷ 0 ∷ []

pub record Examples : Type 0 where
  pub pairs_of_coins : pairs (0 ∷ 1 ∷ 1 ∷ 0 ∷ 0 ∷ 0 ∷ 1 ∷ []) ≡ false ∷ true ∷ []
  pub rank_1001 : rank 2 (1 ∷ 0 ∷ 0 ∷ 1 ∷ []) ≡ 3
  pub size_1001 : class_size 2 (1 ∷ 0 ∷ 0 ∷ 1 ∷ []) ≡ 6
  pub bits_1001 : by_blocks 4 (block_bits 2) (1 ∷ 0 ∷ 0 ∷ 1 ∷ []) ≡ true ∷ true ∷ []
  pub rank_1100 : rank 2 (1 ∷ 1 ∷ 0 ∷ 0 ∷ []) ≡ 5
  pub bits_1100 : by_blocks 4 (block_bits 2) (1 ∷ 1 ∷ 0 ∷ 0 ∷ []) ≡ true ∷ []
  pub rank_201 : rank 3 (2 ∷ 0 ∷ 1 ∷ []) ≡ 4
  pub size_201 : class_size 3 (2 ∷ 0 ∷ 1 ∷ []) ≡ 6
  pub bits_201 : by_blocks 3 (block_bits 3) (2 ∷ 0 ∷ 1 ∷ []) ≡ false ∷ []
  pub peres_over_none : peres 2 (λ x. []) coins ≡ false ∷ true ∷ true ∷ false ∷ true ∷ []
  pub peres_over_ranking : peres 1 (by_blocks 4 (block_bits 2)) coins ≡ false ∷ true ∷ true ∷ true ∷ true ∷ []
  pub split_over_peres : split (width 4) (peres 1 (λ x. [])) (2 ∷ 1 ∷ 3 ∷ 0 ∷ []) ≡ true ∷ true ∷ true ∷ false ∷ []
  pub blum_over_pairs : blum 3 pairs (0 ∷ 2 ∷ 0 ∷ 1 ∷ 0 ∷ 1 ∷ 1 ∷ 0 ∷ 2 ∷ 0 ∷ 1 ∷ []) ≡ true ∷ false ∷ false ∷ []
  pub blum_001 : blum 2 pairs (0 ∷ 0 ∷ 1 ∷ []) ≡ []
  pub blum_0010 : blum 2 pairs (0 ∷ 0 ∷ 1 ∷ 0 ∷ []) ≡ false ∷ []
  pub blum_0100 : blum 2 pairs (0 ∷ 1 ∷ 0 ∷ 0 ∷ []) ≡ true ∷ []
