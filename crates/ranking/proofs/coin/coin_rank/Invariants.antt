-- The coins passed so far, from the last, with their ones and their rank.
use Rattle.std.specs.Iterator.Adapters.{enumerate_source, enumerate_count, rev_source}
use Rattle.std.specs.Slice.Iter.{iter_rest}
use Rattle.ranking.proofs.CoinPassing.{Passing}
use Rattle.ranking.proofs.coin.coin_rank.Given as goal

abbrev pub invariant-loop-later : goal.invariant-loop-later
invariant-loop-later l =
    (goal.iterator-loop-later).can_next l.later-iterator
    × (goal.iterator-loop-later).is_finite l.later-iterator
    × Passing l.block (iter_rest (rev_source (enumerate_source l.later-iterator))) (enumerate_count l.later-iterator) l.ones l.rank
