-- A turn passes one coin more.
use Rattle.std.proofs.Common.{◌∙◌, arith, inl}
use Rattle.ranking.proofs.CoinPassing.{next_room, next_ones, next_one, next_rank_fits, next_zero, all_passed}
use Rattle.ranking.proofs.coin.coin_rank.Goals as goal

pub overflow_add-ones : goal.overflow_add-ones
overflow_add-ones c =
    let h = c.in-Some.ensures.steps in
    let few = next_ones c.loop-later.invariant.2 c.requires.coins c.requires.short _ _ _ _ h.0 h.1 h.2 in
    omega arith

pub overflow_add-rank : goal.overflow_add-rank
overflow_add-rank c =
    let h = c.in-Some.ensures.steps in
    let fits = next_rank_fits c.loop-later.invariant.2 c.requires.coins c.requires.short _ _ _ _ h.0 h.1 h.2 _ c.if-coin-eq1.true c.binomial-rank.ensures in
    omega arith

pub loop-later-preserved-then-coin-eq1 : goal.loop-later-preserved-then-coin-eq1
loop-later-preserved-then-coin-eq1 c =
    let h = c.in-Some.ensures.steps in
    let room = next_room c.loop-later.invariant.2 c.requires.coins c.requires.short _ _ _ _ h.0 h.1 h.2 in
    ((tt, tt, inl (omega arith)), tt, next_one c.loop-later.invariant.2 c.requires.coins c.requires.short _ _ _ _ h.0 h.1 h.2 _ c.if-coin-eq1.true c.binomial-rank.ensures)

pub loop-later-preserved : goal.loop-later-preserved
loop-later-preserved c =
    let h = c.in-Some.ensures.steps in
    let room = next_room c.loop-later.invariant.2 c.requires.coins c.requires.short _ _ _ _ h.0 h.1 h.2 in
    ((tt, tt, inl (omega arith)), tt, next_zero c.loop-later.invariant.2 c.requires.coins c.requires.short _ _ _ _ h.0 h.1 h.2 c.if-coin-eq1.false)

pub returns-clause-sized : goal.returns-clause-sized
returns-clause-sized c = c.binomial.ensures ∙ (all_passed c.loop-later.invariant.2 c.in-None.ensures.steps.0.0 c.requires.coins).1
