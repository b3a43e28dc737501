-- A turn passes one code more: its count, the new arrangements, and those of them that begin with a smaller code.
use Rattle.std.proofs.Common.{rules, ℕ, ◌+◌, ◌*◌, ◌/◌, get_or, ap, arith, inl, length-take}
use Rattle.ranking.proofs.SymbolPassing.{none_passed, pass, all_passed}
use Rattle.ranking.proofs.symbol.symbol_rank.Goals as goal

pub loop-later-init : goal.loop-later-init
loop-later-init c = (search rules, tt, none_passed c.args.size c.args.block.now _ _ (search rules) (search rules))

pub bounds-counts-code : goal.bounds-counts-code
bounds-counts-code c =
    let h = c.in-Some.ensures.steps in
    let p = pass c.loop-later.invariant.2 c.requires.sized c.requires.short c.requires.codes _ _ _ _ _ h.0 c.from-code.ensures h.1 h.2 in
    p.code

pub overflow_add-own : goal.overflow_add-own
overflow_add-own c =
    let h = c.in-Some.ensures.steps in
    let p = pass c.loop-later.invariant.2 c.requires.sized c.requires.short c.requires.codes _ _ _ _ _ h.0 c.from-code.ensures h.1 h.2 in
    omega (arith, p.own)

pub bounds-counts-code-in-loop-later : goal.bounds-counts-code-in-loop-later
bounds-counts-code-in-loop-later c =
    let h = c.in-Some.ensures.steps in
    let p = pass c.loop-later.invariant.2 c.requires.sized c.requires.short c.requires.codes _ _ _ _ _ h.0 c.from-code.ensures h.1 h.2 in
    p.code

pub overflow_mul-arrangements : goal.overflow_mul-arrangements
overflow_mul-arrangements c =
    let h = c.in-Some.ensures.steps in
    let p = pass c.loop-later.invariant.2 c.requires.sized c.requires.short c.requires.codes _ _ _ _ _ h.0 c.from-code.ensures h.1 h.2 in
    omega (arith, p.product)

pub slice_bounds-counts-end : goal.slice_bounds-counts-end
slice_bounds-counts-end c =
    let h = c.in-Some.ensures.steps in
    let p = pass c.loop-later.invariant.2 c.requires.sized c.requires.short c.requires.codes _ _ _ _ _ h.0 c.from-code.ensures h.1 h.2 in
    omega (arith, p.code, c.from-code.array_long)

pub slice_bounds-total-end : goal.slice_bounds-total-end
slice_bounds-total-end c =
    let h = c.in-Some.ensures.steps in
    let p = pass c.loop-later.invariant.2 c.requires.sized c.requires.short c.requires.codes _ _ _ _ _ h.0 c.from-code.ensures h.1 h.2 in
    omega (arith, p.code, c.from-code.array_long, length-take {A = ℕ})

pub total-requires : goal.total-requires
total-requires c =
    let h = c.in-Some.ensures.steps in
    let p = pass c.loop-later.invariant.2 c.requires.sized c.requires.short c.requires.codes _ _ _ _ _ h.0 c.from-code.ensures h.1 h.2 in
    p.smaller

pub overflow_mul-rank : goal.overflow_mul-rank
overflow_mul-rank c =
    let h = c.in-Some.ensures.steps in
    let p = pass c.loop-later.invariant.2 c.requires.sized c.requires.short c.requires.codes _ _ _ _ _ h.0 c.from-code.ensures h.1 h.2 in
    let e = ap (λ t. c.loop-later.arrangements * (c.in-Some.later + 1) / (get_or c.loop-later.counts c.from-code.result 0 + 1) * t) c.total.ensures in
    omega (arith, p.share)

pub overflow_add-rank : goal.overflow_add-rank
overflow_add-rank c =
    let h = c.in-Some.ensures.steps in
    let p = pass c.loop-later.invariant.2 c.requires.sized c.requires.short c.requires.codes _ _ _ _ _ h.0 c.from-code.ensures h.1 h.2 in
    let e = ap (λ t. c.loop-later.rank + c.loop-later.arrangements * (c.in-Some.later + 1) / (get_or c.loop-later.counts c.from-code.result 0 + 1) * t / (c.in-Some.later + 1)) c.total.ensures in
    omega (arith, p.fits)

pub loop-later-preserved : goal.loop-later-preserved
loop-later-preserved c =
    let h = c.in-Some.ensures.steps in
    let p = pass c.loop-later.invariant.2 c.requires.sized c.requires.short c.requires.codes _ _ _ _ _ h.0 c.from-code.ensures h.1 h.2 in
    ((tt, tt, inl (omega (arith, p.room))), tt, rw c.total.ensures p.then)

pub returns-clause-factorials : goal.returns-clause-factorials
returns-clause-factorials c = all_passed c.loop-later.invariant.2 c.in-None.ensures.steps.0.0 c.requires.codes
