-- A turn passes a power that the size lacks, or a group before the rank's; in the rank's group the position is written.
use Rattle.std.proofs.Common.{◌-◌, Bool, List, ◌++◌, length, drop, sym, refl, ap, ◌∙◌, ap₂, arith}
use Rattle.std.proofs.lemmas.List.{length-take-le}
use Rattle.extractors.specs.Bits.{bytes}
use Rattle.ranking.specs.Groups.{in_bits}
use Rattle.ranking.specs.GroupRule.{rank_bits_start}
use Rattle.ranking.proofs.GroupWriting.{turn_skip, turn_here, turn_later, turn_end}
use Rattle.ranking.proofs.group.write_rank_bits.Goals as goal

pub loop-a-init : goal.loop-a-init
loop-a-init c = (sym (rank_bits_start c.args.size c.args.rank), refl)

pub slice_bounds-write_bits-end : goal.slice_bounds-write_bits-end
slice_bounds-write_bits-end c =
    let f = turn_here c.loop-a.a c.loop-a.left c.loop-a.position c.loop-a-test.true c.loop-a.auto.a c.if-left-power.true c.if-position-power.true c.loop-a.invariant.0 in
    omega arith

pub slice_bounds-write_bits-end-then-position-power : goal.slice_bounds-write_bits-end-then-position-power
slice_bounds-write_bits-end-then-position-power c =
    let f = turn_here c.loop-a.a c.loop-a.left c.loop-a.position c.loop-a-test.true c.loop-a.auto.a c.if-left-power.true c.if-position-power.true c.loop-a.invariant.0 in
    sym (length-take-le (c.loop-a.a - 1) c.loop-a.tray (omega arith))

pub write_bits-requires-clause-within : goal.write_bits-requires-clause-within
write_bits-requires-clause-within c =
    let f = turn_here c.loop-a.a c.loop-a.left c.loop-a.position c.loop-a-test.true c.loop-a.auto.a c.if-left-power.true c.if-position-power.true c.loop-a.invariant.0 in
    rw (length-take-le (c.loop-a.a - 1) c.loop-a.tray (omega arith)) f.0

pub returns-then-position-power : goal.returns-then-position-power
returns-then-position-power c =
    let f = turn_here c.loop-a.a c.loop-a.left c.loop-a.position c.loop-a-test.true c.loop-a.auto.a c.if-left-power.true c.if-position-power.true c.loop-a.invariant.0 in
    let same = length-take-le (c.loop-a.a - 1) c.loop-a.tray (omega arith) in
    let bits = c.write_bits.ensures ∙ ap (λ n. bytes (in_bits n c.loop-a.position)) same ∙ ap bytes f.2 in
    (f.1, ap₂ ◌++◌ bits (ap₂ drop f.1 c.loop-a.invariant.1))

pub loop-a-preserved-then-left-power : goal.loop-a-preserved-then-left-power
loop-a-preserved-then-left-power c =
    (sym (turn_later c.loop-a.a c.loop-a.left c.loop-a.position c.loop-a-test.true c.loop-a.auto.a c.if-left-power.true c.if-position-power.false) ∙ c.loop-a.invariant.0, c.loop-a.invariant.1)

pub loop-a-preserved : goal.loop-a-preserved
loop-a-preserved c = (sym (turn_skip c.loop-a.a c.loop-a.left c.loop-a.position c.loop-a-test.true c.loop-a.auto.a c.if-left-power.false) ∙ c.loop-a.invariant.0, c.loop-a.invariant.1)

pub returns : goal.returns
returns c =
    let g = sym c.loop-a.invariant.0 ∙ turn_end c.loop-a.a c.loop-a.left c.loop-a.position (omega arith) in
    (sym (ap length g), c.loop-a.invariant.1 ∙ ap (λ (s : List Bool). bytes s ++ drop (length s) c.args.tray.now) (sym g))
