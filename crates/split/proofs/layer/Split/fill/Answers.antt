-- Each level has room for as many bits as the recording has codes, and its bits go behind those of the levels before.
use Rattle.std.proofs.Common.{◌≡◌, ◌+◌, ◌-◌, ◌*◌, ◌≤◌, length, take, drop, sym, ap, subst, arith, eqb-true, length-drop, length-take}
use Rattle.extractors.specs.Calls.{Written}
use Rattle.split.specs.SplitRule.{level}
use Rattle.split.proofs.Noding.{filled_none, nodes_fit, nodes_recorded, nodes_level, gathered, part_fits, level_room}
use Rattle.split.proofs.layer.Split.fill.Given.{Over}
use Rattle.split.proofs.layer.Split.fill.Goals as goal
use Rattle.split.proofs.layer.Split.fill.Goals.{In_ok-nodes}

pub returns-then-is_empty : goal.returns-then-is_empty
returns-then-is_empty g c =
    let none : length c.args.codes.now ≡ 0 = eqb-true (length c.args.codes.now) 0 (sym c.if-is_empty.ensures) in
    filled_none c.args.size c.requires.sized (g.E.CoinExtractor.gives c.args.self.now.below) (g.met.E.CoinExtractor.even c.args.self.now.below) c.args.codes.now c.requires.recorded none c.args.out.now

have-room : (g : Over) (c : In_ok-nodes g) → c.loop-d.at + length c.args.codes.now ≤ length c.args.out.now
have-room g c =
    let n = length c.args.codes.now in
    omega (arith, c.loop-d.invariant.1, level_room c.loop-d.d c.width-w.result n c.loop-d-test.true c.width-w.ensures.most, ap (λ w. w * n) c.width-w.ensures.value, c.requires.room)

pub fill_level-requires-clause-coins : goal.fill_level-requires-clause-coins
fill_level-requires-clause-coins g c = nodes_recorded c.width-w.result c.loop-d.d c.args.codes.now c.in_ok-nodes.nodes c.in_ok-nodes.ensures c.requires.recorded.1

pub fill_level-requires-clause-room : goal.fill_level-requires-clause-room
fill_level-requires-clause-room g c =
    let at = c.loop-d.at in
    let q = at + length c.args.codes.now - at in
    let r = have-room g (goal.at.fill_level-requires-clause-room g c).In_ok-nodes in
    omega (arith, nodes_fit c.width-w.result c.loop-d.d c.args.codes.now c.in_ok-nodes.nodes c.in_ok-nodes.ensures, r, c.loop-d.auto.out, length-take q (drop at c.loop-d.out), length-drop at c.loop-d.out)

pub overflow_add-at-in-loop-d : goal.overflow_add-at-in-loop-d
overflow_add-at-in-loop-d g c =
    let n = part_fits _ c.loop-d.out c.fill_level.new.out c.loop-d.at c.in_ok-at.field-0 (length c.args.codes.now) c.in_ok-at.ensures c.fill_level.auto.out in
    omega (arith, have-room g (goal.at.overflow_add-at-in-loop-d g c).In_ok-nodes)

pub loop-d-preserved : goal.loop-d-preserved
loop-d-preserved g c =
    let f = g.E.CoinExtractor.gives c.args.self.now.below in
    let x = c.args.codes.now in
    let w = c.width-w.result in
    let d = c.loop-d.d in
    let at = c.loop-d.at in
    let q = at + length x - at in
    let n = part_fits _ c.loop-d.out c.fill_level.new.out at c.in_ok-at.field-0 (length x) c.in_ok-at.ensures c.fill_level.auto.out in
    let part : Written (level w d f x) (take q (drop at c.loop-d.out)) c.in_ok-at.field-0 c.fill_level.new.out =
    subst (λ s. Written s (take q (drop at c.loop-d.out)) c.in_ok-at.field-0 c.fill_level.new.out) (nodes_level w d x c.in_ok-nodes.nodes c.in_ok-nodes.ensures f) c.in_ok-at.ensures in (
      gathered (λ e. level w e f x) d c.args.out.now c.loop-d.out c.fill_level.new.out at c.in_ok-at.field-0 q c.loop-d.invariant.0 part c.fill_level.auto.out,
      omega (arith, c.loop-d.invariant.1),
    )
