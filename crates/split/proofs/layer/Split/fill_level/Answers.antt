-- Each row has room in the part of its own length, and its bits go behind those of the rows before; the extractor below can only want memory.
use Rattle.std.proofs.Common.{◌≡◌, ◌∙◌, eqb-true, ◌+◌, ◌-◌, ◌<◌, ◌≤◌, [], length, get_or, take, drop, sym, ap, subst, arith, length-drop, length-take}
use Rattle.std.proofs.lemmas.Result.{err_from_is_err_and}
use Rattle.std.proofs.lemmas.List.Elements.{All-get_or}
use Rattle.classes.specs.Recordings.{Recording}
use Rattle.extractors.specs.Calls.{Written}
use Rattle.extractors.proofs.Judging.{unrefused, memory_only}
use Rattle.split.proofs.Noding.{none_more, rows_more, row_room, gathered, part_fits}
use Rattle.split.proofs.layer.Split.fill_level.Given.{Over}
use Rattle.split.proofs.layer.Split.fill_level.Goals as goal
use Rattle.split.proofs.layer.Split.fill_level.Goals.{After-row-coins}

have-room : (g : Over) (c : After-row-coins g) → c.loop-lead.at + length c.row-coins.result.now ≤ length c.args.out.now
have-room g c =
    let there : c.loop-lead.lead < length c.args.nodes.now = omega (arith, c.len-lead-end.ensures) in
    omega (arith, ap length c.row-coins.ensures, row_room c.args.nodes.now c.loop-lead.lead c.loop-lead.at there c.loop-lead.invariant.1, c.requires.room)

pub returns-in_err-at : goal.returns-in_err-at
returns-in_err-at g c =
    let coins = c.row-coins.result.now in
    let at = c.loop-lead.at in
    let q = at + length coins - at in
    let there : c.loop-lead.lead < length c.args.nodes.now = omega (arith, c.len-lead-end.ensures) in
    let recorded = subst (Recording 2) (sym c.row-coins.ensures) (All-get_or (Recording 2) c.args.nodes.now c.loop-lead.lead [] there c.requires.coins) in
    let fits : length coins ≤ length (take q (drop at c.loop-lead.out)) =
    omega (arith, have-room g (goal.at.returns-in_err-at g c).After-row-coins, c.loop-lead.auto.out, length-take q (drop at c.loop-lead.out), length-drop at c.loop-lead.out) in
    let none = unrefused 2 coins (length (take q (drop at c.loop-lead.out))) (omega arith, omega arith) recorded (omega arith) in
    let p = err_from_is_err_and c.from_residual.result c.from_residual.ensures.1 in
    rw (p.1, p.2) (memory_only _ _ none c.in_err-at.ensures.0)

pub overflow_add-at : goal.overflow_add-at
overflow_add-at g c =
    let n = part_fits _ c.loop-lead.out c.extract.new.tray c.loop-lead.at c.in_ok-at.field-0 (length c.row-coins.result.now) c.in_ok-at.ensures.1 c.extract.auto.tray in
    omega (arith, have-room g (goal.at.overflow_add-at g c).After-row-coins)

pub loop-lead-preserved : goal.loop-lead-preserved
loop-lead-preserved g c =
    let f = g.E.CoinExtractor.gives c.args.self.now.below in
    let rows = c.args.nodes.now in
    let p = c.loop-lead.lead in
    let at = c.loop-lead.at in
    let coins = c.row-coins.result.now in
    let q = at + length coins - at in
    let there : p < length rows = omega (arith, c.len-lead-end.ensures) in
    let n = part_fits (f coins) c.loop-lead.out c.extract.new.tray at c.in_ok-at.field-0 (length coins) c.in_ok-at.ensures.1 c.extract.auto.tray in
    let part : Written (f (get_or rows p [])) (take q (drop at c.loop-lead.out)) c.in_ok-at.field-0 c.extract.new.tray =
    subst (λ z. Written (f z) (take q (drop at c.loop-lead.out)) c.in_ok-at.field-0 c.extract.new.tray) c.row-coins.ensures c.in_ok-at.ensures.1 in (
      gathered (λ k. f (get_or rows k [])) p c.args.out.now c.loop-lead.out c.extract.new.tray at c.in_ok-at.field-0 q c.loop-lead.invariant.0 part c.extract.auto.tray,
      omega (arith, c.loop-lead.invariant.1, rows_more rows p there, ap length c.row-coins.ensures),
    )

pub loop-lead-preserved-then-is_empty : goal.loop-lead-preserved-then-is_empty
loop-lead-preserved-then-is_empty g c =
    let rows = c.args.nodes.now in
    let p = c.loop-lead.lead in
    let there : p < length rows = omega (arith, c.len-lead-end.ensures) in
    let none : length c.row-coins.result.now ≡ 0 = eqb-true (length c.row-coins.result.now) 0 (sym c.if-is_empty.ensures) in
    let empty : length (get_or rows p []) ≡ 0 = sym (ap length c.row-coins.ensures) ∙ none in
    let same = none_more (g.E.CoinExtractor.gives c.args.self.now.below) (g.met.E.CoinExtractor.even c.args.self.now.below) rows p (All-get_or (Recording 2) rows p [] there c.requires.coins) empty in
    (subst (λ s. Written s c.args.out.now c.loop-lead.at c.loop-lead.out) (sym same) c.loop-lead.invariant.0, omega (arith, c.loop-lead.invariant.1, rows_more rows p there, empty))
