-- Each state adds the bits of its kept exits; the extractor below can only want memory.
use Rattle.std.proofs.Common.{◌≡◌, ◌+◌, ◌-◌, ◌*◌, ◌≤◌, length, take, drop, ap, subst, arith, length-drop, length-take}
use borrow.Rule.Slice.PartMut.{put_mid}
use Rattle.std.proofs.lemmas.Result.{err_from_is_err_and}
use Rattle.classes.specs.Recordings.{width}
use Rattle.extractors.specs.Lanes.{kept}
use Rattle.extractors.specs.Bits.{gather}
use Rattle.extractors.specs.Calls.{Written}
use Rattle.extractors.specs.Piles.{bits}
use Rattle.extractors.proofs.Judging.{memory_only}
use Rattle.extractors.proofs.Writing.{join, yield_fits}
use Rattle.blum.specs.PileTheorems.{counts_even}
use Rattle.blum.proofs.Loops.{exits_kept, room_next, exits_due, none_written, add_state}
use Rattle.blum.specs.Flat.{most_states}
use Rattle.blum.proofs.layer.Blum.fill.Given.{Over}
use Rattle.blum.proofs.layer.Blum.fill.Goals as goal
use Rattle.blum.proofs.layer.Blum.fill.Goals.{After-kept_exits-exits}

are-kept : (g : Over) (c : After-kept_exits-exits g) → c.kept_exits-exits.result.now ≡ kept c.loop-state.state c.args.recording.now
are-kept g c = exits_kept most_states c.args.recording.now c.in_ok-lanes.lanes c.in_ok-lanes.ensures c.loop-state.state c.from.result c.in-Some.last.now c.lane.result.now _ (omega arith) c.from.ensures c.lane.ensures (c.in-Some.ensures.item.3.1 0) c.kept_exits-exits.ensures

have-room : (g : Over) (c : After-kept_exits-exits g) → c.loop-state.at + c.width-w.result * length c.kept_exits-exits.result.now ≤ length c.args.scratch.now
have-room g c =
    let W = width c.args.size in
    let exits = c.kept_exits-exits.result.now in
    let r : c.loop-state.at + W * length exits ≤ W * length c.args.recording.now = room_next c.args.size c.args.recording.now c.loop-state.state c.requires.recorded.0 c.loop-state-test.true W c.loop-state.at exits (are-kept g c) c.loop-state.invariant.0 in
    omega (arith, ap (λ w. w * length exits) c.width-w.ensures.value, c.requires.room)

pub returns-in_default : goal.returns-in_default
returns-in_default g c =
    let p = g.E.SymbolExtractor.pile c.args.self.now.below in
    let even = counts_even p (g.met.E.SymbolExtractor.lawful c.args.self.now.below) c.args.size c.requires.sized in
    none_written c.args.size (bits p c.args.size) c.args.recording.now c.args.scratch.now c.requires.sized even (omega (arith, c.in_default.ensures.item.3))

pub overflow_mul-part : goal.overflow_mul-part
overflow_mul-part g c = omega (arith, have-room g (goal.at.overflow_mul-part g c).After-kept_exits-exits)

pub overflow_add-part : goal.overflow_add-part
overflow_add-part g c = omega (arith, have-room g (goal.at.overflow_add-part g c).After-kept_exits-exits)

pub slice_bounds-part-end : goal.slice_bounds-part-end
slice_bounds-part-end g c = omega (arith, have-room g (goal.at.slice_bounds-part-end g c).After-kept_exits-exits, c.loop-state.auto.scratch)

pub returns-in_err-at : goal.returns-in_err-at
returns-in_err-at g c =
    let h = (goal.at.returns-in_err-at g c).After-kept_exits-exits in
    let m = c.args.size in
    let exits = c.kept_exits-exits.result.now in
    let at = c.loop-state.at in
    let q = at + c.width-w.result * length exits - at in
    let fits : width m * length exits ≤ length (take q (drop at c.loop-state.scratch)) =
    omega (arith, have-room g h, ap (λ w. w * length exits) c.width-w.ensures.value, c.loop-state.auto.scratch, length-take q (drop at c.loop-state.scratch), length-drop at c.loop-state.scratch) in
    let none = exits_due m c.args.recording.now exits c.loop-state.state (length (take q (drop at c.loop-state.scratch))) c.requires.sized c.requires.recorded (are-kept g h) fits in
    let p = err_from_is_err_and c.from_residual-in_err-at.result c.from_residual-in_err-at.ensures.1 in
    rw (p.1, p.2) (memory_only _ _ none c.in_err-at.ensures.0)

pub overflow_add-at : goal.overflow_add-at
overflow_add-at g c =
    let q = c.loop-state.at + c.width-w.result * length c.kept_exits-exits.result.now - c.loop-state.at in
    let y = yield_fits _ _ _ _ c.in_ok-at.ensures.1 c.extract.auto.tray in
    omega (arith, have-room g (goal.at.overflow_add-at g c).After-kept_exits-exits, length-take q (drop c.loop-state.at c.loop-state.scratch))

pub loop-state-preserved : goal.loop-state-preserved
loop-state-preserved g c =
    let x = c.args.recording.now in
    let m = c.args.size in
    let s = c.loop-state.state in
    let exits = c.kept_exits-exits.result.now in
    let at = c.loop-state.at in
    let q = at + c.width-w.result * length exits - at in
    let f = bits (g.E.SymbolExtractor.pile c.args.self.now.below) m in
    let h = c.in_ok-at.ensures in
    let is = are-kept g (goal.at.loop-state-preserved g c).After-kept_exits-exits in
    let n : c.in_ok-at.field-0 ≤ width m * length exits =
    let y = yield_fits _ _ _ _ h.1 c.extract.auto.tray in omega (arith, ap (λ v. v * length exits) c.width-w.ensures.value, length-take q (drop at c.loop-state.scratch)) in
    let part : Written (f (kept s x)) (take q (drop at c.loop-state.scratch)) c.in_ok-at.field-0 c.extract.new.tray =
    subst (λ z. Written (f z) (take q (drop at c.loop-state.scratch)) c.in_ok-at.field-0 c.extract.new.tray) is h.1 in
    let both = join (gather s (λ t. f (kept t x))) (f (kept s x)) c.args.scratch.now c.loop-state.scratch c.extract.new.tray at c.in_ok-at.field-0 q c.loop-state.invariant.1 part c.extract.auto.tray in
    add_state (width m) f x s c.args.scratch.now at c.in_ok-at.field-0 (length exits) (put_mid at q c.loop-state.scratch c.extract.new.tray) c.loop-state.invariant.0 n (ap length is) both
