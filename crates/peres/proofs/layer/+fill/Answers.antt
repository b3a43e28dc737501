-- The parts of the scratch lie within it, and what stands in them at the end is what the depth gives.
use Rattle.std.proofs.Common.{◌≡◌, ℕ, ◌-◌, length, vec_items, sym, refl, arith, length-drop, length-take, eqb-true}
use Rattle.extractors.proofs.Writing.{length_put_mid}
use Rattle.peres.proofs.Filling.{filled_empty, filled_front, before_first, before_second, behind_both, filled_step}
use Rattle.peres.proofs.layer.+fill.Goals as goal

pub returns-then-is_empty : goal.returns-then-is_empty
returns-then-is_empty g t c =
    let none : length c.args.recording.now ≡ 0 = eqb-true (length c.args.recording.now) 0 (sym c.if-is_empty.ensures) in
    filled_empty c.args.depth (g.E.CoinExtractor.gives c.args.below.now) (g.met.E.CoinExtractor.even c.args.below.now) c.args.recording.now c.requires.coins none c.args.out.now

pub returns-then-depth-eq0 : goal.returns-then-depth-eq0
returns-then-depth-eq0 g t c =
    rw c.if-depth-eq0.true (filled_front (g.E.CoinExtractor.gives c.args.below.now) c.args.recording.now c.args.out.now c.requires.coins c.requires.room c.extract.result c.extract.new.tray c.extract.auto.tray c.extract.ensures)

pub slice_bounds-fill-count : goal.slice_bounds-fill-count
slice_bounds-fill-count g t c =
    let r = before_first c.args.recording.now c.requires.coins c.in_ok-parts.parts c.args.out.now c.take_apart.new.out c.in_ok-parts.ensures c.deref.result.now c.deref.ensures.value in
    omega (arith, r.1, c.requires.room, c.take_apart.auto.out)

pub slice_bounds-fill-start : goal.slice_bounds-fill-start
slice_bounds-fill-start = slice_bounds-fill-count

pub fill-requires : goal.fill-requires
fill-requires g t c κs within =
    let r = before_first c.args.recording.now c.requires.coins c.in_ok-parts.parts c.args.out.now c.take_apart.new.out c.in_ok-parts.ensures c.deref.result.now c.deref.ensures.value in
    (omega arith, (within, (r.0, omega (arith, length-take {A = ℕ}, length-drop {A = ℕ}, r.1, c.requires.room, c.take_apart.auto.out))))

pub overflow_add-given : goal.overflow_add-given
overflow_add-given g t c =
    let r = before_second c.args.recording.now c.requires.coins c.in_ok-parts.parts c.args.out.now c.take_apart.new.out c.in_ok-parts.ensures (c.args.depth - 1) (g.E.CoinExtractor.gives c.args.below.now) (g.met.E.CoinExtractor.even c.args.below.now) c.deref.result.now c.deref.ensures.value c.in_ok-given.field-0 c.in_ok-given.ensures.0 (vec_items c.in_ok-parts.parts.agreed) refl in
    omega (arith, r.1, c.requires.coins.1)

pub slice_bounds-fill-count-2 : goal.slice_bounds-fill-count-2
slice_bounds-fill-count-2 g t c =
    let r = before_second c.args.recording.now c.requires.coins c.in_ok-parts.parts c.args.out.now c.take_apart.new.out c.in_ok-parts.ensures (c.args.depth - 1) (g.E.CoinExtractor.gives c.args.below.now) (g.met.E.CoinExtractor.even c.args.below.now) c.deref.result.now c.deref.ensures.value c.in_ok-given.field-0 c.in_ok-given.ensures.0 c.deref-2.result.now c.deref-2.ensures.value in
    let whole = length_put_mid c.in_ok-parts.parts.yielded (length c.take_apart.new.out - c.in_ok-parts.parts.yielded) c.take_apart.new.out c.fill.new.out c.fill.auto.out in
    omega (arith, r.1, c.requires.room, c.take_apart.auto.out, whole)

pub slice_bounds-fill-start-2 : goal.slice_bounds-fill-start-2
slice_bounds-fill-start-2 = slice_bounds-fill-count-2

pub fill-requires-2 : goal.fill-requires-2
fill-requires-2 g t c κs within =
    let r = before_second c.args.recording.now c.requires.coins c.in_ok-parts.parts c.args.out.now c.take_apart.new.out c.in_ok-parts.ensures (c.args.depth - 1) (g.E.CoinExtractor.gives c.args.below.now) (g.met.E.CoinExtractor.even c.args.below.now) c.deref.result.now c.deref.ensures.value c.in_ok-given.field-0 c.in_ok-given.ensures.0 c.deref-2.result.now c.deref-2.ensures.value in
    let whole = length_put_mid c.in_ok-parts.parts.yielded (length c.take_apart.new.out - c.in_ok-parts.parts.yielded) c.take_apart.new.out c.fill.new.out c.fill.auto.out in
    (omega arith, (within, (r.0, omega (arith, length-take {A = ℕ}, length-drop {A = ℕ}, r.1, c.requires.room, c.take_apart.auto.out, whole))))

pub overflow_add-given-2 : goal.overflow_add-given-2
overflow_add-given-2 g t c =
    let r = behind_both c.args.recording.now c.requires.coins c.in_ok-parts.parts c.args.out.now c.take_apart.new.out c.in_ok-parts.ensures (c.args.depth - 1) (g.E.CoinExtractor.gives c.args.below.now) (g.met.E.CoinExtractor.even c.args.below.now) c.deref.result.now c.deref.ensures.value c.in_ok-given.field-0 c.in_ok-given.ensures.0 c.deref-2.result.now c.deref-2.ensures.value c.in_ok-given-2.field-0 c.in_ok-given-2.ensures.0 in
    omega (arith, r, c.requires.coins.1)

pub returns : goal.returns
returns g t c = filled_step c.args.recording.now c.requires.coins c.in_ok-parts.parts c.args.out.now c.take_apart.new.out c.in_ok-parts.ensures c.args.depth (g.E.CoinExtractor.gives c.args.below.now) c.if-depth-eq0.false
    c.deref.result.now c.deref-2.result.now c.fill.new.out c.fill-2.new.out c.in_ok-given.field-0 c.in_ok-given-2.field-0 _ _
    c.deref.ensures.value c.deref-2.ensures.value c.in_ok-given.ensures c.fill.auto.out c.in_ok-given-2.ensures c.fill-2.auto.out
