-- The front of the tray stands for the pile's bits, and the step is that of an accepted feed.
use Rattle.std.proofs.Common.{◌≡◌, length, take, sym, ap, ◌∙◌, rules}
use Rattle.extractors.specs.Piles.{bits}
use Rattle.well.specs.Lean.{flags, lean}
use Rattle.well.specs.Steps.{filled}
use Rattle.well.specs.View.{state}
use Rattle.well.proofs.Feeding.{flags_front, front_length, step_fed}
use Rattle.well.proofs.store.Well.pour.Goals as goal

pub slice_bounds-fill-end : goal.slice_bounds-fill-end
slice_bounds-fill-end g c = (front_length _ _ _ _ c.in_ok-gain.ensures.1 c.extract.auto.tray).0

pub slice_bounds-fill-end-2 : goal.slice_bounds-fill-end-2
slice_bounds-fill-end-2 g c = sym (front_length _ _ _ _ c.in_ok-gain.ensures.1 c.extract.auto.tray).1

pub returns : goal.returns
returns g c =
    let p = g.E.SymbolExtractor.pile c.args.pile.now in
    let m = c.args.size in
    let x = c.args.recording.now in
    let s = state c.args.self.now in
    let y = c.in_ok-gain.gain in
    let h = c.in_ok-gain.ensures in
    let front : flags (take y c.extract.new.tray) ≡ bits p m x = flags_front (bits p m x) _ c.extract.new.tray y h.1.1 h.1.0 in
    let leans : c.fill-lean.result ≡ lean (bits p m x) = c.fill-lean.ensures.leans ∙ ap lean front in
    step_fed s p (g.met.E.SymbolExtractor.lawful c.args.pile.now) m x (length c.args.tray.now) h.0 y h.1.0 c.in_ok-judge_gain.ensures _ (search rules) _ (c.fill-lean.ensures.filled ∙ ap (filled s) front)
