-- Each lane begins behind the lanes of the states below, which all stand within the length of the recording.
use Rattle.std.proofs.Common.{arith, sym, refl}
use Rattle.blum.specs.Flat.{most_states}
use Rattle.blum.proofs.Placing.{before_none, before_fits, begin_one, all_begun}
use Rattle.blum.proofs.lanes.begin_lanes.Goals as goal

pub loop-state-init : goal.loop-state-init
loop-state-init c = record { long = refl; first = refl; next = sym (before_none c.args.recording.now); each = λ s hs. absurd (omega arith) }

pub overflow_add-at : goal.overflow_add-at
overflow_add-at c =
    let s = c.loop-state.state in
    omega (arith, c.loop-state.invariant.next, c.count_exits-counts.ensures s c.loop-state-test.true, before_fits most_states c.args.recording.now s c.requires.0 c.loop-state-test.true, c.requires.1)

pub loop-state-preserved : goal.loop-state-preserved
loop-state-preserved c =
    let s = c.loop-state.state in
    begin_one c.args.recording.now s c.loop-state.at c.loop-state.cuts c.loop-state.invariant _ c.loop-state-test.true (c.count_exits-counts.ensures s c.loop-state-test.true)

pub returns : goal.returns
returns c = all_begun c.args.recording.now c.loop-state.state c.loop-state.at c.loop-state.cuts c.loop-state.invariant c.loop-state-test.false
