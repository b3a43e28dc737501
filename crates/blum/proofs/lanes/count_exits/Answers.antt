-- No count is more than the length of the recording; the last code has no exit.
use Rattle.std.proofs.Common.{◌<◌, arith, length-take}
use Rattle.std.proofs.ByRecursion.{All-get_or}
use Rattle.blum.specs.Flat.{most_states}
use Rattle.blum.proofs.Placing.{visited, count_one, counts_fit, all_counted}
use Rattle.blum.proofs.lanes.count_exits.Goals as goal

pub overflow_add-counts : goal.overflow_add-counts
overflow_add-counts c =
    let x = c.args.recording.now in
    let i = c.loop-code.code-index in
    let v = visited x c.saturating_sub-visits.result i c.saturating_sub-visits.ensures c.loop-code-test.true c.from.result c.from.ensures in
    let here : c.from.result < most_states = omega (arith, v.1, All-get_or (λ b. b < most_states) x i 0 (omega (arith, v.0)) c.requires.0) in
    omega (arith, counts_fit x i c.loop-code.counts c.loop-code.invariant c.requires.0 c.from.result here, c.requires.1)

pub loop-code-preserved : goal.loop-code-preserved
loop-code-preserved c =
    let v = visited c.args.recording.now c.saturating_sub-visits.result c.loop-code.code-index c.saturating_sub-visits.ensures c.loop-code-test.true c.from.result c.from.ensures in
    count_one c.args.recording.now c.loop-code.code-index c.loop-code.counts c.loop-code.invariant c.requires.0 c.from.result v.0 v.1

pub returns : goal.returns
returns c = all_counted c.args.recording.now c.loop-code.code-index c.loop-code.counts c.loop-code.invariant (omega (arith, c.saturating_sub-visits.ensures, length-take c.saturating_sub-visits.result c.args.recording.now))
