-- A turn places the code after a visit within the lane of the state visited.
use Rattle.std.proofs.Common.{arith}
use Rattle.blum.proofs.Placing.{none_placed, place_found, place_one, place_none, all_placed}
use Rattle.blum.proofs.lanes.place_exits.Goals as goal
use Rattle.blum.proofs.lanes.place_exits.Goals.{in-Some, in_default}

pub loop-i-init : goal.loop-i-init
loop-i-init c = none_placed c.args.recording.now c.args.cuts.now c.args.exits.now c.told-cuts c.requires.begun

pub bounds-exits-from : goal.bounds-exits-from
bounds-exits-from c =
    let found = place_found c.args.recording.now c.loop-i.i c.loop-i.cuts c.loop-i.exits c.loop-i.invariant c.requires.recorded.0 c.from-cut.result c.in-Some.ensures.lookup.3.0 c.from-cut.ensures in
    omega (arith, found.2, c.from.ensures, c.requires.room, c.loop-i.auto.exits)

pub overflow_add-cuts : goal.overflow_add-cuts
overflow_add-cuts c =
    let found = place_found c.args.recording.now c.loop-i.i c.loop-i.cuts c.loop-i.exits c.loop-i.invariant c.requires.recorded.0 c.from-cut.result c.in-Some.ensures.lookup.3.0 c.from-cut.ensures in
    omega (arith, found.2, c.requires.recorded.1)

pub loop-i-preserved : goal.loop-i-preserved
loop-i-preserved c =
    let x = c.args.recording.now in
    let i = c.loop-i.i in
    elim c.match-get.branch [
      | in-Some w ↦
          let next = w.in-Some.ensures.lookup.3 in
          rw (w.cuts-is, w.exits-is, w.from.ensures) (place_one x i c.loop-i.cuts c.loop-i.exits c.loop-i.invariant c.requires.recorded.0 w.from-cut.result _ next.0 w.from-cut.ensures (next.1 0) (omega (arith, c.requires.room, c.loop-i.auto.exits)))
      | in_default w ↦ rw (w.cuts-is, w.exits-is) (place_none x i c.loop-i.cuts c.loop-i.exits c.loop-i.invariant c.requires.recorded.0 c.loop-i-test.true w.in_default.ensures.lookup.3)
    ]

pub returns : goal.returns
returns c = all_placed c.args.recording.now c.loop-i.i c.loop-i.cuts c.loop-i.exits c.loop-i.invariant c.requires.recorded.0 c.loop-i-test.false (omega (arith, c.requires.room, c.loop-i.auto.exits))
