-- A turn reads one pair; behind the last one no pair is left.
use Rattle.std.proofs.Common.{◌+◌, ◌*◌, [], get_or, drop, subst, arith, length-drop}
use Rattle.extractors.proofs.Pairing.{Writing, pair_at, pairs_end, write_same, write_other, write_all}
use Rattle.extractors.proofs.pairs.write_pairs.Goals as goal
use Rattle.extractors.proofs.pairs.write_pairs.Goals.{then-a-b, else-a-b}

pub loop-a-preserved : goal.loop-a-preserved
loop-a-preserved c =
    let x = c.args.recording.now in
    let pair = get_or c.as_chunks.result.0.now c.loop-a.a-index [] in
    let rest = drop (2 * (c.loop-a.a-index + 1)) x in
    let read = pair_at x c.as_chunks.result.0.now c.as_chunks.ensures.front c.as_chunks.ensures.front_len c.loop-a.a-index c.loop-a-test.true in
    let w = subst (λ r. Writing x c.args.tray.now r c.loop-a.given c.loop-a.tray) read c.loop-a.invariant in
    elim c.if-a-b.branch [
      | then-a-b t ↦ rw (t.tray-is, t.given-is, t.from.ensures) (write_other x c.args.tray.now (get_or pair 0 0) (get_or pair 1 0) rest c.loop-a.given c.loop-a.tray w t.if-a-b.true (omega (arith, length-drop (2 * c.loop-a.a-index) x)))
      | else-a-b t ↦ rw (t.tray-is, t.given-is) (write_same x c.args.tray.now (get_or pair 0 0) (get_or pair 1 0) rest c.loop-a.given c.loop-a.tray w t.if-a-b.false)
    ]

pub returns : goal.returns
returns c =
    let x = c.args.recording.now in
    let short = pairs_end x c.as_chunks.result.0.now c.as_chunks.ensures.front c.as_chunks.ensures.front_len c.loop-a.a-index c.loop-a-test.false in
    write_all x c.args.tray.now (drop (2 * c.loop-a.a-index) x) c.loop-a.given c.loop-a.tray c.loop-a.invariant short (omega (arith, c.loop-a.invariant.room))
