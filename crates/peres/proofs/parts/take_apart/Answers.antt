-- A turn reads one pair; behind the last one no pair is left.
use Rattle.std.proofs.Common.{◌+◌, ◌*◌, [], ◌∷◌, ◌++◌, get_or, drop, vec_items, ap, ◌∙◌, subst, arith, length-drop}
use Rattle.extractors.proofs.Pairing.{pair_at, pairs_end}
use Rattle.peres.specs.Pairwise.{Reading, reading_same, reading_other, reading_all}
use Rattle.peres.proofs.parts.take_apart.Goals as goal
use Rattle.peres.proofs.parts.take_apart.Goals.{then-a-b+in_ok-push-2, else-a-b}

pub loop-a-preserved : goal.loop-a-preserved
loop-a-preserved c =
    let x = c.args.recording.now in
    let pair = get_or c.as_chunks.result.0.now c.loop-a.a-index [] in
    let rest = drop (2 * (c.loop-a.a-index + 1)) x in
    let u = vec_items c.loop-a.differing in
    let v = vec_items c.loop-a.agreed in
    let read = pair_at x c.as_chunks.result.0.now c.as_chunks.ensures.front c.as_chunks.ensures.front_len c.loop-a.a-index c.loop-a-test.true in
    let reading = subst (λ r. Reading x c.args.out.now r c.loop-a.given c.loop-a.out u v) read c.loop-a.invariant in
    let differs = c.in_ok-push.ensures.items ∙ ap (λ z. u ++ (z ∷ [])) c.from.ensures in
    elim c.if-a-b.branch [
      | then-a-b+in_ok-push-2 t ↦
          rw (t.out-is, t.given-is) (reading_same x c.args.out.now (get_or pair 0 0) (get_or pair 1 0) rest c.loop-a.given c.loop-a.out u v reading t.if-a-b.true _ _ differs (ap vec_items t.agreed-is ∙ t.in_ok-push-2.ensures.items))
      | else-a-b t ↦
          rw (t.out-is, t.given-is, t.agreed-is, t.from-else-a-b.ensures) (reading_other x c.args.out.now (get_or pair 0 0) (get_or pair 1 0) rest c.loop-a.given c.loop-a.out u v reading t.if-a-b.false (omega (arith, c.loop-a.invariant.bits.room, length-drop (2 * c.loop-a.a-index) x)) _ differs)
    ]

pub returns : goal.returns
returns c =
    let x = c.args.recording.now in
    let short = pairs_end x c.as_chunks.result.0.now c.as_chunks.ensures.front c.as_chunks.ensures.front_len c.loop-a.a-index c.loop-a-test.false in
    reading_all x c.args.out.now (drop (2 * c.loop-a.a-index) x) c.loop-a.given c.loop-a.out (vec_items c.loop-a.differing) (vec_items c.loop-a.agreed) c.loop-a.invariant short (omega (arith, c.loop-a.invariant.bits.room))
