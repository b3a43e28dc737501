-- One byte more is packed from the bits left; unpacking the whole key gives its bits back.
use Rattle.std.proofs.Common.{◌*◌, drop, ap, ◌∙◌, arith}
use Rattle.std.proofs.lemmas.Grind.{common_steps}
use Rattle.std.proofs.lemmas.List.{drop-drop}
use Rattle.well.specs.Held.{held}
use Rattle.well.proofs.Packs.{key_more, unpacked_packed}
use Rattle.well.proofs.queue.Queue.take_front.Goals as goal

pub loop-byte-preserved : goal.loop-byte-preserved
loop-byte-preserved c =
    let i = c.loop-byte.byte-index in
    let h = c.loop-byte.invariant in
    let all = held c.args.self.now in
    let left = held c.loop-byte.self in (
      key_more c.loop-byte.key all left i c.take_byte.result (omega arith) h.0 h.1 c.take_byte.ensures.byte,
      c.take_byte.ensures.rest ∙ ap (drop 8) h.1 ∙ drop-drop 8 (8 * i) all ∙ ap (λ n. drop n all) (omega arith),
    )

pub returns-clause-oldest_first : goal.returns-clause-oldest_first
returns-clause-oldest_first c = grind (arith, common_steps, unpacked_packed)
