-- Eight bytes more append their bits, and so does one of those behind the last eight.
use Rattle.std.proofs.Common.{◌≡◌, ◌*◌, ◌/◌, ◌++◌, [], get_or, length, take, drop, ap, ap₂, ◌∙◌, arith}
use Rattle.extractors.proofs.Pairing.{chunk_at}
use Rattle.well.specs.Held.{held}
use Rattle.well.specs.Lean.{flags}
use Rattle.well.specs.Packing.{digits, value}
use Rattle.well.proofs.Tails.{eight_more, one_more}
use Rattle.well.proofs.queue.Queue.append.Goals as goal

pub loop-eight-preserved : goal.loop-eight-preserved
loop-eight-preserved c =
    let tray = c.args.tray.now in
    let i = c.loop-eight.eight-index in
    let eight : get_or c.as_chunks.result.0.now i [] ≡ take 8 (drop (8 * i) tray) =
    ap (λ l. get_or l i []) c.as_chunks.ensures.front ∙ chunk_at 8 (length tray / 8) tray i (omega (arith, c.loop-eight-test.true, c.as_chunks.ensures.front_len)) in
    c.push_bits.ensures ∙ ap₂ (λ z n. z ++ digits 8 n) c.loop-eight.invariant (c.number_of.ensures ∙ ap (λ l. value (flags l)) eight)
    ∙ eight_more (held c.args.self.now) tray i (omega (arith, c.loop-eight-test.true, c.as_chunks.ensures.front_len))

pub loop-byte-preserved : goal.loop-byte-preserved
loop-byte-preserved c =
    let tray = c.args.tray.now in
    let few = c.as_chunks.result.1.now in
    let j = c.loop-byte.byte-index in
    c.push_bits-in-loop-byte.ensures ∙ ap₂ (λ z n. z ++ digits 1 n) c.loop-byte.invariant c.from.ensures
    ∙ one_more (held c.args.self.now) tray few (length tray / 8 * 8) j c.as_chunks.ensures.back c.loop-byte-test.true
