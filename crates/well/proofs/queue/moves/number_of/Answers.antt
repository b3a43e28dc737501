-- The bits read so far and the next are at most eight, so that they write a byte.
use Rattle.std.proofs.Common.{◌≡◌, ℕ, ◌+◌, ◌*◌, ◌<◌, ◌≤◌, List, eqb, get_or, length, take, sym, ap, ◌∙◌, arith, length-take, pow_mono}
use Rattle.std.proofs.lemmas.List.{length-map}
use mir.Val.{bool_byte}
use Rattle.well.specs.Lean.{flags}
use Rattle.well.specs.Packing.{value}
use Rattle.well.proofs.Leaning.{flags_more}
use Rattle.well.proofs.Packs.{value_lt, value_push}
use Rattle.well.proofs.queue.moves.number_of.Goals as goal

-- what the next bit makes of the number, and that it fits
next : (tray : List ℕ) (i number : ℕ) → i < length tray → length tray ≤ 8 → number ≡ value (flags (take i tray))
    → (2 * number + bool_byte (eqb (get_or tray i 0) 1) ≡ value (flags (take (i + 1) tray))) × (2 * number + bool_byte (eqb (get_or tray i 0) 1) < 256)
next tray i number h few is =
    let bit = eqb (get_or tray i 0) 1 in
    let bits = flags (take (i + 1) tray) in
    let e : 2 * number + bool_byte bit ≡ value bits = ap (λ v. 2 * v + bool_byte bit) is ∙ sym (ap value (flags_more tray i h) ∙ value_push (flags (take i tray)) bit) in
    let long : length bits ≤ 8 = omega (arith, length-map (take (i + 1) tray) (λ b. eqb b 1), length-take (i + 1) tray) in
    (e, omega (arith, e, value_lt bits, pow_mono {i = length bits} {j = 8} long))

pub overflow_mul-number : goal.overflow_mul-number
overflow_mul-number c = omega (arith, (next c.args.tray.now c.loop-byte.byte-index c.loop-byte.number c.loop-byte-test.true c.requires c.loop-byte.invariant).1)

pub overflow_add-number : goal.overflow_add-number
overflow_add-number c = omega (arith, (next c.args.tray.now c.loop-byte.byte-index c.loop-byte.number c.loop-byte-test.true c.requires c.loop-byte.invariant).1, c.from.ensures)

pub loop-byte-preserved : goal.loop-byte-preserved
loop-byte-preserved c = ap (λ b. 2 * c.loop-byte.number + b) c.from.ensures ∙ (next c.args.tray.now c.loop-byte.byte-index c.loop-byte.number c.loop-byte-test.true c.requires c.loop-byte.invariant).0
