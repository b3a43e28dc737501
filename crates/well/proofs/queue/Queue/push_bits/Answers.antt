-- The tail and the new bits are one number; where they are eight or more, the first eight are a byte.
use Rattle.std.proofs.Common.{◌++◌, ◌-◌, ◌+◌, ◌/◌, ◌%◌, sym, ap, ap₂, ◌∙◌, append_assoc, arith}
use Rattle.well.specs.Packing.{digits, unpacked}
use Rattle.well.proofs.Holding.{held_length}
use Rattle.well.proofs.Tails.{all, unit, all_fits, all_small, all_digits, first_fits, both, unpacked_last}
use Rattle.well.proofs.queue.Queue.push_bits.Goals as goal

pub overflow_cast-self : goal.overflow_cast-self
overflow_cast-self c =
    let tail = c.args.self.now.tail in
    omega (arith, all_small tail.count c.args.count c.from.result c.from-2.result tail.short c.requires.few (omega (arith, c.from.ensures, tail.fits)) (omega (arith, c.from-2.ensures, c.requires.within)) c.if-total-lt8.true)

pub invariant_of-self : goal.invariant_of-self
invariant_of-self c =
    let tail = c.args.self.now.tail in
    record {
      short = c.if-total-lt8.true;
      fits = all_fits tail.count c.args.count c.from.result c.from-2.result tail.short c.requires.few (omega (arith, c.from.ensures, tail.fits)) (omega (arith, c.from-2.ensures, c.requires.within));
    }

pub invariant_of-self-then-total-lt8 : goal.invariant_of-self-then-total-lt8
invariant_of-self-then-total-lt8 c = record { few = omega (arith, held_length c.args.self.now, c.requires.room); room = c.args.self.now.room }

pub returns-then-total-lt8 : goal.returns-then-total-lt8
returns-then-total-lt8 c =
    let bytes = c.args.self.now.bytes.items in
    let tail = c.args.self.now.tail in
    ap (λ z. unpacked bytes ++ z) (
    all_digits tail.count c.args.count c.from.result c.from-2.result tail.short c.requires.few (omega (arith, c.from.ensures, tail.fits)) (omega (arith, c.from-2.ensures, c.requires.within))
    ∙ ap₂ (λ t v. digits tail.count t ++ digits c.args.count v) c.from.ensures c.from-2.ensures
    )
    ∙ sym (append_assoc (unpacked bytes) (digits tail.count tail.number) (digits c.args.count c.args.number))

pub overflow_cast-all-2 : goal.overflow_cast-all-2
overflow_cast-all-2 c =
    let tail = c.args.self.now.tail in
    omega (arith, first_fits tail.count c.args.count c.from.result c.from-2.result tail.short c.requires.few (omega (arith, c.from.ensures, tail.fits)) (omega (arith, c.from-2.ensures, c.requires.within)) c.if-total-lt8.false)

pub push_back_reserved-requires : goal.push_back_reserved-requires
push_back_reserved-requires c = omega (arith, held_length c.args.self.now, c.requires.room, c.if-total-lt8.false, c.args.self.now.room)

pub invariant_of-self-3 : goal.invariant_of-self-3
invariant_of-self-3 c = record {
  few = omega (arith, held_length c.args.self.now, c.requires.room, c.if-total-lt8.false, c.push_back_reserved.ensures.len);
  room = omega (arith, c.push_back_reserved.ensures.capacity, c.args.self.now.room);
}

pub returns : goal.returns
returns c =
    let bytes = c.args.self.now.bytes.items in
    let tail = c.args.self.now.tail in
    let t = c.from.result in
    let v = c.from-2.result in
    let n = all tail.count c.args.count t v tail.short c.requires.few (omega (arith, c.from.ensures, tail.fits)) (omega (arith, c.from-2.ensures, c.requires.within)) in
    let w = unit tail.count c.args.count t v tail.short c.requires.few (omega (arith, c.from.ensures, tail.fits)) (omega (arith, c.from-2.ensures, c.requires.within)) c.if-total-lt8.false in
    let behind = digits (tail.count + c.args.count - 8) (n % w) in
    ap (λ z. unpacked z ++ behind) c.push_back_reserved.ensures.items ∙ ap (λ z. z ++ behind) (unpacked_last bytes (n / w)) ∙ append_assoc (unpacked bytes) (digits 8 (n / w)) behind
    ∙ ap (λ z. unpacked bytes ++ z) (
    both tail.count c.args.count t v tail.short c.requires.few (omega (arith, c.from.ensures, tail.fits)) (omega (arith, c.from-2.ensures, c.requires.within)) c.if-total-lt8.false
    ∙ ap₂ (λ a b. digits tail.count a ++ digits c.args.count b) c.from.ensures c.from-2.ensures
    )
    ∙ sym (append_assoc (unpacked bytes) (digits tail.count tail.number) (digits c.args.count c.args.number))
