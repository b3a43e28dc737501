-- Eight bits held are a whole byte, since fewer stand behind the whole bytes.
use Rattle.std.proofs.Common.{◌≡◌, ◌∷◌, ◌++◌, take, option_to_list, sym, ap, ◌∙◌, arith}
use Rattle.well.specs.Packing.{value, digits, unpacked}
use Rattle.well.proofs.Holding.{held_length}
use Rattle.well.proofs.Packs.{byte_first}
use Rattle.well.proofs.queue.Queue.take_byte.Goals as goal

pub unwrap-requires : goal.unwrap-requires
unwrap-requires c = c.pop_front.ensures.variant.1 (omega (arith, held_length c.args.self.now, c.requires, c.args.self.now.tail.short))

pub returns-clause-byte : goal.returns-clause-byte
returns-clause-byte c =
    let queue = c.args.self.now in
    let left = c.pop_front.new.self.items in
    let first : queue.bytes.items ≡ c.unwrap.result ∷ left = c.pop_front.ensures.items ∙ ap (λ o. option_to_list o ++ left) c.unwrap.ensures in
    sym (ap (λ z. value (take 8 (unpacked z ++ digits queue.tail.count queue.tail.number))) first ∙ byte_first c.unwrap.result left (digits queue.tail.count queue.tail.number) c.unwrap.type_inv)
