-- An entry goes without its line only for want of memory; the buffers are as long as the file asks.
use Rattle.std.proofs.Common.{◌≡◌, length, Err, ap, ◌∙◌, w32, SFits, arith, rules}
use Rattle.std.proofs.lemmas.Int.{to_z-of_z}
use Rattle.std.proofs.lemmas.Result.{err_from_is_err_and}
use Rattle.noise_file.proofs.Files.{open_accepted}
use Rattle.clean.specs.Cleaning.{tray_room}
use Rattle.clean.proofs.Shown.{entry_cleaned}
use Rattle.clean.proofs.Wants.{feed_wants}
use Rattle.clean.proofs.work.Cleaning.clean_entry.Goals as goal

pub returns-in_err-gain-clause-cleaned : goal.returns-in_err-gain-clause-cleaned
returns-in_err-gain-clause-cleaned c =
    let accepted = open_accepted _ c.args.self.now.file.now.opened in
    let roomy : length c.deref_mut.result.now ≡ tray_room = ap length c.deref_mut.ensures.value ∙ c.args.self.now.whole_tray in
    let refused = rw roomy at c.in_err-gain.ensures.fed.1 in
    let q = err_from_is_err_and c.from_residual.result c.from_residual.ensures.1 in
    rw (q.1 ∙ ap Err q.2) (feed_wants _ accepted c.args.number _ c.requires _ _ refused)

pub deal_keys-requires-clause-some : goal.deal_keys-requires-clause-some
deal_keys-requires-clause-some c =
    omega (arith, ap length c.deref_mut-2.ensures.value, c.args.self.now.whole_key, (open_accepted _ c.args.self.now.file.now.opened).some_key)

pub deal_keys-requires-clause-few : goal.deal_keys-requires-clause-few
deal_keys-requires-clause-few c =
    omega (arith, ap length c.deref_mut-2.ensures.value, c.args.self.now.whole_key, (open_accepted _ c.args.self.now.file.now.opened).short_key)

pub returns-clause-cleaned : goal.returns-clause-cleaned
returns-clause-cleaned c =
    let fits : SFits w32 c.in_ok-gain.lean = search rules in
    entry_cleaned _ _ _ _ _ _ _ _ _ _ _ c.in_ok-gain.lean _ c.unwrap-entry.result c.body-body.result c.kind_letter.result c.letter.result
    (ap length c.deref_mut.ensures.value ∙ c.args.self.now.whole_tray)
    (ap length c.deref_mut-2.ensures.value ∙ c.args.self.now.whole_key)
    c.in_ok-gain.ensures.fed (rw c.unwrap-entry.ensures at c.entry.ensures) c.body-body.ensures c.kind_letter.ensures.value c.letter.ensures.value
    (to_z-of_z w32 c.in_ok-gain.lean fits) c.in_ok-write.ensures.bytes c.in_ok-deal_keys.ensures
