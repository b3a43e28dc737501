-- Each turn cleans one entry more, up to the last.
use Rattle.std.proofs.Common.{◌≤◌, ◌++◌, vec_items, string_bytes, ap, ◌∙◌, arith}
use Rattle.well.specs.View.{state}
use Rattle.noise_file.specs.Contents.{entries}
use Rattle.noise_file.proofs.Files.{open_accepted}
use Rattle.clean.specs.Lines.{last_line}
use Rattle.clean.specs.Cleaning.{EntriesCleaned}
use Rattle.clean.proofs.Rooms.{next_ready}
use Rattle.clean.proofs.InOrder.{one_entry_more}
use Rattle.clean.proofs.work.clean_file.Goals as goal
use Rattle.clean.proofs.work.clean_file.Goals.{else-loop-number-test, then-loop-number-test+in_ok-clean_entry+else-number-number-end}

pub clean_entry-requires : goal.clean_entry-requires
clean_entry-requires c =
    let listed : c.loop-number.number ≤ entries (vec_items c.args.file.now.bytes) = omega (arith, c.entries-number-end.ensures.value) in
    rw c.loop-number.invariant.0 (next_ready _ (open_accepted _ c.args.file.now.opened) _ _ _ c.loop-number.auto.number listed c.loop-number.invariant.1)

pub loop-number-preserved : goal.loop-number-preserved
loop-number-preserved c =
    let same = c.loop-number.invariant.0 in (
      ap (λ f. f.now) c.in_ok-clean_entry.ensures.file ∙ same,
      one_entry_more _ c.loop-number.number _ _ _ _ _ c.loop-number.auto.number (omega arith) c.loop-number.invariant.1 (rw same at c.in_ok-clean_entry.ensures.cleaned),
    )

pub returns : goal.returns
returns c =
    let in_order : EntriesCleaned (vec_items c.args.file.now.bytes) (entries (vec_items c.args.file.now.bytes)) (string_bytes c.loop-number-test.cleaning.text) (state c.loop-number-test.cleaning.well) =
    elim c.loop-number-test.branch [
      | else-loop-number-test w ↦ absurd (omega (arith, c.loop-number.auto.number-end, c.entries-number-end.ensures.low_bound))
      | then-loop-number-test+in_ok-clean_entry+else-number-number-end w ↦
          rw w.cleaning-is (
          one_entry_more _ c.loop-number.number _ _ _ _ _ c.loop-number.auto.number (omega (arith, c.entries-number-end.ensures.value))
          c.loop-number.invariant.1 (rw c.loop-number.invariant.0 at w.in_ok-clean_entry.ensures.cleaned))
    ]
    in
    record {
      before = string_bytes c.loop-number-test.cleaning.text;
      end_state = state c.loop-number-test.cleaning.well;
      in_order = in_order;
      last = c.in_ok-write.ensures.bytes ∙ (λ i. string_bytes c.loop-number-test.cleaning.text ++ last_line (c.poured.ensures i) (c.loaded.ensures i) (c.held.ensures.value i));
    }
