-- What is judged sound has room for the bits; the front of the scratch is copied once they stand there.
use Rattle.std.proofs.Common.{rules, ◌≡◌, ℕ, ◌*◌, length, ap, ◌∙◌, refl, arith}
use Rattle.extractors.proofs.Judging.{sound}
use Rattle.extractors.proofs.Writing.{yield_fits, copied}
use Rattle.extractors.proofs.scratch.extract_by.Goals as goal

-- as many bytes as the recording needs
needed : (w v n l k : ℕ) → w ≡ v → l ≡ w * n → k ≡ l → k ≡ v * n
needed w v n l k wide made same = same ∙ made ∙ ap (λ u. u * n) wide

pub returns-in_err-n : goal.returns-in_err-n
returns-in_err-n g c f fills =
    let long = needed _ _ _ _ _ c.width.ensures.value c.in_ok-scratch.ensures.len c.deref_mut.ensures.len in
    let w = fills _ _ _ long (record { shown = c.deref_mut.result; shows = refl; left = _; met = c.in_err-n.ensures; leaves = refl }) in
    search (rules, w, c.in_ok-judge.ensures)

pub slice_bounds-copy_from_slice-end : goal.slice_bounds-copy_from_slice-end
slice_bounds-copy_from_slice-end g c =
    let long = needed _ _ _ _ _ c.width.ensures.value c.in_ok-scratch.ensures.len c.deref_mut.ensures.len in
    let w = c.requires.fills.1 _ _ c.fill.new.arg2 long (record { shown = c.deref_mut.result; shows = refl; left = _; met = c.in_ok-n.ensures; leaves = refl }) in
    omega (arith, yield_fits _ _ _ _ w c.fill.auto.arg2, (sound c.args.size c.args.recording.now (length c.args.tray.now) c.in_ok-judge.ensures).room, long)

pub slice_bounds-copy_from_slice-end-2 : goal.slice_bounds-copy_from_slice-end-2
slice_bounds-copy_from_slice-end-2 g c =
    let long = needed _ _ _ _ _ c.width.ensures.value c.in_ok-scratch.ensures.len c.deref_mut.ensures.len in
    let w = c.requires.fills.1 _ _ c.fill.new.arg2 long (record { shown = c.deref_mut.result; shows = refl; left = _; met = c.in_ok-n.ensures; leaves = refl }) in
    omega (arith, yield_fits _ _ _ _ w c.fill.auto.arg2, c.deref_mut.ensures.len, c.deref.ensures.len)

pub returns : goal.returns
returns g c f fills =
    let long = needed _ _ _ _ _ c.width.ensures.value c.in_ok-scratch.ensures.len c.deref_mut.ensures.len in
    let w = fills _ _ _ long (record { shown = c.deref_mut.result; shows = refl; left = _; met = c.in_ok-n.ensures; leaves = refl }) in (
      c.in_ok-judge.ensures,
      (
        w.0,
        copied (f c.args.recording.now) c.deref_mut.result.now c.fill.new.arg2 c.in_ok-scratch.scratch.items c.deref.result.now c.args.tray.now c.copy_from_slice.new.self c.in_ok-n.n
            c.in_ok-scratch.scratch.len w (c.fill.auto.arg2 ∙ c.deref_mut.ensures.len) c.deref.ensures.value c.copy_from_slice.ensures.after,
      ),
    )
