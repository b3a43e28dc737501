-- The scratch of a Peres layer: its parts have room beside each other, and what is written to them is what the layer gives. Assumes nothing.
use Rattle.std.proofs.Common.{◌≡◌, ℕ, ◌+◌, ◌-◌, ◌≤◌, Bool, List, [], ◌++◌, length, take, drop, Ok, Err, vec_items, Result, sym, refl, ap, ◌∙◌, subst, append_assoc, arith, length-take, zero-add}
use borrow.Rule.Slice.PartMut.{put_mid}
use Rattle.classes.specs.Recordings.{Recording}
use Rattle.classes.specs.Evenness.{Even}
use Rattle.extractors.specs.declared.fault.ExtractorFault.{ExtractorFault}
use Rattle.extractors.specs.Calls.{due, Extracted, Filled, Written}
use Rattle.extractors.specs.PairsRule.{pairs}
use Rattle.extractors.proofs.Judging.{unrefused, memory_only}
use Rattle.extractors.proofs.Writing.{join}
use Rattle.peres.specs.PeresRule.{differ, common, peres}
use Rattle.peres.specs.declared.parts.Parts.{Parts}
use Rattle.peres.specs.Fills.{TakenApart}
use Rattle.peres.specs.Pairwise.{pair_lengths, differ_recorded, common_recorded, peres_step}
use Rattle.peres.specs.PeresEven.{peres_bound, peres_empty}

-- NO CODES, AND DEPTH 0

pub filled_empty : (d : ℕ) (f : List ℕ → List Bool) → Even 2 f → (x : List ℕ) → Recording 2 x → length x ≡ 0 → (out : List ℕ) → Written (peres d f x) out 0 out
filled_empty d f even x rec e out = subst (λ s. Written s out 0 out) (sym (peres_empty d f even x rec e)) (refl, refl)

-- the extractor below has no ground to refuse but want of memory
pub filled_below : (f : List ℕ → List Bool) (x out : List ℕ) → Recording 2 x → length x ≤ length out → (r : Result ℕ ExtractorFault) (out' : List ℕ) → Extracted f 2 x out r out' → Filled (f x) out r out'
filled_below f x out rec room (Ok n) out' e = e.1
filled_below f x out rec room (Err fault) out' e = memory_only (due 2 x (length out)) fault (unrefused 2 x (length out) (omega arith, omega arith) rec (omega arith)) e.0

-- it is lent the front of the scratch alone
pub filled_front : (f : List ℕ → List Bool) (x out : List ℕ) → Recording 2 x → length x ≤ length out → (r : Result ℕ ExtractorFault) (part : List ℕ) → length part ≡ length (take (length x) out)
    → Extracted f 2 x (take (length x) out) r part → Filled (f x) out r (part ++ drop (length x) out)
filled_front f x out rec room (Ok n) part kept e =
    let w = join [] (f x) out out part 0 n (length x) (refl, refl) (filled_below f x (take (length x) out) rec (omega (arith, length-take (length x) out)) (Ok n) part e) kept in
    (sym (zero-add n) ∙ w.0, w.1)
filled_front f x out rec room (Err fault) part kept e = filled_below f x (take (length x) out) rec (omega (arith, length-take (length x) out)) (Err fault) part e

-- ONE STEP: the bits of pairs, then a bits of u, then b bits of v

module _ (x : List ℕ) (rec : Recording 2 x) (p : Parts) (out out₁ : List ℕ) (taken : TakenApart x out (Ok p) out₁) where
  -- the first list fits behind the bits of pairs
  pub before_first : (u : List ℕ) → u ≡ vec_items p.differing → Recording 2 u × (p.yielded + length u ≤ length x)
  before_first u eu =
      let e : u ≡ differ x = eu ∙ taken.1 in
      let l = pair_lengths x in
      let k = taken.0.0 in
      (subst (Recording 2) (sym e) (differ_recorded x rec), omega (arith, ap length e))

  module _ (d : ℕ) (f : List ℕ → List Bool) (even : Even 2 f) (u : List ℕ) (eu : u ≡ vec_items p.differing) (a : ℕ) (ea : a ≡ length (peres d f u)) where
    -- the second list fits behind the bits of the first, which gives no more bits than it has codes
    pub before_second : (v : List ℕ) → v ≡ vec_items p.agreed → Recording 2 v × (p.yielded + a + length v ≤ length x)
    before_second v ev =
        let e : u ≡ differ x = eu ∙ taken.1 in
        let e' : v ≡ common x = ev ∙ taken.2 in
        let l = pair_lengths x in
        let k = taken.0.0 in
        (subst (Recording 2) (sym e') (common_recorded x rec), omega (arith, ap length e, ap length e', peres_bound d f even u (before_first u eu).0))

    pub behind_both : (v : List ℕ) → v ≡ vec_items p.agreed → (b : ℕ) → b ≡ length (peres d f v) → p.yielded + a + b ≤ length x
    behind_both v ev b eb =
        let r = before_second v ev in
        omega (arith, peres_bound d f even v r.0, r.1)

  -- the three parts one behind the other are the bits of the depth
  pub filled_step : (d : ℕ) (f : List ℕ → List Bool) → (d ≡ 0 → ⊥) → (u v part₁ part₂ : List ℕ) (a b m n : ℕ) → u ≡ vec_items p.differing → v ≡ vec_items p.agreed
      → Written (peres (d - 1) f u) (take m (drop p.yielded out₁)) a part₁ → length part₁ ≡ length (take m (drop p.yielded out₁))
      → Written (peres (d - 1) f v) (take n (drop (p.yielded + a) (put_mid p.yielded m out₁ part₁))) b part₂
      → length part₂ ≡ length (take n (drop (p.yielded + a) (put_mid p.yielded m out₁ part₁)))
      → Written (peres d f x) out (p.yielded + a + b) (put_mid (p.yielded + a) n (put_mid p.yielded m out₁ part₁) part₂)
  filled_step d f deep u v part₁ part₂ a b m n eu ev w₁ kept₁ w₂ kept₂ =
      let k = p.yielded in
      let bits-u = peres (d - 1) f u in
      let bits-v = peres (d - 1) f v in
      let two : Written (pairs x ++ bits-u) out (k + a) (put_mid k m out₁ part₁) = join (pairs x) bits-u out out₁ part₁ k a m taken.0 w₁ kept₁ in
      let three : Written ((pairs x ++ bits-u) ++ bits-v) out (k + a + b) (put_mid (k + a) n (put_mid k m out₁ part₁) part₂) = join (pairs x ++ bits-u) bits-v out (put_mid k m out₁ part₁) part₂ (k + a) b n two w₂ kept₂ in
      let bits : (pairs x ++ bits-u) ++ bits-v ≡ peres d f x =
      append_assoc (pairs x) bits-u bits-v ∙ ap (λ z. pairs x ++ (peres (d - 1) f z ++ bits-v)) (eu ∙ taken.1)
      ∙ ap (λ z. pairs x ++ (peres (d - 1) f (differ x) ++ peres (d - 1) f z)) (ev ∙ taken.2) ∙ sym (peres_step d f x deep) in
      subst (λ s. Written s out (k + a + b) (put_mid (k + a) n (put_mid k m out₁ part₁) part₂)) bits three
