-- Ranking with blocks of two codes gives the bits of pairs. Assumes nothing.
use Rattle.std.proofs.Common.{◌≡◌, ℕ, ◌+◌, ◌<◌, ◌≤◌, Bool, true, false, cond, ◌&&◌, ◌||◌, eqb, ltb, ◌⊎◌, List, [], ◌∷◌, ◌++◌, length, sym, refl, ap, ◌∙◌, ap₂, inl, inr, arith}
use Rattle.std.proofs.lemmas.Bool.{eq-eqb, ne_eqb, eqb-true, eqb-false}
use Rattle.std.proofs.lemmas.Bool.Decides.{nat_tests}
use Rattle.classes.specs.Counting.{one_if, add_up, same_list}
use Rattle.classes.specs.Recordings.{Recording, count}
use Rattle.classes.specs.Classes.{count_class, CountLike}
use Rattle.classes.proofs.Counts.{word_true, word_self, word_eq, add_up_same, add_up_add, add_up_one, add_up_zero}
use Rattle.classes.proofs.Listings.{count_listing}
use Rattle.extractors.specs.PairsRule.{pairs}
use Rattle.ranking.specs.Groups.{in_bits, group_bits, rank_bits}
use Rattle.ranking.specs.Ranks.{before, rank, class_size, block_bits}
use Rattle.ranking.specs.PairsAsBlocks.{PairsAreBlocks}
use Rattle.ranking.specs.RanksInOrder.{rank_below, before_same}
use Rattle.ranking.specs.BlocksEven.{by_blocks_step}

one_of_one : rank_bits 1 0 ≡ []
unfolding rank_bits group_bits in_bits
one_of_one = refl

first_of_two : rank_bits 2 0 ≡ false ∷ []
unfolding rank_bits group_bits in_bits
first_of_two = refl

second_of_two : rank_bits 2 1 ≡ true ∷ []
unfolding rank_bits group_bits in_bits
second_of_two = refl

-- A CLASS OF ONE

module _ (m : ℕ) (x : List ℕ) (h : Recording m x) (only : (w : List ℕ) → CountLike m x w → w ≡ x) where
  size_one : class_size m x ≡ 1
  size_one =
      sym (add_up_one (count_class m x))
      ∙ add_up_same (CountLike m x) (λ w. 1) (λ w. one_if (same_list eqb w x)) (λ w k. ap one_if (sym (word_eq w x (only w k)))) (count_class m x) ((count_listing m).none_else x h)
      ∙ (count_listing m).each_once x x h ((count_listing m).itself x h)

  block_of_one : block_bits m x ≡ []
  block_of_one =
      let none : rank m x ≡ 0 = omega (arith, rank_below m x h, size_one) in
      ap₂ rank_bits size_one none ∙ one_of_one

-- A CLASS OF TWO

before_self : (x : List ℕ) → before x x ≡ false
before_self [] = refl
before_self (c ∷ x) = before_same c x x ∙ before_self x

module _ (m : ℕ) (x y : List ℕ) (h : Recording m x) (other : CountLike m x y) (apart : same_list eqb x y ≡ false)
    (either : (w : List ℕ) → CountLike m x w → (w ≡ x) ⊎ (w ≡ y)) where
  turned : same_list eqb y x ≡ false
  turned = at (same_list eqb y x) refl
    where
      at : (b : Bool) → same_list eqb y x ≡ b → b ≡ false
      at true q = sym (word_eq x y (sym (word_true y x q))) ∙ apart
      at false q = refl

  size_two : class_size m x ≡ 2
  size_two =
      sym (add_up_one (count_class m x))
      ∙ add_up_same (CountLike m x) (λ w. 1) (λ w. one_if (same_list eqb w x) + one_if (same_list eqb w y)) (λ w k. each w (either w k)) (count_class m x) ((count_listing m).none_else x h)
      ∙ add_up_add (λ w. one_if (same_list eqb w x)) (λ w. one_if (same_list eqb w y)) (count_class m x)
      ∙ ap₂ ◌+◌ ((count_listing m).each_once x x h ((count_listing m).itself x h)) ((count_listing m).each_once x y h other)
    where
      each : (w : List ℕ) → (w ≡ x) ⊎ (w ≡ y) → 1 ≡ one_if (same_list eqb w x) + one_if (same_list eqb w y)
      each w (inl e) = sym (ap (λ v. one_if (same_list eqb v x) + one_if (same_list eqb v y)) e ∙ ap₂ (λ b c. one_if b + one_if c) (word_self x) apart)
      each w (inr e) = sym (ap (λ v. one_if (same_list eqb v x) + one_if (same_list eqb v y)) e ∙ ap₂ (λ b c. one_if b + one_if c) turned (word_self y))

  rank_of_two : rank m x ≡ one_if (before y x)
  rank_of_two =
      add_up_same (CountLike m x) (λ w. one_if (before w x)) (λ w. cond (before y x) (one_if (same_list eqb w y)) 0) (λ w k. each w (either w k)) (count_class m x) ((count_listing m).none_else x h)
      ∙ at (before y x)
    where
      nothing : (b : Bool) → ◌≡◌ {A = ℕ} (cond b 0 0) 0
      nothing true = refl
      nothing false = refl

      each : (w : List ℕ) → (w ≡ x) ⊎ (w ≡ y) → one_if (before w x) ≡ cond (before y x) (one_if (same_list eqb w y)) 0
      each w (inl e) =
          ap (λ v. one_if (before v x)) e ∙ ap one_if (before_self x)
          ∙ sym (ap (λ v. cond (before y x) (one_if (same_list eqb v y)) 0) e ∙ ap (λ b. cond (before y x) (one_if b) 0) apart ∙ nothing (before y x))
      each w (inr e) =
          ap (λ v. one_if (before v x)) e
          ∙ sym (ap (λ v. cond (before y x) (one_if (same_list eqb v y)) 0) e ∙ ap (λ b. cond (before y x) (one_if b) 0) (word_self y))

      at : (b : Bool) → add_up (λ w. cond b (one_if (same_list eqb w y)) 0) (count_class m x) ≡ one_if b
      at true = (count_listing m).each_once x y h other
      at false = add_up_zero (count_class m x)

  block_of_two : block_bits m x ≡ before y x ∷ []
  block_of_two = ap₂ rank_bits size_two rank_of_two ∙ at (before y x)
    where
      at : (b : Bool) → rank_bits 2 (one_if b) ≡ b ∷ []
      at true = second_of_two
      at false = first_of_two

-- BLOCKS OF AT MOST TWO CODES

pub block_of_none : (m : ℕ) → block_bits m [] ≡ []
block_of_none m = block_of_one m [] (tt, omega arith) (λ w k. only w k.1)
  where
    only : (w : List ℕ) → length w ≡ 0 → w ≡ []
    only [] e = refl
    only (c ∷ w) e = absurd (omega arith)

flag_one : (c a : ℕ) → one_if (eqb c a) ≡ 1 → c ≡ a
flag_one c a h = grind (arith, nat_tests)

block_of_single : (m a : ℕ) → a < m → block_bits m (a ∷ []) ≡ []
block_of_single m a h = block_of_one m (a ∷ []) ((h, tt), omega arith) (λ w k. only w k.1 (k.2 a))
  where
    only : (w : List ℕ) → length w ≡ 1 → count a w ≡ count a (a ∷ []) → w ≡ a ∷ []
    only [] e k = absurd (omega arith)
    only (c ∷ []) e k = ap (λ d. d ∷ []) (flag_one c a (omega (arith, ap one_if (eq-eqb a a refl))))
    only (c ∷ (d ∷ w)) e k = absurd (omega arith)

block_of_same : (m a : ℕ) → a < m → block_bits m (a ∷ (a ∷ [])) ≡ []
block_of_same m a h = block_of_one m (a ∷ (a ∷ [])) ((h, (h, tt)), omega arith) (λ w k. only w k.1 (k.2 a))
  where
    most : (b : Bool) → one_if b ≤ 1
    most true = omega arith
    most false = omega arith

    only : (w : List ℕ) → length w ≡ 2 → count a w ≡ count a (a ∷ (a ∷ [])) → w ≡ a ∷ (a ∷ [])
    only [] e k = absurd (omega arith)
    only (c ∷ []) e k = absurd (omega arith)
    only (c ∷ (d ∷ [])) e k =
        let self : one_if (eqb a a) ≡ 1 = ap one_if (eq-eqb a a refl) in
        ap₂ (λ i j. i ∷ (j ∷ [])) (flag_one c a (omega (arith, most (eqb c a), most (eqb d a)))) (flag_one d a (omega (arith, most (eqb c a), most (eqb d a))))
    only (c ∷ (d ∷ (i ∷ w))) e k = absurd (omega arith)

block_of_other : (m a b : ℕ) → a < m → b < m → (a ≡ b → ⊥) → block_bits m (a ∷ (b ∷ [])) ≡ ltb b a ∷ []
block_of_other m a b ha hb ne =
    block_of_two m (a ∷ (b ∷ [])) (b ∷ (a ∷ [])) ((ha, (hb, tt)), omega arith)
    ((hb, (ha, tt)), refl, λ c. omega arith)
    (ap (λ t. t && same_list eqb (b ∷ []) (a ∷ [])) (ne_eqb a b ne))
    (λ w k. either w k.1 (k.2 a) (k.2 b))
    ∙ ap (λ t. t ∷ []) order
  where
    order : before (b ∷ (a ∷ [])) (a ∷ (b ∷ [])) ≡ ltb b a
    order = ap (λ t. ltb b a || (t && before (a ∷ []) (b ∷ []))) (ne_eqb b a (λ e. ne (sym e))) ∙ end (ltb b a)
      where
        end : (t : Bool) → (t || false) ≡ t
        end true = refl
        end false = refl

    either : (w : List ℕ) → length w ≡ 2 → count a w ≡ count a (a ∷ (b ∷ [])) → count b w ≡ count b (a ∷ (b ∷ [])) → (w ≡ a ∷ (b ∷ [])) ⊎ (w ≡ b ∷ (a ∷ []))
    either [] e p q = absurd (omega arith)
    either (c ∷ []) e p q = absurd (omega arith)
    either (c ∷ (d ∷ [])) e p q = at (eqb c a) refl
      where
        aa : one_if (eqb a a) ≡ 1
        aa = ap one_if (eq-eqb a a refl)

        bb : one_if (eqb b b) ≡ 1
        bb = ap one_if (eq-eqb b b refl)

        ab : one_if (eqb a b) ≡ 0
        ab = ap one_if (ne_eqb a b ne)

        ba : one_if (eqb b a) ≡ 0
        ba = ap one_if (ne_eqb b a (λ i. ne (sym i)))

        at : (t : Bool) → eqb c a ≡ t → (c ∷ (d ∷ []) ≡ a ∷ (b ∷ [])) ⊎ (c ∷ (d ∷ []) ≡ b ∷ (a ∷ []))
        at true r =
            let ca : c ≡ a = eqb-true c a r in
            let cb : one_if (eqb c b) ≡ 0 = ap (λ i. one_if (eqb i b)) ca ∙ ab in
            inl (ap₂ (λ i j. i ∷ (j ∷ [])) ca (flag_one d b (omega (arith, aa, bb, ab, ba))))
        at false r =
            let ca : one_if (eqb c a) ≡ 0 = ap one_if r in
            let da : d ≡ a = flag_one d a (omega (arith, aa, bb, ab, ba)) in
            let db : one_if (eqb d b) ≡ 0 = ap (λ i. one_if (eqb i b)) da ∙ ab in
            inr (ap₂ (λ i j. i ∷ (j ∷ [])) (flag_one c b (omega (arith, aa, bb, ab, ba))) da)
    either (c ∷ (d ∷ (i ∷ w))) e p q = absurd (omega arith)

block_of_pair : (m a b : ℕ) → a < m → b < m → block_bits m (a ∷ (b ∷ [])) ≡ cond (eqb a b) [] (ltb b a ∷ [])
block_of_pair m a b ha hb = at (eqb a b) refl
  where
    at : (t : Bool) → eqb a b ≡ t → block_bits m (a ∷ (b ∷ [])) ≡ cond t [] (ltb b a ∷ [])
    at true q = ap (λ c. block_bits m (a ∷ (c ∷ []))) (sym (eqb-true a b q)) ∙ block_of_same m a ha
    at false q = block_of_other m a b ha hb (eqb-false a b q)

pub pairs_are_blocks : PairsAreBlocks
pairs_are_blocks m [] h = refl
pairs_are_blocks m (a ∷ []) h = ap (λ s. s ++ []) (block_of_single m a h.0)
pairs_are_blocks m (a ∷ (b ∷ x)) h =
    by_blocks_step 2 (block_bits m) (a ∷ (b ∷ x)) (block_of_none m) (omega arith)
    ∙ ap₂ ◌++◌ (block_of_pair m a b h.0 h.1.0) (pairs_are_blocks m x h.1.1)
    ∙ at (eqb a b)
  where
    at : (t : Bool) → cond t [] (ltb b a ∷ []) ++ pairs x ≡ cond t (pairs x) (ltb b a ∷ pairs x)
    at true = refl
    at false = refl
