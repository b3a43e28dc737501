-- Pairs, and no bits at all, are even on every count class. Assumes nothing.
use Rattle.std.specs.Prelude.{◌≡◌, ℕ, suc, ◌<◌, Bool, true, false, cond, not, ltb, List, [], ◌∷◌, length, ◌==◌, nat_eq, nat_lt, refl}
use Rattle.std.proofs.Common.{ap, ◌∙◌, arith}
use Rattle.std.proofs.lemmas.Bool.Decides.{nat_tests}
use Rattle.classes.specs.Counting.{same_bit}
use Rattle.classes.specs.Recordings.{Codes}
use Rattle.classes.specs.Classes.{CountLike}
use Rattle.classes.specs.Evenness.{Even}
use Rattle.classes.proofs.Exchanges.{exchange_even}
use Rattle.classes.proofs.Listings.{count_listing}
use Rattle.extractors.specs.PairsRule.{pairs}

-- NO BITS

no_bits_gives : (t : List Bool) → length t ≡ 0 → [] ≡ t
no_bits_gives [] h = refl
no_bits_gives (b ∷ t) h = absurd (omega arith)

pub no_bits_even : (m : ℕ) → Even m (λ x. [])
no_bits_even m = exchange_even (count_listing m) (record {
  put = λ x t. x;
  like = λ x t h k. (count_listing m).itself x h;
  gives = λ x t h k. no_bits_gives t k;
  undone = λ x t h k. refl;
})

-- PAIRS: the partner turns the pairs of different codes, so that they give the bits asked for

abbrev first_bit : List Bool → Bool
first_bit [] = false
first_bit (v ∷ t) = v

abbrev other_bits : List Bool → List Bool
other_bits [] = []
other_bits (v ∷ t) = t

abbrev turned : Bool → ℕ → ℕ → List ℕ → List ℕ
turned true a b x = a ∷ (b ∷ x)
turned false a b x = b ∷ (a ∷ x)

abbrev put_pairs : List ℕ → List Bool → List ℕ
put_pairs [] t = []
put_pairs (a ∷ []) t = a ∷ []
put_pairs (a ∷ (b ∷ x)) t = cond (a == b) (a ∷ (b ∷ put_pairs x t)) (turned (same_bit (first_bit t) (nat_lt b a)) a b (put_pairs x (other_bits t)))

turned_like : (m : ℕ) (v : Bool) (a b : ℕ) (x z : List ℕ) → a < m → b < m → CountLike m x z → CountLike m (a ∷ (b ∷ x)) (turned v a b z)
turned_like m true a b x z ha hb h = ((ha, (hb, h.0)), ap (λ n. suc (suc n)) h.1, λ c. omega (arith, h.2 c))
turned_like m false a b x z ha hb h = ((hb, (ha, h.0)), ap (λ n. suc (suc n)) h.1, λ c. omega (arith, h.2 c))

-- the bit of a pair of different codes that is turned as v says
turned_bit : (v : Bool) (a b : ℕ) (z : List ℕ) → (a == b) ≡ false → pairs (turned (same_bit v (nat_lt b a)) a b z) ≡ v ∷ pairs z
turned_bit v a b z e = at v (nat_lt b a) refl
  where
    back : nat_eq b a ≡ false
    back = grind (arith, nat_tests)

    at : (w c : Bool) → nat_lt b a ≡ c → pairs (turned (same_bit w c) a b z) ≡ w ∷ pairs z
    at true true q = rw (e, q)
    at true false q = let r : ltb a b ≡ true = grind (arith, nat_tests) in rw (back, r)
    at false true q = let r : ltb a b ≡ false = grind (arith, nat_tests) in rw (back, r)
    at false false q = rw (e, q)

self_bit : (v : Bool) → same_bit v v ≡ true
self_bit true = refl
self_bit false = refl

turned_back : (v : Bool) (a b : ℕ) (x z : List ℕ) → (a == b) ≡ false → put_pairs z (pairs x) ≡ x → put_pairs (turned v a b z) (nat_lt b a ∷ pairs x) ≡ a ∷ (b ∷ x)
turned_back true a b x z e h = rw (e, self_bit (nat_lt b a), h)
turned_back false a b x z e h = rw (back, other, h)
  where
    back : nat_eq b a ≡ false
    back = grind (arith, nat_tests)

    at : (c : Bool) → nat_lt b a ≡ c → same_bit c (nat_lt a b) ≡ false
    at true q = let r : ltb a b ≡ false = grind (arith, nat_tests) in r
    at false q = let r : ltb a b ≡ true = grind (arith, nat_tests) in ap not r

    other : same_bit (nat_lt b a) (nat_lt a b) ≡ false
    other = at (nat_lt b a) refl

pairs_like : (m : ℕ) (x : List ℕ) (t : List Bool) → Codes m x → length t ≡ length (pairs x) → CountLike m x (put_pairs x t)
pairs_like m [] t h k = (h, refl, λ c. refl)
pairs_like m (a ∷ []) t h k = (h, refl, λ c. refl)
pairs_like m (a ∷ (b ∷ x)) t h k = at (λ u l. pairs_like m x u h.1.1 l) (a == b) t k
  where
    at : ((u : List Bool) → length u ≡ length (pairs x) → CountLike m x (put_pairs x u)) → (e : Bool) (u : List Bool) → length u ≡ length (cond e (pairs x) (nat_lt b a ∷ pairs x))
        → CountLike m (a ∷ (b ∷ x)) (cond e (a ∷ (b ∷ put_pairs x u)) (turned (same_bit (first_bit u) (nat_lt b a)) a b (put_pairs x (other_bits u))))
    at ih true u l = turned_like m true a b x (put_pairs x u) h.0 h.1.0 (ih u l)
    at ih false [] l = absurd (omega arith)
    at ih false (v ∷ u) l = turned_like m (same_bit v (nat_lt b a)) a b x (put_pairs x u) h.0 h.1.0 (ih u (omega arith))

pairs_gives : (x : List ℕ) (t : List Bool) → length t ≡ length (pairs x) → pairs (put_pairs x t) ≡ t
pairs_gives [] t k = no_bits_gives t k
pairs_gives (a ∷ []) t k = no_bits_gives t k
pairs_gives (a ∷ (b ∷ x)) t k = at (λ u l. pairs_gives x u l) (a == b) refl t k
  where
    at : ((u : List Bool) → length u ≡ length (pairs x) → pairs (put_pairs x u) ≡ u) → (e : Bool) → (a == b) ≡ e → (u : List Bool) → length u ≡ length (cond e (pairs x) (nat_lt b a ∷ pairs x))
        → pairs (cond e (a ∷ (b ∷ put_pairs x u)) (turned (same_bit (first_bit u) (nat_lt b a)) a b (put_pairs x (other_bits u)))) ≡ u
    at ih true q u l = rw q (ih u l)
    at ih false q [] l = absurd (omega arith)
    at ih false q (v ∷ u) l = turned_bit v a b (put_pairs x u) q ∙ ap (λ w. v ∷ w) (ih u (omega arith))

pairs_undone : (x : List ℕ) (t : List Bool) → length t ≡ length (pairs x) → put_pairs (put_pairs x t) (pairs x) ≡ x
pairs_undone [] t k = refl
pairs_undone (a ∷ []) t k = refl
pairs_undone (a ∷ (b ∷ x)) t k = at (λ u l. pairs_undone x u l) (a == b) refl t k
  where
    at : ((u : List Bool) → length u ≡ length (pairs x) → put_pairs (put_pairs x u) (pairs x) ≡ x) → (e : Bool) → (a == b) ≡ e → (u : List Bool) → length u ≡ length (cond e (pairs x) (nat_lt b a ∷ pairs x))
        → put_pairs (cond e (a ∷ (b ∷ put_pairs x u)) (turned (same_bit (first_bit u) (nat_lt b a)) a b (put_pairs x (other_bits u)))) (cond e (pairs x) (nat_lt b a ∷ pairs x)) ≡ a ∷ (b ∷ x)
    at ih true q u l = rw q (ap (λ w. a ∷ (b ∷ w)) (ih u l))
    at ih false q [] l = absurd (omega arith)
    at ih false q (v ∷ u) l = turned_back (same_bit v (nat_lt b a)) a b x (put_pairs x u) q (ih u (omega arith))

pub pairs_even : (m : ℕ) → Even m pairs
pairs_even m = exchange_even (count_listing m) (record {
  put = put_pairs;
  like = λ x t h k. pairs_like m x t h.0 k;
  gives = λ x t h k. pairs_gives x t k;
  undone = λ x t h k. pairs_undone x t k;
})
