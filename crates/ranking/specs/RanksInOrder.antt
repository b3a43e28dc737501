-- The ranks of a count class, in the order in which it is listed, are the numbers from 0 to its size less 1. Assumes nothing.
use Rattle.std.specs.Prelude.{◌≡◌, ℕ, zero, suc, ◌+◌, ◌<◌, ◌≤◌, Bool, true, false, cond, List, [], ◌∷◌, ◌++◌, map, length, filter, nat_eq, refl}
use Rattle.std.proofs.Common.{sym, ap, ap₂, subst, ◌∙◌, one-add, arith}
use Rattle.std.proofs.lemmas.Simd.{map-map}
use Rattle.std.specs.List.{range_with_len, AllByRecursion}
use Rattle.std.proofs.ByRecursion.{All-append, All-map, All-weaker, all_kept_by}
use Rattle.std.proofs.lemmas.Bool.{lt-ltb, le-ltb, eq-eqb, ne_eqb}
use Rattle.classes.specs.Counting.{one_if, tally, same_list, times}
use Rattle.classes.specs.Recordings.{Recording}
use Rattle.classes.specs.Classes.{led_below, words, same_counts, count_class, CountLike}
use Rattle.classes.proofs.Counts.{word_true, all_of}
use Rattle.classes.proofs.Listings.{count_listing}
use Rattle.ranking.specs.Ranks.{before, rank, class_size}

-- LEXICOGRAPHIC ORDER

pub before_less : (c d : ℕ) (x y : List ℕ) → c < d → before (c ∷ x) (d ∷ y) ≡ true
before_less c d x y h = rw (lt-ltb c d h)

pub before_same : (d : ℕ) (x y : List ℕ) → before (d ∷ x) (d ∷ y) ≡ before x y
before_same d x y = let h : d ≤ d = omega arith in rw (le-ltb d d h, eq-eqb d d refl)

pub before_more : (c d : ℕ) (x y : List ℕ) → d < c → before (c ∷ x) (d ∷ y) ≡ false
before_more c d x y h = let k : d ≤ c = omega arith in let ne : c ≡ d → ⊥ = λ e. omega arith in rw (le-ltb c d k, ne_eqb c d ne)

-- PLACES IN AN ORDERED LIST

module _ {X : Type 0} (lt : X → X → Bool) where
  abbrev Behind : X → X → Type 0
  Behind x y = (lt x y ≡ true) × (lt y x ≡ false)

  -- each element comes before those behind it, and none of them before it
  abbrev Ordered : List X → Type 0
  Ordered [] = Unit {0}
  Ordered (x ∷ xs) = (lt x x ≡ false) × AllByRecursion (Behind x) xs × Ordered xs

  ordered_kept : (p : X → Bool) (xs : List X) → Ordered xs → Ordered (filter p xs)
  ordered_kept p [] o = tt
  ordered_kept p (x ∷ xs) o = at (p x) (ordered_kept p xs o.2)
    where
      at : (b : Bool) → Ordered (filter p xs) → Ordered (cond b (x ∷ filter p xs) (filter p xs))
      at true r = (o.0, all_kept_by p (Behind x) xs o.1, r)
      at false r = r

  ordered_append : (xs ys : List X) → Ordered xs → Ordered ys → AllByRecursion (λ x. AllByRecursion (Behind x) ys) xs → Ordered (xs ++ ys)
  ordered_append [] ys o r h = r
  ordered_append (x ∷ xs) ys o r h = (o.0, All-append (Behind x) xs ys o.1 h.0, ordered_append xs ys o.2 r h.1)

  tally_no : (p : X → Bool) (xs : List X) → AllByRecursion (λ x. p x ≡ false) xs → tally p xs ≡ 0
  tally_no p [] h = refl
  tally_no p (x ∷ xs) h = ap₂ (λ b n. one_if b + n) h.0 (tally_no p xs h.1)

  -- the number of elements before each one is its place
  places : (xs : List X) → Ordered xs → map (λ x. tally (λ y. lt y x) xs) xs ≡ range_with_len 0 (length xs)
  places [] o = refl
  places (x ∷ xs) o =
      ap₂ ◌∷◌
      (ap₂ (λ b n. one_if b + n) o.0 (tally_no (λ y. lt y x) xs (All-weaker (Behind x) (λ y. lt y x ≡ false) (λ y h. h.1) xs o.1)))
      (map_same (λ z. one_if (lt x z) + tally (λ y. lt y z) xs) (λ z. suc (tally (λ y. lt y z) xs)) xs
      (All-weaker (Behind x) (λ z. one_if (lt x z) + tally (λ y. lt y z) xs ≡ suc (tally (λ y. lt y z) xs))
      (λ z h. ap (λ b. one_if b + tally (λ y. lt y z) xs) h.0 ∙ one-add (tally (λ y. lt y z) xs)) xs o.1)
      ∙ sym (map-map suc (λ z. tally (λ y. lt y z) xs) xs) ∙ ap (map suc) (places xs o.2) ∙ counting_suc 0 (length xs))
    where
      counting_suc : (s n : ℕ) → map suc (range_with_len s n) ≡ range_with_len (s + 1) n
      counting_suc s zero = refl
      counting_suc s (suc n) = let e : suc s ≡ s + 1 = omega arith in ap₂ (λ k l. k ∷ l) e (counting_suc (s + 1) n)

      map_same : (f g : X → ℕ) (ys : List X) → AllByRecursion (λ y. f y ≡ g y) ys → map f ys ≡ map g ys
      map_same f g [] h = refl
      map_same f g (y ∷ ys) h = ap₂ ◌∷◌ h.0 (map_same f g ys h.1)

-- WORDS ARE LISTED IN ORDER

ordered_led_by : (d : ℕ) (ws : List (List ℕ)) → Ordered before ws → Ordered before (map (λ w. d ∷ w) ws)
ordered_led_by d [] o = tt
ordered_led_by d (w ∷ ws) o = (
  before_same d w w ∙ o.0,
  All-map (Behind before (d ∷ w)) (λ v. d ∷ v) ws
      (All-weaker (Behind before w) (λ v. Behind before (d ∷ w) (d ∷ v)) (λ v h. (before_same d w v ∙ h.0, before_same d v w ∙ h.1)) ws o.1),
  ordered_led_by d ws o.2,
)

all_led : (P : List ℕ → Type 0) (k : ℕ) (ws : List (List ℕ)) → ((c : ℕ) (w : List ℕ) → c < k → P (c ∷ w)) → AllByRecursion P (led_below k ws)
all_led P zero ws f = tt
all_led P (suc k) ws f =
    All-append P (led_below k ws) (map (λ w. k ∷ w) ws) (all_led P k ws (λ c w h. f c w (omega arith)))
    (All-map P (λ w. k ∷ w) ws (all_of (λ w. P (k ∷ w)) (λ w. f k w (omega arith)) ws))

ordered_led : (k : ℕ) (ws : List (List ℕ)) → Ordered before ws → Ordered before (led_below k ws)
ordered_led zero ws o = tt
ordered_led (suc k) ws o =
    ordered_append before (led_below k ws) (map (λ w. k ∷ w) ws) (ordered_led k ws o) (ordered_led_by k ws o)
    (all_led (λ w. AllByRecursion (Behind before w) (map (λ v. k ∷ v) ws)) k ws
    (λ c w h. All-map (Behind before (c ∷ w)) (λ v. k ∷ v) ws
    (all_of (λ v. Behind before (c ∷ w) (k ∷ v)) (λ v. (before_less c k w v h, before_more k c v w h)) ws)))

ordered_words : (m n : ℕ) → Ordered before (words m n)
ordered_words m zero = (refl, tt, tt)
ordered_words m (suc n) = ordered_led m (words m n) (ordered_words m n)

-- RANKS

-- members of one class have one size, and their ranks are counted over one list
pub like_size : (m : ℕ) (x y : List ℕ) → Recording m x → CountLike m x y → class_size m y ≡ class_size m x
like_size m x y h k = ap length ((count_listing m).one_class x y h k)

pub ranks_in_order : (m : ℕ) (x : List ℕ) → Recording m x → map (rank m) (count_class m x) ≡ range_with_len 0 (class_size m x)
ranks_in_order m x h =
    map_like (count_class m x) ((count_listing m).none_else x h)
    ∙ places before (count_class m x) (ordered_kept before (same_counts m x) (words m (length x)) (ordered_words m (length x)))
  where
    map_like : (ws : List (List ℕ)) → AllByRecursion (CountLike m x) ws → map (rank m) ws ≡ map (λ y. tally (λ z. before z y) (count_class m x)) ws
    map_like [] a = refl
    map_like (w ∷ ws) a = ap₂ ◌∷◌ (ap (tally (λ z. before z w)) ((count_listing m).one_class x w h a.0)) (map_like ws a.1)

all_times : (P : List ℕ → Type 0) (z : List ℕ) (ws : List (List ℕ)) → AllByRecursion P ws → 0 < times z ws → P z
all_times P z [] a h = absurd (omega arith)
all_times P z (w ∷ ws) a h = at (λ k. all_times P z ws a.1 k) (same_list nat_eq w z) refl h
  where
    at : (0 < times z ws → P z) → (b : Bool) → same_list nat_eq w z ≡ b → 0 < cond b 1 0 + times z ws → P z
    at rest true q k = subst P (word_true w z q) a.0
    at rest false q k = rest (omega arith)

counting_below : (s n : ℕ) → AllByRecursion (λ i. i < s + n) (range_with_len s n)
counting_below s zero = tt
counting_below s (suc n) = (omega arith, All-weaker (λ i. i < s + 1 + n) (λ i. i < s + suc n) (λ i h. omega arith) (range_with_len (s + 1) n) (counting_below (s + 1) n))

pub rank_below : (m : ℕ) (x : List ℕ) → Recording m x → rank m x < class_size m x
rank_below m x h =
    all_times (λ y. rank m y < class_size m x) x (count_class m x)
    (unmapped (count_class m x) (subst (AllByRecursion (λ r. r < class_size m x)) (sym (ranks_in_order m x h)) (All-weaker (λ i. i < 0 + class_size m x) (λ i. i < class_size m x) (λ i k. omega arith) (range_with_len 0 (class_size m x)) (counting_below 0 (class_size m x)))))
    (omega (arith, (count_listing m).each_once x x h ((count_listing m).itself x h)))
  where
    unmapped : (ws : List (List ℕ)) → AllByRecursion (λ r. r < class_size m x) (map (rank m) ws) → AllByRecursion (λ y. rank m y < class_size m x) ws
    unmapped [] a = tt
    unmapped (w ∷ ws) a = (a.0, unmapped ws a.1)
