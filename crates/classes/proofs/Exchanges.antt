-- Partner exchange and the even law give each other, for every kind of class. Assumes nothing.
use Rattle.std.proofs.Common.{◌≡◌, ℕ, zero, suc, ◌+◌, ◌<◌, ◌≤◌, Bool, true, false, cond, eqb, List, [], ◌∷◌, length, get_or, filter, sym, refl, ap, ◌∙◌, subst, ap₂, arith}
use Rattle.std.proofs.ByRecursion.{kept_by_passes, all_kept_by, All-get_or}
use Rattle.classes.specs.Counting.{add_up, tally, same_list, same_bits, times}
use Rattle.classes.specs.Recordings.{Recording}
use Rattle.classes.specs.Classes.{Listing}
use Rattle.classes.specs.Evenness.{EvenOver}
use Rattle.classes.specs.Exchange.{Exchange, ExchangeIsEven}
use Rattle.classes.proofs.Counts.{bits_true, bits_self, bits_eq, word_true, word_self, word_eq, add_up_same, add_up_zero, add_up_swap, length_kept, times_kept}
use Rattle.classes.proofs.Listings.{count_listing, markov_listing}

-- FROM PARTNERS TO THE LAW: count the pairs of a member that gives s and its partner that gives t, by rows and by columns

module _ {m : ℕ} {Like : List ℕ → List ℕ → Type 0} {members : List ℕ → List (List ℕ)} (listing : Listing m Like members)
    {f : List ℕ → List Bool} (ex : Exchange m Like f) (x : List ℕ) (hx : Recording m x) where
  abbrev given : List Bool → List ℕ → Bool
  given t z = same_bits (f z) t

  -- 1 where z gives s and w is its partner that gives t
  abbrev pair : List Bool → List Bool → List ℕ → List ℕ → ℕ
  pair s t z w = cond (given s z) (cond (same_list eqb w (ex.put z t)) 1 0) 0

  row : (s t : List Bool) → length s ≡ length t → (z : List ℕ) → Like x z → add_up (pair s t z) (members x) ≡ cond (given s z) 1 0
  row s t h z k = at (given s z) refl
    where
      at : (b : Bool) → given s z ≡ b → add_up (λ w. cond b (cond (same_list eqb w (ex.put z t)) 1 0) 0) (members x) ≡ cond b 1 0
      at true q =
          let gives-s : f z ≡ s = bits_true (f z) s q in
          listing.each_once x (ex.put z t) hx (listing.joined x z (ex.put z t) k (ex.like z t (listing.recorded x z hx k) (sym h ∙ ap length (sym gives-s))))
      at false q = add_up_zero (members x)

  pair_le : (s t : List Bool) → length s ≡ length t → (z w : List ℕ) → Like x z → pair s t z w ≤ pair t s w z
  pair_le s t h z w k = at (given s z) refl (same_list eqb w (ex.put z t)) refl
    where
      at : (b : Bool) → given s z ≡ b → (c : Bool) → same_list eqb w (ex.put z t) ≡ c → cond b (cond c 1 0) 0 ≤ pair t s w z
      at true q true r =
          let gives-s : f z ≡ s = bits_true (f z) s q in
          let is-put : w ≡ ex.put z t = word_true w (ex.put z t) r in
          let fits : length t ≡ length (f z) = sym h ∙ ap length (sym gives-s) in
          let hz = listing.recorded x z hx k in
          let gives-t : f w ≡ t = ap f is-put ∙ ex.gives z t hz fits in
          let is-back : z ≡ ex.put w s = sym (ex.undone z t hz fits) ∙ ap₂ ex.put (sym is-put) gives-s in
          let one : pair t s w z ≡ 1 = ap₂ (λ b c. cond b (cond c 1 0) 0) (bits_eq (f w) t gives-t) (word_eq z (ex.put w s) is-back) in
          omega arith
      at true q false r = omega arith
      at false q c r = omega arith

  law : (s t : List Bool) → length s ≡ length t → tally (given s) (members x) ≡ tally (given t) (members x)
  law s t h =
      let all = listing.none_else x hx in
      add_up_same (Like x) (λ z. cond (given s z) 1 0) (λ z. add_up (pair s t z) (members x)) (λ z k. sym (row s t h z k)) (members x) all
      ∙ add_up_same (Like x) (λ z. add_up (pair s t z) (members x)) (λ z. add_up (λ w. pair t s w z) (members x))
      (λ z k. add_up_same (Like x) (pair s t z) (λ w. pair t s w z) (λ w l. omega (arith, pair_le s t h z w k, pair_le t s (sym h) w z l)) (members x) all) (members x) all
      ∙ add_up_swap (λ z w. pair t s w z) (members x) (members x)
      ∙ add_up_same (Like x) (λ w. add_up (pair t s w) (members x)) (λ w. cond (given t w) 1 0) (λ w k. row t s (sym h) w k) (members x) all

pub exchange_even : {m : ℕ} {Like : List ℕ → List ℕ → Type 0} {members : List ℕ → List (List ℕ)} → Listing m Like members
    → {f : List ℕ → List Bool} → Exchange m Like f → EvenOver m members f
exchange_even listing ex x hx s t h = law listing ex x hx s t h

-- FROM THE LAW TO PARTNERS: the member of the same place among those that give t

-- the place of a word in a list of words
abbrev place : List ℕ → List (List ℕ) → ℕ
place z [] = 0
place z (w ∷ ws) = cond (same_list eqb w z) 0 (suc (place z ws))

place_below : (z : List ℕ) (ws : List (List ℕ)) → 0 < times z ws → place z ws < length ws
place_below z [] h = h
place_below z (w ∷ ws) h = at (place_below z ws) (same_list eqb w z) h
  where
    at : (0 < times z ws → place z ws < length ws) → (b : Bool) → 0 < cond b 1 0 + times z ws → cond b 0 (suc (place z ws)) < suc (length ws)
    at ih true k = omega arith
    at ih false k = let r : place z ws < length ws = ih (omega arith) in omega arith

get_d_place : (z : List ℕ) (ws : List (List ℕ)) (d : List ℕ) → 0 < times z ws → get_or ws (place z ws) d ≡ z
get_d_place z [] d h = absurd (omega arith)
get_d_place z (w ∷ ws) d h = at (get_d_place z ws d) (same_list eqb w z) refl h
  where
    at : (0 < times z ws → get_or ws (place z ws) d ≡ z) → (b : Bool) → same_list eqb w z ≡ b → 0 < cond b 1 0 + times z ws → get_or (w ∷ ws) (cond b 0 (suc (place z ws))) d ≡ z
    at ih true q k = word_true w z q
    at ih false q k = ih (omega arith)

times_get_d : (ws : List (List ℕ)) (i : ℕ) (d : List ℕ) → i < length ws → 0 < times (get_or ws i d) ws
times_get_d [] i d h = absurd (omega arith)
times_get_d (w ∷ ws) zero d h = subst (λ b. 0 < cond b 1 0 + times w ws) (sym (word_self w)) (omega arith)
times_get_d (w ∷ ws) (suc i) d h = let k : i < length ws = omega arith in omega (arith, times_get_d ws i d k)

place_get_d : (ws : List (List ℕ)) (i : ℕ) (d : List ℕ) → i < length ws → times (get_or ws i d) ws ≡ 1 → place (get_or ws i d) ws ≡ i
place_get_d [] i d h k = absurd (omega arith)
place_get_d (w ∷ ws) zero d h k = ap (λ b. cond b 0 (suc (place w ws))) (word_self w)
place_get_d (w ∷ ws) (suc i) d h k = let l : i < length ws = omega arith in at (place_get_d ws i d l) (times_get_d ws i d l) (same_list eqb w (get_or ws i d)) k
  where
    at : (times (get_or ws i d) ws ≡ 1 → place (get_or ws i d) ws ≡ i) → 0 < times (get_or ws i d) ws → (b : Bool) → cond b 1 0 + times (get_or ws i d) ws ≡ 1 → cond b 0 (suc (place (get_or ws i d) ws)) ≡ suc i
    at ih some true q = absurd (omega arith)
    at ih some false q = ap suc (ih (omega arith))

abbrev giving : (List ℕ → List Bool) → List Bool → List (List ℕ) → List (List ℕ)
giving f t ws = filter (λ z. same_bits (f z) t) ws

-- the member that stands among those giving t where x stands among those giving what x gives
abbrev partner : (List ℕ → List Bool) → List (List ℕ) → List ℕ → List Bool → List ℕ
partner f ws x t = get_or (giving f t ws) (place x (giving f (f x) ws)) x

module _ {m : ℕ} {Like : List ℕ → List ℕ → Type 0} {members : List ℕ → List (List ℕ)} (listing : Listing m Like members)
    (f : List ℕ → List Bool) (even : EvenOver m members f) (x : List ℕ) (t : List Bool) (hx : Recording m x) (fits : length t ≡ length (f x)) where
  x_once : times x (giving f (f x) (members x)) ≡ 1
  x_once = times_kept (λ z. same_bits (f z) (f x)) x (bits_self (f x)) (members x) ∙ listing.each_once x x hx (listing.itself x hx)

  here : place x (giving f (f x) (members x)) < length (giving f t (members x))
  here =
      omega (
        arith,
        place_below x (giving f (f x) (members x)) (omega (arith, x_once)),
        length_kept (λ z. same_bits (f z) (f x)) (members x),
        length_kept (λ z. same_bits (f z) t) (members x),
        even x hx t (f x) fits,
      )

  partner_like : Like x (partner f (members x) x t)
  partner_like =
      All-get_or (Like x) (giving f t (members x)) (place x (giving f (f x) (members x))) x here
      (all_kept_by (λ z. same_bits (f z) t) (Like x) (members x) (listing.none_else x hx))

  partner_test : same_bits (f (partner f (members x) x t)) t ≡ true
  partner_test =
      All-get_or (λ z. same_bits (f z) t ≡ true) (giving f t (members x)) (place x (giving f (f x) (members x))) x here
      (kept_by_passes (λ z. same_bits (f z) t) (members x))

  partner_gives : f (partner f (members x) x t) ≡ t
  partner_gives = bits_true (f (partner f (members x) x t)) t partner_test

  partner_undone : partner f (members (partner f (members x) x t)) (partner f (members x) x t) (f x) ≡ x
  partner_undone =
      let z = partner f (members x) x t in
      let z-once : times z (giving f t (members x)) ≡ 1 = times_kept (λ w. same_bits (f w) t) z partner_test (members x) ∙ listing.each_once x z hx partner_like in
      let places : place z (giving f t (members x)) ≡ place x (giving f (f x) (members x)) = place_get_d (giving f t (members x)) (place x (giving f (f x) (members x))) x here z-once in
      ap₂ (λ ws u. get_or (giving f (f x) ws) (place z (giving f u ws)) z) (listing.one_class x z hx partner_like) partner_gives
      ∙ ap (λ i. get_or (giving f (f x) (members x)) i z) places
      ∙ get_d_place x (giving f (f x) (members x)) z (omega (arith, x_once))

pub even_exchange : {m : ℕ} {Like : List ℕ → List ℕ → Type 0} {members : List ℕ → List (List ℕ)} → Listing m Like members
    → {f : List ℕ → List Bool} → EvenOver m members f → Exchange m Like f
even_exchange {members = members} listing {f} even = record {
  put = λ x t. partner f (members x) x t;
  like = λ x t h k. partner_like listing f even x t h k;
  gives = λ x t h k. partner_gives listing f even x t h k;
  undone = λ x t h k. partner_undone listing f even x t h k;
}

pub exchange_is_even : ExchangeIsEven
exchange_is_even m f = (exchange_even (count_listing m), even_exchange (count_listing m), exchange_even (markov_listing m), even_exchange (markov_listing m))
