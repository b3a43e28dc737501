-- The Peres layer is even wherever the rule below is: a recording is taken apart into the bits of its pairs, its two lists
-- and its last single code, the lists are exchanged within their own count classes, and all is put together again. Assumes nothing.
use Rattle.std.specs.Prelude.{◌≡◌, ℕ, zero, suc, ◌+◌, ◌-◌, ◌*◌, ◌<◌, ◌≤◌, min, Bool, true, false, cond, not, List, [], ◌∷◌, ◌++◌, length, take, drop, ◌==◌, nat_eq, nat_lt, refl}
use Rattle.std.proofs.Common.{sym, ap, subst, ◌∙◌, zero-add, arith, length-append, length-take, length-drop, eq-eqb}
use Rattle.std.proofs.lemmas.List.{take_at, drop_at, take-append-drop}
use Rattle.std.proofs.lemmas.Bool.{cond-true}
use Rattle.std.proofs.lemmas.Bool.Decides.{nat_tests}
use Rattle.classes.specs.Counting.{one_if}
use Rattle.classes.specs.Recordings.{Codes, Recording, count}
use Rattle.classes.specs.Classes.{CountLike}
use Rattle.classes.specs.Evenness.{Even}
use Rattle.classes.specs.Exchange.{Exchange}
use Rattle.classes.proofs.Exchanges.{exchange_even, even_exchange}
use Rattle.classes.proofs.Listings.{count_listing}
use Rattle.classes.proofs.Yields.{yield_bound}
use Rattle.extractors.specs.Bits.{byte}
use Rattle.extractors.specs.PairsRule.{pairs}
use Rattle.peres.specs.PeresRule.{differ, common, peres}
use Rattle.peres.specs.Pairwise.{differ_codes, common_codes, differ_recorded, common_recorded}

-- A RECORDING AND ITS PARTS

-- the single code behind the last pair
abbrev single : List ℕ → List ℕ
single [] = []
single (a ∷ []) = a ∷ []
single (a ∷ (b ∷ x)) = single x

abbrev code : List ℕ → ℕ
code [] = 0
code (a ∷ v) = a

abbrev other_codes : List ℕ → List ℕ
other_codes [] = []
other_codes (a ∷ v) = v

abbrev bit : List Bool → Bool
bit [] = false
bit (b ∷ s) = b

abbrev other_bits : List Bool → List Bool
other_bits [] = []
other_bits (b ∷ s) = s

-- the recording with these bits of pairs, this differ, this common and this single code
abbrev joined : List Bool → List ℕ → List ℕ → List ℕ → List ℕ
joined s [] v l = l
joined s (c ∷ u) v l = cond (c == 0) (code v ∷ (code v ∷ joined s u (other_codes v) l)) (byte (bit s) ∷ (byte (not (bit s)) ∷ joined (other_bits s) u v l))

-- x has these parts; a differing pair holds each of the codes below 2 once
record HasParts (s : List Bool) (u v l x : List ℕ) : Type 0 where
  first : pairs x ≡ s
  second : differ x ≡ u
  third : common x ≡ v
  rest : single x ≡ l
  coins : Codes 2 x
  long : length x ≡ 2 * length u + length l
  often : (c : ℕ) → count c x ≡ cond (nat_lt c 2) (count 1 u) 0 + (2 * count c v + count c l)

none_of : (c : ℕ) → ◌≡◌ {A = ℕ} (cond (nat_lt c 2) 0 0) 0
none_of c = grind (arith, nat_tests)

no_more : (c n : ℕ) → cond (nat_lt c 2) (0 + n) 0 ≡ cond (nat_lt c 2) n 0
no_more c n = ap (λ k. cond (nat_lt c 2) k 0) (zero-add n)

each_once : (c n : ℕ) → cond (nat_lt c 2) (1 + n) 0 ≡ one_if (1 == c) + (one_if (0 == c) + cond (nat_lt c 2) n 0)
each_once c n = grind (arith, nat_tests)

single_parts : (l : List ℕ) → Codes 2 l → length l < 2 → HasParts [] [] [] l l
single_parts [] r h = record { first = refl; second = refl; third = refl; rest = refl; coins = tt; long = refl; often = λ c. omega (arith, none_of c) }
single_parts (a ∷ []) r h = record { first = refl; second = refl; third = refl; rest = refl; coins = r; long = refl; often = λ c. omega (arith, none_of c) }
single_parts (a ∷ (b ∷ l)) r h = absurd (omega arith)

agreeing_parts : (s : List Bool) (u v l x : List ℕ) (a : ℕ) → a < 2 → HasParts s u v l x → HasParts s (0 ∷ u) (a ∷ v) l (a ∷ (a ∷ x))
agreeing_parts s u v l x a h p =
    let t : nat_eq a a ≡ true = eq-eqb a a refl in
    record {
      first = cond-true (a == a) (pairs x) (nat_lt a a ∷ pairs x) t ∙ p.first;
      second = ap (λ b. cond b 0 1 ∷ differ x) t ∙ ap (λ r. 0 ∷ r) p.second;
      third = cond-true (a == a) (a ∷ common x) (common x) t ∙ ap (λ r. a ∷ r) p.third;
      rest = p.rest;
      coins = (h, (h, p.coins));
      long = omega (arith, p.long);
      often = λ c. omega (arith, p.often c, no_more c (count 1 u));
    }

differing_parts : (b : Bool) (s : List Bool) (u v l x : List ℕ) → HasParts s u v l x → HasParts (b ∷ s) (1 ∷ u) v l (byte b ∷ (byte (not b) ∷ x))
differing_parts true s u v l x p =
    record {
      first = ap (λ r. true ∷ r) p.first;
      second = ap (λ r. 1 ∷ r) p.second;
      third = p.third;
      rest = p.rest;
      coins = (omega arith, (omega arith, p.coins));
      long = omega (arith, p.long);
      often = λ c. omega (arith, p.often c, each_once c (count 1 u));
    }
differing_parts false s u v l x p =
    record {
      first = ap (λ r. false ∷ r) p.first;
      second = ap (λ r. 1 ∷ r) p.second;
      third = p.third;
      rest = p.rest;
      coins = (omega arith, (omega arith, p.coins));
      long = omega (arith, p.long);
      often = λ c. omega (arith, p.often c, each_once c (count 1 u));
    }

-- parts that fit each other are those of what they are joined to
joined_parts : (s : List Bool) (u v l : List ℕ) → Codes 2 u → Codes 2 v → Codes 2 l → length l < 2 → length s ≡ count 1 u → length v ≡ count 0 u → HasParts s u v l (joined s u v l)
joined_parts [] [] [] l hu hv hl h e d = single_parts l hl h
joined_parts [] [] (a ∷ v) l hu hv hl h e d = absurd (omega arith)
joined_parts (b ∷ s) [] v l hu hv hl h e d = absurd (omega arith)
joined_parts s (zero ∷ u) [] l hu hv hl h e d = absurd (omega arith)
joined_parts s (zero ∷ u) (a ∷ v) l hu hv hl h e d = agreeing_parts s u v l (joined s u v l) a hv.0 (joined_parts s u v l hu.1 hv.1 hl h (omega arith) (omega arith))
joined_parts [] (suc zero ∷ u) v l hu hv hl h e d = absurd (omega arith)
joined_parts (b ∷ s) (suc zero ∷ u) v l hu hv hl h e d = differing_parts b s u v l (joined s u v l) (joined_parts s u v l hu.1 hv hl h (omega arith) (omega arith))
joined_parts s (suc (suc c) ∷ u) v l hu hv hl h e d = absurd (omega (arith, hu.0))

-- a recording of coins is joined of its own parts, which fit each other
record CutApart (x : List ℕ) : Type 0 where
  whole : joined (pairs x) (differ x) (common x) (single x) ≡ x
  short : length (single x) < 2
  coin : Codes 2 (single x)
  ones : length (pairs x) ≡ count 1 (differ x)
  zeros : length (common x) ≡ count 0 (differ x)

cut_apart : (x : List ℕ) → Codes 2 x → CutApart x
cut_apart [] h = record { whole = refl; short = omega arith; coin = tt; ones = refl; zeros = refl }
cut_apart (a ∷ []) h = record { whole = refl; short = omega arith; coin = h; ones = refl; zeros = refl }
cut_apart (zero ∷ (zero ∷ x)) h = let p = cut_apart x h.1.1 in record { whole = ap (λ z. 0 ∷ (0 ∷ z)) p.whole; short = p.short; coin = p.coin; ones = omega (arith, p.ones); zeros = omega (arith, p.zeros) }
cut_apart (zero ∷ (suc zero ∷ x)) h = let p = cut_apart x h.1.1 in record { whole = ap (λ z. 0 ∷ (1 ∷ z)) p.whole; short = p.short; coin = p.coin; ones = omega (arith, p.ones); zeros = omega (arith, p.zeros) }
cut_apart (suc zero ∷ (zero ∷ x)) h = let p = cut_apart x h.1.1 in record { whole = ap (λ z. 1 ∷ (0 ∷ z)) p.whole; short = p.short; coin = p.coin; ones = omega (arith, p.ones); zeros = omega (arith, p.zeros) }
cut_apart (suc zero ∷ (suc zero ∷ x)) h = let p = cut_apart x h.1.1 in record { whole = ap (λ z. 1 ∷ (1 ∷ z)) p.whole; short = p.short; coin = p.coin; ones = omega (arith, p.ones); zeros = omega (arith, p.zeros) }
cut_apart (zero ∷ (suc (suc b) ∷ x)) h = absurd (omega (arith, h.1.0))
cut_apart (suc zero ∷ (suc (suc b) ∷ x)) h = absurd (omega (arith, h.1.0))
cut_apart (suc (suc a) ∷ (b ∷ x)) h = absurd (omega (arith, h.0))

own_parts : (x : List ℕ) → Codes 2 x → HasParts (pairs x) (differ x) (common x) (single x) x
own_parts x h =
    let p = cut_apart x h in
    subst (HasParts (pairs x) (differ x) (common x) (single x)) p.whole (joined_parts (pairs x) (differ x) (common x) (single x) (differ_codes x) (common_codes 2 x h) p.coin p.short p.ones p.zeros)

-- ONE STEP OVER A RULE h

abbrev step : (List ℕ → List Bool) → List ℕ → List Bool
step h x = pairs x ++ (h (differ x) ++ h (common x))

module _ (h : List ℕ → List Bool) (ex : Exchange 2 (CountLike 2) h) where
  -- the bits t for x, cut where the bits of pairs and those of differ end
  abbrev t₁ : List ℕ → List Bool → List Bool
  t₁ x t = take (length (pairs x)) t

  abbrev t₂ : List ℕ → List Bool → List Bool
  t₂ x t = take (length (h (differ x))) (drop (length (pairs x)) t)

  abbrev t₃ : List ℕ → List Bool → List Bool
  t₃ x t = drop (length (h (differ x))) (drop (length (pairs x)) t)

  abbrev put_step : List ℕ → List Bool → List ℕ
  put_step x t = joined (t₁ x t) (ex.put (differ x) (t₂ x t)) (ex.put (common x) (t₃ x t)) (single x)

  module _ (x : List ℕ) (t : List Bool) (rec : Recording 2 x) (fits : length t ≡ length (step h x)) where
    long_t : length t ≡ length (pairs x) + (length (h (differ x)) + length (h (common x)))
    long_t = fits ∙ length-append (pairs x) (h (differ x) ++ h (common x)) ∙ ap (λ n. length (pairs x) + n) (length-append (h (differ x)) (h (common x)))

    long₁ : length (t₁ x t) ≡ length (pairs x)
    long₁ = length-take (length (pairs x)) t ∙ omega (arith, long_t)

    long₂ : length (t₂ x t) ≡ length (h (differ x))
    long₂ = length-take (length (h (differ x))) (drop (length (pairs x)) t) ∙ ap (min (length (h (differ x)))) (length-drop (length (pairs x)) t) ∙ omega (arith, long_t)

    long₃ : length (t₃ x t) ≡ length (h (common x))
    long₃ = length-drop (length (h (differ x))) (drop (length (pairs x)) t) ∙ ap (λ n. n - length (h (differ x))) (length-drop (length (pairs x)) t) ∙ omega (arith, long_t)

    like_differ : CountLike 2 (differ x) (ex.put (differ x) (t₂ x t))
    like_differ = ex.like (differ x) (t₂ x t) (differ_recorded x rec) long₂

    like_common : CountLike 2 (common x) (ex.put (common x) (t₃ x t))
    like_common = ex.like (common x) (t₃ x t) (common_recorded x rec) long₃

    put_parts : HasParts (t₁ x t) (ex.put (differ x) (t₂ x t)) (ex.put (common x) (t₃ x t)) (single x) (put_step x t)
    put_parts =
        let p = cut_apart x rec.0 in
        joined_parts (t₁ x t) (ex.put (differ x) (t₂ x t)) (ex.put (common x) (t₃ x t)) (single x) like_differ.0 like_common.0 p.coin p.short
        (long₁ ∙ p.ones ∙ sym (like_differ.2 1)) (like_common.1 ∙ p.zeros ∙ sym (like_differ.2 0))

    step_like : CountLike 2 x (put_step x t)
    step_like =
        let own = own_parts x rec.0 in (
          put_parts.coins,
          omega (arith, put_parts.long, own.long, like_differ.1),
          λ c. put_parts.often c ∙ ap (λ n. cond (nat_lt c 2) n 0 + (2 * count c (ex.put (common x) (t₃ x t)) + count c (single x))) (like_differ.2 1)
              ∙ ap (λ n. cond (nat_lt c 2) (count 1 (differ x)) 0 + (2 * n + count c (single x))) (like_common.2 c) ∙ sym (own.often c),
        )

    gives₂ : h (differ (put_step x t)) ≡ t₂ x t
    gives₂ = ap h put_parts.second ∙ ex.gives (differ x) (t₂ x t) (differ_recorded x rec) long₂

    gives₃ : h (common (put_step x t)) ≡ t₃ x t
    gives₃ = ap h put_parts.third ∙ ex.gives (common x) (t₃ x t) (common_recorded x rec) long₃

    step_gives : step h (put_step x t) ≡ t
    step_gives =
        ap (λ s. s ++ (h (differ (put_step x t)) ++ h (common (put_step x t)))) put_parts.first
        ∙ ap (λ s. t₁ x t ++ (s ++ h (common (put_step x t)))) gives₂
        ∙ ap (λ s. t₁ x t ++ (t₂ x t ++ s)) gives₃
        ∙ ap (λ s. t₁ x t ++ s) (take-append-drop (length (h (differ x))) (drop (length (pairs x)) t))
        ∙ take-append-drop (length (pairs x)) t

    -- the partner's bits are cut where those of x are, so that what x gives comes apart as x does
    step_undone : put_step (put_step x t) (step h x) ≡ x
    step_undone =
        let y = put_step x t in
        let own = step h x in
        let n₁ : length (pairs y) ≡ length (pairs x) = ap length put_parts.first ∙ long₁ in
        let n₂ : length (h (differ y)) ≡ length (h (differ x)) = ap length gives₂ ∙ long₂ in
        let behind : drop (length (pairs y)) own ≡ h (differ x) ++ h (common x) = drop_at (pairs x) (h (differ x) ++ h (common x)) (length (pairs y)) (sym n₁) in
        let s₁ : t₁ y own ≡ pairs x = take_at (pairs x) (h (differ x) ++ h (common x)) (length (pairs y)) (sym n₁) in
        let s₂ : t₂ y own ≡ h (differ x) = ap (take (length (h (differ y)))) behind ∙ take_at (h (differ x)) (h (common x)) (length (h (differ y))) (sym n₂) in
        let s₃ : t₃ y own ≡ h (common x) = ap (drop (length (h (differ y)))) behind ∙ drop_at (h (differ x)) (h (common x)) (length (h (differ y))) (sym n₂) in
        let u : ex.put (differ y) (t₂ y own) ≡ differ x = ap (λ z. ex.put z (t₂ y own)) put_parts.second ∙ ap (ex.put (ex.put (differ x) (t₂ x t))) s₂ ∙ ex.undone (differ x) (t₂ x t) (differ_recorded x rec) long₂ in
        let v : ex.put (common y) (t₃ y own) ≡ common x = ap (λ z. ex.put z (t₃ y own)) put_parts.third ∙ ap (ex.put (ex.put (common x) (t₃ x t))) s₃ ∙ ex.undone (common x) (t₃ x t) (common_recorded x rec) long₃ in
        ap (λ z. joined z (ex.put (differ y) (t₂ y own)) (ex.put (common y) (t₃ y own)) (single y)) s₁
        ∙ ap (λ z. joined (pairs x) z (ex.put (common y) (t₃ y own)) (single y)) u
        ∙ ap (λ z. joined (pairs x) (differ x) z (single y)) v
        ∙ ap (λ z. joined (pairs x) (differ x) (common x) z) put_parts.rest
        ∙ (cut_apart x rec.0).whole

  step_exchange : Exchange 2 (CountLike 2) (step h)
  step_exchange = record { put = put_step; like = step_like; gives = step_gives; undone = step_undone }

-- EVERY DEPTH

peres_exchange : (d : ℕ) (f : List ℕ → List Bool) → Exchange 2 (CountLike 2) f → Exchange 2 (CountLike 2) (peres d f)
peres_exchange zero f ex = ex
peres_exchange (suc d) f ex = step_exchange (peres d f) (peres_exchange d f ex)

pub peres_even : (d : ℕ) (f : List ℕ → List Bool) → Even 2 f → Even 2 (peres d f)
peres_even d f even = exchange_even (count_listing 2) (peres_exchange d f (even_exchange (count_listing 2) even))

-- WHAT THE LAW SAYS OF THE YIELD

pub peres_bound : (d : ℕ) (f : List ℕ → List Bool) → Even 2 f → (x : List ℕ) → Recording 2 x → length (peres d f x) ≤ length x
peres_bound d f even x rec = omega (arith, yield_bound 2 (omega arith, omega arith) (peres d f) (peres_even d f even) x rec)

pub peres_empty : (d : ℕ) (f : List ℕ → List Bool) → Even 2 f → (x : List ℕ) → Recording 2 x → length x ≡ 0 → peres d f x ≡ []
peres_empty d f even x rec e = empty (peres d f x) (omega (arith, peres_bound d f even x rec))
  where
    empty : (s : List Bool) → length s ≤ 0 → s ≡ []
    empty [] h = refl
    empty (b ∷ s) h = absurd (omega arith)
