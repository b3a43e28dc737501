-- The Blum layer is even on every Markov class, and so on every count class. Assumes nothing.
use Rattle.std.specs.Prelude.{◌≡◌, ℕ, suc, ◌+◌, ◌<◌, ◌≤◌, Bool, List, [], ◌∷◌, length, ◌==◌, refl}
use Rattle.std.proofs.Common.{sym, ap, ap₂, ◌∙◌, mul-zero, arith}
use Rattle.std.proofs.lemmas.Bool.{ne_eqb}
use Rattle.classes.specs.Counting.{one_if}
use Rattle.classes.specs.Recordings.{Sized, Codes, Recording, width, count, final}
use Rattle.classes.specs.Classes.{CountLike, MarkovLike}
use Rattle.classes.specs.Evenness.{Even, EvenChains}
use Rattle.classes.specs.Exchange.{Exchange}
use Rattle.classes.proofs.Exchanges.{exchange_even, even_exchange}
use Rattle.classes.proofs.Listings.{count_listing, markov_listing}
use Rattle.classes.proofs.Yields.{yield_bound}
use Rattle.extractors.specs.Lanes.{lane_from, kept, blum}
use Rattle.blum.specs.Totals.{total_same}
use Rattle.extractors.proofs.Gathers.{gather_same, gather_none, gather_decides, parts, length_parts, gather_parts}
use Rattle.blum.specs.Lanes.{codes_lane, lane_short, steps_lane, arrivals, codes_decide}
use Rattle.blum.specs.Walks.{Rearranged, walk, WalkedOver, rewalk, rewalk_length}
use Rattle.blum.specs.Keeps.{part, codes_part, part_short, rejoin, codes_rejoin, rejoin_part, part_rejoin, rejoin_rejoin, count_rejoin, final_rejoin}

-- what is kept of a lane is a recording
pub kept_recording : (m : ℕ) (x : List ℕ) (s : ℕ) → Recording m x → Recording m (kept s x)
kept_recording m [] s h = at (0 == s)
  where
    at : (whole : Bool) → Recording m (part whole [])
    at whole = (codes_part m whole [] tt, omega (arith, part_short whole []))
kept_recording m (a ∷ y) s h =
    let few : suc (length y) ≤ 4096 = h.1 in
    (codes_part m (final a y == s) (lane_from s a y) (codes_lane m a y s h.0.1), omega (arith, part_short (final a y == s) (lane_from s a y), lane_short s a y))

nothing : (t : List Bool) → length t ≤ 0 → t ≡ []
nothing [] h = refl
nothing (b ∷ t) h = absurd (omega arith)

-- what is even gives nothing of no codes
none_of_none : (m : ℕ) (f : List ℕ → List Bool) → Sized m → Even m f → f [] ≡ []
none_of_none m f sized even = nothing (f []) (omega (arith, yield_bound m sized f even [] (tt, omega arith), mul-zero (width m)))

-- THE PARTNER: other exits in every lane, and the walk over these lanes

module _ (m : ℕ) (f : List ℕ → List Bool) (put : List ℕ → List Bool → List ℕ) where
  abbrev bits_of : List ℕ → ℕ → List Bool
  bits_of x s = f (kept s x)

  -- the exits, and the lanes, for other bits t
  abbrev other : List ℕ → List Bool → ℕ → List ℕ
  other x t s = put (kept s x) (parts m (bits_of x) t s)

  abbrev others : ℕ → List ℕ → List Bool → ℕ → List ℕ
  others a y t s = rejoin (final a y == s) (other (a ∷ y) t s) (lane_from s a y)

  abbrev put_after : ℕ → List ℕ → List Bool → List ℕ
  put_after a y t = walk (length y) a (others a y t)

  abbrev put_blum : List ℕ → List Bool → List ℕ
  put_blum [] t = []
  put_blum (a ∷ y) t = a ∷ put_after a y t

module _ (m : ℕ) (f : List ℕ → List Bool) (ex : Exchange m (CountLike m) f) (a : ℕ) (y : List ℕ) (hx : Recording m (a ∷ y))
    (t : List Bool) (fits : length t ≡ length (blum m f (a ∷ y))) where
  abbrev x : List ℕ
  x = a ∷ y

  abbrev z : List ℕ
  z = put_after m f ex.put a y t

  abbrev given : ℕ → List Bool
  given = parts m (bits_of m f ex.put x) t

  part_fits : (s : ℕ) → length (given s) ≡ length (f (kept s x))
  part_fits s = length_parts m (bits_of m f ex.put x) t fits s

  other_like : (s : ℕ) → CountLike m (kept s x) (other m f ex.put x t s)
  other_like s = ex.like (kept s x) (given s) (kept_recording m x s hx) (part_fits s)

  rearranged : Rearranged m a y (others m f ex.put a y t)
  rearranged = record {
    codes = λ s. codes_rejoin m (final a y == s) (other m f ex.put x t s) (lane_from s a y) (other_like s).0 (codes_lane m a y s hx.0.1);
    counts = λ s c. count_rejoin (final a y == s) (other m f ex.put x t s) (lane_from s a y) c ((other_like s).2 c);
    lasts = λ s ne. final_rejoin (final a y == s) (other m f ex.put x t s) (lane_from s a y) s (ne_eqb (final a y) s ne);
  }

  walked : WalkedOver m a (final a y) (others m f ex.put a y t) z
  walked = rewalk m a y (others m f ex.put a y t) hx.0.0 hx.0.1 rearranged

  kept_after : (s : ℕ) → kept s (a ∷ z) ≡ other m f ex.put x t s
  kept_after s =
      ap₂ (λ e l. part (e == s) l) walked.ends (walked.lanes s)
      ∙ part_rejoin (final a y == s) (other m f ex.put x t s) (lane_from s a y) (other_like s).1

  bits_after : (s : ℕ) → f (kept s (a ∷ z)) ≡ given s
  bits_after s = ap f (kept_after s) ∙ ex.gives (kept s x) (given s) (kept_recording m x s hx) (part_fits s)

  gives_after : blum m f (a ∷ z) ≡ t
  gives_after = gather_same m (bits_of m f ex.put (a ∷ z)) given (λ s k. bits_after s) ∙ gather_parts m (bits_of m f ex.put x) t fits

  length_after : length z ≡ length y
  length_after = rewalk_length m a y z (others m f ex.put a y t) hx.0.0 hx.0.1 rearranged walked

  like_after : MarkovLike m x (a ∷ z)
  like_after = (
    (hx.0.0, walked.codes),
    ap suc length_after,
    refl,
    walked.ends,
    λ s c. steps_lane s c a z ∙ ap (count c) (walked.lanes s) ∙ rearranged.counts s c ∙ sym (steps_lane s c a y),
  )

module _ (m : ℕ) (f : List ℕ → List Bool) (ex : Exchange m (CountLike m) f) (a : ℕ) (y : List ℕ) (hx : Recording m (a ∷ y))
    (t : List Bool) (fits : length t ≡ length (blum m f (a ∷ y))) where
  undone_after : put_after m f ex.put a (put_after m f ex.put a y t) (blum m f (a ∷ y)) ≡ y
  undone_after =
      let put = ex.put in
      let z = put_after m f put a y t in
      let u = blum m f (a ∷ y) in
      let w = walked m f ex a y hx t fits in
      let hz : Recording m (a ∷ z) = (markov_listing m).recorded (a ∷ y) (a ∷ z) hx (like_after m f ex a y hx t fits) in
      let fits-z : length u ≡ length (blum m f (a ∷ z)) = sym fits ∙ ap length (sym (gives_after m f ex a y hx t fits)) in
      let back = walked m f ex a z hz u fits-z in
      let old = bits_of m f put (a ∷ y) in
      let new = parts m (bits_of m f put (a ∷ z)) u in
      let lengths : (s : ℕ) → length (new s) ≡ length (old s) =
      λ s. length_parts m (bits_of m f put (a ∷ z)) u fits-z s ∙ ap length (bits_after m f ex a y hx t fits s) ∙ part_fits m f ex a y hx t fits s in
      let old-parts : (s : ℕ) → s < m → new s ≡ old s = gather_decides m new old lengths (gather_parts m (bits_of m f put (a ∷ z)) u fits-z) in
      codes_decide m a (put_after m f put a z u) y hx.0.0 back.codes hx.0.1
      (λ s k. back.lanes s
      ∙ ap₂ (λ e l. rejoin (e == s) (put (kept s (a ∷ z)) (new s)) l) w.ends (w.lanes s)
      ∙ rejoin_rejoin (final a y == s) (put (kept s (a ∷ z)) (new s)) (other m f put (a ∷ y) t s) (lane_from s a y)
      ∙ ap (λ l. rejoin (final a y == s) l (lane_from s a y))
      (ap₂ put (kept_after m f ex a y hx t fits s) (old-parts s k)
      ∙ ex.undone (kept s (a ∷ y)) (parts m old t s) (kept_recording m (a ∷ y) s hx) (part_fits m f ex a y hx t fits s))
      ∙ rejoin_part (final a y == s) (lane_from s a y))

-- THE EXCHANGE

module _ (m : ℕ) (f : List ℕ → List Bool) (sized : Sized m) (even : Even m f) where
  below : Exchange m (CountLike m) f
  below = even_exchange (count_listing m) even

  pub blum_none : blum m f [] ≡ []
  blum_none = gather_none m (λ s. f (kept s [])) (λ s. ap f (at (0 == s)) ∙ none_of_none m f sized even)
    where
      at : (whole : Bool) → part whole [] ≡ []
      at whole = nothing_kept (part whole []) (omega (arith, part_short whole []))
        where
          nothing_kept : (l : List ℕ) → length l ≤ 0 → l ≡ []
          nothing_kept [] h = refl
          nothing_kept (b ∷ l) h = absurd (omega arith)

  like : (x : List ℕ) (t : List Bool) → Recording m x → length t ≡ length (blum m f x) → MarkovLike m x (put_blum m f below.put x t)
  like [] t h k = (markov_listing m).itself [] h
  like (a ∷ y) t h k = like_after m f below a y h t k

  gives : (x : List ℕ) (t : List Bool) → Recording m x → length t ≡ length (blum m f x) → blum m f (put_blum m f below.put x t) ≡ t
  gives [] t h k = blum_none ∙ sym (nothing t (omega (arith, ap length blum_none)))
  gives (a ∷ y) t h k = gives_after m f below a y h t k

  undone : (x : List ℕ) (t : List Bool) → Recording m x → length t ≡ length (blum m f x) → put_blum m f below.put (put_blum m f below.put x t) (blum m f x) ≡ x
  undone [] t h k = refl
  undone (a ∷ y) t h k = ap (λ z. a ∷ z) (undone_after m f below a y h t k)

  chain_exchange : Exchange m (MarkovLike m) (blum m f)
  chain_exchange = record { put = put_blum m f below.put; like = like; gives = gives; undone = undone }

-- A MARKOV PARTNER IS A COUNT PARTNER

markov_count : (m : ℕ) (x z : List ℕ) → Codes m x → MarkovLike m x z → CountLike m x z
markov_count m [] [] hx h = (tt, refl, λ c. refl)
markov_count m [] (b ∷ z) hx h = let n : length (b ∷ z) ≡ 0 = h.1 in absurd (omega arith)
markov_count m (a ∷ y) [] hx h = let n : 0 ≡ length (a ∷ y) = h.1 in absurd (omega arith)
markov_count m (a ∷ y) (b ∷ z) hx h = (h.0, h.1, λ c. ap₂ ◌+◌ (ap (λ d. one_if (d == c)) h.2) (arrived c))
  where
    arrived : (c : ℕ) → count c z ≡ count c y
    arrived c =
        sym (arrivals m b z c h.0.0 h.0.1)
        ∙ total_same m (λ s. count c (lane_from s b z)) (λ s. count c (lane_from s a y)) (λ s. sym (steps_lane s c b z) ∙ h.4 s c ∙ steps_lane s c a y)
        ∙ arrivals m a y c hx.0 hx.1

pub blum_chains : (m : ℕ) (f : List ℕ → List Bool) → Sized m → Even m f → EvenChains m (blum m f)
blum_chains m f sized even = exchange_even (markov_listing m) (chain_exchange m f sized even)

pub blum_counts : (m : ℕ) (f : List ℕ → List Bool) → Sized m → Even m f → Even m (blum m f)
blum_counts m f sized even =
    let ex = chain_exchange m f sized even in
    exchange_even (count_listing m) (record {
      put = ex.put;
      like = λ x t h k. markov_count m x (ex.put x t) h.0 (ex.like x t h k);
      gives = ex.gives;
      undone = ex.undone;
    })
