-- The split layer keeps the even law: by induction on the last bit, each node exchanged in its own count class. Assumes nothing.
use Rattle.std.specs.Prelude.{◌≡◌, ℕ, zero, suc, ◌-◌, ◌*◌, ◌/◌, ◌%◌, ◌^◌, ◌<◌, ◌≤◌, Bool, true, false, cond, List, [], ◌∷◌, ◌++◌, map, length, take, drop, filter, ◌==◌, nat_eq, refl}
use Rattle.std.proofs.Common.{sym, ap, ap₂, subst, ◌∙◌, arith, length-append, take-append-drop, length-take, length-drop}
use Rattle.std.proofs.Math.Path.{fun_ext}
use Rattle.std.proofs.Math.Nat.{pow-succ', div-div-eq-div-mul}
use Rattle.std.proofs.lemmas.List.{take_at, drop_at, length-map}
use Rattle.classes.specs.Recordings.{Codes, Recording, Sized, width, count}
use Rattle.classes.specs.Classes.{CountLike}
use Rattle.classes.specs.Evenness.{Even}
use Rattle.classes.specs.Exchange.{Exchange}
use Rattle.classes.proofs.Exchanges.{exchange_even, even_exchange}
use Rattle.classes.proofs.Listings.{count_listing}
use Rattle.classes.proofs.Widths.{width_least}
use Rattle.extractors.specs.Bits.{gather}
use Rattle.split.specs.SplitRule.{prefix, next_bit, node, level, split}
use Rattle.extractors.proofs.Gathers.{gather_same, length_gather, gather_decides, parts, length_parts, gather_parts}
use Rattle.split.specs.Halving.{halves, lows, merge, halves_recorded, lows_recorded, length_lows, count_lows, codes_kept, halves_merge, lows_merge, merge_same, merge_lows}

-- ONE BIT MORE: g on the halves, then f on the last bits of each half

module _ (n : ℕ) (g f : List ℕ → List Bool) (eg : Exchange n (CountLike n) g) (ef : Exchange 2 (CountLike 2) f) where
  abbrev deeper : List ℕ → List Bool
  deeper x = g (halves x) ++ gather n (λ p. f (lows x p))

  abbrev bits : List ℕ → ℕ → List Bool
  bits x p = f (lows x p)

  abbrev top : List ℕ → ℕ
  top x = length (g (halves x))

  -- the part of t that the last bits of half p are to give
  abbrev part : List ℕ → List Bool → ℕ → List Bool
  part x t p = parts n (bits x) (drop (top x) t) p

  abbrev halves_for : List ℕ → List Bool → List ℕ
  halves_for x t = eg.put (halves x) (take (top x) t)

  abbrev lows_for : List ℕ → List Bool → ℕ → List ℕ
  lows_for x t p = ef.put (lows x p) (part x t p)

  abbrev put_for : List ℕ → List Bool → List ℕ
  put_for x t = merge (halves_for x t) (lows_for x t)

  module _ (x : List ℕ) (t : List Bool) (r : Recording (2 * n) x) (fits : length t ≡ length (deeper x)) where
    rh : Recording n (halves x)
    rh = halves_recorded n x r

    rl : (p : ℕ) → Recording 2 (lows x p)
    rl p = lows_recorded x p r.1

    fits_top : length (take (top x) t) ≡ top x
    fits_top = omega (arith, length-take (top x) t, length-append (g (halves x)) (gather n (bits x)))

    fits_all : length (drop (top x) t) ≡ length (gather n (bits x))
    fits_all = omega (arith, length-drop (top x) t, length-append (g (halves x)) (gather n (bits x)))

    fits_part : (p : ℕ) → length (part x t p) ≡ length (f (lows x p))
    fits_part p = length_parts n (bits x) (drop (top x) t) fits_all p

    like_top : CountLike n (halves x) (halves_for x t)
    like_top = eg.like (halves x) (take (top x) t) rh fits_top

    like_part : (p : ℕ) → CountLike 2 (lows x p) (lows_for x t p)
    like_part p = ef.like (lows x p) (part x t p) (rl p) (fits_part p)

    halves_put : halves (put_for x t) ≡ halves_for x t
    halves_put = halves_merge (halves_for x t) (lows_for x t) (λ q. (like_part q).0)

    lows_put : (q : ℕ) → lows (put_for x t) q ≡ lows_for x t q
    lows_put q = lows_merge (halves_for x t) (lows_for x t) (λ p. (like_part p).0) (λ p. (like_part p).1 ∙ length_lows x p ∙ sym (like_top.2 p)) q

    counts_put : (c : ℕ) → count c (put_for x t) ≡ count c x
    counts_put c = count_lows (put_for x t) c ∙ ap (count (c % 2)) (lows_put (c / 2)) ∙ (like_part (c / 2)).2 (c % 2) ∙ sym (count_lows x c)

    like_put : CountLike (2 * n) x (put_for x t)
    like_put = (
      codes_kept (2 * n) x (put_for x t) r.0 counts_put,
      sym (length-map (put_for x t) (λ c. c / 2)) ∙ ap length halves_put ∙ like_top.1 ∙ length-map x (λ c. c / 2),
      counts_put,
    )

    bits_put : (p : ℕ) → bits (put_for x t) p ≡ part x t p
    bits_put p = ap f (lows_put p) ∙ ef.gives (lows x p) (part x t p) (rl p) (fits_part p)

    top_put : g (halves (put_for x t)) ≡ take (top x) t
    top_put = ap g halves_put ∙ eg.gives (halves x) (take (top x) t) rh fits_top

    gives_put : deeper (put_for x t) ≡ t
    gives_put =
        ap₂ ◌++◌ top_put (gather_same n (bits (put_for x t)) (part x t) (λ p k. bits_put p) ∙ gather_parts n (bits x) (drop (top x) t) fits_all)
        ∙ take-append-drop (top x) t

    undone_put : put_for (put_for x t) (deeper x) ≡ x
    undone_put =
        let z = put_for x t in
        let u = gather n (bits x) in
        let same-top : top z ≡ top x = ap length top_put ∙ fits_top in
        let fore : take (top z) (deeper x) ≡ g (halves x) = take_at (g (halves x)) u (top z) (sym same-top) in
        let back : drop (top z) (deeper x) ≡ u = drop_at (g (halves x)) u (top z) (sym same-top) in
        let lengths : (p : ℕ) → length (bits z p) ≡ length (bits x p) = λ p. ap length (bits_put p) ∙ fits_part p in
        let fits-u : length u ≡ length (gather n (bits z)) = length_gather n (bits x) (bits z) (λ p. sym (lengths p)) in
        let old : (p : ℕ) → p < n → parts n (bits z) u p ≡ bits x p =
        gather_decides n (parts n (bits z) u) (bits x) (λ p. length_parts n (bits z) u fits-u p ∙ lengths p) (gather_parts n (bits z) u fits-u) in
        ap (λ y. merge y (lows_for z (deeper x))) (ap₂ eg.put halves_put fore ∙ eg.undone (halves x) (take (top x) t) rh fits_top)
        ∙ merge_same n (halves x) (lows_for z (deeper x)) (lows x) rh.0
        (λ p k. ap₂ ef.put (lows_put p) (ap (λ v. parts n (bits z) v p) back ∙ old p k) ∙ ef.undone (lows x p) (part x t p) (rl p) (fits_part p))
        ∙ merge_lows n x r.0

  deeper_exchange : Exchange (2 * n) (CountLike (2 * n)) deeper
  deeper_exchange = record { put = put_for; like = like_put; gives = gives_put; undone = undone_put }

-- THE RULE, ONE BIT MORE AT THE END

prefix_half : (w d c : ℕ) → d ≤ w → prefix (suc w) d c ≡ prefix w d (c / 2)
prefix_half w d c h =
    let e : suc w - d ≡ suc (w - d) = omega arith in
    ap (λ k. c / 2 ^ k) e ∙ ap (λ k. c / k) (pow-succ' 2 (w - d)) ∙ sym (div-div-eq-div-mul c 2 (2 ^ (w - d)))

node_half : (w d p : ℕ) → d < w → (x : List ℕ) → node (suc w) d p x ≡ node w d p (halves x)
node_half w d p h [] = refl
node_half w d p h (c ∷ x) =
    ap (λ a. map (next_bit (suc w) d) (cond (a == p) (c ∷ filter (λ b. nat_eq (prefix (suc w) d b) p) x) (filter (λ b. nat_eq (prefix (suc w) d b) p) x))) (prefix_half w d c (omega arith))
    ∙ at (prefix w d (c / 2) == p) (node_half w d p h x)
  where
    at : (b : Bool) → node (suc w) d p x ≡ node w d p (halves x)
        → map (next_bit (suc w) d) (cond b (c ∷ filter (λ a. nat_eq (prefix (suc w) d a) p) x) (filter (λ a. nat_eq (prefix (suc w) d a) p) x))
        ≡ map (next_bit w d) (cond b ((c / 2) ∷ filter (λ a. nat_eq (prefix w d a) p) (halves x)) (filter (λ a. nat_eq (prefix w d a) p) (halves x)))
    at true ih = ap₂ (λ a l. (a % 2) ∷ l) (prefix_half w (suc d) c (omega arith)) ih
    at false ih = ih

prefix_all : (w c : ℕ) → prefix w w c ≡ c
prefix_all w c =
    let e : w - w ≡ 0 = omega arith in
    let one : c / 1 ≡ c = omega arith in
    ap (λ k. c / 2 ^ k) e ∙ one

prefix_but_one : (w c : ℕ) → prefix (suc w) w c ≡ c / 2
prefix_but_one w c = let e : suc w - w ≡ 1 = omega arith in ap (λ k. c / 2 ^ k) e

node_last : (w p : ℕ) (x : List ℕ) → node (suc w) w p x ≡ lows x p
node_last w p x =
    ap₂ (λ (b a : ℕ → ℕ). map (λ c. b c % 2) (filter (λ c. nat_eq (a c) p) x)) (fun_ext (prefix_all (suc w))) (fun_ext (prefix_but_one w))

split_deeper : (f : List ℕ → List Bool) (w : ℕ) (x : List ℕ) → split w f (halves x) ++ gather (2 ^ w) (λ p. f (lows x p)) ≡ split (suc w) f x
split_deeper f w x = sym (ap₂ ◌++◌
    (gather_same w (λ d. level (suc w) d f x) (λ d. level w d f (halves x)) (λ d h. gather_same (2 ^ d) (λ p. f (node (suc w) d p x)) (λ p. f (node w d p (halves x))) (λ p k. ap f (node_half w d p h x))))
    (gather_same (2 ^ w) (λ p. f (node (suc w) w p x)) (λ p. f (lows x p)) (λ p k. ap f (node_last w p x))))

-- THE LAW

-- a function that is equal everywhere
exchange_same : (m : ℕ) (f g : List ℕ → List Bool) → ((x : List ℕ) → f x ≡ g x) → Exchange m (CountLike m) f → Exchange m (CountLike m) g
exchange_same m f g h e = subst (Exchange m (CountLike m)) (fun_ext h) e

codes_below : (m n : ℕ) (x : List ℕ) → m ≤ n → Codes m x → Codes n x
codes_below m n [] h r = tt
codes_below m n (c ∷ x) h r = (omega (arith, r.0), codes_below m n x h r.1)

-- a smaller size: the counts stay, so codes not below it never arise
exchange_below : (m n : ℕ) (f : List ℕ → List Bool) → m ≤ n → Exchange n (CountLike n) f → Exchange m (CountLike m) f
exchange_below m n f h e = record {
  put = e.put;
  like = λ x t r l. let s = e.like x t (wider x r) l in (codes_kept m x (e.put x t) r.0 s.2, s.1, s.2);
  gives = λ x t r l. e.gives x t (wider x r) l;
  undone = λ x t r l. e.undone x t (wider x r) l;
}
  where
    wider : (x : List ℕ) → Recording m x → Recording n x
    wider x r = (codes_below m n x h r.0, r.1)

nothing : (t : List Bool) → length t ≡ 0 → [] ≡ t
nothing [] h = refl
nothing (b ∷ t) h = absurd (omega arith)

split_exchange : (f : List ℕ → List Bool) → Exchange 2 (CountLike 2) f → (w : ℕ) → Exchange (2 ^ w) (CountLike (2 ^ w)) (split w f)
split_exchange f e zero = record {
  put = λ x t. x;
  like = λ x t r l. (r.0, refl, λ c. refl);
  gives = λ x t r l. nothing t l;
  undone = λ x t r l. refl;
}
split_exchange f e (suc w) =
    subst (λ n. Exchange n (CountLike n) (split (suc w) f)) (sym (pow-succ' 2 w))
    (exchange_same (2 * 2 ^ w) (λ x. split w f (halves x) ++ gather (2 ^ w) (λ p. f (lows x p))) (split (suc w) f) (split_deeper f w) (deeper_exchange (2 ^ w) (split w f) f (split_exchange f e w) e))

pub split_even : (m : ℕ) (f : List ℕ → List Bool) → Sized m → Even 2 f → Even m (split (width m) f)
split_even m f sized even =
    exchange_even (count_listing m) (exchange_below m (2 ^ width m) (split (width m) f) (width_least m sized).reaches (split_exchange f (even_exchange (count_listing 2) {f = f} even) (width m)))
