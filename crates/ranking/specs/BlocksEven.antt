-- A rule that is even on the count class of every block is even on whole recordings, block by block: each block is exchanged within its own class. Assumes nothing.
use Rattle.std.specs.Prelude.{◌≡◌, ℕ, zero, suc, ◌+◌, ◌*◌, ◌<◌, ◌≤◌, Bool, cond, List, [], ◌∷◌, ◌++◌, length, take, drop, nat_le, refl}
use Rattle.std.proofs.Common.{sym, ap, ap₂, subst, ◌∙◌, ⊎_elim, mul-zero, arith, take-append-drop, length-append, length-drop}
use Rattle.std.proofs.Math.Seq.{take-append_seam, drop-append_seam}
use Rattle.std.proofs.lemmas.List.{length-take-le}
use Rattle.std.proofs.ByRecursion.{All-append, All-take, All-drop}
use Rattle.std.proofs.lemmas.Bool.{le-leb, lt-leb, cases_lt, cond-true, cond-false}
use Rattle.classes.specs.Counting.{one_if, tally, same_bits}
use Rattle.classes.specs.Recordings.{Recording, Sized, count, width}
use Rattle.classes.specs.Classes.{CountLike, count_class}
use Rattle.classes.specs.Evenness.{EvenOn, Even}
use Rattle.classes.specs.Exchange.{Exchange}
use Rattle.classes.proofs.Counts.{add_up_same, add_up_append}
use Rattle.classes.proofs.Exchanges.{exchange_even, even_exchange}
use Rattle.classes.proofs.Listings.{count_listing}
use Rattle.classes.proofs.Yields.{yield_bound}
use Rattle.extractors.specs.PairsEven.{no_bits_even}
use Rattle.ranking.specs.Blocks.{in_blocks, by_blocks}

-- PARTS OF A RECORDING

count_append : (c : ℕ) (x y : List ℕ) → count c (x ++ y) ≡ count c x + count c y
count_append c x y = add_up_append _ x y

pub front_recording : (m b : ℕ) (x : List ℕ) → Recording m x → Recording m (take b x)
front_recording m b x h =
    let few : length x ≤ 4096 = h.1 in
    (All-take (λ c. c < m) b x h.0, omega (arith, length-append (take b x) (drop b x), ap length (take-append-drop b x)))

pub rest_recording : (m b : ℕ) (x : List ℕ) → Recording m x → Recording m (drop b x)
rest_recording m b x h =
    let few : length x ≤ 4096 = h.1 in
    (All-drop (λ c. c < m) b x h.0, omega (arith, length-append (take b x) (drop b x), ap length (take-append-drop b x)))

-- parts as long as those of x are the parts of what they join to
parts_again : (b : ℕ) (x p q : List ℕ) → length p ≡ length (take b x) → length q ≡ length (drop b x) → (take b (p ++ q) ≡ p) × (drop b (p ++ q) ≡ q)
parts_again zero x [] q h k = (refl, refl)
parts_again zero x (a ∷ p) q h k = absurd (omega arith)
parts_again (suc b) [] [] [] h k = (refl, refl)
parts_again (suc b) [] [] (a ∷ q) h k = absurd (omega arith)
parts_again (suc b) [] (a ∷ p) q h k = absurd (omega arith)
parts_again (suc b) (c ∷ x) [] q h k = absurd (omega arith)
parts_again (suc b) (c ∷ x) (a ∷ p) q h k = let r = parts_again b x p q (omega arith) k in (ap (λ l. a ∷ l) r.0, r.1)

-- TWO PARTS, each with a rule of its own

module _ (m b : ℕ) (g h : List ℕ → List Bool) (E : Exchange m (CountLike m) g) (H : Exchange m (CountLike m) h) where
  abbrev both : List ℕ → List Bool
  both x = g (take b x) ++ h (drop b x)

  abbrev put_both : List ℕ → List Bool → List ℕ
  put_both x t = E.put (take b x) (take (length (g (take b x))) t) ++ H.put (drop b x) (drop (length (g (take b x))) t)

  module _ (x : List ℕ) (t : List Bool) (hx : Recording m x) (fits : length t ≡ length (g (take b x) ++ h (drop b x))) where
    total : length t ≡ length (g (take b x)) + length (h (drop b x))
    total = fits ∙ length-append (g (take b x)) (h (drop b x))

    front_fits : length (take (length (g (take b x))) t) ≡ length (g (take b x))
    front_fits = length-take-le (length (g (take b x))) t (omega (arith, total))

    rest_fits : length (drop (length (g (take b x))) t) ≡ length (h (drop b x))
    rest_fits = length-drop (length (g (take b x))) t ∙ omega (arith, total)

    abbrev p : List ℕ
    p = E.put (take b x) (take (length (g (take b x))) t)

    abbrev q : List ℕ
    q = H.put (drop b x) (drop (length (g (take b x))) t)

    p_like : CountLike m (take b x) p
    p_like = E.like (take b x) (take (length (g (take b x))) t) (front_recording m b x hx) front_fits

    q_like : CountLike m (drop b x) q
    q_like = H.like (drop b x) (drop (length (g (take b x))) t) (rest_recording m b x hx) rest_fits

    p_gives : g p ≡ take (length (g (take b x))) t
    p_gives = E.gives (take b x) (take (length (g (take b x))) t) (front_recording m b x hx) front_fits

    q_gives : h q ≡ drop (length (g (take b x))) t
    q_gives = H.gives (drop b x) (drop (length (g (take b x))) t) (rest_recording m b x hx) rest_fits

    again : (take b (p ++ q) ≡ p) × (drop b (p ++ q) ≡ q)
    again = parts_again b x p q p_like.1 q_like.1

    both_like : CountLike m x (put_both x t)
    both_like = (
      All-append (λ c. c < m) p q p_like.0 q_like.0,
      length-append p q ∙ ap₂ ◌+◌ p_like.1 q_like.1 ∙ sym (length-append (take b x) (drop b x)) ∙ ap length (take-append-drop b x),
      λ c. count_append c p q ∙ ap₂ ◌+◌ (p_like.2 c) (q_like.2 c) ∙ sym (count_append c (take b x) (drop b x)) ∙ ap (count c) (take-append-drop b x),
    )

    both_gives : both (put_both x t) ≡ t
    both_gives =
        ap₂ (λ u v. g u ++ h v) again.0 again.1 ∙ ap₂ ◌++◌ p_gives q_gives ∙ take-append-drop (length (g (take b x))) t

    both_undone : put_both (put_both x t) (both x) ≡ x
    both_undone =
        let n : length (g p) ≡ length (g (take b x)) = ap length p_gives ∙ front_fits in
        ap₂ (λ u v. E.put u (take (length (g u)) (both x)) ++ H.put v (drop (length (g u)) (both x))) again.0 again.1
        ∙ ap (λ k. E.put p (take k (both x)) ++ H.put q (drop k (both x))) n
        ∙ ap₂ (λ s r. E.put p s ++ H.put q r) (take-append_seam (g (take b x)) (h (drop b x))) (drop-append_seam (g (take b x)) (h (drop b x)))
        ∙ ap₂ ◌++◌ (E.undone (take b x) (take (length (g (take b x))) t) (front_recording m b x hx) front_fits)
        (H.undone (drop b x) (drop (length (g (take b x))) t) (rest_recording m b x hx) rest_fits)
        ∙ take-append-drop b x

  both_exchange : Exchange m (CountLike m) both
  both_exchange = record {
    put = put_both;
    like = both_like;
    gives = both_gives;
    undone = both_undone;
  }

-- BLOCKS

in_blocks_exchange : (m k b : ℕ) (g : List ℕ → List Bool) → Exchange m (CountLike m) g → Exchange m (CountLike m) (in_blocks k b g)
in_blocks_exchange m zero b g E = even_exchange (count_listing m) (no_bits_even m)
in_blocks_exchange m (suc k) b g E = both_exchange m b g (in_blocks k b g) E (in_blocks_exchange m k b g E)

by_blocks_exchange : (m b : ℕ) (g : List ℕ → List Bool) → Exchange m (CountLike m) g → Exchange m (CountLike m) (by_blocks b g)
by_blocks_exchange m b g E = record {
  put = λ x t. (in_blocks_exchange m (length x) b g E).put x t;
  like = λ x t h k. (in_blocks_exchange m (length x) b g E).like x t h k;
  gives = λ x t h k. ap (λ n. in_blocks n b g ((in_blocks_exchange m (length x) b g E).put x t)) ((in_blocks_exchange m (length x) b g E).like x t h k).1
      ∙ (in_blocks_exchange m (length x) b g E).gives x t h k;
  undone = λ x t h k. ap (λ n. (in_blocks_exchange m n b g E).put ((in_blocks_exchange m (length x) b g E).put x t) (by_blocks b g x)) ((in_blocks_exchange m (length x) b g E).like x t h k).1
      ∙ (in_blocks_exchange m (length x) b g E).undone x t h k;
}

-- a rule, kept to recordings of at most b codes: longer ones give nothing
abbrev short : ℕ → (List ℕ → List Bool) → List ℕ → List Bool
short b f x = cond (nat_le (length x) b) (f x) []

length_front : (b : ℕ) (x : List ℕ) → length (take b x) ≤ b
length_front zero x = omega arith
length_front (suc b) [] = omega arith
length_front (suc b) (a ∷ x) = omega (arith, length_front b x)

in_blocks_short : (k b : ℕ) (f : List ℕ → List Bool) (x : List ℕ) → in_blocks k b f x ≡ in_blocks k b (short b f) x
in_blocks_short zero b f x = refl
in_blocks_short (suc k) b f x =
    ap₂ ◌++◌ (sym (cond-true (nat_le (length (take b x)) b) (f (take b x)) [] (le-leb (length (take b x)) b (length_front b x)))) (in_blocks_short k b f (drop b x))

-- the law that a rule has on every block of at most b codes
abbrev pub EvenBlocks : ℕ → ℕ → (List ℕ → List Bool) → Type 0
EvenBlocks m b f = (x : List ℕ) → Recording m x → length x ≤ b → EvenOn f (count_class m x)

-- a rule that is one with g on the class is even there if g is
even_same : (m : ℕ) (f g : List ℕ → List Bool) (x : List ℕ) → Recording m x → ((z : List ℕ) → CountLike m x z → f z ≡ g z) → EvenOn g (count_class m x) → EvenOn f (count_class m x)
even_same m f g x h same even s t e = one s ∙ even s t e ∙ sym (one t)
  where
    one : (u : List Bool) → tally (λ z. same_bits (f z) u) (count_class m x) ≡ tally (λ z. same_bits (g z) u) (count_class m x)
    one u =
        add_up_same (CountLike m x) (λ z. one_if (same_bits (f z) u)) (λ z. one_if (same_bits (g z) u)) (λ z k. ap (λ bs. one_if (same_bits bs u)) (same z k))
        (count_class m x) ((count_listing m).none_else x h)

short_even : (m b : ℕ) (f : List ℕ → List Bool) → EvenBlocks m b f → Even m (short b f)
short_even m b f even x h =
    ⊎_elim
    (λ (l : b < length x). even_same m (short b f) (λ z. []) x h (λ z k. cond-false (nat_le (length z) b) (f z) [] (lt-leb (length z) b (omega (arith, k.1)))) (no_bits_even m x h))
    (λ (l : length x ≤ b). even_same m (short b f) f x h (λ z k. cond-true (nat_le (length z) b) (f z) [] (le-leb (length z) b (omega (arith, k.1)))) (even x h l))
    (cases_lt b (length x))

pub blocks_even : (m b : ℕ) (f : List ℕ → List Bool) → EvenBlocks m b f → Even m (by_blocks b f)
blocks_even m b f even x h =
    even_same m (by_blocks b f) (by_blocks b (short b f)) x h (λ z k. in_blocks_short (length z) b f z)
    (exchange_even (count_listing m) (by_blocks_exchange m b (short b f) (even_exchange (count_listing m) (short_even m b f even))) x h)

-- NO CODES, NO BITS

pub even_empty : (m b : ℕ) → Sized m → (f : List ℕ → List Bool) → EvenBlocks m b f → f [] ≡ []
even_empty m b sized f even = none (f []) (omega (arith, few, mul-zero (width m)))
  where
    few : length (f []) ≤ width m * 0
    few =
        let e : short b f [] ≡ f [] = cond-true (nat_le 0 b) (f []) [] (le-leb 0 b (omega arith)) in
        subst (λ bs. length bs ≤ width m * 0) e (yield_bound m sized (short b f) (short_even m b f even) [] (tt, omega arith))

    none : (bs : List Bool) → length bs ≤ 0 → bs ≡ []
    none [] h = refl
    none (v ∷ bs) h = absurd (omega arith)

pub in_blocks_empty : (k b : ℕ) (f : List ℕ → List Bool) → f [] ≡ [] → in_blocks k b f [] ≡ []
in_blocks_empty zero b f e = refl
in_blocks_empty (suc k) b f e =
    ap₂ (λ u v. f u ++ in_blocks k b f v) (nothing_front b) (nothing_rest b) ∙ ap₂ ◌++◌ e (in_blocks_empty k b f e)
  where
    nothing_front : (n : ℕ) → ◌≡◌ {A = List ℕ} (take n []) []
    nothing_front zero = refl
    nothing_front (suc n) = refl

    nothing_rest : (n : ℕ) → ◌≡◌ {A = List ℕ} (drop n []) []
    nothing_rest zero = refl
    nothing_rest (suc n) = refl

-- blocks beyond the last give nothing
pub in_blocks_enough : (k b : ℕ) (f : List ℕ → List Bool) (x : List ℕ) → f [] ≡ [] → 1 ≤ b → length x ≤ k → in_blocks k b f x ≡ by_blocks b f x
in_blocks_enough k b f x e h l = same k (length x) x l (omega arith)
  where
    same : (i j : ℕ) (y : List ℕ) → length y ≤ i → length y ≤ j → in_blocks i b f y ≡ in_blocks j b f y
    same i j [] p q = in_blocks_empty i b f e ∙ sym (in_blocks_empty j b f e)
    same zero j (a ∷ y) p q = absurd (omega arith)
    same (suc i) zero (a ∷ y) p q = absurd (omega arith)
    same (suc i) (suc j) (a ∷ y) p q = ap (λ bs. f (take b (a ∷ y)) ++ bs) (same i j (drop b (a ∷ y)) (omega (arith, length-drop b (a ∷ y))) (omega (arith, length-drop b (a ∷ y))))

-- the bits of a recording are those of its first block and then those of the rest
pub by_blocks_step : (b : ℕ) (f : List ℕ → List Bool) (x : List ℕ) → f [] ≡ [] → 1 ≤ b → by_blocks b f x ≡ f (take b x) ++ by_blocks b f (drop b x)
by_blocks_step b f [] e h = sym (in_blocks_empty 1 b f e) ∙ ap (λ bs. f (take b []) ++ bs) (in_blocks_enough 0 b f (drop b []) e h (omega (arith, length-drop {A = ℕ} b [])))
by_blocks_step b f (a ∷ x) e h = ap (λ bs. f (take b (a ∷ x)) ++ bs) (in_blocks_enough (length x) b f (drop b (a ∷ x)) e h (omega (arith, length-drop b (a ∷ x))))
