-- Every class has a list of its members, each once. Assumes nothing.
use Rattle.std.proofs.Common.{◌≡◌, ℕ, zero, suc, ◌+◌, ◌<◌, ◌≤◌, Bool, true, false, cond, ◌&&◌, eqb, ltb, ◌⊎◌, List, [], ◌∷◌, map, length, Decides, filter, sym, refl, ap, ◌∙◌, ap₂, inl, inr, arith}
use mathlib.Core.Path.{fun_ext}
use Rattle.std.specs.List.{AllByRecursion}
use Rattle.std.proofs.lemmas.Bool.Decides.{nat_tests, Decides-eqb, Decides-and, Decides-below_and}
use Rattle.std.proofs.ByRecursion.{kept_by_passes, all_kept_by, All-weaker, All-append, All-map}
use Rattle.std.proofs.lemmas.Bool.{cond-true, lt-ltb, cases_lt}
use Rattle.classes.specs.Counting.{one_if, add_up, same_list, times}
use Rattle.classes.specs.Recordings.{Codes, Recording, count, steps_from, first, last, steps}
use Rattle.classes.specs.Classes.{led_below, words, CountLike, MarkovLike, agree, agree_rows, same_counts, same_chain, count_class, markov_class, Listing}
use Rattle.classes.proofs.Counts.{add_up_append, add_up_map, add_up_zero, times_kept}

-- WORDS

led_all : (m n : ℕ) (ws : List (List ℕ)) → AllByRecursion (λ w. Codes m w × (length w ≡ n)) ws → (k : ℕ) → k ≤ m → AllByRecursion (λ w. Codes m w × (length w ≡ suc n)) (led_below k ws)
led_all m n ws h zero l = tt
led_all m n ws h (suc k) l =
    All-append (λ w. Codes m w × (length w ≡ suc n)) (led_below k ws) (map (λ w. k ∷ w) ws) (led_all m n ws h k (omega arith))
    (All-map (λ w. Codes m w × (length w ≡ suc n)) (λ w. k ∷ w) ws (All-weaker (λ w. Codes m w × (length w ≡ n)) (λ w. Codes m (k ∷ w) × (length (k ∷ w) ≡ suc n)) (λ w r. ((omega arith, r.0), ap suc r.1)) ws h))

pub words_all : (m n : ℕ) → AllByRecursion (λ w. Codes m w × (length w ≡ n)) (words m n)
words_all m zero = ((tt, refl), tt)
words_all m (suc n) = led_all m n (words m n) (words_all m n) m (omega arith)

times_if : (z : List ℕ) (ws : List (List ℕ)) (e : Bool) → add_up (λ w. cond (e && same_list eqb w z) 1 0) ws ≡ cond e (times z ws) 0
times_if z ws true = refl
times_if z ws false = add_up_zero ws

times_led : (m b : ℕ) (z : List ℕ) (ws : List (List ℕ)) → times (b ∷ z) (led_below m ws) ≡ cond (ltb b m) (times z ws) 0
times_led zero b z ws = grind (arith, nat_tests)
times_led (suc m) b z ws =
    let here = add_up_map (λ w. cond (same_list eqb w (b ∷ z)) 1 0) (λ w. m ∷ w) ws ∙ times_if z ws (eqb m b) in
    let all = add_up_append (λ w. cond (same_list eqb w (b ∷ z)) 1 0) (led_below m ws) (map (λ w. m ∷ w) ws) in
    all ∙ ap₂ ◌+◌ (times_led m b z ws) here ∙ joined (times z ws)
  where
    joined : (k : ℕ) → cond (ltb b m) k 0 + cond (eqb m b) k 0 ≡ cond (ltb b (suc m)) k 0
    joined k = grind (arith, nat_tests)

pub words_once : (m : ℕ) (z : List ℕ) → Codes m z → times z (words m (length z)) ≡ 1
words_once m [] h = omega arith
words_once m (b ∷ z) h = times_led m b z (words m (length z)) ∙ cond-true (ltb b m) (times z (words m (length z))) 0 (lt-ltb b m h.0) ∙ words_once m z h.1

-- CODES NOT BELOW THE SIZE

apart : (a d : ℕ) → a < d → one_if (eqb a d) ≡ 0
apart a d i = grind (arith, nat_tests)

count_beyond : (m : ℕ) (x : List ℕ) (c : ℕ) → Codes m x → m ≤ c → count c x ≡ 0
count_beyond m [] c h k = refl
count_beyond m (b ∷ x) c h k = let low : b < m = h.0 in omega (arith, count_beyond m x c h.1 k, apart b c (omega arith))

steps_from_beyond : (m a : ℕ) (y : List ℕ) (s c : ℕ) → a < m → Codes m y → (m ≤ s) ⊎ (m ≤ c) → steps_from s c a y ≡ 0
steps_from_beyond m a [] s c ha hy h = refl
steps_from_beyond m a (b ∷ y) s c ha hy h = omega (arith, steps_from_beyond m b y s c hy.0 hy.1 h, none a b ha hy.0)
  where
    none : (d e : ℕ) → d < m → e < m → cond (eqb d s) (one_if (eqb e c)) 0 ≡ 0
    none d e i j = grind (arith, nat_tests)

steps_beyond : (m : ℕ) (x : List ℕ) (s c : ℕ) → Codes m x → (m ≤ s) ⊎ (m ≤ c) → steps s c x ≡ 0
steps_beyond m [] s c h k = refl
steps_beyond m (a ∷ y) s c h k = steps_from_beyond m a y s c h.0 h.1 k

-- TESTS

agree_decides : (n : ℕ) (g h : ℕ → ℕ) → Decides (agree n g h) ((k : ℕ) → k < n → g k ≡ h k)
agree_decides n g h = Decides-below_and (λ k. eqb (g k) (h k)) (λ k. g k ≡ h k) (λ k. agree k g h) (λ k. Decides-eqb (g k) (h k)) refl (λ _. refl) n

rows_decide : (n m : ℕ) (g h : ℕ → ℕ → ℕ) → Decides (agree_rows n m g h) ((s : ℕ) → s < n → (c : ℕ) → c < m → g s c ≡ h s c)
rows_decide n m g h =
    Decides-below_and (λ s. agree m (g s) (h s)) (λ s. (c : ℕ) → c < m → g s c ≡ h s c) (λ s. agree_rows s m g h) (λ s. agree_decides m (g s) (h s)) refl (λ _. refl) n

chain_decides : (m : ℕ) (x z : List ℕ) → Decides (same_chain m x z) ((first z ≡ first x) × ((last z ≡ last x) × ((s : ℕ) → s < m → (c : ℕ) → c < m → steps s c z ≡ steps s c x)))
chain_decides m x z =
    let rows = agree_rows m m (λ s c. steps s c z) (λ s c. steps s c x) in
    Decides-and (eqb (first z) (first x)) (eqb (last z) (last x) && rows) (Decides-eqb (first z) (first x))
    (Decides-and (eqb (last z) (last x)) rows (Decides-eqb (last z) (last x)) (rows_decide m m (λ s c. steps s c z) (λ s c. steps s c x)))

counts_everywhere : (m : ℕ) (x z : List ℕ) → Codes m x → Codes m z → ((c : ℕ) → c < m → count c z ≡ count c x) → (c : ℕ) → count c z ≡ count c x
counts_everywhere m x z hx hz h c = elim (cases_lt c m) [ inl k ↦ h c k | inr k ↦ count_beyond m z c hz k ∙ sym (count_beyond m x c hx k) ]

steps_everywhere : (m : ℕ) (x z : List ℕ) → Codes m x → Codes m z → ((s : ℕ) → s < m → (c : ℕ) → c < m → steps s c z ≡ steps s c x) → (s c : ℕ) → steps s c z ≡ steps s c x
steps_everywhere m x z hx hz h s c = elim (cases_lt s m) [
  | inl k ↦ elim (cases_lt c m) [ inl l ↦ h s k c l | inr l ↦ steps_beyond m z s c hz (inr l) ∙ sym (steps_beyond m x s c hx (inr l)) ]
  | inr k ↦ steps_beyond m z s c hz (inl k) ∙ sym (steps_beyond m x s c hx (inl k))
]

-- LISTINGS

-- those of all words that pass a test are the recordings alike, if the test decides it among words
module _ (m : ℕ) (Like : List ℕ → List ℕ → Type 0) (x : List ℕ) (q : List ℕ → Bool)
    (passes : (z : List ℕ) → Codes m z → length z ≡ length x → q z ≡ true → Like x z)
    (passed : (z : List ℕ) → Like x z → Codes m z × (length z ≡ length x) × (q z ≡ true)) where
  none_else_by : AllByRecursion (Like x) (filter q (words m (length x)))
  none_else_by = joined (filter q (words m (length x))) (all_kept_by q (λ w. Codes m w × (length w ≡ length x)) (words m (length x)) (words_all m (length x))) (kept_by_passes q (words m (length x)))
    where
      joined : (ws : List (List ℕ)) → AllByRecursion (λ w. Codes m w × (length w ≡ length x)) ws → AllByRecursion (λ w. q w ≡ true) ws → AllByRecursion (Like x) ws
      joined [] a b = tt
      joined (w ∷ ws) a b = (passes w a.0.0 a.0.1 b.0, joined ws a.1 b.1)

  each_once_by : (z : List ℕ) → Like x z → times z (filter q (words m (length x))) ≡ 1
  each_once_by z h =
      let p = passed z h in
      times_kept q z p.2 (words m (length x)) ∙ ap (λ n. times z (words m n)) (sym p.1) ∙ words_once m z p.0

recorded_by : (m : ℕ) (x z : List ℕ) → Recording m x → Codes m z → length z ≡ length x → Recording m z
recorded_by m x z h codes same = let few : length x ≤ 4096 = h.1 in (codes, omega arith)

pub count_listing : (m : ℕ) → Listing m (CountLike m) (count_class m)
count_listing m = record {
  itself = λ x h. (h.0, refl, λ c. refl);
  joined = λ x z w h k. (k.0, k.1 ∙ h.1, λ c. k.2 c ∙ h.2 c);
  recorded = λ x z h k. recorded_by m x z h k.0 k.1;
  none_else = λ x h. none_else_by m (CountLike m) x (same_counts m x) (passes x h.0) (passed x);
  each_once = λ x z h k. each_once_by m (CountLike m) x (same_counts m x) (passes x h.0) (passed x) z k;
  one_class = λ x z h k. ap₂ (λ (g : ℕ → ℕ) (n : ℕ). filter (λ w. agree m (λ c. count c w) g) (words m n)) (fun_ext k.2) k.1;
}
  where
    passes : (x : List ℕ) → Codes m x → (z : List ℕ) → Codes m z → length z ≡ length x → same_counts m x z ≡ true → CountLike m x z
    passes x hx z hz n q = (hz, n, counts_everywhere m x z hx hz ((agree_decides m (λ c. count c z) (λ c. count c x)).0 q))

    passed : (x z : List ℕ) → CountLike m x z → Codes m z × (length z ≡ length x) × (same_counts m x z ≡ true)
    passed x z h = (h.0, h.1, (agree_decides m (λ c. count c z) (λ c. count c x)).1 (λ c k. h.2 c))

pub markov_listing : (m : ℕ) → Listing m (MarkovLike m) (markov_class m)
markov_listing m = record {
  itself = λ x h. (h.0, refl, refl, refl, λ s c. refl);
  joined = λ x z w h k. (k.0, k.1 ∙ h.1, k.2 ∙ h.2, k.3 ∙ h.3, λ s c. k.4 s c ∙ h.4 s c);
  recorded = λ x z h k. recorded_by m x z h k.0 k.1;
  none_else = λ x h. none_else_by m (MarkovLike m) x (same_chain m x) (passes x h.0) (passed x);
  each_once = λ x z h k. each_once_by m (MarkovLike m) x (same_chain m x) (passes x h.0) (passed x) z k;
  one_class = one_class;
}
  where
    passes : (x : List ℕ) → Codes m x → (z : List ℕ) → Codes m z → length z ≡ length x → same_chain m x z ≡ true → MarkovLike m x z
    passes x hx z hz n q = let r = (chain_decides m x z).0 q in (hz, n, r.0, r.1.0, steps_everywhere m x z hx hz r.1.1)

    passed : (x z : List ℕ) → MarkovLike m x z → Codes m z × (length z ≡ length x) × (same_chain m x z ≡ true)
    passed x z h = (h.0, h.1, (chain_decides m x z).1 (h.2, (h.3, λ s k c l. h.4 s c)))

    one_class : (x z : List ℕ) → Recording m x → MarkovLike m x z → markov_class m z ≡ markov_class m x
    one_class x z h k =
        let table : ◌≡◌ {A = ℕ → ℕ → ℕ} (λ s c. steps s c z) (λ s c. steps s c x) = fun_ext (λ s. fun_ext (λ c. k.4 s c)) in
        ap (λ (g : ℕ → ℕ → ℕ). filter (λ w. eqb (first w) (first z) && (eqb (last w) (last z) && agree_rows m m (λ s c. steps s c w) g)) (words m (length z))) table
        ∙ ap₂ (λ (a e : ℕ). filter (λ w. eqb (first w) a && (eqb (last w) e && agree_rows m m (λ s c. steps s c w) (λ s c. steps s c x))) (words m (length z))) k.2 k.3
        ∙ ap (λ (n : ℕ). filter (same_chain m x) (words m n)) k.1
