-- What is even gives at most the width times the length: a class has room for no more. Assumes nothing.
use Rattle.std.proofs.Common.{◌≡◌, ℕ, zero, suc, ◌+◌, ◌*◌, ◌^◌, ◌<◌, ◌≤◌, Bool, true, false, eqb, List, [], ◌∷◌, ◌++◌, map, length, sym, refl, ap, ◌∙◌, subst, ap₂, ⊎_elim, suc-mul, pow-suc, mul-zero, mul-suc, arith, length-append, pow-add}
use native.Mathlib.Nat.{pow-zero, pow-succ', pow-le-pow_left}
use lib.ListN.{length-map}
use lib.Pow.{pow-lt}
use Rattle.std.specs.List.{AllByRecursion}
use Rattle.std.proofs.ByRecursion.{All-append, All-map, All-weaker}
use Rattle.std.proofs.lemmas.Bool.{cases_lt}
use Rattle.classes.specs.Counting.{one_if, add_up, tally, same_list, same_bits, times}
use Rattle.classes.specs.Recordings.{width}
use Rattle.classes.specs.Classes.{led_below, words, same_counts, count_class}
use Rattle.classes.specs.Evenness.{EvenOn, YieldBound}
use Rattle.classes.proofs.Counts.{word_true, bits_self, add_up_le, add_up_zero, add_up_one, add_up_append, add_up_map, add_up_swap, all_of, tally_le_length, length_kept}
use Rattle.classes.proofs.Listings.{count_listing}
use Rattle.classes.proofs.Widths.{width_least}

-- ALL BIT STRINGS OF A LENGTH

abbrev strings : ℕ → List (List Bool)
strings zero = [] ∷ []
strings (suc k) = map (λ s. false ∷ s) (strings k) ++ map (λ s. true ∷ s) (strings k)

length_strings : (k : ℕ) → length (strings k) ≡ 2 ^ k
length_strings zero = refl
length_strings (suc k) =
    let double : 2 ^ suc k ≡ 2 ^ k * 2 = pow-suc 2 k in
    length-append (map (λ s. false ∷ s) (strings k)) (map (λ s. true ∷ s) (strings k))
    ∙ ap₂ ◌+◌ (length-map (strings k) (λ s. false ∷ s) ∙ length_strings k) (length-map (strings k) (λ s. true ∷ s) ∙ length_strings k)
    ∙ omega arith

strings_long : (k : ℕ) → AllByRecursion (λ s. length s ≡ k) (strings k)
strings_long zero = (refl, tt)
strings_long (suc k) =
    All-append (λ s. length s ≡ suc k) (map (λ s. false ∷ s) (strings k)) (map (λ s. true ∷ s) (strings k)) (led (strings_long k) false) (led (strings_long k) true)
  where
    led : AllByRecursion (λ s. length s ≡ k) (strings k) → (b : Bool) → AllByRecursion (λ s. length s ≡ suc k) (map (λ s. b ∷ s) (strings k))
    led ih b = All-map (λ s. length s ≡ suc k) (λ s. b ∷ s) (strings k) (All-weaker (λ s. length s ≡ k) (λ s. length (b ∷ s) ≡ suc k) (λ s h. ap suc h) (strings k) ih)

-- a string equals at most one of them
strings_apart : (s : List Bool) (k : ℕ) → tally (λ t. same_bits s t) (strings k) ≤ 1
strings_apart [] zero = omega arith
strings_apart (a ∷ s) zero = omega arith
strings_apart [] (suc k) =
    omega (
      arith,
      add_up_append (λ t. one_if (same_bits [] t)) (map (λ t. false ∷ t) (strings k)) (map (λ t. true ∷ t) (strings k)),
      add_up_map (λ t. one_if (same_bits [] t)) (λ t. false ∷ t) (strings k),
      add_up_map (λ t. one_if (same_bits [] t)) (λ t. true ∷ t) (strings k),
      add_up_zero (strings k),
    )
strings_apart (true ∷ s) (suc k) =
    omega (
      arith,
      strings_apart s k,
      add_up_append (λ t. one_if (same_bits (true ∷ s) t)) (map (λ t. false ∷ t) (strings k)) (map (λ t. true ∷ t) (strings k)),
      add_up_map (λ t. one_if (same_bits (true ∷ s) t)) (λ t. false ∷ t) (strings k),
      add_up_map (λ t. one_if (same_bits (true ∷ s) t)) (λ t. true ∷ t) (strings k),
      add_up_zero (strings k),
    )
strings_apart (false ∷ s) (suc k) =
    omega (
      arith,
      strings_apart s k,
      add_up_append (λ t. one_if (same_bits (false ∷ s) t)) (map (λ t. false ∷ t) (strings k)) (map (λ t. true ∷ t) (strings k)),
      add_up_map (λ t. one_if (same_bits (false ∷ s) t)) (λ t. false ∷ t) (strings k),
      add_up_map (λ t. one_if (same_bits (false ∷ s) t)) (λ t. true ∷ t) (strings k),
      add_up_zero (strings k),
    )

-- a list of words on which f is even, with x among them, has at least a word for each string as long as f x
even_room : (f : List ℕ → List Bool) (class : List (List ℕ)) → EvenOn f class → (x : List ℕ) → times x class ≡ 1 → 2 ^ length (f x) ≤ length class
even_room f class even x once =
    let given : List Bool → ℕ = λ t. tally (λ z. same_bits (f z) t) class in
    let some : 1 ≤ given (f x) =
    (let le : times x class ≤ given (f x) = add_up_le (λ z. Unit {0}) (λ z. one_if (same_list eqb z x)) (λ z. one_if (same_bits (f z) (f x))) (λ z u. at z (same_list eqb z x) refl) class (all_of (λ z. Unit {0}) (λ z. tt) class) in omega arith) in
    let low : add_up (λ t. 1) (strings k) ≤ add_up given (strings k) =
    add_up_le (λ t. length t ≡ k) (λ t. 1) given (λ t h. omega (arith, some, even t (f x) h)) (strings k) (strings_long k) in
    let high : add_up (λ z. add_up (λ t. one_if (same_bits (f z) t)) (strings k)) class ≤ add_up (λ z. 1) class =
    add_up_le (λ z. Unit {0}) (λ z. tally (λ t. same_bits (f z) t) (strings k)) (λ z. 1) (λ z u. strings_apart (f z) k) class (all_of (λ z. Unit {0}) (λ z. tt) class) in
    omega (arith, low, high, add_up_swap (λ t z. one_if (same_bits (f z) t)) (strings k) class, add_up_one (strings k), add_up_one class, length_strings k)
  where
    k : ℕ
    k = length (f x)

    at : (z : List ℕ) (b : Bool) → same_list eqb z x ≡ b → one_if b ≤ one_if (same_bits (f z) (f x))
    at z true q =
        let e : same_bits (f z) (f x) ≡ true = ap (λ w. same_bits (f w) (f x)) (word_true z x q) ∙ bits_self (f x) in
        subst (λ b. 1 ≤ one_if b) (sym e) (omega arith)
    at z false q = omega arith

-- HOW MANY WORDS THERE ARE

length_led : (m : ℕ) (ws : List (List ℕ)) → length (led_below m ws) ≡ m * length ws
length_led zero ws = omega arith
length_led (suc m) ws =
    length-append (led_below m ws) (map (λ w. m ∷ w) ws) ∙ ap₂ ◌+◌ (length_led m ws) (length-map ws (λ w. m ∷ w)) ∙ sym (suc-mul m (length ws))

pub length_words : (m n : ℕ) → length (words m n) ≡ m ^ n
length_words m zero = sym (pow-zero m)
length_words m (suc n) =
    length_led m (words m n) ∙ ap (λ k. m * k) (length_words m n) ∙ sym (pow-succ' m n)

pub power_of_power : (w n : ℕ) → (2 ^ w) ^ n ≡ 2 ^ (w * n)
power_of_power w zero = pow-zero (2 ^ w) ∙ sym (ap (λ k. 2 ^ k) (mul-zero w))
power_of_power w (suc n) = pow-suc (2 ^ w) n ∙ ap (λ k. k * 2 ^ w) (power_of_power w n) ∙ sym (pow-add 2 (w * n) w) ∙ ap (λ k. 2 ^ k) (sym (mul-suc w n))

pub yield_bound : YieldBound
yield_bound m sized f even x hx =
    let n = length x in
    let room : 2 ^ length (f x) ≤ length (count_class m x) = even_room f (count_class m x) (even x hx) x ((count_listing m).each_once x x hx ((count_listing m).itself x hx)) in
    let few : length (count_class m x) ≤ m ^ n = subst (λ k. length (count_class m x) ≤ k) (length_words m n) (subst (λ k. k ≤ length (words m n)) (sym (length_kept (same_counts m x) (words m n))) (tally_le_length (same_counts m x) (words m n))) in
    let wide : m ^ n ≤ 2 ^ (width m * n) = subst (λ k. m ^ n ≤ k) (power_of_power (width m) n) (pow-le-pow_left (width_least m sized).reaches n) in
    ⊎_elim (λ h. let over : 2 ^ (width m * n) < 2 ^ length (f x) = pow-lt h in absurd (omega arith)) (λ h. h) (cases_lt (width m * n) (length (f x)))
