-- Counts over lists, and equality of lists as a test that can be counted.
--   one_if      1 where a test passed, else 0
--   add_up      the sum of a number for each element
--   tally       how many elements pass a test
--   same_bit    the two bits are equal
--   same_list   the two lists are equal, by a test of their elements
--   same_bits   the two bit strings are equal
--   times       how often a word stands in a list of words
use Rattle.std.specs.Prelude.{ℕ, ◌+◌, Bool, true, false, cond, not, ◌&&◌, List, [], ◌∷◌, nat_eq}

abbrev pub one_if : Bool → ℕ
one_if b = cond b 1 0

abbrev pub add_up : {X : Type 0} → (X → ℕ) → List X → ℕ
add_up g [] = 0
add_up g (x ∷ xs) = g x + add_up g xs

abbrev pub tally : {X : Type 0} → (X → Bool) → List X → ℕ
tally p xs = add_up (λ x. one_if (p x)) xs

abbrev pub same_bit : Bool → Bool → Bool
same_bit true b = b
same_bit false b = not b

abbrev pub same_list : {X : Type 0} → (X → X → Bool) → List X → List X → Bool
same_list e [] [] = true
same_list e [] (y ∷ ys) = false
same_list e (x ∷ xs) [] = false
same_list e (x ∷ xs) (y ∷ ys) = e x y && same_list e xs ys

abbrev pub same_bits : List Bool → List Bool → Bool
same_bits s t = same_list same_bit s t

abbrev pub times : List ℕ → List (List ℕ) → ℕ
times z words = tally (λ w. same_list nat_eq w z) words
