-- The classes of a recording, as lists of all their members.
--   words          every list of n codes below m, in lexicographic order, each once
--   count_class    the recordings of the size that hold each code equally often
--   markov_class   the recordings of the size with the first code, the last code and the steps
--   CountLike, MarkovLike   what it means to be in the class of x
--   Listing        the members of each class are exactly those alike, each listed once
use Rattle.std.specs.Prelude.{◌≡◌, ℕ, zero, suc, Bool, true, ◌&&◌, List, [], ◌∷◌, ◌++◌, map, length, filter, ◌==◌}
use Rattle.std.specs.List.{AllByRecursion}
use Rattle.classes.specs.Counting.{times}
use Rattle.classes.specs.Recordings.{Codes, Recording, count, first, last, steps}

-- each word with each code below m before it
abbrev pub led_below : ℕ → List (List ℕ) → List (List ℕ)
led_below zero ws = []
led_below (suc c) ws = led_below c ws ++ map (λ w. c ∷ w) ws

abbrev pub words : ℕ → ℕ → List (List ℕ)
words m zero = [] ∷ []
words m (suc n) = led_below m (words m n)

abbrev pub CountLike : ℕ → List ℕ → List ℕ → Type 0
CountLike m x z = Codes m z × (length z ≡ length x) × ((c : ℕ) → count c z ≡ count c x)

abbrev pub MarkovLike : ℕ → List ℕ → List ℕ → Type 0
MarkovLike m x z = Codes m z × (length z ≡ length x) × (first z ≡ first x) × (last z ≡ last x) × ((s c : ℕ) → steps s c z ≡ steps s c x)

-- two functions agree below n
abbrev pub agree : ℕ → (ℕ → ℕ) → (ℕ → ℕ) → Bool
agree zero g h = true
agree (suc n) g h = g n == h n && agree n g h

-- two tables agree in their first n rows of m
abbrev pub agree_rows : ℕ → ℕ → (ℕ → ℕ → ℕ) → (ℕ → ℕ → ℕ) → Bool
agree_rows zero m g h = true
agree_rows (suc n) m g h = agree m (g n) (h n) && agree_rows n m g h

abbrev pub same_counts : ℕ → List ℕ → List ℕ → Bool
same_counts m x z = agree m (λ c. count c z) (λ c. count c x)

abbrev pub same_chain : ℕ → List ℕ → List ℕ → Bool
same_chain m x z = first z == first x && (last z == last x && agree_rows m m (λ s c. steps s c z) (λ s c. steps s c x))

abbrev pub count_class : ℕ → List ℕ → List (List ℕ)
count_class m x = filter (same_counts m x) (words m (length x))

abbrev pub markov_class : ℕ → List ℕ → List (List ℕ)
markov_class m x = filter (same_chain m x) (words m (length x))

-- members lists, for each recording x of size m, the recordings that are Like x
pub record Listing (m : ℕ) (Like : List ℕ → List ℕ → Type 0) (members : List ℕ → List (List ℕ)) : Type 0 where
  pub itself : (x : List ℕ) → Recording m x → Like x x
  pub joined : (x z w : List ℕ) → Like x z → Like z w → Like x w
  pub recorded : (x z : List ℕ) → Recording m x → Like x z → Recording m z
  pub none_else : (x : List ℕ) → Recording m x → AllByRecursion (Like x) (members x)
  pub each_once : (x z : List ℕ) → Recording m x → Like x z → times z (members x) ≡ 1
  pub one_class : (x z : List ℕ) → Recording m x → Like x z → members z ≡ members x
