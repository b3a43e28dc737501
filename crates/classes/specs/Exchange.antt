-- Partner exchange, the even law without counting: a recording of the class that gives any other bits of the same length, and back.
--   Exchange             put x t is the partner of x that gives t
--   ExchangeIsEven       an exchange gives the even law, and the even law an exchange, on both kinds of class
use Rattle.std.specs.Prelude.{◌≡◌, ℕ, Bool, List, length}
use Rattle.classes.specs.Recordings.{Recording}
use Rattle.classes.specs.Classes.{CountLike, MarkovLike}
use Rattle.classes.specs.Evenness.{Even, EvenChains}

pub record Exchange (m : ℕ) (Like : List ℕ → List ℕ → Type 0) (f : List ℕ → List Bool) : Type 0 where
  pub put : List ℕ → List Bool → List ℕ
  pub like : (x : List ℕ) (t : List Bool) → Recording m x → length t ≡ length (f x) → Like x (put x t)
  pub gives : (x : List ℕ) (t : List Bool) → Recording m x → length t ≡ length (f x) → f (put x t) ≡ t
  pub undone : (x : List ℕ) (t : List Bool) → Recording m x → length t ≡ length (f x) → put (put x t) (f x) ≡ x

abbrev pub ExchangeIsEven : Type 0
ExchangeIsEven =
    (m : ℕ) (f : List ℕ → List Bool)
    → (Exchange m (CountLike m) f → Even m f) × (Even m f → Exchange m (CountLike m) f)
    × (Exchange m (MarkovLike m) f → EvenChains m f) × (EvenChains m f → Exchange m (MarkovLike m) f)
