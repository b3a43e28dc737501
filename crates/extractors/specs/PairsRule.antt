-- The rule of pairs.
--   pairs   codes two by two: smaller first gives 0, larger first gives 1, equal codes and a last single code give nothing
use Rattle.std.specs.Prelude.{ℕ, Bool, cond, List, [], ◌∷◌, ◌==◌, nat_lt}

abbrev pub pairs : List ℕ → List Bool
pairs [] = []
pairs (a ∷ []) = []
pairs (a ∷ (b ∷ x)) = cond (a == b) (pairs x) (nat_lt b a ∷ pairs x)
