-- The rule of the Peres layer over a rule f for coins: codes are taken two by two, and a last single code is in no pair.
--   differ      for each pair, 1 if its codes differ and 0 if they agree
--   common      the common code of each agreeing pair, in order
--   peres       depth 0 gives what f gives; a greater depth gives the bits of pairs, then those of one depth less on differ, then those on common
--   depth_due   the fault that a depth calls for when a layer is made: the greatest depth is 12
use Rattle.std.specs.Prelude.{ℕ, zero, suc, Bool, cond, List, [], ◌∷◌, ◌++◌, Some, None, Option, ◌==◌, nat_lt}
use Rattle.extractors.specs.declared.fault.ExtractorFault.{ExtractorFault}
use Rattle.extractors.specs.declared.fault.ExtractorFault.TheVariants.{Parameter}
use Rattle.extractors.specs.PairsRule.{pairs}

abbrev pub differ : List ℕ → List ℕ
differ [] = []
differ (a ∷ []) = []
differ (a ∷ (b ∷ x)) = cond (a == b) 0 1 ∷ differ x

abbrev pub common : List ℕ → List ℕ
common [] = []
common (a ∷ []) = []
common (a ∷ (b ∷ x)) = cond (a == b) (a ∷ common x) (common x)

abbrev pub peres : ℕ → (List ℕ → List Bool) → List ℕ → List Bool
peres zero f x = f x
peres (suc d) f x = pairs x ++ (peres d f (differ x) ++ peres d f (common x))

abbrev pub depth_due : ℕ → Option ExtractorFault
depth_due d = cond (nat_lt 12 d) (Some (Parameter d)) None
