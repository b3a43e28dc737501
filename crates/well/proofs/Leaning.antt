-- The lean of a tray's bits, one byte after another.
use Rattle.std.proofs.Common.{◌≡◌, ℕ, ◌+◌, ◌<◌, Bool, true, false, cond, not, eqb, List, [], ◌∷◌, ◌++◌, length, get_or, take, pos, negsuc, ◌+ℤ◌, arith}
use Rattle.std.proofs.lemmas.List.{map_more}
use Rattle.std.proofs.lemmas.List.Sums.{sum_by_push}
use Rattle.std.proofs.lemmas.Int.{ints}
use Rattle.well.specs.Lean.{flags, ones, zeros, lean}

pub flags_more : (tray : List ℕ) (i : ℕ) → i < length tray → flags (take (i + 1) tray) ≡ flags (take i tray) ++ eqb (get_or tray i 0) 1 ∷ []
flags_more tray i h = map_more (λ byte. eqb byte 1) tray i 0 h

-- a one adds 1, a zero takes 1 away
pub lean_push : (bits : List Bool) (bit : Bool) → lean (bits ++ bit ∷ []) ≡ lean bits +ℤ cond bit (pos 1) (negsuc 0)
lean_push bits true =
    let o : ones (bits ++ true ∷ []) ≡ ones bits + 1 = sum_by_push (λ bit. cond bit 1 0) bits true in
    let z : zeros (bits ++ true ∷ []) ≡ zeros bits + 0 = sum_by_push (λ bit. cond (not bit) 1 0) bits true in
    omega (arith, ints)
lean_push bits false =
    let o : ones (bits ++ false ∷ []) ≡ ones bits + 0 = sum_by_push (λ bit. cond bit 1 0) bits false in
    let z : zeros (bits ++ false ∷ []) ≡ zeros bits + 1 = sum_by_push (λ bit. cond (not bit) 1 0) bits false in
    omega (arith, ints)
