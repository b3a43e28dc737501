-- The group rule: the ranks below N are cut into consecutive groups whose lengths are the powers of two in the binary form
-- of N, largest first, and position t in a group of length 2 to the power a gives t in a bits, highest first.
--   in_bits      t in a bits, highest first
--   group_bits   the bits of rank r of N, for N below 2 to the power a
--   rank_bits    the bits of rank r of N
use Rattle.std.specs.Prelude.{ℕ, zero, suc, ◌-◌, ◌^◌, Bool, true, false, cond, List, [], ◌∷◌, nat_lt}

unfoldable pub in_bits : ℕ → ℕ → List Bool
in_bits zero t = []
in_bits (suc a) t =
    let low : List Bool = false ∷ in_bits a t in
    let high : List Bool = true ∷ in_bits a (t - 2 ^ a) in
    cond (nat_lt t (2 ^ a)) low high

-- where N has the power 2 ^ a, its group holds the first ranks; the other groups are those of what is left of N
unfoldable pub group_bits : ℕ → ℕ → ℕ → List Bool
group_bits zero N r = []
group_bits (suc a) N r =
    let skipped : List Bool = group_bits a N r in
    let here : List Bool = in_bits a r in
    let later : List Bool = group_bits a (N - 2 ^ a) (r - 2 ^ a) in
    let some : List Bool = cond (nat_lt r (2 ^ a)) here later in
    cond (nat_lt N (2 ^ a)) skipped some

unfoldable pub rank_bits : ℕ → ℕ → List Bool
rank_bits N r = group_bits 64 N r
