-- The width is the least number of bits that writes every code of a size. Assumes nothing.
use Rattle.std.proofs.Common.{◌≡◌, ℕ, ◌^◌, ◌<◌, ◌≤◌, Bool, true, false, cond, leb, refl, ⊎_elim, arith, pow_mono}
use Rattle.std.proofs.lemmas.Bool.{cases_lt}
use Rattle.std.proofs.lemmas.Bool.Decides.{nat_tests}
use Rattle.classes.specs.Recordings.{Sized, width, LeastWidth}

-- a power that does not reach m has a smaller exponent than one that does
above : (m w v : ℕ) → 2 ^ w < m → m ≤ 2 ^ v → w < v
above m w v low high = ⊎_elim (λ h. h) (λ h. let k : 2 ^ v ≤ 2 ^ w = pow_mono h in absurd (omega arith)) (cases_lt w v)

pub width_least : (m : ℕ) → Sized m → LeastWidth m (width m)
width_least m sized = at (leb m 2) refl (leb m 4) refl (leb m 8) refl
  where
    over : (k : ℕ) → leb m k ≡ false → k < m
    over k q = grind (arith, nat_tests)

    upto : (k : ℕ) → leb m k ≡ true → m ≤ k
    upto k q = grind (arith, nat_tests)

    at : (a : Bool) → leb m 2 ≡ a → (b : Bool) → leb m 4 ≡ b → (c : Bool) → leb m 8 ≡ c → LeastWidth m (cond a 1 (cond b 2 (cond c 3 4)))
    at true p b q c r = record { reaches = upto 2 p; least = λ v h. above m 0 v (omega arith) h }
    at false p true q c r = record { reaches = upto 4 q; least = λ v h. above m 1 v (over 2 p) h }
    at false p false q true r = record { reaches = upto 8 r; least = λ v h. above m 2 v (over 4 q) h }
    at false p false q false r = record { reaches = sized.1; least = λ v h. above m 3 v (over 8 r) h }
