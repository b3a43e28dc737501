-- Packing and its inverse: what each byte is worth, that bytes fit, and that unpacking gives the bits back.
use Rattle.std.proofs.Common.{◌≡◌, ℕ, zero, suc, ◌==◌, append_assoc, mod-lt, pow_pos, ◌+◌, ◌*◌, ◌/◌, ◌%◌, ◌^◌, ◌<◌, ◌≤◌, Bool, true, false, eqb, List, [], ◌∷◌, ◌++◌, length, take, drop, set, sym, refl, ap, ◌∙◌, ap₂, mod-eq_of_lt, mul_assoc, mul_comm, add-mul, pow-suc, pow-add, arith, length-append, drop-drop, take-add}
use native.Mathlib.Nat.{mul-add-mod_self_right}
use mir.Val.{bool_byte}
use Rattle.std.proofs.lemmas.List.{take_more_set, length_push, length-take-le, length-drop}
use Rattle.std.proofs.Math.Arith.{mod-mul}
use Rattle.std.proofs.Math.Nat.{mod-one}
use Rattle.std.proofs.lemmas.List.{take_at}
use Rattle.std.proofs.lemmas.Nat.{shr_high}
use Rattle.well.specs.Packing.{value, packed, digits, unpacked}

pow_push : (bits : List Bool) (bit : Bool) → 2 ^ length (bits ++ bit ∷ []) ≡ 2 ^ length bits * 2
pow_push bits bit = ap (λ n. 2 ^ n) (let e = length_push bits bit in omega arith) ∙ pow-suc 2 (length bits)

-- one more bit doubles what stands before it
pub value_push : (bits : List Bool) (bit : Bool) → value (bits ++ bit ∷ []) ≡ 2 * value bits + bool_byte bit
value_push [] true = refl
value_push [] false = refl
value_push (true ∷ bits) bit = omega (arith, pow_push bits bit, value_push bits bit)
value_push (false ∷ bits) bit = value_push bits bit

-- w bits write a number below 2 to the power w
pub value_lt : (bits : List Bool) → value bits < 2 ^ length bits
value_lt [] = omega arith
value_lt (true ∷ bits) = omega (arith, value_lt bits, pow-suc 2 (length bits))
value_lt (false ∷ bits) = omega (arith, value_lt bits, pow-suc 2 (length bits))

-- a number above x and v, taken apart at the place w
high_part : (h w v x : ℕ) → h * 2 ^ suc w + (x * 2 ^ w + v) ≡ (h * 2 + x) * 2 ^ w + v
high_part h w v x =
    let p = 2 ^ w in
    let e : h * 2 ^ suc w ≡ h * (2 * p) = ap (λ n. h * n) (pow-suc 2 w ∙ mul_comm p 2) in
    omega (arith, e, mul_assoc h 2 p, add-mul (h * 2) x p)

-- the digit at the place w is the low digit of what stands from there up
digit_at : (h w v x : ℕ) → v < 2 ^ w → x < 2 → ((h * 2 + x) * 2 ^ w + v) / 2 ^ w % 2 ≡ x
digit_at h w v x lt small =
    ap (λ n. n % 2) (shr_high (h * 2 + x) w v lt) ∙ mul-add-mod_self_right h 2 x ∙ mod-eq_of_lt small

-- the digits of a number whose lowest places the bits write
digits_from : (h : ℕ) (bits : List Bool) → digits (length bits) (h * 2 ^ length bits + value bits) ≡ bits
digits_from h [] = refl
digits_from h (true ∷ bits) =
    let w = length bits in
    let v = value bits in
    let n : h * 2 ^ suc w + (2 ^ w + v) ≡ (h * 2 + 1) * 2 ^ w + v = let m = high_part h w v 1 in omega arith in
    ap (digits (suc w)) n ∙ ap₂ ◌∷◌ (ap (λ x. eqb x 1) (digit_at h w v 1 (value_lt bits) (omega arith))) (digits_from (h * 2 + 1) bits)
digits_from h (false ∷ bits) =
    let w = length bits in
    let v = value bits in
    let n : h * 2 ^ suc w + v ≡ (h * 2 + 0) * 2 ^ w + v = let m = high_part h w v 0 in omega arith in
    ap (digits (suc w)) n ∙ ap₂ ◌∷◌ (ap (λ x. eqb x 1) (digit_at h w v 0 (value_lt bits) (omega arith))) (digits_from (h * 2 + 0) bits)

-- a number's digits are the bits that write it
pub digits_value : (bits : List Bool) → digits (length bits) (value bits) ≡ bits
digits_value bits = ap (digits (length bits)) (omega arith) ∙ digits_from 0 bits

-- as many digits as are asked for
pub length_digits : (w n : ℕ) → length (digits w n) ≡ w
length_digits zero n = refl
length_digits (suc w) n = ap suc (length_digits w n)

-- the digits of a number write its remainder, and the whole number where it is small
value_first : (bit : ℕ) (bits : List Bool) → bit < 2 → value ((bit == 1) ∷ bits) ≡ bit * 2 ^ length bits + value bits
value_first zero bits h = omega arith
value_first (suc zero) bits h = omega arith
value_first (suc (suc bit)) bits h = absurd (omega arith)

value_digits_mod : (w n : ℕ) → value (digits w n) ≡ n % 2 ^ w
value_digits_mod zero n = sym (mod-one n)
value_digits_mod (suc w) n =
    value_first (n / 2 ^ w % 2) (digits w n) (mod-lt (n / 2 ^ w) (omega arith))
    ∙ ap₂ (λ a b. n / 2 ^ w % 2 * 2 ^ a + b) (length_digits w n) (value_digits_mod w n)
    ∙ sym (mod-mul n (omega arith) (pow_pos w)) ∙ ap (λ m. n % m) (mul_comm 2 (2 ^ w) ∙ sym (pow-suc 2 w))

pub value_digits : (w n : ℕ) → n < 2 ^ w → value (digits w n) ≡ n
value_digits w n h = value_digits_mod w n ∙ mod-eq_of_lt h

-- the bits of bytes one after the other
pub unpacked_append : (xs ys : List ℕ) → unpacked (xs ++ ys) ≡ unpacked xs ++ unpacked ys
unpacked_append [] ys = refl
unpacked_append (x ∷ xs) ys = ap (λ z. digits 8 x ++ z) (unpacked_append xs ys) ∙ sym (append_assoc (digits 8 x) (unpacked xs) (unpacked ys))

pub length_unpacked : (xs : List ℕ) → length (unpacked xs) ≡ 8 * length xs
length_unpacked [] = refl
length_unpacked (x ∷ xs) = omega (arith, length-append (digits 8 x) (unpacked xs), length_digits 8 x, length_unpacked xs)

-- what is written by bits behind others
pub value_append : (p q : List Bool) → value (p ++ q) ≡ value p * 2 ^ length q + value q
value_append [] q = omega arith
value_append (true ∷ p) q =
    omega (arith, value_append p q, ap (λ n. 2 ^ n) (length-append p q) ∙ pow-add 2 (length p) (length q), add-mul (2 ^ length p) (value p) (2 ^ length q))
value_append (false ∷ p) q = value_append p q

-- the digits of two numbers, one behind the other
pub digits_append : (a b x y : ℕ) → x < 2 ^ a → y < 2 ^ b → digits (a + b) (x * 2 ^ b + y) ≡ digits a x ++ digits b y
digits_append a b x y h l =
    let p = digits a x in
    let q = digits b y in
    let long : length (p ++ q) ≡ a + b = length-append p q ∙ ap₂ ◌+◌ (length_digits a x) (length_digits b y) in
    let worth : value (p ++ q) ≡ x * 2 ^ b + y =
    value_append p q ∙ ap₂ (λ v n. v * 2 ^ n + value q) (value_digits a x h) (length_digits b y) ∙ ap (λ v. x * 2 ^ b + v) (value_digits b y l) in
    ap₂ digits (sym long) (sym worth) ∙ digits_value (p ++ q)

-- the first byte is what the first eight bits write
pub byte_first : (byte : ℕ) (bytes : List ℕ) (behind : List Bool) → byte < 256 → value (take 8 (unpacked (byte ∷ bytes) ++ behind)) ≡ byte
byte_first byte bytes behind h =
    ap (λ z. value (take 8 z)) (append_assoc (digits 8 byte) (unpacked bytes) behind)
    ∙ ap value (take_at (digits 8 byte) (unpacked bytes ++ behind) 8 (length_digits 8 byte)) ∙ value_digits 8 byte h

-- eight bits are the digits of the byte that they write
pub byte_digits : (bits : List Bool) → 8 ≤ length bits → digits 8 (value (take 8 bits)) ≡ take 8 bits
byte_digits bits h =
    ap (λ n. digits n (value (take 8 bits))) (sym (length-take-le 8 bits h)) ∙ digits_value (take 8 bits)

-- unpacking gives back the bits that were packed
pub unpacked_packed : (k : ℕ) (bits : List Bool) → 8 * k ≤ length bits → unpacked (packed k bits) ≡ take (8 * k) bits
unpacked_packed zero bits h = refl
unpacked_packed (suc k) bits h =
    let s : 8 + 8 * k ≡ 8 * suc k = omega arith in
    let rest : 8 * k ≤ length (drop 8 bits) = simp length-drop (omega arith) in
    ap₂ ◌++◌ (byte_digits bits (omega arith)) (unpacked_packed k (drop 8 bits) rest)
    ∙ sym (take-add 8 (8 * k) bits) ∙ ap (λ n. take n bits) s

-- one byte more
pub packed_more : (k : ℕ) (bits : List Bool) → packed (k + 1) bits ≡ packed k bits ++ value (take 8 (drop (8 * k) bits)) ∷ []
packed_more zero bits = refl
packed_more (suc k) bits =
    let s : suc k + 1 ≡ suc (k + 1) = omega arith in
    let m : 8 + 8 * k ≡ 8 * suc k = omega arith in
    ap (λ n. packed n bits) s ∙ ap (λ z. value (take 8 bits) ∷ z)
    (packed_more k (drop 8 bits)
    ∙ ap (λ z. packed k (drop 8 bits) ++ value (take 8 z) ∷ []) (drop-drop (8 * k) 8 bits ∙ ap (λ n. drop n bits) m))

-- a key of which one byte more is written, from the bits that are left
pub key_more : (key : List ℕ) (bits left : List Bool) (i byte : ℕ) → i < length key → take i key ≡ packed i bits → left ≡ drop (8 * i) bits → byte ≡ value (take 8 left) → take (i + 1) (set key i byte) ≡ packed (i + 1) bits
key_more key bits left i byte lt front rest worth =
    take_more_set key i byte lt
    ∙ ap₂ (λ s b. s ++ b ∷ []) front (worth ∙ ap (λ z. value (take 8 z)) rest)
    ∙ sym (packed_more i bits)
