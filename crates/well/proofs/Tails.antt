-- Bits put behind a tail: those of both in one number, and the byte that the first eight of them make. Assumes nothing.
use Rattle.std.proofs.Common.{◌≡◌, ℕ, suc, Bool, true, false, eqb, get_or, length, take, drop, refl, take-add, length-take, length-drop, ◌+◌, ◌-◌, ◌*◌, ◌/◌, ◌%◌, ◌^◌, ◌<◌, ◌≤◌, List, [], ◌∷◌, ◌++◌, sym, ap, ap₂, ◌∙◌, subst, append_assoc, append-nil, mod-eq_of_lt, mod-lt, suc-mul, mul-le-mul_right, pow_mono, pow_pos, arith}
use Rattle.std.proofs.Math.Nat.{div-lt_iff_lt-mul}
use Rattle.std.proofs.lemmas.Nat.{pow-add, div-add-mod'}
use Rattle.std.proofs.lemmas.List.{get_or-drop, length-map, map-append}
use mir.Val.{bool_byte}
use Rattle.well.specs.Lean.{flags}
use Rattle.well.specs.Packing.{digits, unpacked, value}
use Rattle.well.proofs.Leaning.{flags_more}
use Rattle.well.proofs.Packs.{digits_append, digits_value, unpacked_append}

module _ (c k t v : ℕ) (short : c < 8) (few : k ≤ 8) (fits : t < 2 ^ c) (within : v < 2 ^ k) where
  -- the number of both, as the code makes it
  abbrev pub all : ℕ
  all = t * 2 ^ k % 65536 + v

  room : t * 2 ^ k + 2 ^ k ≤ 2 ^ (c + k)
  room = let le : suc t * 2 ^ k ≤ 2 ^ c * 2 ^ k = mul-le-mul_right (2 ^ k) fits in omega (arith, suc-mul t (2 ^ k), pow-add 2 c k)

  whole : all ≡ t * 2 ^ k + v
  whole = ap (λ n. n + v) (mod-eq_of_lt (omega (arith, room, pow_mono {i = c + k} {j = 15} (omega arith), pow_pos k)))

  pub all_fits : all < 2 ^ (c + k)
  all_fits = omega (arith, whole, room)

  pub all_small : c + k < 8 → all < 256
  all_small h = omega (arith, all_fits, pow_mono {i = c + k} {j = 7} (omega arith))

  pub all_digits : digits (c + k) all ≡ digits c t ++ digits k v
  all_digits = ap (digits (c + k)) whole ∙ digits_append c k t v fits within

  module _ (many : 8 ≤ c + k) where
    abbrev pub unit : ℕ
    unit = 1 * 2 ^ (c + k - 8) % 65536

    unit_is : unit ≡ 2 ^ (c + k - 8)
    unit_is = let e : 1 * 2 ^ (c + k - 8) ≡ 2 ^ (c + k - 8) = omega arith in ap (λ n. n % 65536) e ∙ mod-eq_of_lt (omega (arith, pow_mono {i = c + k - 8} {j = 7} (omega arith)))

    pub rest_fits : all % unit < 2 ^ (c + k - 8)
    rest_fits = subst (λ u. all % u < 2 ^ (c + k - 8)) (sym unit_is) (mod-lt all (pow_pos (c + k - 8)))

    pub first_fits : all / unit < 256
    first_fits =
        let u = c + k - 8 in
        let e : 2 ^ (c + k) ≡ 2 ^ 8 * 2 ^ u = let s : c + k ≡ 8 + u = omega arith in ap (λ n. 2 ^ n) s ∙ pow-add 2 8 u in
        subst (λ n. all / n < 256) (sym unit_is) ((div-lt_iff_lt-mul (pow_pos u)).1 (omega (arith, all_fits, e)))

    -- the first eight bits and those behind them
    pub both : digits 8 (all / unit) ++ digits (c + k - 8) (all % unit) ≡ digits c t ++ digits k v
    both =
        let u = c + k - 8 in
        let q = all / 2 ^ u in
        let r = all % 2 ^ u in
        let parts : q * 2 ^ u + r ≡ all = div-add-mod' all (2 ^ u) in
        let n : c + k ≡ 8 + u = omega arith in
        ap (λ w. digits 8 (all / w) ++ digits u (all % w)) unit_is
        ∙ sym (digits_append 8 u q r (subst (λ w. all / w < 256) unit_is first_fits) (mod-lt all (pow_pos u)))
        ∙ ap₂ digits (sym n) parts ∙ all_digits

pub unpacked_last : (bytes : List ℕ) (byte : ℕ) → unpacked (bytes ++ byte ∷ []) ≡ unpacked bytes ++ digits 8 byte
unpacked_last bytes byte = unpacked_append bytes (byte ∷ []) ∙ ap (λ z. unpacked bytes ++ z) (append-nil (digits 8 byte))

-- WHAT THE BYTES OF A TRAY APPEND

-- eight bytes more
pub eight_more : (bits : List Bool) (tray : List ℕ) (i : ℕ) → 8 * i + 8 ≤ length tray
    → (bits ++ flags (take (8 * i) tray)) ++ digits 8 (value (flags (take 8 (drop (8 * i) tray)))) ≡ bits ++ flags (take (8 * (i + 1)) tray)
eight_more bits tray i h =
    let read = take (8 * i) tray in
    let next = take 8 (drop (8 * i) tray) in
    let long : length (flags next) ≡ 8 = omega (arith, length-map next (λ b. eqb b 1), length-take 8 (drop (8 * i) tray), length-drop (8 * i) tray) in
    let n : 8 * i + 8 ≡ 8 * (i + 1) = omega arith in
    ap (λ z. (bits ++ flags read) ++ z) (ap (λ k. digits k (value (flags next))) (sym long) ∙ digits_value (flags next))
    ∙ append_assoc bits (flags read) (flags next)
    ∙ ap (λ z. bits ++ z) (sym (map-append (λ b. eqb b 1) read next) ∙ ap flags (sym (take-add (8 * i) 8 tray)) ∙ ap (λ k. flags (take k tray)) n)

digits_one : (bit : Bool) → digits 1 (bool_byte bit) ≡ bit ∷ []
digits_one true = refl
digits_one false = refl

-- one byte more, which is byte j of what is left behind n
pub one_more : (bits : List Bool) (tray few : List ℕ) (n j : ℕ) → few ≡ drop n tray → j < length few
    → (bits ++ flags (take (n + j) tray)) ++ digits 1 (bool_byte (eqb (get_or few j 0) 1)) ≡ bits ++ flags (take (n + (j + 1)) tray)
one_more bits tray few n j e h =
    let at : n + j < length tray = omega (arith, ap length e, length-drop n tray) in
    let same : get_or few j 0 ≡ get_or tray (n + j) 0 = ap (λ l. get_or l j 0) e ∙ get_or-drop n tray j 0 in
    let k : n + j + 1 ≡ n + (j + 1) = omega arith in
    ap (λ z. (bits ++ flags (take (n + j) tray)) ++ z) (digits_one (eqb (get_or few j 0) 1) ∙ ap (λ b. eqb b 1 ∷ []) same)
    ∙ append_assoc bits (flags (take (n + j) tray)) (eqb (get_or tray (n + j) 0) 1 ∷ [])
    ∙ ap (λ z. bits ++ z) (sym (flags_more tray (n + j) at) ∙ ap (λ m. flags (take m tray)) k)
