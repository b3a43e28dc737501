-- Bits at the front of a tray, also part by part and by way of a scratch list. Assumes nothing.
use Rattle.std.proofs.Common.{◌≡◌, ℕ, suc, ◌+◌, ◌-◌, ◌≤◌, Bool, List, [], ◌∷◌, ◌++◌, length, take, drop, sym, refl, ap, ◌∙◌, append_assoc, arith, length-append}
use borrow.Rule.Slice.PartMut.{put_mid}
use Rattle.std.proofs.lemmas.List.{take-append-drop, drop-drop, take_at, drop_at, drop-append-le, length-drop}
use Rattle.extractors.specs.Bits.{byte, bytes}
use Rattle.extractors.specs.Calls.{Written}

pub length_bytes : (s : List Bool) → length (bytes s) ≡ length s
length_bytes [] = refl
length_bytes (b ∷ s) = ap suc (length_bytes s)

-- a tray keeps its length, so the bits had room
pub yield_fits : (s : List Bool) (tray tray' : List ℕ) (n : ℕ) → Written s tray n tray' → length tray' ≡ length tray → n ≤ length tray
yield_fits s tray tray' n w kept =
    let e : length tray' ≡ length s + (length tray - length s) =
    ap length w.1 ∙ length-append (bytes s) (drop (length s) tray) ∙ ap (λ z. z + length (drop (length s) tray)) (length_bytes s) ∙ ap (λ z. length s + z) (length-drop (length s) tray) in
    omega (arith, w.0)

pub bytes_append : (s t : List Bool) → bytes (s ++ t) ≡ bytes s ++ bytes t
bytes_append [] t = refl
bytes_append (b ∷ s) t = ap (λ r. byte b ∷ r) (bytes_append s t)

-- one more part written behind the bits that stand at the front
pub join : (s₁ s₂ : List Bool) (t₀ t₁ part : List ℕ) (n₁ n₂ q : ℕ) → Written s₁ t₀ n₁ t₁ → Written s₂ (take q (drop n₁ t₁)) n₂ part → length part ≡ length (take q (drop n₁ t₁)) → Written (s₁ ++ s₂) t₀ (n₁ + n₂) (put_mid n₁ q t₁ part)
join s₁ s₂ t₀ t₁ part n₁ n₂ q w₁ w₂ kept =
    let d = drop (length s₁) t₀ in
    let l₁ : length (bytes s₁) ≡ n₁ = length_bytes s₁ ∙ sym w₁.0 in
    let front : take n₁ t₁ ≡ bytes s₁ = ap (take n₁) w₁.1 ∙ take_at (bytes s₁) d n₁ l₁ in
    let back : drop n₁ t₁ ≡ d = ap (drop n₁) w₁.1 ∙ drop_at (bytes s₁) d n₁ l₁ in
    let p : part ≡ bytes s₂ ++ drop (length s₂) (take q d) = w₂.1 ∙ ap (λ z. bytes s₂ ++ drop (length s₂) (take q z)) back in
    let e : length part ≡ length s₂ + (length (take q d) - length s₂) = ap length p ∙ length-append (bytes s₂) (drop (length s₂) (take q d)) ∙ ap (λ z. z + length (drop (length s₂) (take q d))) (length_bytes s₂) ∙ ap (λ z. length s₂ + z) (length-drop (length s₂) (take q d)) in
    let k : length part ≡ length (take q d) = kept ∙ ap (λ z. length (take q z)) back in
    let fits : length s₂ ≤ length (take q d) = omega arith in
    let rest : drop (length s₂) (take q d) ++ drop q d ≡ drop (length s₁ + length s₂) t₀ =
    sym (drop-append-le (length s₂) (take q d) (drop q d) fits) ∙ ap (drop (length s₂)) (take-append-drop q d) ∙ drop-drop (length s₂) (length s₁) t₀ in (
      ap (λ z. z + n₂) w₁.0 ∙ ap (λ z. length s₁ + z) w₂.0 ∙ sym (length-append s₁ s₂),
      ap (λ z. z ++ (part ++ drop q (drop n₁ t₁))) front ∙ ap (λ z. bytes s₁ ++ (part ++ drop q z)) back ∙ ap (λ z. bytes s₁ ++ (z ++ drop q d)) p
          ∙ ap (λ z. bytes s₁ ++ z) (append_assoc (bytes s₂) (drop (length s₂) (take q d)) (drop q d) ∙ ap (λ z. bytes s₂ ++ z) rest)
          ∙ sym (append_assoc (bytes s₁) (bytes s₂) _)
          ∙ ap (λ z. z ++ drop (length s₁ + length s₂) t₀) (sym (bytes_append s₁ s₂))
          ∙ ap (λ z. bytes (s₁ ++ s₂) ++ drop z t₀) (sym (length-append s₁ s₂)),
    )

-- a part that keeps its length leaves the whole as long as it was
pub length_put_mid : (n q : ℕ) (t part : List ℕ) → length part ≡ length (take q (drop n t)) → length (put_mid n q t part) ≡ length t
length_put_mid n q t part kept =
    length-append (take n t) (part ++ drop q (drop n t)) ∙ ap (λ z. length (take n t) + z) (length-append part (drop q (drop n t)) ∙ ap (λ z. z + length (drop q (drop n t))) kept ∙ sym (length-append (take q (drop n t)) (drop q (drop n t))) ∙ ap length (take-append-drop q (drop n t)))
    ∙ sym (length-append (take n t) (drop n t)) ∙ ap length (take-append-drop n t)

-- the front of a scratch list copied over the front of a tray
pub copied : (s : List Bool) (z out items scratch tray copy : List ℕ) (n len : ℕ) → Written s z n out → length out ≡ len → scratch ≡ take len (out ++ drop (length out) items) → copy ≡ take (n - 0) scratch → copy ++ drop (n - 0) tray ≡ bytes s ++ drop (length s) tray
copied s z out items scratch tray copy n len w l e c =
    let n0 : n - 0 ≡ length s = omega (arith, w.0) in
    let whole : scratch ≡ out = e ∙ take_at out (drop (length out) items) len l in
    let front : copy ≡ bytes s = c ∙ ap (λ k. take k scratch) n0 ∙ ap (take (length s)) (whole ∙ w.1) ∙ take_at (bytes s) (drop (length s) z) (length s) (length_bytes s) in
    ap (λ a. a ++ drop (n - 0) tray) front ∙ ap (λ k. bytes s ++ drop k tray) n0
