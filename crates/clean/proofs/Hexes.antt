-- The hexadecimal digits of bytes, byte by byte.
use Rattle.std.proofs.Common.{◌≡◌, ℕ, ◌+◌, ◌-◌, ◌^◌, ◌/◌, ◌%◌, ◌<◌, false, List, [], ◌∷◌, ◌++◌, length, get_or, take, sym, refl, ap, ◌∙◌}
use Rattle.std.specs.Fmt.{digits, format_spec, padded_integral}
use Rattle.std.proofs.lemmas.Fmt.{hex_byte}
use Rattle.std.proofs.lemmas.List.{take_more}
use Rattle.clean.specs.Lines.{hex, hexes}

hexes_append : (a b : List ℕ) → hexes (a ++ b) ≡ hexes a ++ hexes b
hexes_append [] b = refl
hexes_append (x ∷ a) b = ap (λ (l : List ℕ). hex (x / 16) ∷ (hex (x % 16) ∷ l)) (hexes_append a b)

-- what `{:02x}` writes of a byte follows the digits of those before it
pub hexes_more : (key : List ℕ) (i : ℕ) → i < length key → get_or key i 0 < 256
    → hexes (take i key) ++ padded_integral (format_spec 32 0 4 2 (2 ^ 64 - 1)) false [] (digits 16 false (get_or key i 0)) ≡ hexes (take (i + 1) key)
hexes_more key i h byte =
    ap (λ (l : List ℕ). hexes (take i key) ++ l) (hex_byte false (get_or key i 0) byte)
    ∙ sym (ap hexes (take_more key i 0 h) ∙ hexes_append (take i key) (get_or key i 0 ∷ []))
