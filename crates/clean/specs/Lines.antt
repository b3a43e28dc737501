-- The lines that the program prints, as bytes.
--   hex            the lowercase hexadecimal digit of a number below 16
--   hexes          two hexadecimal digits for each byte, the higher first
--   entry_line     number, kind letter, tower letter, symbols, yield and lean of an entry
--   key_line       a key
--   last_line      the bits poured, loaded and held
--   refusal_line   the number and the place of a file's refusal
use Rattle.std.specs.Prelude.{ℕ, ◌+◌, ◌/◌, ◌%◌, cond, List, [], ◌∷◌, ◌++◌, ℤ, codes, decimal, nat_lt}
use Rattle.std.proofs.Math.Utf8.{encode}
use Rattle.std.specs.Fmt.{signed_decimal}

abbrev pub hex : ℕ → ℕ
hex n = cond (nat_lt n 10) (48 + n) (87 + n)

abbrev pub hexes : List ℕ → List ℕ
hexes [] = []
hexes (byte ∷ bytes) = hex (byte / 16) ∷ (hex (byte % 16) ∷ hexes bytes)

abbrev pub space : List ℕ
space = codes " "

-- kind and tower are characters
abbrev pub entry_line : ℕ → ℕ → ℕ → ℕ → ℕ → ℤ → List ℕ
entry_line number kind tower symbols gain lean =
    decimal number ++ (space ++ (encode kind ++ (space ++ (encode tower ++ (space ++ (decimal symbols ++ (space ++ (decimal gain ++ (space ++ (signed_decimal lean ++ codes "\n"))))))))))

abbrev pub key_line : List ℕ → List ℕ
key_line key = codes "key " ++ (hexes key ++ codes "\n")

abbrev pub last_line : ℕ → ℕ → ℕ → List ℕ
last_line poured loaded held = codes "poured " ++ (decimal poured ++ (codes " loaded " ++ (decimal loaded ++ (codes " held " ++ (decimal held ++ codes "\n")))))

abbrev pub refusal_line : ℕ → ℕ → List ℕ
refusal_line number place = codes "refused " ++ (decimal number ++ (codes " file " ++ (decimal place ++ codes "\n")))
