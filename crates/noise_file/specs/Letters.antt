-- The kinds of symbols and the letters of each, by character code.
--   coin_code     H is 0, T is 1
--   face_code     the digits 1 to 6 are 0 to 5
--   label_code    a to p are 0 to 15
--   symbols_of    the kind of a kind letter: C coins, D faces, L labels
--   kind_letter   the letter of a kind
--   code_in       the code of a letter in a kind
use Rattle.std.specs.Prelude.{ℕ, ◌-◌, cond, ◌&&◌, Some, None, Option, ◌==◌, nat_le}
use Rattle.noise_file.specs.declared.kind.Symbols.{Symbols}
use Rattle.noise_file.specs.declared.kind.Symbols.TheVariants.{Coins, Faces, Labels}

abbrev pub coin_code : ℕ → Option ℕ
coin_code l = cond (l == 72) (Some 0) (cond (l == 84) (Some 1) None)

abbrev pub face_code : ℕ → Option ℕ
face_code l = cond (nat_le 49 l && nat_le l 54) (Some (l - 49)) None

abbrev pub label_code : ℕ → Option ℕ
label_code l = cond (nat_le 97 l && nat_le l 112) (Some (l - 97)) None

abbrev pub symbols_of : ℕ → Option Symbols
symbols_of l = cond (l == 67) (Some Coins) (cond (l == 68) (Some Faces) (cond (l == 76) (Some Labels) None))

abbrev pub kind_letter : Symbols → ℕ
kind_letter Coins = 67
kind_letter Faces = 68
kind_letter Labels = 76

abbrev pub code_in : Symbols → ℕ → Option ℕ
code_in Coins = coin_code
code_in Faces = face_code
code_in Labels = label_code
