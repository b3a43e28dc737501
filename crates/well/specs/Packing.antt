-- Bits as the bytes of a key, the first bit as the highest of its byte.
--   value      the number that bits write: a one counts 2 to the power of the number of bits after it
--   packed     k bytes from the front of a list of bits, eight bits each
--   digits     the w lowest bits of a number, the highest of them first
--   unpacked   the bits of bytes in order, eight each, the highest first
use Rattle.std.specs.Prelude.{ℕ, zero, suc, ◌+◌, ◌/◌, ◌%◌, ◌^◌, Bool, true, false, List, [], ◌∷◌, ◌++◌, length, take, drop, ◌==◌}

abbrev pub value : List Bool → ℕ
value [] = 0
value (true ∷ bits) = 2 ^ length bits + value bits
value (false ∷ bits) = value bits

abbrev pub packed : ℕ → List Bool → List ℕ
packed zero bits = []
packed (suc k) bits = value (take 8 bits) ∷ packed k (drop 8 bits)

abbrev pub digits : ℕ → ℕ → List Bool
digits zero n = []
digits (suc w) n = (n / 2 ^ w % 2 == 1) ∷ digits w n

abbrev pub unpacked : List ℕ → List Bool
unpacked [] = []
unpacked (byte ∷ bytes) = digits 8 byte ++ unpacked bytes
