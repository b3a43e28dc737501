-- The state of a well, as numbers and a list of bits.
--   State   the mark, the queue of held bits, the totals and the number of draws
--   fresh   the state of a well that was just made with a mark
use Rattle.std.specs.Prelude.{ℕ, Bool, List, []}

pub record State : Type 0 where
  pub mark : ℕ
  pub queue : List Bool
  pub poured : ℕ
  pub loaded : ℕ
  pub out : ℕ
  pub draws : ℕ

abbrev pub fresh : ℕ → State
fresh mark = record { mark = mark; queue = []; poured = 0; loaded = 0; out = 0; draws = 0 }
