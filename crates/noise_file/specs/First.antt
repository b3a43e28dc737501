-- Rules that are judged in order, where the first one that refuses is answered.
--   unless       a rule: nothing where the test holds, else the answer
--   first        a rule, and if it is silent another
--   first_over   a rule for each of the numbers 0 to n - 1, in order
use Rattle.std.specs.Prelude.{ℕ, zero, suc, Bool, cond, Some, None, Option}

abbrev pub unless : {X : Type 0} → Bool → X → Option X
unless b x = cond b None (Some x)

abbrev pub first : {X : Type 0} → Option X → Option X → Option X
first (Some x) o = Some x
first None o = o

abbrev pub first_over : {X : Type 0} → ℕ → (ℕ → Option X) → Option X
first_over zero f = None
first_over (suc n) f = first (first_over n f) (f n)
