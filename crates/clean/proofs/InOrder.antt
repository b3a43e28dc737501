-- One entry more in order.
use Rattle.std.proofs.Common.{◌≡◌, ℕ, suc, ◌-◌, ◌≤◌, List, arith}
use Rattle.well.specs.State.{State}
use Rattle.clean.specs.Cleaning.{EntryCleaned, EntriesCleaned}

pub one_entry_more : (bs : List ℕ) (n m : ℕ) (text text' : List ℕ) (s s' : State) → 1 ≤ n → m ≡ n → EntriesCleaned bs (n - 1) text s → EntryCleaned bs n s text text' s' → EntriesCleaned bs m text' s'
one_entry_more bs n m text text' s s' some same before entry =
    let next : n ≡ suc (n - 1) = omega arith in
    rw (same, next) (text, s, before, rw next at entry)
