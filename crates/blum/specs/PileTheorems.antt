-- The two theorems of piles. Assumes nothing.
use Rattle.extractors.specs.Piles.{Pile, Lawful}
use Rattle.extractors.specs.Piles.Pile.{bare, laned}
use Rattle.blum.specs.PilesEven.{CountsEven, OwnClassEven, PilesEven}
use Rattle.blum.specs.BlumEven.{blum_counts, blum_chains}

pub counts_even : (p : Pile) → Lawful p → CountsEven p
counts_even (bare f) law m sized = law m sized
counts_even (laned f) law m sized = blum_counts m (f m) sized (law m sized)

pub own_class_even : (p : Pile) → Lawful p → OwnClassEven p
own_class_even (bare f) law m sized = law m sized
own_class_even (laned f) law m sized = blum_chains m (f m) sized (law m sized)

pub piles_even : PilesEven
piles_even p law = (counts_even p law, own_class_even p law)
