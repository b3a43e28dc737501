-- The state that a well is in.
--   state   the state of the struct
use Rattle.well.specs.declared.store.Well.{Well}
use Rattle.well.specs.Held.{held}
use Rattle.well.specs.State.{State}

abbrev pub state : Well → State
state well = record { mark = well.mark; queue = held well.queue; poured = well.poured; loaded = well.loaded; out = well.out; draws = well.draws }
