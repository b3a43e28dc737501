-- What is placed is filed.
use Rattle.std.proofs.Common.{◌∙◌}
use Rattle.blum.proofs.Placing.{parts_filed}
use Rattle.blum.proofs.lanes.file_exits.Goals as goal

pub returns : goal.returns
returns c =
    parts_filed c.args.recording.now c.place_exits.new.cuts c.place_exits.new.exits c.in_ok-exits.exits.items c.in_ok-exits.exits.len c.place_exits.ensures
    (c.place_exits.auto.exits ∙ c.deref_mut.ensures.len)
