-- The view has the part of a state at its number.
use Rattle.std.proofs.Common.{◌+◌, ◌-◌, [], get_or, take, drop, sym, ap, ◌∙◌}
use Rattle.blum.proofs.Placing.{parts_each}
use Rattle.blum.proofs.lanes.Lanes.lane.Goals as goal

pub returns : goal.returns
returns c =
    let b = get_or c.self.inside.cuts c.args.state 0 in
    let e = get_or c.self.inside.cuts (c.args.state + 1) 0 in
    rw (c.from.ensures, c.from-2.ensures) (
    ap (λ l. take (e - b) (drop b l)) c.deref.ensures.value
    ∙ sym (parts_each c.self.inside.cuts c.self.inside.exits.items c.args.state c.requires)
    ∙ ap (λ r. get_or r c.args.state []) c.self.view_is
    )
