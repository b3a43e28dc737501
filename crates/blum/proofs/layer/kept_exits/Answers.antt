-- A lane without its last exit ends one sooner.
use Rattle.std.proofs.Common.{sym, ap, ◌∙◌, take, ne_eqb}
use Rattle.std.proofs.lemmas.Bool.{cond-false}
use Rattle.blum.specs.Keeps.{init_take}
use Rattle.blum.proofs.layer.kept_exits.Goals as goal

pub returns : goal.returns
returns c = ap (λ n. take n c.args.lane.now) c.saturating_sub.ensures ∙ sym (init_take c.args.lane.now) ∙ sym (cond-false _ _ _ (ne_eqb _ _ c.if-last-state.false))
