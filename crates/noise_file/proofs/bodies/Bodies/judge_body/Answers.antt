-- The first stray letter of the entry is the refusal that is due to its body.
use Rattle.std.proofs.Common.{◌+◌, Some, None, sym, ap, ◌∙◌, rules}
use Rattle.noise_file.specs.declared.fault.FileFault.TheVariants.{Letter}
use Rattle.noise_file.specs.Entries.{symbols_in, body_in}
use Rattle.noise_file.specs.Letters.{code_in}
use Rattle.noise_file.proofs.Files.{stray_due}
use Rattle.noise_file.proofs.Readings.{stray_below}
use Rattle.noise_file.proofs.bodies.Bodies.judge_body.Goals as goal

pub overflow_add-result : goal.overflow_add-result
overflow_add-result c =
    let e = ap (λ b. b.at) c.body.ensures in
    let l = stray_below (code_in (symbols_in c.entry-entry.result)) (body_in c.entry-entry.result).letters.now c.in-Some.k c.in-Some.ensures in
    search rules

pub returns-in-Some : goal.returns-in-Some
returns-in-Some c =
    stray_due _ c.args.i c.entry-entry.result (Some c.in-Some.k) c.entry-entry.ensures.holds c.in-Some.ensures
    ∙ ap (λ b. Some (Letter (b.at + c.in-Some.k))) (sym c.body.ensures)

pub returns-in-None : goal.returns-in-None
returns-in-None c = stray_due _ c.args.i c.entry-entry.result None c.entry-entry.ensures.holds c.in-None.ensures
