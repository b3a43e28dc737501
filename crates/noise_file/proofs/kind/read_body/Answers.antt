-- Each turn adds the code of one letter; the first letter without a code is the stray one.
use Rattle.std.proofs.Common.{◌≡◌, map, take, is_some, sym, ap, ◌∙◌, inl, arith}
use Rattle.std.specs.Option.{option_map}
use Rattle.std.proofs.lemmas.List.{take_all}
use Rattle.std.proofs.lemmas.Result.{err_from_is_err_and}
use Rattle.noise_file.specs.declared.fault.FileFault.TheVariants.{Letter}
use Rattle.noise_file.proofs.Firsts.{refused}
use Rattle.noise_file.proofs.Readings.{stray_here, read_as}
use Rattle.noise_file.proofs.kind.read_body.Goals as goal

pub returns-in_err-code : goal.returns-in_err-code
returns-in_err-code g c =
    let p = err_from_is_err_and c.from_residual.result c.from_residual.ensures.1 in
    let r = refused c.code.result _ _ _ c.ok_or.ensures.value c.in_err-code.was in
    rw (p.1, p.2, r.1) (inl (ap (option_map Letter) (stray_here g.K.Kind.coded c.args.letters.now c.loop-i.i c.loop-i-test.true c.loop-i.invariant.1 (ap is_some (ap g.K.Kind.coded (sym c.from.ensures) ∙ sym c.code.ensures) ∙ r.0))))

pub returns : goal.returns
returns g c =
    let a : take c.loop-i.i c.args.letters.now ≡ c.args.letters.now = take_all _ _ (omega arith) in
    read_as g.K.Kind.SIZE g.K.Kind.coded g.met.K.Kind.below _ _ (c.loop-i.invariant.0 ∙ ap (map g.K.Kind.coded) a)
