-- The first letter without a code is the stray one.
use Rattle.std.proofs.Common.{◌≡◌, true, false, is_some, rules}
use borrow.Author.Tests.{tests}
use Rattle.std.proofs.lemmas.Iterator.{IsFirst-from_position, YieldsList-from_slice}
use Rattle.noise_file.proofs.Readings.{stray_is}
use Rattle.noise_file.proofs.kind.first_stray.Goals as goal

pub returns : goal.returns
returns g c =
    let coded = g.K.Kind.coded in
    let found = IsFirst-from_position _ _ c.position.result (λ l. is_some (coded l) ≡ false) (λ l. is_some (coded l) ≡ true) c.position.ensures.ran (YieldsList-from_slice c.args.letters.now cc) (λ x q k. search (rules, tests)) (λ x q k. search (rules, tests)) in
    stray_is coded c.args.letters.now c.position.result found
