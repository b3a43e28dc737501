-- The first stray code is the one that the search for it finds.
use Rattle.std.proofs.Common.{None, Some, arith, rules, tests}
use Rattle.std.proofs.lemmas.Bool.Decides.{nat_tests}
use Rattle.extractors.proofs.Judging.{stray_found}
use Rattle.extractors.proofs.judge.judge.Goals as goal

pub returns-in-Some : goal.returns-in-Some
returns-in-Some c =
    let found = stray_found _ c.args.size c.args.recording.now _ _ _ (Some c.in-Some.first) c.in-Some.ensures.ran c.iter.ensures.rest (λ y q k. search (rules, tests)) (λ y q k. search (rules, tests)) in
    grind (arith, nat_tests)

pub returns-then-room-width : goal.returns-then-room-width
returns-then-room-width c =
    let none = stray_found _ c.args.size c.args.recording.now _ _ _ None c.in_default.ensures.ran c.iter.ensures.rest (λ y q k. search (rules, tests)) (λ y q k. search (rules, tests)) in
    grind (arith, nat_tests)

pub returns : goal.returns
returns c =
    let none = stray_found _ c.args.size c.args.recording.now _ _ _ None c.in_default.ensures.ran c.iter.ensures.rest (λ y q k. search (rules, tests)) (λ y q k. search (rules, tests)) in
    grind (arith, nat_tests)
