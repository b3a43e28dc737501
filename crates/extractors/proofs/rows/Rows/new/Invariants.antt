-- There is an empty list for each turn so far.
use Rattle.std.proofs.Common.{◌≡◌, [], map, replicate, vec_items}
use Rattle.extractors.proofs.rows.Rows.new.Given as goal

abbrev pub invariant-loop : goal.invariant-loop
invariant-loop l = map vec_items l.rows.items ≡ replicate l.counter []
