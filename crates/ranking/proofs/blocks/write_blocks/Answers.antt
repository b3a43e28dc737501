-- A turn writes the bits of one block behind those of the blocks before it.
use Rattle.std.proofs.Common.{◌-◌, length, arith}
use Rattle.ranking.proofs.BlockWriting.{next_codes, next_short, next_room, next_tray, next_written}
use Rattle.ranking.proofs.blocks.write_blocks.Goals as goal

pub write_rank_bits-given-requires : goal.write_rank_bits-given-requires
write_rank_bits-given-requires g c =
    let w = c.loop-block.invariant in
    let cut = c.in-Some.ensures.steps.1 in
    let codes = next_codes w.3 c.requires.sized c.requires.some w.2 _ _ cut.0 cut.1 in
    let short = next_short w.3 c.requires.sized c.requires.some w.2 _ _ cut.0 cut.1 in
    next_tray w.3 c.requires.sized c.requires.some w.2 _ _ cut.0 cut.1 (c.requires.class_sized _ _ codes short c.rule-rank.ensures) (c.requires.ranked _ _ codes short c.rule-rank.ensures)

pub overflow_add-given : goal.overflow_add-given
overflow_add-given g c =
    let w = c.loop-block.invariant in
    let cut = c.in-Some.ensures.steps.1 in
    let codes = next_codes w.3 c.requires.sized c.requires.some w.2 _ _ cut.0 cut.1 in
    let short = next_short w.3 c.requires.sized c.requires.some w.2 _ _ cut.0 cut.1 in
    omega (arith, next_room w.3 c.requires.sized c.requires.some w.2 _ _ cut.0 cut.1 (c.requires.class_sized _ _ codes short c.rule-rank.ensures) (c.requires.ranked _ _ codes short c.rule-rank.ensures), c.write_rank_bits-given.ensures.0)

pub loop-block-preserved : goal.loop-block-preserved
loop-block-preserved g c =
    let w = c.loop-block.invariant in
    let h = c.in-Some.ensures.steps in
    let codes = next_codes w.3 c.requires.sized c.requires.some w.2 _ _ h.1.0 h.1.1 in
    let short = next_short w.3 c.requires.sized c.requires.some w.2 _ _ h.1.0 h.1.1 in (
      omega (arith, h.0, w.0),
      tt,
      omega (arith, h.0, w.2),
      next_written w.3 c.requires.sized c.requires.some w.2 _ _ h.1.0 h.1.1 (c.requires.class_sized _ _ codes short c.rule-rank.ensures) (c.requires.ranked _ _ codes short c.rule-rank.ensures)
          (length c.loop-block.tray - c.loop-block.given) c.write_rank_bits-given.result c.write_rank_bits-given.new.tray c.write_rank_bits-given.ensures c.write_rank_bits-given.auto.tray,
    )
