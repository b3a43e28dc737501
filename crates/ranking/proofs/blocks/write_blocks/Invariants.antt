-- The bits of the blocks so far are written, and the rest of the recording is still to be ranked.
use Rattle.std.proofs.Common.{◌≡◌}
use Rattle.std.specs.Slice.Iter.{chunks_rest, chunks_size}
use Rattle.ranking.proofs.BlockWriting.{Writing}
use Rattle.ranking.proofs.blocks.write_blocks.Given as goal

abbrev pub invariant-loop-block : goal.invariant-loop-block
invariant-loop-block g l =
    (goal.iterator-loop-block g).can_next l.block-iterator
    × (goal.iterator-loop-block g).is_finite l.block-iterator
    × (chunks_size l.block-iterator ≡ l.b)
    × Writing l.size l.b l.recording l.initial.tray (chunks_rest l.block-iterator) l.given l.tray
