-- The next bits of the codes so far are filed.
use Rattle.std.proofs.Common.{◌^◌}
use Rattle.extractors.proofs.Filing.{Filing}
use Rattle.split.specs.SplitRule.{node}
use Rattle.split.proofs.layer.file_bits.Given as goal

abbrev pub invariant-loop-code : goal.invariant-loop-code
invariant-loop-code l = Filing (2 ^ l.d) (node l.w l.d) l.codes l.code-index l.nodes
