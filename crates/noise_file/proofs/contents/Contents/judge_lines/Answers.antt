-- The first line that is refused is the refusal of the contents.
use Rattle.std.proofs.Common.{arith}
use Rattle.noise_file.proofs.Files.{contents_line, contents_none}
use Rattle.noise_file.proofs.Firsts.{climbs}
use Rattle.noise_file.proofs.contents.Contents.judge_lines.Goals as goal

pub returns-in_err-judge_line : goal.returns-in_err-judge_line
returns-in_err-judge_line c =
    climbs _ _ _ c.from_residual.ensures.1 (contents_line c.args.self.now.bytes.now c.loop-i.i _ c.args.self.now.whole c.loop-i.invariant c.in_err-judge_line.ensures (omega arith))

pub returns : goal.returns
returns c = contents_none c.args.self.now.bytes.now c.loop-i.i c.args.self.now.whole c.loop-i.invariant (omega arith)
