-- The first body that is refused is the refusal of the letters.
use Rattle.std.proofs.Common.{arith}
use Rattle.noise_file.proofs.Files.{letters_body, letters_none}
use Rattle.noise_file.proofs.Firsts.{climbs}
use Rattle.noise_file.proofs.bodies.Bodies.judge_letters.Goals as goal

pub returns-in_err-judge_body : goal.returns-in_err-judge_body
returns-in_err-judge_body c =
    climbs _ _ _ c.from_residual.ensures.1 (letters_body c.args.self.now.contents.bytes.now c.loop-i.i _ c.loop-i.invariant c.in_err-judge_body.ensures (omega arith))

pub returns : goal.returns
returns c = letters_none c.args.self.now.contents.bytes.now c.loop-i.i c.loop-i.invariant (omega arith)
