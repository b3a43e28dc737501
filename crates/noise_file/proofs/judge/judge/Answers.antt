-- The parts are judged in the order of the rules.
use Rattle.noise_file.proofs.Files.{judged, due_at_head, due_at_contents, due_at_end}
use Rattle.noise_file.proofs.Firsts.{climbs}
use Rattle.noise_file.proofs.judge.judge.Goals as goal

pub returns-in_err-judge_head-clause-due : goal.returns-in_err-judge_head-clause-due
returns-in_err-judge_head-clause-due c = climbs _ _ _ c.from_residual.ensures.1 (due_at_head _ _ c.in_err-judge_head.ensures)

pub returns-in_err-contents-clause-due : goal.returns-in_err-contents-clause-due
returns-in_err-contents-clause-due c = climbs _ _ _ c.from_residual-in_err-contents.ensures.1 (due_at_contents _ _ c.in_ok-judge_head.ensures c.in_err-contents.ensures)

pub returns-in_err-judge_lines-clause-due : goal.returns-in_err-judge_lines-clause-due
returns-in_err-judge_lines-clause-due c =
    climbs _ _ _ c.from_residual-in_err-judge_lines.ensures.1 (due_at_contents _ _ c.in_ok-judge_head.ensures (rw c.in_ok-contents.ensures at c.in_err-judge_lines.ensures))

pub returns-in_err-judge_end-clause-due : goal.returns-in_err-judge_end-clause-due
returns-in_err-judge_end-clause-due c =
    climbs _ _ _ c.from_residual-in_err-judge_end.ensures.1
    (due_at_end _ _ c.in_ok-judge_head.ensures (rw c.in_ok-contents.ensures at c.in_ok-judge_lines.ensures) (rw c.in_ok-contents.ensures at c.in_err-judge_end.ensures))

pub returns : goal.returns
returns c =
    let same = c.in_ok-contents.ensures in
    let j = judged c.args.bytes.now c.judge_letters.result c.in_ok-judge_head.ensures (rw same at c.in_ok-judge_lines.ensures) (rw same at c.in_ok-judge_end.ensures) (rw same at c.judge_letters.ensures) in
    record { due = j.0; accepted = j.1 }
