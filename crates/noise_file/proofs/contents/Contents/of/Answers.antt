-- A file that is shorter than its contents is cut.
use Rattle.std.proofs.Common.{arith}
use Rattle.noise_file.proofs.Files.{contents_cut}
use Rattle.noise_file.proofs.contents.Contents.of.Goals as goal

pub returns-then-bytes-line_at : goal.returns-then-bytes-line_at
returns-then-bytes-line_at c = contents_cut c.args.bytes.now (omega arith)
