-- What is judged sound is a recording of a size; what the levels give fills the scratch.
use Rattle.std.proofs.Common.{rules, length}
use Rattle.classes.specs.Recordings.{width}
use Rattle.extractors.proofs.Judging.{sound}
use Rattle.split.specs.SplitRule.{split}
use Rattle.split.proofs.layer.SplitSymbolExtractor.extract.Goals as goal

pub extract_by-requires-clause-takes : goal.extract_by-requires-clause-takes
extract_by-requires-clause-takes g c due s long p is =
    let j = sound c.args.size c.args.recording.now (length c.args.tray.now) due in
    search (rules, j.sized, j.recording, long, is)

pub extract_by-requires-clause-fills : goal.extract_by-requires-clause-fills
extract_by-requires-clause-fills g c = (split (width c.args.size) (g.E.CoinExtractor.gives c.args.self.now.below) c.args.recording.now, λ out r out' long k. search (rules, k))
