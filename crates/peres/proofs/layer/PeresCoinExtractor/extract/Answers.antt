-- What is judged sound is a recording of coins; what the depth gives fills the scratch.
use Rattle.std.proofs.Common.{rules, length, ap}
use Rattle.extractors.proofs.Judging.{sound}
use Rattle.peres.specs.PeresRule.{peres}
use Rattle.peres.proofs.layer.PeresCoinExtractor.extract.Goals as goal

pub extract_by-requires-clause-takes : goal.extract_by-requires-clause-takes
extract_by-requires-clause-takes g c due s long p is =
    let j = sound 2 c.args.recording.now (length c.args.tray.now) due in
    search (rules, j.recording, long, ap length is)

pub extract_by-requires-clause-fills : goal.extract_by-requires-clause-fills
extract_by-requires-clause-fills g c = (peres c.args.self.now.depth (g.E.CoinExtractor.gives c.args.self.now.below) c.args.recording.now, λ out r out' long k. search (rules, k))
