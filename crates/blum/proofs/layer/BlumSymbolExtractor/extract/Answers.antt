-- What is judged sound is a recording of a size; what the lanes give fills the scratch.
use Rattle.std.proofs.Common.{rules, length}
use Rattle.extractors.specs.Lanes.{blum}
use Rattle.extractors.specs.Piles.{bits}
use Rattle.extractors.proofs.Judging.{sound}
use Rattle.blum.proofs.layer.BlumSymbolExtractor.extract.Goals as goal

pub extract_by-requires-clause-takes : goal.extract_by-requires-clause-takes
extract_by-requires-clause-takes g c due s long p is =
    let j = sound c.args.size c.args.recording.now (length c.args.tray.now) due in
    search (rules, j.sized, j.recording, long, is)

pub extract_by-requires-clause-fills : goal.extract_by-requires-clause-fills
extract_by-requires-clause-fills g c = (blum c.args.size (bits (g.E.SymbolExtractor.pile c.args.self.now.below) c.args.size) c.args.recording.now, λ out r out' long k. search (rules, k))
