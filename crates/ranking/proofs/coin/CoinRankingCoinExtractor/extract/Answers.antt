-- What the judge accepts are coins with room for their bits.
use Rattle.std.proofs.Common.{length}
use Rattle.extractors.proofs.Judging.{sound}
use Rattle.ranking.proofs.coin.CoinRankingCoinExtractor.extract.Goals as goal

pub write_blocks-requires-clause-codes : goal.write_blocks-requires-clause-codes
write_blocks-requires-clause-codes c = (sound 2 c.args.recording.now (length c.args.tray.now) c.in_ok-judge.ensures).recording.0
