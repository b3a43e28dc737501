-- Both directions, on both kinds of class.
use Rattle.classes.proofs.Exchanges.{exchange_is_even}
use Rattle.classes.proofs.exchange_is_even.Goals as goal

pub returns : goal.returns
returns c = exchange_is_even
