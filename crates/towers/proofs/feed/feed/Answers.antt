-- Every pile of the layers is lawful, and so even on its classes.
use Rattle.towers.proofs.PilesOfLayers.{every_pile}
use Rattle.towers.proofs.feed.feed.Goals as goal

pub returns-clause-every_pile : goal.returns-clause-every_pile
returns-clause-every_pile c = every_pile
