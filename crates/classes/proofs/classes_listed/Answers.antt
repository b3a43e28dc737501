-- The listings of both kinds of class.
use Rattle.classes.proofs.Listings.{count_listing, markov_listing}
use Rattle.classes.proofs.classes_listed.Goals as goal

pub returns : goal.returns
returns c = record { count_classes = count_listing; markov_classes = markov_listing }
