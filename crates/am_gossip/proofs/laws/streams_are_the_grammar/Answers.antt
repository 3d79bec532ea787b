use Rattle.am_gossip.proofs.Decomposed.{stream_found, stream_is, unique}
use Rattle.am_gossip.proofs.laws.streams_are_the_grammar.Goals as goal

pub returns-clause-read : goal.returns-clause-read
returns-clause-read c = stream_found

pub returns-clause-found : goal.returns-clause-found
returns-clause-found c = stream_is

pub returns-clause-unique : goal.returns-clause-unique
returns-clause-unique c = unique
