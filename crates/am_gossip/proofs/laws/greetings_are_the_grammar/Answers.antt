use Rattle.am_gossip.proofs.Greeted.{hello_found, hello_reads, hello_more}
use Rattle.am_gossip.proofs.laws.greetings_are_the_grammar.Goals as goal

pub returns-clause-found : goal.returns-clause-found
returns-clause-found c = hello_found

pub returns-clause-read : goal.returns-clause-read
returns-clause-read c = hello_reads

pub returns-clause-stays : goal.returns-clause-stays
returns-clause-stays c = hello_more
