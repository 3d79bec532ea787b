use Rattle.am_instance.proofs.Named.{found_again}
use Rattle.am_cluster.proofs.line_laws.names_are_found.Goals as goal

pub returns : goal.returns
returns c = λ config place name order here. found_again name config.members place order here
