use Rattle.std.proofs.Common.{ap}
use Rattle.am_server.specs.Talks.{Talk}
use Rattle.am_server.proofs.Sayings.{by_more, by_reply}
use Rattle.am_server.proofs.connection_state.ConnectionState.resume.Goals as goal

pub returns-then-is_too_dear-clause-says : goal.returns-then-is_too_dear-clause-says
returns-then-is_too_dear-clause-says c =
    let keeps = c.say_line.ensures.keeps c.filter_too_large.ensures in
    record { owed = λ owed was makes. keeps.owed owed was; gone = keeps.gone }

pub returns-then-is_whole-clause-says : goal.returns-then-is_whole-clause-says
returns-then-is_whole-clause-says c = by_reply _ _ _ _ (ap (λ (t : Talk). t.saying) c.say.ensures.said) c.finish.ensures

pub returns-else-is_whole-clause-says : goal.returns-else-is_whole-clause-says
returns-else-is_whole-clause-says c = by_more _ _ _ _ c.resume.ensures.same c.make.ensures.says
