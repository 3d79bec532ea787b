use Rattle.std.proofs.Common.{List, map, ap, ◌∙◌, subst}
use Rattle.am_report.specs.Sources.{Source, rest_of}
use Rattle.am_report.proofs.Differing.{begins_there}
use Rattle.am_commands.specs.Figures.{IsFound}
use Rattle.am_commands.proofs.figures.tallies_of.Goals as goal

pub returns : goal.returns
returns g c =
    subst (λ (sources : List (Source g.row.V.Denot)). IsFound g.V.Version.seen g.V.Key.Ord.cmp c.args.compared c.args.now sources c.count_left-found.result)
    (ap (map rest_of) (c.deref_mut-2.ensures.value ∙ c.in_ok-sides.ensures.start) ∙ begins_there c.args.replicas.now)
    c.count_left-found.ensures
