use Rattle.std.proofs.Common.{◌<◌, ◌∙◌, sym, subst, ap, refl, arith, length, Some, None}
use Rattle.std.proofs.lemmas.Option.{slice_get-get_or}
use Rattle.am_cluster.proofs.Reported.{found_told, uncalm_not, uncalm_within}
use Rattle.am_cluster.proofs.journal.Journal.report.Goals as goal

pub index-requires : goal.index-requires
index-requires c =
    let within : c.in-Some.number < length c.self.inside.lines.items = subst (λ n. c.in-Some.number < n) (sym c.self.invariant.lines)
    (uncalm_within c.self.inside.silences.members c.args.place c.self.inside.silences.steps c.self.inside.log.steps c.self.invariant.twins c.in-Some.number
    (found_told c.self.inside.silences.members c.args.place c.self.inside.silences.steps c.self.inside.log.steps c.self.inside.log.members c.self.invariant.members c.first_fault.result c.first_fault-2.result c.earlier.result c.first_fault.ensures c.first_fault-2.ensures c.earlier.ensures (Some c.in-Some.number) c.in-Some.is)) in
    let lines = c.self.inside.lines in
    omega (arith, within)

pub returns-in-Some-clause-calm : goal.returns-in-Some-clause-calm
returns-in-Some-clause-calm c =
    rw (← c.self.view_is)
    (uncalm_not c.self.inside.silences.members c.args.place c.self.inside.silences.steps c.self.inside.log.steps c.in-Some.number
    (found_told c.self.inside.silences.members c.args.place c.self.inside.silences.steps c.self.inside.log.steps c.self.inside.log.members c.self.invariant.members c.first_fault.result c.first_fault-2.result c.earlier.result c.first_fault.ensures c.first_fault-2.ensures c.earlier.ensures (Some c.in-Some.number) c.in-Some.is))

pub returns-in-Some-clause-fault : goal.returns-in-Some-clause-fault
returns-in-Some-clause-fault c =
    let first = found_told c.self.inside.silences.members c.args.place c.self.inside.silences.steps c.self.inside.log.steps c.self.inside.log.members c.self.invariant.members c.first_fault.result c.first_fault-2.result c.earlier.result c.first_fault.ensures c.first_fault-2.ensures c.earlier.ensures (Some c.in-Some.number) c.in-Some.is in
    let within : c.in-Some.number < length c.self.inside.lines.items = subst (λ n. c.in-Some.number < n) (sym c.self.invariant.lines) (uncalm_within c.self.inside.silences.members c.args.place c.self.inside.silences.steps c.self.inside.log.steps c.self.invariant.twins c.in-Some.number first) in
    rw (← c.self.view_is)
    (c.in-Some.number, first, slice_get-get_or c.self.inside.lines.items c.in-Some.number c.index.result.now within ∙ ap Some (sym c.index.ensures))

pub returns-in-None-clause-calm : goal.returns-in-None-clause-calm
returns-in-None-clause-calm c =
    rw (← c.self.view_is)
    (λ t. found_told c.self.inside.silences.members c.args.place c.self.inside.silences.steps c.self.inside.log.steps c.self.inside.log.members c.self.invariant.members c.first_fault.result c.first_fault-2.result c.earlier.result c.first_fault.ensures c.first_fault-2.ensures c.earlier.ensures None c.in-None.is, λ calm. refl)

pub returns-in-None-clause-fault : goal.returns-in-None-clause-fault
returns-in-None-clause-fault c = rw (← c.self.view_is) (found_told c.self.inside.silences.members c.args.place c.self.inside.silences.steps c.self.inside.log.steps c.self.inside.log.members c.self.invariant.members c.first_fault.result c.first_fault-2.result c.earlier.result c.first_fault.ensures c.first_fault-2.ensures c.earlier.ensures None c.in-None.is)
