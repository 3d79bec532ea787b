use Rattle.std.proofs.Common.{inl, inr, refl}
use Rattle.am_reactor.specs.History.{lines, no_lines}
use Rattle.am_reactor.specs.Peered.{held_by}
use Rattle.am_reactor.proofs.Histories.{leads_none}
use Rattle.am_reactor.proofs.Peering.{loops_from, loops_lead}
use Rattle.am_reactor.proofs.running.run.Goals as goal

pub returns-in_err-events-clause-led : goal.returns-in_err-events-clause-led
returns-in_err-events-clause-led g c = (no_lines, leads_none g.S.Service _ _ _ _ _)

pub returns-in_err-events-clause-peered : goal.returns-in_err-events-clause-peered
returns-in_err-events-clause-peered g c = inl refl

pub returns-in_err-reactor-clause-led : goal.returns-in_err-reactor-clause-led
returns-in_err-reactor-clause-led g c = (no_lines, leads_none g.S.Service _ _ _ _ _)

pub returns-in_err-reactor-clause-peered : goal.returns-in_err-reactor-clause-peered
returns-in_err-reactor-clause-peered g c = inl refl

pub returns-clause-led : goal.returns-clause-led
returns-clause-led g c = (
  lines c.make_turns.new.reactor.connections.table,
  loops_lead g.S.Service _ _ _ _ _ _ _ _
      (loops_from g.S.Service _ _ _ _ _ _ _ c.watch_input.ensures c.in_ok-reactor.ensures.none c.make_turns.ensures),
)

pub returns-clause-peered : goal.returns-clause-peered
returns-clause-peered g c = inr (
  c.in_ok-reactor.reactor.links,
  c.in_ok-reactor.reactor.exchanges,
  held_by c.make_turns.new.reactor,
  c.in_ok-reactor.ensures.unlinked,
  c.in_ok-reactor.ensures.unasked,
  loops_from g.S.Service _ _ _ _ _ _ _ c.watch_input.ensures c.in_ok-reactor.ensures.none c.make_turns.ensures,
)
