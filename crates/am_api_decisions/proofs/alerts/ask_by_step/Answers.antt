use Rattle.am_api_decisions.proofs.alerts.ask_by_step.Goals as goal

pub returns-in-Some-clause-asked : goal.returns-in-Some-clause-asked
returns-in-Some-clause-asked c = (c.in-Ok.outcome, c.in-Ok.ensures, c.in-Some.ensures)
