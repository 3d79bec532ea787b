use Rattle.am_runs.proofs.calm.comes_in_time.Goals as goal

pub returns : goal.returns
returns g c = cc (c.key-key.ensures, c.top_in.ensures, c.top_among-top.ensures, c.last_in.ensures, c.in_time.ensures)
