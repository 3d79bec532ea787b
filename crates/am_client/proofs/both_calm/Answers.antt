use Rattle.am_client.proofs.both_calm.Goals as goal

pub returns-then-one : goal.returns-then-one
returns-then-one c = λ calm same same_log now event reply asks one found two there runs past said. record {
  runs = runs;
  past = past;
  made = said.made;
  is = c.members_with_equal_sets_reply_alike.ensures now event reply said.made one found two there
      (record { calm = c.calm-one.ensures.calm.0 c.if-one.true; past = said.past }) (record { calm = c.calm-two.ensures.calm.0 calm; past = past }) same same_log asks said.is;
}
