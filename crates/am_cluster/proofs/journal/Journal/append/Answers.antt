use Rattle.std.proofs.Common.{◌+◌, [], ◌∷◌, ap, sym, ◌∙◌, length, length-append, arith}
use Rattle.am_runs.specs.Records.{step_of}
use Rattle.am_cluster.proofs.Twinned.{flights_pushed, twin_push}
use Rattle.am_cluster.proofs.journal.Journal.append.Goals as goal

pub invariant_of-self : goal.invariant_of-self
invariant_of-self c = record {
  members = c.append.ensures.members ∙ (c.self.invariant.members ∙ sym c.append-2.ensures.members);
  twins = rw (c.append.ensures.steps, c.append-2.ensures.steps) (twin_push _ _ _ _ c.self.invariant.twins c.requires.twins);
  lines =
      ap length c.push_reserved.ensures.items ∙ (length-append c.self.inside.lines.items (c.args.line ∷ [])
      ∙ (ap (λ n. n + 1) c.self.invariant.lines
      ∙ (sym (length-append c.self.inside.silences.steps (step_of c.args.silences ∷ [])) ∙ ap length (sym c.append.ensures.steps))));
  sendings = rw (c.append.ensures.steps, c.self.invariant.sendings, c.sendings.ensures) (sym (flights_pushed c.self.inside.silences.steps (step_of c.args.silences)));
  room_silences = (let before = c.self.invariant.room_silences in let spent = c.append.ensures.room in omega arith);
  room_log = (let before = c.self.invariant.room_log in let spent = c.append-2.ensures.room in omega arith);
  room_lines = (let before = c.self.invariant.room_lines in let capacity = c.push_reserved.ensures.capacity in let len = c.push_reserved.ensures.len in omega arith);
}
