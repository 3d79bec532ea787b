use Rattle.std.proofs.Common.{◌≡◌, ℕ, List, ap, ◌∙◌}
use Rattle.std.specs.Prelude.{Option}
use Rattle.std.specs.Option.{option_copied}
use Rattle.am_silence.specs.Mesh.{Mesh}
use Rattle.am_silence.specs.Refusals.{unread_refusal}
use Rattle.am_instance.specs.Replies.{posted_over}
use Rattle.am_instance.specs.InstanceStates.{InstanceState}
use Rattle.am_instance.proofs.instance.Instance.refused_unread.Goals as goal

pub returns : goal.returns
returns c =
    let posted = c.args.posted.now in
    let is : option_copied c.posted_over-held.result ≡ posted_over c.args.now c.args.self.now.silences posted.id =
    c.posted_over-held.ensures ∙ ap (λ (id : Option (List ℕ)). posted_over c.args.now c.self.inside.silences id) c.as_ref.ensures.value
    ∙ ap (λ (s : InstanceState). posted_over c.args.now s.silences posted.id) c.self.view_is in
    c.refused_unread.ensures ∙ ap (λ (held : Option Mesh). unread_refusal held posted) is
