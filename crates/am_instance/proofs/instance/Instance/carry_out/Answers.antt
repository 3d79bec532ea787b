use Rattle.std.proofs.Common.{ℕ, List, ap, sym, ◌∙◌}
use Rattle.am_silence.specs.Plans.{versions}
use Rattle.am_instance.specs.declared.reply.Reply.TheVariants as replies
use Rattle.am_instance.proofs.RequestWorks.{carried}
use Rattle.am_instance.proofs.instance.Instance.carry_out.Goals as goal

pub returns-in-Update-clause-done : goal.returns-in-Update-clause-done
returns-in-Update-clause-done c =
    carried c.put_one.result _ _ _ _ _ _ c.args.now (ap versions (sym c.in-Update.is)) (ap (λ (id : List ℕ). replies.Posted id) (c.in_ok-id.ensures ∙ c.posted_id.ensures)) c.put_one.ensures.put

pub returns-in-Create-clause-done : goal.returns-in-Create-clause-done
returns-in-Create-clause-done c =
    carried c.put_one-in-Create.result _ _ _ _ _ _ c.args.now (ap versions (sym c.in-Create.is)) (ap (λ (id : List ℕ). replies.Posted id) (c.in_ok-id.ensures ∙ c.posted_id.ensures)) c.put_one-in-Create.ensures.put

pub returns-in-Replace-clause-done : goal.returns-in-Replace-clause-done
returns-in-Replace-clause-done c =
    carried c.put_pair.result _ _ _ _ _ _ c.args.now (ap versions (sym c.in-Replace.is)) (ap (λ (id : List ℕ). replies.Posted id) (c.in_ok-id.ensures ∙ c.posted_id.ensures)) c.put_pair.ensures.put
