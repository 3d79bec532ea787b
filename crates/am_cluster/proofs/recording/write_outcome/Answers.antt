use Rattle.std.proofs.Common.{[], Ok, inl, inr, refl, sym, ◌∙◌, subst}
use Rattle.std.proofs.lemmas.Result.{err_from_is_err_and}
use Rattle.am_cluster.specs.Events.{IsTold}
use Rattle.am_cluster.proofs.Recordings.{can_send, can_tick, kind_other, recorded_alone}
use Rattle.am_cluster.proofs.recording.write_outcome.Goals as goal

pub mark-requires-clause-possible : goal.mark-requires-clause-possible
mark-requires-clause-possible c = can_tick _ _ c.requires.1 c.args.outcome c.requires.3 (sym c.requires.2.kind_is ∙ c.in-Collects.is)

pub write_sent-requires : goal.write_sent-requires
write_sent-requires c =
    let other = kind_other c.requires.1 (λ e. c.in_default.not-Collects (c.requires.2.kind_is ∙ e)) in
    let all = c.all_delivered-delivered.ensures c.requires.1 c.requires.2 c.requires.3.brings other in record {
      sent = can_send _ _ c.requires.1 c.args.outcome _ c.args.outcome.frames.items c.requires.3 other all (inl refl);
      silent = can_send _ _ c.requires.1 c.args.outcome _ _ c.requires.3 other all (inr refl);
    }

pub write_silent-requires : goal.write_silent-requires
write_silent-requires c =
    let other = kind_other c.requires.1 (λ e. c.in_default.not-Collects (c.requires.2.kind_is ∙ e)) in
    let all = c.all_delivered-delivered.ensures c.requires.1 c.requires.2 c.requires.3.brings other in
    can_send _ _ c.requires.1 c.args.outcome _ _ c.requires.3 other all (inr refl)

pub returns-in_err-write_sent : goal.returns-in_err-write_sent
returns-in_err-write_sent c = λ event comes can.
    let other = kind_other event (λ e. c.in_default.not-Collects (comes.kind_is ∙ e)) in
    let p = err_from_is_err_and c.from_residual.result c.from_residual.ensures.1 in
    recorded_alone _ _ _ _ _ event c.args.outcome c.all_delivered-delivered.result _ other (c.all_delivered-delivered.ensures event comes can.brings other)
    c.in_err-write_sent.ensures.silent c.in_err-write_sent.ensures.grounded
    (subst (λ r. IsTold c.args.entry.now.source (Ok c.args.outcome) [] r) (sym p.1) (p.2, refl, sym c.drops.ensures ∙ c.if-drops.false, c.in_err-write_sent.ensures.some))
