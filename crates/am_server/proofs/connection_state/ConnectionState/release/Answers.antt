use Rattle.std.specs.Prelude.{not}
use Rattle.std.proofs.Common.{◌≡◌, ◌∙◌, ap, inr, sym}
use Rattle.am_http.specs.Lines.{line_seen}
use Rattle.am_server.specs.declared.connection_state.UncommittedReply.{UncommittedReply}
use Rattle.am_server.specs.declared.connection_state.ConnectionWork.{ConnectionWork}
use Rattle.am_server.specs.Talks.{gone_of, saying_in}
use Rattle.am_server.specs.Talks.OwnCause.{NotKept}
use Rattle.am_server.proofs.Sayings.{silent_closes, told_own, unkept}
use Rattle.am_server.proofs.connection_state.ConnectionState.release.Goals as goal
use Rattle.am_server.proofs.connection_state.ConnectionState.release.Goals.{then-is_kept, else-is_kept}

pub returns-in-Uncommitted-2-clause-lasts : goal.returns-in-Uncommitted-2-clause-lasts
returns-in-Uncommitted-2-clause-lasts c =
    inr (silent_closes _ _ (ap (λ (work : ConnectionWork). gone_of (saying_in work)) (sym c.in-Uncommitted-2.ensures.value)) (rw c.replace.ensures.after at c.refuse.ensures.refused (told_own NotKept _ c.new.ensures)))

pub returns-in-Uncommitted-2-clause-kept : goal.returns-in-Uncommitted-2-clause-kept
returns-in-Uncommitted-2-clause-kept c =
    let unheld = c.if-not-replace.false in
    elim c.if-is_kept.branch [
      | then-is_kept w ↦ let was = w.value-is in let yes = w.if-is_kept.true in let never : ⊥ = cc in absurd never
      | else-is_kept w ↦
          let held = c.in-Uncommitted.is in
          let field = c.in-Uncommitted-2.is in
          let same : c.in-Uncommitted-2.field-0 ≡ c.in-Uncommitted.held = cc in
          unkept c.args.is_kept c.in-Uncommitted-2.field-0 c.args.self.now.work (line_seen c.new.result) (saying_in c.replace.new.dest) (saying_in c.refuse.new.self.work) c.in-Uncommitted-2.ensures.value
          (rw w.if-is_kept.false (ap (λ (it : UncommittedReply). not it.is_change) same ∙ sym w.value-is ∙ unheld)) c.new.ensures (ap saying_in c.in-Uncommitted-2.ensures.after) c.refuse.ensures.line
    ]
