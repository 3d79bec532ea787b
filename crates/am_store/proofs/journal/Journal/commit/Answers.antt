use Rattle.std.proofs.Common.{◌≡◌, ◌<◌, ◌^◌, ◌+◌, ℕ, length, inl, ◌∙◌, ap, subst, sym, arith, rules}
use Rattle.am_store.specs.Blocks.{recovered, IsAtRest, IsBeforeOrAfter}
use Rattle.am_store.proofs.Crash.{length_block, torn_behind, staged_by, opened_by, outcomes, acknowledged, added_rests}
use Rattle.am_store.proofs.Moments.{weaker, goes_on}
use Rattle.am_store.proofs.journal.Journal.commit.Goals as goal

pub returns-in_err-write_down-clause-any_moment : goal.returns-in_err-write_down-clause-any_moment
returns-in_err-write_down-clause-any_moment g c usable =
    weaker g.D.Device.moment g.D.Device.left_since _ _ _ (IsBeforeOrAfter (recovered (g.D.Device.seen c.args.self.now.device)) c.args.batch.now) c.write_down.ensures.any_moment
    (λ f torn. inl (torn_behind _ _ (c.args.self.now.at_rest usable) c.args.batch.now _ f torn))

pub returns-in_err-write_down-2-clause-any_moment : goal.returns-in_err-write_down-2-clause-any_moment
returns-in_err-write_down-2-clause-any_moment g c usable =
    let m = g.D.Device.moment in
    let s = g.D.Device.left_since in
    let rests = c.args.self.now.at_rest usable in
    let P = IsBeforeOrAfter (recovered (g.D.Device.seen c.args.self.now.device)) c.args.batch.now in
    let some : 0 < length c.args.batch.now = search rules in
    let fits : length c.args.batch.now < 2 ^ 64 = search rules in
    let staged = staged_by _ _ rests c.args.batch.now _ _ (c.deref.ensures.value ∙ c.in_ok-block.ensures) c.in_ok-write_down.ensures.written in
    goes_on m s _ _ _ P
    (weaker m s _ _ _ P c.write_down.ensures.any_moment (λ f torn. inl (torn_behind _ _ rests c.args.batch.now _ f torn)))
    (weaker m s _ _ _ P c.write_down-2.ensures.any_moment (λ f torn. outcomes _ _ rests c.args.batch.now fits some _ f staged torn))

pub invariant_of-self-2-clause-at_rest : goal.invariant_of-self-2-clause-at_rest
invariant_of-self-2-clause-at_rest g c usable =
    let rests = c.args.self.now.at_rest c.if-not-self.false in
    let fits : length c.args.batch.now < 2 ^ 64 = search rules in
    let staged = staged_by _ _ rests c.args.batch.now _ _ (c.deref.ensures.value ∙ c.in_ok-block.ensures) c.in_ok-write_down.ensures.written in
    let is_open = opened_by _ _ rests c.args.batch.now _ _ staged c.in_ok-write_down-2.ensures.written in
    let items = ap length c.in_ok-block.ensures ∙ length_block c.args.batch.now in
    let long : c.len.result ≡ 9 + length c.args.batch.now = omega (arith, c.len.ensures, c.in_ok-block.block.ok.0, items) in
    subst (λ (n : ℕ). IsAtRest (c.args.self.now.end + n) (g.D.Device.seen c.write_down-2.new.device)) (sym long) (added_rests _ _ rests c.args.batch.now fits _ is_open)

pub returns-clause-acknowledged : goal.returns-clause-acknowledged
returns-clause-acknowledged g c =
    let rests = c.args.self.now.at_rest c.if-not-self.false in
    let some : 0 < length c.args.batch.now = search rules in
    let fits : length c.args.batch.now < 2 ^ 64 = search rules in
    let staged = staged_by _ _ rests c.args.batch.now _ _ (c.deref.ensures.value ∙ c.in_ok-block.ensures) c.in_ok-write_down.ensures.written in
    acknowledged _ _ rests c.args.batch.now fits some _ (opened_by _ _ rests c.args.batch.now _ _ staged c.in_ok-write_down-2.ensures.written)

pub returns-clause-any_moment : goal.returns-clause-any_moment
returns-clause-any_moment g c usable =
    let m = g.D.Device.moment in
    let s = g.D.Device.left_since in
    let rests = c.args.self.now.at_rest usable in
    let P = IsBeforeOrAfter (recovered (g.D.Device.seen c.args.self.now.device)) c.args.batch.now in
    let some : 0 < length c.args.batch.now = search rules in
    let fits : length c.args.batch.now < 2 ^ 64 = search rules in
    let staged = staged_by _ _ rests c.args.batch.now _ _ (c.deref.ensures.value ∙ c.in_ok-block.ensures) c.in_ok-write_down.ensures.written in
    goes_on m s _ _ _ P
    (weaker m s _ _ _ P c.write_down.ensures.any_moment (λ f torn. inl (torn_behind _ _ rests c.args.batch.now _ f torn)))
    (weaker m s _ _ _ P c.write_down-2.ensures.any_moment (λ f torn. outcomes _ _ rests c.args.batch.now fits some _ f staged torn))
