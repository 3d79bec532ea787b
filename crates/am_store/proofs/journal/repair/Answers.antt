use Rattle.std.proofs.Common.{◌≡◌, List, ℕ, [], ◌∷◌, length, OnOk, Result, Ok, Err, ◌∙◌, ap, subst, arith}
use Rattle.am_store.specs.Device.{Holds, Torn}
use Rattle.am_store.specs.Blocks.{recovered}
use Rattle.am_store.proofs.Crash.{room, cut_keeps, cut_length, torn_end, written_end, end_stands_for, end_rests}
use Rattle.am_store.proofs.Moments.{weaker, goes_on}
use Rattle.am_store.proofs.journal.repair.Goals as goal

on_ok : {T E : Type 0} (r : Result T E) {P Q : Type 0} → (P → Q) → OnOk r P → OnOk r Q
on_ok (Ok x) then p = then p
on_ok (Err e) then p = p

pub shorten-requires-clause-place : goal.shorten-requires-clause-place
shorten-requires-clause-place g c = room _ _ c.requires.end

pub returns-in_err-shorten-clause-any_moment : goal.returns-in_err-shorten-clause-any_moment
returns-in_err-shorten-clause-any_moment g c =
    weaker g.D.Device.moment g.D.Device.left_since _ _ _ _ c.shorten.ensures.any_moment (cut_keeps _ _ c.requires.end)

pub write_down-requires-clause-place : goal.write_down-requires-clause-place
write_down-requires-clause-place g c =
    omega (arith, ap length c.in_ok-shorten.ensures.cut, cut_length _ _ c.requires.end)

pub returns-clause-same : goal.returns-clause-same
returns-clause-same g c =
    on_ok c.write_down.result (λ holds. ap recovered (written_end _ _ c.requires.end _ (subst (λ f. Holds f c.args.end (0 ∷ []) (g.D.Device.seen c.write_down.new.device)) c.in_ok-shorten.ensures.cut holds)) ∙ end_stands_for _ _ c.requires.end) c.write_down.ensures.written

pub returns-clause-at_rest : goal.returns-clause-at_rest
returns-clause-at_rest g c =
    on_ok c.write_down.result (λ holds. end_rests _ _ c.requires.end _ (written_end _ _ c.requires.end _ (subst (λ f. Holds f c.args.end (0 ∷ []) (g.D.Device.seen c.write_down.new.device)) c.in_ok-shorten.ensures.cut holds))) c.write_down.ensures.written

pub returns-clause-any_moment : goal.returns-clause-any_moment
returns-clause-any_moment g c =
    let m = g.D.Device.moment in
    let s = g.D.Device.left_since in
    let P : List ℕ → Type 0 = λ f. recovered f ≡ recovered (g.D.Device.seen c.args.device.now) in
    goes_on m s c.args.device.now c.shorten.new.device c.write_down.new.device P
    (weaker m s _ _ _ P c.shorten.ensures.any_moment (cut_keeps _ _ c.requires.end))
    (weaker m s _ _ _ P c.write_down.ensures.any_moment λ f torn. torn_end _ _ c.requires.end f (subst (λ d. Torn c.args.end 1 d f) c.in_ok-shorten.ensures.cut torn))
