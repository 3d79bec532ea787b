use Rattle.std.proofs.Common.{sym, ◌∙◌}
use Rattle.am_member.proofs.Greeted.{only_peer}
use Rattle.am_member.proofs.sender.peer_named.Goals as goal

pub returns-in_err-place-clause-none : goal.returns-in_err-place-clause-none
returns-in_err-place-clause-none c = λ _ place peer. let found = c.in_err-place.ensures.only place peer.named in cc

pub returns-then-not-is_peer-clause-none : goal.returns-then-not-is_peer-clause-none
returns-then-not-is_peer-clause-none c = λ _ place peer. let found = c.in_ok-place.ensures.only place peer.named in cc (peer.peer, c.is_peer.ensures)

pub returns-clause-found : goal.returns-clause-found
returns-clause-found c =
    only_peer c.args.config.now c.args.name.now c.in_ok-place.place
    (λ other here. let found = c.in_ok-place.ensures.only other here in cc)
    (record { named = c.in_ok-place.ensures.there; peer = sym c.is_peer.ensures ∙ c.if-not-is_peer.false })
