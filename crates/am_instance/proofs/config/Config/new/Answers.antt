use Rattle.std.proofs.Common.{◌≡◌, ◌∷◌, Result, Err, ap}
use Rattle.std.proofs.lemmas.Result.{err_from_is_err_and}
use Rattle.am_gossip.specs.declared.refusals.ConfigError.{ConfigError}
use Rattle.am_instance.proofs.Names.{members_of}
use Rattle.am_instance.proofs.config.Config.new.Goals as goal

err_moved : {T U : Type 0} (given error : ConfigError) → ◌≡◌ {A = Result T ConfigError} (Err given) (Err error) → ◌≡◌ {A = Result U ConfigError} (Err given) (Err error)
err_moved given error same = let inner : given ≡ error = cc in ap Err inner

pub returns-in_err-check_names-clause-long_name : goal.returns-in_err-check_names-clause-long_name
returns-in_err-check_names-clause-long_name c =
    let p = err_from_is_err_and c.from_residual.result c.from_residual.ensures.1 in
    let known = rw c.deref.ensures.value at c.in_err-check_names.ensures.long_name in
    rw (p.1, p.2) (λ same. known.0 (err_moved _ _ same), λ holds. err_moved _ _ (known.1 holds))

pub invariant_of-result : goal.invariant_of-result
invariant_of-result c =
    let fine = rw c.deref.ensures.value at c.in_ok-check_names.ensures.fine in
    members_of (c.args.name ∷ c.args.peers.items) c.in_ok-members.members.items c.in_ok-members.place fine.0 fine.1 c.in_ok-members.ensures.members c.in_ok-members.ensures.order c.in_ok-members.ensures.within
