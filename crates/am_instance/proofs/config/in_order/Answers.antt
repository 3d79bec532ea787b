use Rattle.std.proofs.Common.{Result, Err, ◌↔◌, ◌≡◌, ◌≤◌, ◌∷◌, List, ℕ, length, false, Contains, rules, refl, ap, ◌∙◌, subst, insert}
use Rattle.std.proofs.lemmas.Result.{err_from_is_err_and}
use Rattle.std.specs.Result.{IsErrAnd}
use Rattle.am_gossip.specs.declared.refusals.ConfigError.{ConfigError}
use Rattle.am_gossip.specs.declared.refusals.ConfigError.TheVariants.{SameName, Memory}
use Rattle.am_instance.specs.Configs.{AreInOrder, HasTwice}
use Rattle.am_instance.proofs.Names.{none_twice, put_among, put_at, twice_more, twice_there}
use Rattle.am_instance.proofs.config.in_order.Goals as goal

not_both : {T : Type 0} (r : Result T ConfigError) → r ≡ Err Memory → r ≡ Err SameName → ⊥
not_both r kind same = cc

-- memory ran out, and no other cause stands
memory_alone : {T : Type 0} (Cause : Type 0) (r : Result T ConfigError) → IsErrAnd r (λ y. y ≡ Memory) → (Cause → ⊥) → (r ≡ Err SameName) ↔ Cause
memory_alone Cause r refused none =
    let p = err_from_is_err_and r refused in
    let kind : r ≡ Err Memory = p.1 ∙ ap Err p.2 in
    (λ same. absurd (not_both r kind same), λ holds. absurd (none holds))

pub returns-then-not-sort_names-clause-same_name :
    goal.returns-then-not-sort_names-clause-same_name
returns-then-not-sort_names-clause-same_name c =
    let answer = c.if-not-sort_names.true in
    let no : c.sort_names.result ≡ false = search rules in
    (λ _. twice_more c.args.name c.args.peers.items (c.sort_names.ensures.twice.0 no), λ _. refl)

pub returns-in_default-clause-same_name : goal.returns-in_default-clause-same_name
returns-in_default-clause-same_name c =
    let there = c.in_default.ensures.there.0 refl in
    let found : Contains c.sort_names.new.names.items c.args.name = subst (λ (names : List (List ℕ)). Contains names c.args.name) c.deref.ensures.value there in
    (λ _. twice_there c.args.name c.args.peers.items c.sort_names.new.names.items c.sort_names.ensures.same found, λ _. refl)

pub returns-in_err-insert-clause-same_name : goal.returns-in_err-insert-clause-same_name
returns-in_err-insert-clause-same_name c =
    let names = c.sort_names.new.names.items in
    let order : AreInOrder (insert names c.in-Some.place c.args.name) = subst (λ (ns : List (List ℕ)). AreInOrder (insert ns c.in-Some.place c.args.name)) c.deref.ensures.value c.in-Some.ensures.order in
    memory_alone (HasTwice (c.args.name ∷ c.args.peers.items)) c.from_residual.result c.from_residual.ensures.1 (none_twice (c.args.name ∷ c.args.peers.items) _ (put_among c.args.name c.args.peers.items names c.in-Some.place c.sort_names.ensures.same) order)

pub returns-clause-members : goal.returns-clause-members
returns-clause-members c =
    rw c.in_ok-insert.ensures.items (put_among c.args.name c.args.peers.items c.sort_names.new.names.items c.in-Some.place c.sort_names.ensures.same)

pub returns-clause-own : goal.returns-clause-own
returns-clause-own c =
    let names = c.sort_names.new.names.items in
    let within = subst (λ (ns : List (List ℕ)). c.in-Some.place ≤ length ns) c.deref.ensures.value c.in-Some.ensures.place in
    rw c.in_ok-insert.ensures.items (put_at c.args.name names c.in-Some.place within)

pub returns-clause-same_name : goal.returns-clause-same_name
returns-clause-same_name c =
    let names = c.sort_names.new.names.items in
    let order : AreInOrder (insert names c.in-Some.place c.args.name) = subst (λ (ns : List (List ℕ)). AreInOrder (insert ns c.in-Some.place c.args.name)) c.deref.ensures.value c.in-Some.ensures.order in
    (λ same. absurd cc, λ twice. absurd (none_twice (c.args.name ∷ c.args.peers.items) _ (put_among c.args.name c.args.peers.items names c.in-Some.place c.sort_names.ensures.same) order twice))
