-- The outcome of each case of a decision.
use Rattle.std.proofs.Common.{rules, arith, ◌≡◌, ℕ, Bool, true, false, refl, sym, ◌∙◌, ap, None, Some, ◌+◌, ◌≤◌, not, nat_lt, ◌&&◌}
use Rattle.std.specs.Ordering.{nat_cmp}
use Rattle.std.specs.FinSet.{contains, is_subset, is_subset-contains, contains-is_subset, empty_of_len, contains-empty}
use Rattle.std.proofs.lemmas.Cmp.{nat_cmp_total}
use Rattle.am_dedup.specs.Decisions.{Hashes, Logged, has_none, decision, decision_after}
use Rattle.am_dedup.specs.Laws.{IsTold}
use Rattle.am_dedup.specs.declared.decision.Decision.TheVariants.{Skip, Notify}
use Rattle.am_dedup.specs.declared.decision.Reason.TheVariants.{First, NewFiring}
use Rattle.am_dedup.proofs.Sets.{is_same}

-- a set with a member is not empty
has_one : (hashes : Hashes) (hash : ℕ) → contains hashes hash ≡ true → has_none hashes ≡ false
has_one hashes hash is =
    elim (has_none hashes) as (λ b. has_none hashes ≡ b → b ≡ false) [
      | false ↦ λ e. refl
      | true ↦ λ e. sym is ∙ ap (λ s. contains s hash) (empty_of_len hashes (is_same _ 0 e)) ∙ contains-empty nat_cmp hash
    ] refl

-- what is missing from a set keeps others from being within it
misses : (hashes others : Hashes) (hash : ℕ) → contains hashes hash ≡ true → contains others hash ≡ false → is_subset hashes others ≡ false
misses hashes others hash is missing =
    elim (is_subset hashes others) as (λ b. is_subset hashes others ≡ b → b ≡ false) [
      | false ↦ λ e. refl
      | true ↦ λ e. sym (is_subset-contains nat_cmp_total hashes others e hash is) ∙ missing
    ] refl

pub untold : (entry : Logged) (firing resolved : Hashes) (hash repeat : ℕ) (wanted : Bool) (now : ℕ) → contains firing hash ≡ true → contains entry.firing hash ≡ false → decision (Some entry) firing resolved repeat wanted now ≡ Notify NewFiring
unfolding decision decision_after
untold entry firing resolved hash repeat wanted now is missing = rw (misses firing entry.firing hash is missing) refl

pub unlogged : (firing resolved : Hashes) (hash repeat : ℕ) (wanted : Bool) (now : ℕ) → contains firing hash ≡ true → decision None firing resolved repeat wanted now ≡ Notify First
unfolding decision
unlogged firing resolved hash repeat wanted now is = rw (has_one firing hash is) refl

wanted_listed : (entry : Logged) (resolved : Hashes) (wanted : Bool) → (wanted ≡ true → (hash : ℕ) → contains resolved hash ≡ true → contains entry.resolved hash ≡ true) → (wanted && not (is_subset resolved entry.resolved)) ≡ false
wanted_listed entry resolved false listed = refl
wanted_listed entry resolved true listed = ap not (contains-is_subset nat_cmp_total resolved entry.resolved (listed refl))

not_over : (end now : ℕ) → now ≤ end → nat_lt end now ≡ false
not_over end now early = search (rules, arith)

pub told : (entry : Logged) (firing resolved : Hashes) (repeat : ℕ) (wanted : Bool) (now : ℕ) → IsTold entry firing resolved repeat wanted now → decision (Some entry) firing resolved repeat wanted now ≡ Skip
unfolding decision decision_after
told entry firing resolved repeat wanted now is =
    rw (contains-is_subset nat_cmp_total firing entry.firing is.firing_listed, has_one firing is.some is.fires, wanted_listed entry resolved wanted is.resolved_listed, not_over (entry.timestamp + repeat) now is.early) refl
