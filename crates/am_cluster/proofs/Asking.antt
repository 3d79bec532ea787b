-- The cases in which a group is notified for the first time.
use Rattle.std.proofs.Common.{◌≡◌, ◌↔◌, ◌≢◌, ℕ, ◌+◌, Bool, true, false, not, ◌&&◌, Option, Some, None, List, refl, sym, ap, ◌∙◌}
use Rattle.std.specs.Prelude.{option_map, nat_lt, if◌then◌else◌}
use Rattle.std.specs.FinSet.{is_subset}
use Rattle.am_nflog.specs.Mesh.{Mesh as LogMesh, mesh_version as entry_version}
use Rattle.am_nflog.specs.LogKeys.{LogKey}
use Rattle.am_dedup.specs.Decisions.{Hashes, Logged, decision, decision_after, has_none, logged}
use Rattle.am_dedup.specs.declared.decision.Decision.TheVariants.{Skip, Notify}
use Rattle.am_dedup.specs.declared.decision.Reason.TheVariants.{First, NewFiring, AllResolved, NewResolved, Repeat}
use Rattle.am_merge.specs.Views.{IsInView, IsViewAt}
use Rattle.am_runs.proofs.Agrees.{nothing_told}
use Rattle.am_instance.specs.declared.reply.Reply.{Reply}
use Rattle.am_instance.specs.declared.reply.Reply.TheVariants as replies
use Rattle.am_cluster.specs.Questions.{is_first}

-- the cases of a decision over an entry, one for each of the tests
cases : (unlisted empty told wanted late : Bool) →
    (if unlisted then Notify NewFiring else if empty then (if told then Skip else Notify AllResolved) else if wanted then Notify NewResolved else if late then Notify Repeat else Skip) ≢ Notify First
cases true empty told wanted late = λ e. absurd cc
cases false true true wanted late = λ e. absurd cc
cases false true false wanted late = λ e. absurd cc
cases false false told true late = λ e. absurd cc
cases false false told false true = λ e. absurd cc
cases false false told false false = λ e. absurd cc

never_after : (entry : Logged) (firing resolved : Hashes) (repeat : ℕ) (wanted : Bool) (now : ℕ) → decision_after entry firing resolved repeat wanted now ≢ Notify First
unfolding decision_after
never_after entry firing resolved repeat wanted now =
    cases (not (is_subset firing entry.firing)) (has_none firing) (has_none entry.firing) (wanted && not (is_subset resolved entry.resolved)) (nat_lt (entry.timestamp + repeat) now)

-- the first time is where something fires and there is no entry
first_where : (empty : Bool) → (if empty then Skip else Notify First) ≡ Notify First → not empty ≡ true
first_where true e = absurd cc
first_where false e = refl

fires_first : (empty : Bool) → not empty ≡ true → (if empty then Skip else Notify First) ≡ Notify First
fires_first true e = absurd cc
fires_first false e = refl

pub first_exactly : (found : Option LogMesh) (firing resolved : Hashes) (repeat : ℕ) (wanted : Bool) (now : ℕ) →
    (decision (option_map (λ m. logged m.entry) found) firing resolved repeat wanted now ≡ Notify First) ↔ ((not (has_none firing) ≡ true) × (found ≡ None))
unfolding decision
first_exactly None firing resolved repeat wanted now = (λ e. (first_where (has_none firing) e, refl), λ both. fires_first (has_none firing) both.0)
first_exactly (Some m) firing resolved repeat wanted now = (λ e. absurd (never_after (logged m.entry) firing resolved repeat wanted now e), λ both. let none = both.1 in absurd cc)

-- of the log's view at a key: the reply is that it is the first time exactly where something fires and nothing of the key is in view
pub told_first : (set : List LogMesh) (now : ℕ) (key : LogKey) (found : Option LogMesh) (firing resolved : Hashes) (repeat : ℕ) (wanted : Bool) (reply : Reply) →
    IsViewAt entry_version set now key found → reply ≡ replies.Decided (decision (option_map (λ m. logged m.entry) found) firing resolved repeat wanted now) →
    (reply ≡ is_first) ↔ ((not (has_none firing) ≡ true) × ((v : LogMesh) → IsInView entry_version set now v → (entry_version v).key ≢ key))
told_first set now key found firing resolved repeat wanted reply view is =
    let d = decision (option_map (λ m. logged m.entry) found) firing resolved repeat wanted now in
    let exactly = first_exactly found firing resolved repeat wanted now in
    let none = nothing_told entry_version set now key found view in (
      λ e. let same : replies.Decided d ≡ is_first = sym is ∙ e in let first : d ≡ Notify First = cc in let both = exactly.0 first in (both.0, none.0 both.1),
      λ both. is ∙ ap replies.Decided (exactly.1 (both.0, none.1 both.1)),
    )

-- it is only where nothing of the key is in view
pub first_alone : (found : Option LogMesh) (firing resolved : Hashes) (repeat : ℕ) (wanted : Bool) (now : ℕ) →
    is_first ≡ replies.Decided (decision (option_map (λ m. logged m.entry) found) firing resolved repeat wanted now) → found ≡ None
first_alone found firing resolved repeat wanted now is =
    let first : decision (option_map (λ m. logged m.entry) found) firing resolved repeat wanted now ≡ Notify First = cc in
    ((first_exactly found firing resolved repeat wanted now).0 first).1
