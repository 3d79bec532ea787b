-- The worked run of a durable member, computed.
use Rattle.std.proofs.Common.{◌≡◌, ℕ, ◌+◌, ◌≤◌, zero, suc, true, false, [], ◌∷◌, refl, sym, arith, lit<, lit≤}
use Rattle.std.specs.Prelude.{All}
use Rattle.std.specs.declared.cmp.Ordering.TheVariants.{Equal}
use Rattle.std.specs.Ordering.{nat_cmp}
use Rattle.std.specs.Cmp.{ranked}
use Rattle.std.proofs.lemmas.Bool.{false≢true}
use Rattle.std.proofs.lemmas.Cmp.{nat_cmp_total}
use Rattle.std.proofs.lemmas.List.Elements.{All-cons, All-nil}
use Rattle.am_version_order.specs.Versions.{Version, is_below}
use Rattle.am_merge.proofs.Keys.{IsKeyOrder, key_order}
use Rattle.am_runs.specs.Examples.{behind, spreading}
use Rattle.am_runs.specs.Runs.{IsRun}
use Rattle.am_runs.specs.Tests.{ComesToAll, comes}
use Rattle.am_runs.specs.Timely.{IsTimely}
use Rattle.am_runs.proofs.Cuts.{each_cons, each_nil}
use Rattle.am_runs.proofs.Spreads.{timely_from}
use Rattle.am_cluster.specs.Durable.{IsDurable}
use Rattle.am_cluster.specs.DurableExamples.{saved_behind}
use Rattle.am_cluster.proofs.DurableTold.{durable_told}

pub saved_durable : IsDurable (λ v. v) 0 saved_behind
saved_durable = (durable_told (λ v. v) 0 saved_behind).0 refl

pub behind_not_durable : ¬ IsDurable (λ v. v) 0 behind
behind_not_durable durable = false≢true ((durable_told (λ v. v) 0 behind).1 durable)

keys : IsKeyOrder nat_cmp
keys = key_order nat_cmp_total (λ j k e. ranked j k Equal (sym e))

written : All (λ (v : Version ℕ). 10 ≤ v.updated) (spreading ∷ [])
written = All-cons (λ (v : Version ℕ). 10 ≤ v.updated) spreading [] (lit≤ tt) (All-nil (λ (v : Version ℕ). 10 ≤ v.updated))

pub saved_is_run : IsRun (λ v. v) nat_cmp 2 saved_behind
saved_is_run =
    each_cons _ _ _ (record { acts = record { runs = refl; forward = lit≤ tt }; from = written; sent = All-nil _ })
    (each_cons _ _ _ refl
    (each_cons _ _ _ (record { acts = record { runs = refl; forward = lit≤ tt }; from = written; sent = All-nil _ })
    (each_cons _ _ _ refl
    (each_cons _ _ _ (record { member = lit< tt; stopped = refl; forward = lit≤ tt })
    (each_cons _ _ _ (record { acts = record { runs = refl; forward = lit≤ tt }; from = All-nil _; sent = All-nil _ })
    (each_nil _))))))

abbrev Lasting : Version ℕ → Type 0
Lasting v = (v.updated + 5) + 5 ≤ v.expires

comes_to_first : comes (λ w. w) nat_cmp 5 0 spreading (record { runs = true; has = false; saved = false }) saved_behind ≡ true
unfolding is_below
comes_to_first = refl

comes_to_second : comes (λ w. w) nat_cmp 5 1 spreading (record { runs = true; has = false; saved = false }) saved_behind ≡ true
unfolding is_below
comes_to_second = refl

to_both : ComesToAll (λ w. w) nat_cmp 5 2 saved_behind spreading
to_both zero within = comes_to_first
to_both (suc zero) within = comes_to_second
to_both (suc (suc q)) within = absurd (omega arith)

pub saved_timely : IsTimely (λ v. v) 5 5 2 saved_behind
saved_timely =
    timely_from (λ v. v) nat_cmp keys 5 5 2 saved_behind saved_is_run refl
    (All-cons Lasting spreading (spreading ∷ []) (lit≤ tt) (All-cons Lasting spreading [] (lit≤ tt) (All-nil Lasting)))
    refl
    (All-cons (ComesToAll (λ w. w) nat_cmp 5 2 saved_behind) spreading (spreading ∷ []) to_both
    (All-cons (ComesToAll (λ w. w) nat_cmp 5 2 saved_behind) spreading [] to_both (All-nil (ComesToAll (λ w. w) nat_cmp 5 2 saved_behind))))
