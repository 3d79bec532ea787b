-- Durable members show what one run of a cluster tells of them.
use Rattle.std.proofs.Common.{◌≡◌, ℕ, ◌<◌, Bool, true, false, List, [], Option, Some, None, append-nil, refl, sym, ◌∙◌, subst, length}
use Rattle.std.specs.Prelude.{Contains}
use Rattle.std.specs.declared.cmp.Ordering.{Ordering}
use Rattle.std.proofs.lemmas.Bool.{false≢true}
use Rattle.am_version_order.specs.Versions.{Version, is_below}
use Rattle.am_version_order.proofs.Ranks.{below_itself, below_up, tied}
use Rattle.am_merge.specs.Views.{IsViewAt}
use Rattle.am_merge.proofs.Keys.{IsKeyOrder}
use Rattle.am_runs.specs.Timely.{HasCaughtUp}
use Rattle.am_runs.proofs.Agrees.{best_of}
use Rattle.am_cluster.specs.BothRuns.{RunOf}
use Rattle.am_cluster.specs.Durable.{CameLive}
use Rattle.am_cluster.specs.DurableRuns.{ComeInTime, LoseNothing, ShowWhatCame, came_in}
use Rattle.am_cluster.specs.Reports.{AreRuns}
use Rattle.am_cluster.specs.Replicas.{taken_in}
use Rattle.am_cluster.specs.Shown.{ShowTheBareSet, shown_by}
use Rattle.am_cluster.specs.Worlds.{World}
use Rattle.am_cluster.proofs.DurableHas.{came_delivered, comes_live, durable_has, live_more, set_within, timely_by_came}
use Rattle.am_cluster.proofs.OneOfBoth.{IsOneOfBoth}

module _ {K X : Type 0} (seen : X → Version K) (cmp : K → K → Ordering) (keys : IsKeyOrder cmp) where
  -- what is not below something that is not below a third one is not below that
  above_both : (u h w : X) → is_below (seen u) (seen h) ≡ false → is_below (seen h) (seen w) ≡ false → is_below (seen u) (seen w) ≡ false
  above_both u h w first second = by (is_below (seen u) (seen w)) refl where
    by : (b : Bool) → is_below (seen u) (seen w) ≡ b → is_below (seen u) (seen w) ≡ false
    by true e = absurd (false≢true (sym first ∙ below_up (seen u) (seen w) (seen h) second e))
    by false e = e

  -- a set that has caught up with a wider one at a key shows what that shows there
  pub shows_wider : (set all : List X) (now : ℕ) (key : K) (found : Option X) → ((v : X) → Contains set v → Contains all v) → ((v : X) → Contains all v → (seen v).key ≡ key → HasCaughtUp seen set v) → IsViewAt seen set now key found → IsViewAt seen all now key found
  shows_wider set all now key None within caught none = λ v shown same.
      let g = best_of seen cmp keys set v (caught v shown.best.member same) in
      let is : seen g.0 ≡ seen v = tied (seen g.0) (seen v) g.2 g.3 (shown.best.unbeaten g.0 (within g.0 g.1.member) g.2) in
      none g.0 (record { best = g.1; live = subst (λ s. now < s.expires) (sym is) shown.live }) (g.2 ∙ same)
  shows_wider set all now key (Some u) within caught shown = (
    shown.0,
    record {
      best = record {
        member = within u shown.1.best.member;
        unbeaten = λ w c same.
            (let h = caught w c (same ∙ shown.0) in
            above_both u h.version w (shown.1.best.unbeaten h.version h.member (h.same_key ∙ same)) h.not_below);
      };
      live = shown.1.live;
    },
  )

module _ {K X : Type 0} {run : RunOf K X} (one : IsOneOfBoth run) where
  pub lose_nothing : (earlier later : World) → LoseNothing run earlier later
  lose_nothing earlier later = λ place rest more durable v live.
      durable_has run.state.seen (length later.replicas) place (run.steps later) v durable
      (subst (λ steps. CameLive run.state.seen place steps v) (sym more) (live_more run.state.seen place (run.steps earlier) rest v live))

  pub show_what_came : IsKeyOrder run.state.cmp → (world : World) → ShowTheBareSet run world → ShowWhatCame run world
  show_what_came keys world law = λ place now key durable live replica found by.
      shows_wider run.state.seen run.state.cmp keys (taken_in run world place) (came_in run world place) now key (shown_by run replica now key)
      (set_within (length world.replicas) place (run.steps world))
      (λ v c same. (let h = live v c same in record {
        version = h.version;
        member = durable_has run.state.seen (length world.replicas) place (run.steps world) h.version durable h.live;
        same_key = h.same_key;
        not_below = h.not_below;
      }))
      (law place now key replica found by)

  pub come_in_time : (world : World) → AreRuns (length world.replicas) world.silences world.log → ComeInTime run world
  come_in_time world runs = λ spread flight place timely v c.
      let steps = run.steps world in
      let members = length world.replicas in
      comes_live run.state.seen run.state.cmp spread flight members steps (one.is_run world runs)
      (timely_by_came run.state.seen run.state.cmp spread flight members steps (one.timely spread flight world timely)) steps [] (append-nil steps) v (came_delivered place steps v c) place
      (record { version = v; member = c; same_key = refl; not_below = below_itself (run.state.seen v) })
