-- Members that took the same, or caught up with one another, show the same.
use Rattle.std.proofs.Common.{◌≡◌, ◌≢◌, ◌↔◌, inl, inr, ℕ, ◌+◌, ◌<◌, ◌≤◌, Bool, true, false, List, [], ◌∷◌, ◌++◌, Option, Some, None, refl, sym, ap, ◌∙◌, subst, arith, ltb}
use Rattle.std.specs.Prelude.{Contains, All}
use Rattle.std.specs.declared.cmp.Ordering.{Ordering}
use Rattle.std.proofs.lemmas.Bool.{cases_lt, false≢true}
use Rattle.std.proofs.lemmas.List.Elements.{All-contains}
use Rattle.am_version_order.specs.Versions.{Version, is_below}
use Rattle.am_version_order.proofs.Ranks.{below_up, tied}
use Rattle.am_merge.specs.Maps.{if_live}
use Rattle.am_merge.specs.Views.{IsBest, IsInView, IsViewAt}
use Rattle.am_merge.proofs.Keys.{IsKeyOrder}
use Rattle.am_collect.specs.Calm.{IsCalm}
use Rattle.am_runs.specs.Steps.{RunStep, moment, delivered_in, clock_from}
use Rattle.am_runs.specs.Members.{member_of, set_of, last_of, map_of}
use Rattle.am_runs.specs.Runs.{IsRun, IsCalmAt}
use Rattle.am_runs.specs.Timely.{IsTimely, IsSpread, HasCaughtUp}
use Rattle.am_runs.specs.Tests.{top_among}
use Rattle.am_runs.proofs.Cuts.{carried}
use Rattle.am_runs.proofs.Calmed.{IsTop, top_all}
use Rattle.am_runs.proofs.Faults.{fit_begin}
use Rattle.am_runs.proofs.Spreads.{some_if}
use Rattle.am_runs.proofs.Views.{empty, calm_view}
use Rattle.am_runs.proofs.Goods.{good_at}

module _ {K X : Type 0} (seen : X → Version K) where
  -- a calm member's past is calm
  pub calm_past : (members q : ℕ) (steps rest : List (RunStep X)) (whole : List (RunStep X)) → steps ++ rest ≡ whole → IsCalmAt seen members q whole → IsCalm seen [] 0 (member_of members q steps).past
  calm_past members q steps rest whole e calm = carried (λ before. IsCalm seen [] 0 (member_of members q before).past) whole [] steps rest e (λ b s after d old. (calm b s after d).past) (fit_begin seen (ltb q members)).past

  -- what is in view of a key, or nothing
  pub nothing_told : (set : List X) (now : ℕ) (key : K) (found : Option X) → IsViewAt seen set now key found → (found ≡ None) ↔ ((v : X) → IsInView seen set now v → (seen v).key ≢ key)
  nothing_told set now key None shown = (λ e. shown, λ h. refl)
  nothing_told set now key (Some v) shown = (λ e. absurd cc, λ h. absurd (h v shown.1 shown.0))

  none_there : (key : K) (v : X) → Contains [] v → (seen v).key ≢ key
  none_there key v c same = empty v c

  -- the greatest of two that are not below one another
  not_below_by : (u h w : X) → is_below (seen h) (seen u) ≡ false → is_below (seen w) (seen h) ≡ false → is_below (seen w) (seen u) ≡ false
  not_below_by u h w first second = by (is_below (seen w) (seen u)) refl where
    by : (b : Bool) → is_below (seen w) (seen u) ≡ b → is_below (seen w) (seen u) ≡ false
    by true e = absurd (false≢true (sym second ∙ below_up (seen w) (seen u) (seen h) first e))
    by false e = e

  module _ (cmp : K → K → Ordering) (keys : IsKeyOrder cmp) where
    -- a set that has caught up with a version has a best one of its key
    pub best_of : (set : List X) (v : X) → HasCaughtUp seen set v → (g : X) × IsBest seen set g × ((seen g).key ≡ (seen v).key) × (is_below (seen g) (seen v) ≡ false)
    best_of set v h = by (top_among seen cmp (seen v).key None set) (top_all seen cmp keys [] (seen v).key None set (none_there (seen v).key)) where
      by : (top : Option X) → IsTop seen set (seen v).key top → (g : X) × IsBest seen set g × ((seen g).key ≡ (seen v).key) × (is_below (seen g) (seen v) ≡ false)
      by None none = absurd (none h.version h.member h.same_key)
      by (Some g) found = (g, found.0, found.1, not_below_by v h.version g h.not_below (found.0.unbeaten h.version h.member (h.same_key ∙ sym found.1)))

    -- the best of two sets that have caught up with each other's are seen alike
    alike : (set other : List X) (v w : X) → (seen v).key ≡ (seen w).key → IsBest seen set v → IsBest seen other w → HasCaughtUp seen other v → HasCaughtUp seen set w → seen v ≡ seen w
    alike set other v w key one two there back =
        tied (seen v) (seen w) key
        (not_below_by w back.version v back.not_below (one.unbeaten back.version back.member (back.same_key ∙ sym key)))
        (not_below_by v there.version w there.not_below (two.unbeaten there.version there.member (there.same_key ∙ key)))

    never_alone : (set other : List X) (now : ℕ) (key : K) (w : X) → ((v : X) → IsInView seen set now v → (seen v).key ≢ key) → (seen w).key ≡ key → IsInView seen other now w → HasCaughtUp seen set w → ((v : X) → Contains set v → (seen v).key ≡ key → HasCaughtUp seen other v) → ⊥
    never_alone set other now key w none same shown back there =
        let g = best_of set w back in
        let is : seen g.0 ≡ seen w = alike set other g.0 w g.2 g.1 shown.best (there g.0 g.1.member (g.2 ∙ same)) back in
        none g.0 (record { best = g.1; live = subst (λ s. now < s.expires) (sym is) shown.live }) (g.2 ∙ same)

    pub same_shown : (is_value : X → Type 0) → ((v w : X) → is_value v → is_value w → seen v ≡ seen w → v ≡ w) → (set other : List X) (now : ℕ) (key : K) (one two : Option X) → ((v : X) → Contains set v → is_value v) → ((v : X) → Contains other v → is_value v) → ((v : X) → Contains set v → (seen v).key ≡ key → HasCaughtUp seen other v) → ((v : X) → Contains other v → (seen v).key ≡ key → HasCaughtUp seen set v) → IsViewAt seen set now key one → IsViewAt seen other now key two → one ≡ two
    same_shown is_value exact set other now key None None values others there back one two = refl
    same_shown is_value exact set other now key None (Some w) values others there back none two = absurd (never_alone set other now key w none two.0 two.1 (back w two.1.best.member two.0) there)
    same_shown is_value exact set other now key (Some v) None values others there back one none = absurd (never_alone other set now key v none one.0 one.1 (there v one.1.best.member one.0) back)
    same_shown is_value exact set other now key (Some v) (Some w) values others there back one two =
        ap Some (exact v w (values v one.1.best.member) (others w two.1.best.member) (alike set other v w (one.0 ∙ sym two.0) one.1.best two.1.best (there v one.1.best.member one.0) (back w two.1.best.member two.0)))

    module _ (spread flight members now : ℕ) (before : List (RunStep X)) (step : RunStep X) (rest : List (RunStep X)) (positive : 0 < spread) (run : IsRun seen cmp members (before ++ step ∷ rest)) (timely : IsTimely seen spread flight members (before ++ step ∷ rest)) (at : moment step ≡ Some now) where
      onward_now : clock_from 0 before ≤ now
      onward_now = some_if (λ t. clock_from 0 before ≤ t) (moment step) now (timely.onward before step rest refl) at

      spread_now : IsSpread seen spread members (delivered_in (before ++ step ∷ rest)) before now
      spread_now = some_if (IsSpread seen spread members (delivered_in (before ++ step ∷ rest)) before) (moment step) now (timely.caught_up before step rest refl) at

      taken_delivered : (q : ℕ) (v : X) → Contains (set_of (member_of members q before)) v → Contains (delivered_in (before ++ step ∷ rest)) v
      taken_delivered q = ((good_at seen cmp keys spread flight members (before ++ step ∷ rest) positive run timely before (step ∷ rest) refl).each_member q).within

      view_now : (q : ℕ) (key : K) → IsViewAt seen (set_of (member_of members q before)) now key (if_live seen now (map_of seen cmp (member_of members q before).past key))
      view_now q key =
          let m = (good_at seen cmp keys spread flight members (before ++ step ∷ rest) positive run timely before (step ∷ rest) refl).each_member q in
          let past : last_of (member_of members q before) ≤ clock_from 0 before = m.past in
          let on : clock_from 0 before ≤ now = onward_now in
          calm_view seen cmp keys (member_of members q before).past now key m.fit.past (omega arith)

      pub agree : (is_value : X → Type 0) → ((v w : X) → is_value v → is_value w → seen v ≡ seen w → v ≡ w) → All is_value (delivered_in (before ++ step ∷ rest)) → (key : K) → All (λ v. (seen v).key ≡ key → (seen v).updated + spread ≤ now) (delivered_in (before ++ step ∷ rest)) → (p q : ℕ) → (member_of members p before).runs ≡ true → (member_of members q before).runs ≡ true → if_live seen now (map_of seen cmp (member_of members p before).past key) ≡ if_live seen now (map_of seen cmp (member_of members q before).past key)
      agree is_value exact values key old p q p_runs q_runs =
          let all = delivered_in (before ++ step ∷ rest) in
          same_shown is_value exact (set_of (member_of members p before)) (set_of (member_of members q before)) now key _ _
          (λ v c. All-contains is_value all v values (taken_delivered p v c))
          (λ v c. All-contains is_value all v values (taken_delivered q v c))
          (λ v c same. (let has = taken_delivered p v c in spread_now v has (All-contains (λ w. (seen w).key ≡ key → (seen w).updated + spread ≤ now) all v old has same) q q_runs))
          (λ v c same. (let has = taken_delivered q v c in spread_now v has (All-contains (λ w. (seen w).key ≡ key → (seen w).updated + spread ≤ now) all v old has same) p p_runs))
          (view_now p key) (view_now q key)

      pub gone_after : (v : X) → Contains (delivered_in (before ++ step ∷ rest)) v → (seen v).updated + spread ≤ now → (q : ℕ) → (member_of members q before).runs ≡ true → if_live seen now (map_of seen cmp (member_of members q before).past (seen v).key) ≡ None → (g : X) × IsBest seen (set_of (member_of members q before)) g × ((seen g).key ≡ (seen v).key) × (is_below (seen g) (seen v) ≡ false) × ((seen g).expires ≤ now)
      gone_after v has old q runs none =
          let set = set_of (member_of members q before) in
          let g = best_of set v (spread_now v has old q runs) in
          let hidden = (nothing_told set now (seen v).key _ (view_now q (seen v).key)).0 none in
          (g.0, g.1, g.2, g.3, elim (cases_lt now (seen g.0).expires) [ inl live ↦ absurd (hidden g.0 (record { best = g.1; live = live }) g.2) | inr dead ↦ dead ])
