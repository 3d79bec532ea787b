-- The best versions of a set, one version further.
use Rattle.std.proofs.Common.{◌≡◌, ◌≢◌, Bool, true, false, cond, List, [], ◌∷◌, ◌++◌, Option, Some, None, MatchOption, ⊎_elim, refl, sym, ap, subst, ◌∙◌, arith}
use Rattle.std.specs.Prelude.{Contains}
use Rattle.std.proofs.lemmas.List.Elements.{Contains-push, Contains-push_cases, Contains-append_left}
use Rattle.std.specs.declared.cmp.Ordering.{Ordering}
use Rattle.std.specs.Ordering.{eq_by_cmp}
use Rattle.am_version_order.specs.Versions.{Version, is_below}
use Rattle.am_version_order.proofs.Ranks.{below_itself, below_past, below_trans}
use Rattle.am_merge.specs.Maps.{IsMap, IsJoin, at, greater_of}
use Rattle.am_merge.specs.Views.{IsBest}
use Rattle.am_merge.proofs.Keys.{IsKeyOrder, same_key, eq_itself, at-Contains}
use Rattle.am_merge.proofs.Puts.{at-member}
use Rattle.am_merge.specs.Views.{HoldsBest}

-- the best version of the key, or none where no version has it
abbrev pub IsBestAt : {K X : Type 0} → (X → Version K) → List X → K → Option X → Type 0
IsBestAt {K} {X} seen set key found = MatchOption found ((v : X) → Contains set v → (seen v).key ≢ key) (λ v. ((seen v).key ≡ key) × IsBest seen set v)

module _ {K X : Type 0} (seen : X → Version K) (cmp : K → K → Ordering) (keys : IsKeyOrder cmp) where
  -- what is above u is not below what is not above u
  not_below : (u v w : X) (b : Bool) → is_below (seen v) (seen w) ≡ b → is_below (seen u) (seen w) ≡ false → is_below (seen u) (seen v) ≡ true → b ≡ false
  not_below u v w true above not_above less =
      let back = below_past (seen u) (seen w) (seen v) not_above less in
      let around = below_trans (seen v) (seen w) (seen v) above back in
      let itself = below_itself (seen v) in
      cc
  not_below u v w false above not_above less = refl

  stays_best : (set : List X) (u v : X) → IsBest seen set u → ((seen v).key ≡ (seen u).key → is_below (seen u) (seen v) ≡ false) → IsBest seen (set ++ v ∷ []) u
  stays_best set u v best not_over =
      record {
        member = Contains-append_left set (v ∷ []) u best.member;
        unbeaten = λ w among key. ⊎_elim (λ here. best.unbeaten w here key) (λ (is : v ≡ w). subst (λ (x : X). is_below (seen u) (seen x) ≡ false) is (not_over (ap (λ (x : X). (seen x).key) is ∙ key))) (Contains-push_cases set v w among);
      }

  becomes_best : (set : List X) (v : X) → ((w : X) → Contains set w → (seen w).key ≡ (seen v).key → is_below (seen v) (seen w) ≡ false) → IsBest seen (set ++ v ∷ []) v
  becomes_best set v over =
      record {
        member = Contains-push set v;
        unbeaten = λ w among key. ⊎_elim (λ here. over w here key) (λ (is : v ≡ w). subst (λ (x : X). is_below (seen v) (seen x) ≡ false) is (below_itself (seen v))) (Contains-push_cases set v w among);
      }

  -- v has the key, as u has, which is best so far
  with_key : (set : List X) (u v : X) (key : K) (b : Bool) → is_below (seen u) (seen v) ≡ b → (seen v).key ≡ key → (seen u).key ≡ key → IsBest seen set u → IsBestAt seen (set ++ v ∷ []) key (cond b (Some v) (Some u))
  with_key set u v key true less v_has u_has best =
      (v_has, becomes_best set v (λ w here same. not_below u v w (is_below (seen v) (seen w)) refl (best.unbeaten w here (same ∙ v_has ∙ sym u_has)) less))
  with_key set u v key false not_less v_has u_has best = (u_has, stays_best set u v best (λ _. not_less))

  by_key : (set : List X) (v : X) (key : K) (found : Option X) (e : Bool) → eq_by_cmp cmp (seen v).key key ≡ e → IsBestAt seen set key found → IsBestAt seen (set ++ v ∷ []) key (greater_of seen found (cond e (Some v) None))
  by_key set v key None true e none =
      let has = same_key seen cmp keys (seen v).key key e in
      (has, becomes_best set v (λ w here same. absurd (none w here (same ∙ has))))
  by_key set v key (Some u) true e best = with_key set u v key (is_below (seen u) (seen v)) refl (same_key seen cmp keys (seen v).key key e) best.0 best.1
  by_key set v key None false e none = λ w among has. ⊎_elim (λ here. none w here has) (λ (is : v ≡ w). let tie = eq_itself seen cmp keys key in let other : (seen v).key ≡ key = ap (λ (x : X). (seen x).key) is ∙ has in let same = ap (λ (k : K). eq_by_cmp cmp k key) other in cc) (Contains-push_cases set v w among)
  by_key set v key (Some u) false e best = (best.0, stays_best set u v best.1 (λ has. let tie = eq_itself seen cmp keys key in let same = ap (λ (k : K). eq_by_cmp cmp k key) (has ∙ best.0) in cc))

  pub IsBestAt-nil : (key : K) → IsBestAt seen [] key (at seen cmp [] key)
  IsBestAt-nil key = λ v among has. absurd (let none = among.1 in omega arith)

  -- a version more is taken
  pub IsBestAt-more : (set map new : List X) (v : X) → IsJoin seen cmp map (v ∷ []) new → ((key : K) → IsBestAt seen set key (at seen cmp map key)) → (key : K) → IsBestAt seen (set ++ v ∷ []) key (at seen cmp new key)
  IsBestAt-more set map new v joined best key =
      subst (λ (o : Option X). IsBestAt seen (set ++ v ∷ []) key o) (sym (joined key)) (by_key set v key (at seen cmp map key) (eq_by_cmp cmp (seen v).key key) refl (best key))

  held_of : (map set : List X) (v : X) (found : Option X) → at seen cmp map (seen v).key ≡ found → Contains set v → IsBestAt seen set (seen v).key found → (w : X) × Contains map w × ((seen w).key ≡ (seen v).key)
  held_of map set v None is member none = absurd (none v member refl)
  held_of map set v (Some w) is member best = (w, (at-Contains seen cmp keys map (seen v).key w is).1, best.0)

  pub holds_best : (set map : List X) → IsMap seen cmp map → ((key : K) → IsBestAt seen set key (at seen cmp map key)) → HoldsBest seen set map
  holds_best set map is_map best =
      record {
        best = λ v member. (subst (λ (o : Option X). IsBestAt seen set (seen v).key o) (at-member seen cmp keys map v is_map member) (best (seen v).key)).1;
        keys = λ v member. held_of map set v (at seen cmp map (seen v).key) refl member (best (seen v).key);
      }
