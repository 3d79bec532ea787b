-- The best versions of two sets together.
use Rattle.std.specs.Prelude.{⊤}
use Rattle.std.proofs.Common.{◌≡◌, Bool, true, false, List, ◌++◌, Option, Some, None, MatchOption, ⊎_elim, refl, sym, ap, subst, ◌∙◌}
use Rattle.std.proofs.lemmas.List.Elements.{Contains-append_left, Contains-append_right, Contains-append_cases}
use Rattle.std.specs.declared.cmp.Ordering.{Ordering}
use Rattle.am_version_order.specs.Versions.{Version, is_below}
use Rattle.am_version_order.proofs.Ranks.{below_itself, below_past}
use Rattle.am_merge.specs.Maps.{IsMap, at}
use Rattle.am_merge.proofs.Keys.{IsKeyOrder, at-Contains}
use Rattle.am_merge.proofs.Puts.{at-member}
use Rattle.am_merge.specs.Views.{HoldsBest}
use Rattle.am_snapshot.proofs.Bests.{IsBestAt, holds_best}

module _ {K X : Type 0} (seen : X → Version K) where
  -- what isn't below v isn't below what v isn't below
  not_below : (u v w : X) (b : Bool) → is_below (seen u) (seen w) ≡ b → is_below (seen u) (seen v) ≡ false → is_below (seen v) (seen w) ≡ false → b ≡ false
  not_below u v w true below above above_that =
      let past = below_past (seen u) (seen v) (seen w) above below in
      cc
  not_below u v w false below above above_that = refl

  pub unbeaten_past : (u v w : X) → is_below (seen u) (seen v) ≡ false → is_below (seen v) (seen w) ≡ false → is_below (seen u) (seen w) ≡ false
  unbeaten_past u v w = not_below u v w (is_below (seen u) (seen w)) refl

  -- the best of the best of a set and of another set are those of both
  pub best_of_best : (set map more new : List X) → HoldsBest seen set map → HoldsBest seen (map ++ more) new → HoldsBest seen (set ++ more) new
  best_of_best set map more new held joined =
      record {
        best = λ v member.
            let best = joined.best v member in
            record {
              member = ⊎_elim (λ here. Contains-append_left set more v (held.best v here).member) (λ there. Contains-append_right set more v there) (Contains-append_cases map more v best.member);
              unbeaten = λ w among key.
                  ⊎_elim (λ here.
                  let (u, member_u, same) = held.keys w here in
                  unbeaten_past v u w (best.unbeaten u (Contains-append_left map more u member_u) (same ∙ key)) ((held.best u member_u).unbeaten w here (sym same)))
                  (λ there. best.unbeaten w (Contains-append_right map more w there) key)
                  (Contains-append_cases set more w among);
            };
        keys = λ v member.
            ⊎_elim (λ here.
            let (u, member_u, same) = held.keys v here in
            let (w, member_w, same_w) = joined.keys u (Contains-append_left map more u member_u) in
            (w, member_w, same_w ∙ same))
            (λ there. joined.keys v (Contains-append_right map more v there))
            (Contains-append_cases set more v member);
      }

  module _ (cmp : K → K → Ordering) (keys : IsKeyOrder cmp) where
    -- a map has of its own versions the best
    pub itself_at : (map : List X) → IsMap seen cmp map → (key : K) (found : Option X) → at seen cmp map key ≡ found → IsBestAt seen map key found
    itself_at map is_map key None is = λ v among has. let some = at-member seen cmp keys map v is_map among in let same = ap (at seen cmp map) has in cc
    itself_at map is_map key (Some v) is =
        let (has, among) = at-Contains seen cmp keys map key v is in (
          has,
          record {
            member = among;
            unbeaten = λ w member same.
                let is_w = at-member seen cmp keys map w is_map member in
                let is_v = at-member seen cmp keys map v is_map among in
                let one : Some w ≡ Some v = sym is_w ∙ ap (at seen cmp map) same ∙ is_v in
                subst (λ (o : Option X). MatchOption o ⊤ (λ x. is_below (seen v) (seen x) ≡ false)) (sym one) (below_itself (seen v));
          },
        )

    pub holds_itself : (map : List X) → IsMap seen cmp map → HoldsBest seen map map
    holds_itself map is_map = holds_best seen cmp keys map map is_map (λ key. itself_at map is_map key (at seen cmp map key) refl)
