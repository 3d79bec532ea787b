-- A decision that goes on, and is made over all alerts of its group.
use Rattle.std.proofs.Common.{◌≡◌, ℕ, ◌≤◌, ◌⊎◌, inl, inr, List, [], ◌∷◌, ◌++◌, length, ap, subst, ◌∙◌, arith}
use Rattle.am_api_decisions.specs.declared.message.Alert.{Alert}
use Rattle.am_http.specs.Lines.{RefusalLine}
use Rattle.am_instance.specs.InstanceStates.{InstanceState}
use Rattle.am_api_silences.specs.declared.replies.ResponseBytes.{ResponseBytes}
use Rattle.am_api_decisions.specs.Asking.{AskedAlert, Counted, IsAskedOn, IsStopped, StopsAt}
use Rattle.am_api_decisions.specs.Deciding.{GoesOn, Underway}
use Rattle.am_api_decisions.specs.Settling.{IsDecided, IsSettled}
use Rattle.am_api_decisions.specs.declared.group.Group.{Group}
use Rattle.am_api_decisions.specs.declared.settling.Judgement.TheVariants.{Whole}
use Rattle.am_api_decisions.specs.declared.timing.Timing.{Timing}
use Rattle.am_api_decisions.proofs.AskedMore.{alerts_of, all_asked}

-- as many were asked as were left, and then the group was answered
pub decided_over : (timing : Timing) (count : ℕ) (before after : Underway) (old mid new : InstanceState) (reply : ResponseBytes) → count ≡ length before.left
    → GoesOn timing.now count before old after mid → IsSettled Whole timing after.group after.counted mid reply new → IsDecided timing before old reply new
decided_over timing count before after old mid new reply whole on settled =
    let none : after.left ≡ [] = elim on.all [ inl many ↦ all_asked on.asked before.left after.left on.on.parts (many ∙ whole) | inr none ↦ none ] in
    inl (record {
      asked = on.asked;
      counted = after.counted;
      mid = mid;
      all = subst (λ (others : List Alert). IsAskedOn timing.now before.left before.counted old on.asked others after.counted mid) none on.on;
      settled = subst (λ (group : Group). IsSettled Whole timing group after.counted mid reply new) on.group settled;
    })

-- so many were asked, or all that were left
pub gone_on : (now most count : ℕ) (before given after : Underway) (old new : InstanceState) (asked : List AskedAlert) (left : List Alert) → before ≡ given
    → IsAskedOn now before.left before.counted old asked left after.counted new → left ≡ after.left → length asked ≡ count → count ≤ most
    → (count ≡ most) ⊎ (after.left ≡ []) → after.group ≡ before.group → GoesOn now most given old after new
gone_on now most count before given after old new asked left same on others number few all group =
    subst (λ (u : Underway). GoesOn now most u old after new) same (record {
      asked = asked;
      on = subst (λ (l : List Alert). IsAskedOn now before.left before.counted old asked l after.counted new) others on;
      few = omega (arith, number, few);
      all = elim all [ inl whole ↦ inl (number ∙ whole) | inr none ↦ inr none ];
      group = group;
    })

-- some were asked, and asking the next stopped
pub stopped_at : (now : ℕ) (before given : Underway) (old stand new : InstanceState) (asked : List AskedAlert) (alert : Alert) (rest others : List Alert)
    (counted : Counted) (line : RefusalLine) → before ≡ given → IsAskedOn now before.left before.counted old asked rest counted stand
    → rest ≡ alert ∷ others → StopsAt now alert.labels stand line new → IsStopped now given.left old line new
stopped_at now before given old stand new asked alert rest others counted line same on first stop =
    subst (λ (u : Underway). IsStopped now u.left old line new) same (record {
      asked = asked;
      alert = alert;
      others = others;
      parts = on.parts ∙ ap (λ (l : List Alert). alerts_of asked ++ l) first;
      mid = stand;
      steps = on.steps;
      stop = stop;
    })
