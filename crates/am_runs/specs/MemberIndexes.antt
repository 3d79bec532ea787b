-- The records of members in a run.
-- X is the type of versions, and `seen` is what the merge sees of one.
use Rattle.std.specs.Prelude.{◌≡◌, ℕ, List, Bool, true, Option, Some, None, IsTrue, ◌↔◌, MatchOption, if◌then◌else◌, slice_get}
use Rattle.std.specs.declared.cmp.Ordering.{Ordering}
use Rattle.am_version_order.specs.Versions.{Version}
use Rattle.am_merge.specs.Maps.{at}
use Rattle.am_runs.specs.declared.member_index.MemberIndex.{MemberIndex}
use Rattle.am_runs.specs.Records.{lasts_seen}
use Rattle.am_runs.specs.Steps.{RunStep, EachStep, IsFirstWithout}
use Rattle.am_runs.specs.Steps.RunStep.{Took, Back}
use Rattle.am_runs.specs.Tests.{MaxTaken, last_from, lasts_from, runs_from, topped, tops_from, top_among, in_time, StaysCalm}

-- the first fault after the step with this number, which the member stays calm with or not
abbrev pub fault_after : Option ℕ → Bool → ℕ → Option ℕ
fault_after (Some first) stays number = Some first
fault_after None stays number = if stays then None else Some number

module _ {K X : Type 0} (seen : X → Version K) (cmp : K → K → Ordering) where
  -- the greatest versions of a key in a member's index
  abbrev pub tops_at : MemberIndex X K → K → MaxTaken X
  tops_at index key = record { top = at seen cmp index.taken key; saved = at seen cmp index.saved key }

  -- the member stays calm with this step of its own
  abbrev pub Stays : MemberIndex X K → RunStep X → Type 0
  Stays index (Took place now source versions frames) =
      EachStep versions (λ done v. in_time seen (top_among seen cmp (seen v).key (at seen cmp index.taken (seen v).key) done) index.lasts.last now v ≡ true)
  Stays index (Back place now) = ⊥
  Stays index _ = Unit {0}

  -- the index after a step of the member, and whether the member stays calm
  pub record IsJudged (old new : MemberIndex X K) (step : RunStep X) (stays : Bool) : Type 0 where
    pub calm : IsTrue stays ↔ Stays old step
    pub tops : (key : K) → tops_at new key ≡ topped seen cmp key (tops_at old key) step
    pub runs : new.runs ≡ old.runs
    pub acted : new.acted ≡ old.acted
    pub lasts : new.lasts ≡ old.lasts
    pub fault : new.fault ≡ old.fault

  -- the index of a member after steps, if it runs at first
  pub record IsMemberIndex (q : ℕ) (index : MemberIndex X K) (steps : List (RunStep X)) : Type 0 where
    pub runs : index.runs ≡ runs_from q true steps
    pub acted : index.acted ≡ last_from q 0 steps
    pub lasts : lasts_seen index.lasts ≡ lasts_from q (record { last = None; saved = None }) steps
    pub tops : (key : K) → tops_at index key ≡ tops_from seen cmp q key (record { top = None; saved = None }) steps
    pub fault : MatchOption index.fault (EachStep steps (StaysCalm seen cmp q)) (IsFirstWithout steps (StaysCalm seen cmp q))

  -- the indexes of the first members after steps
  abbrev pub AreMemberIndexes : List (MemberIndex X K) → List (RunStep X) → Type 0
  AreMemberIndexes indexes steps = (q : ℕ) (index : MemberIndex X K) → slice_get indexes q ≡ Some index → IsMemberIndex q index steps
