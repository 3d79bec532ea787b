-- The tests of a timely run answer as the definition says.
use Rattle.std.proofs.Common.{◌≡◌, ◌↔◌, ◌⊎◌, inl, inr, ℕ, ◌+◌, ◌-◌, ◌<◌, ◌≤◌, zero, suc, Bool, true, false, not, ◌&&◌, ◌||◌, cond, eqb, ltb, leb, List, [], ◌∷◌, ◌++◌, Option, Some, None, refl, sym, ap, ◌∙◌, subst, arith, map, length, slice_get, option_map}
use Rattle.std.specs.Prelude.{All, IfSome, IsSomeAnd}
use Rattle.std.specs.List.{list_all, list_any}
use Rattle.std.specs.declared.cmp.Ordering.{Ordering}
use Rattle.std.specs.Ordering.{eq_by_cmp}
use Rattle.std.proofs.lemmas.Bool.{eqb-true, lt-ltb, ltb-true, ltb-false, leb-true, le-leb, and_parts, and_from, or_cases, or_left, not-true, false≢true}
use Rattle.std.proofs.lemmas.Option.{slice_get_within}
use Rattle.std.proofs.lemmas.Grind.{flat_map-append}
use Rattle.std.proofs.lemmas.List.Elements.{All-contains, Contains-append_left, Contains-append_right, Contains-append_cases, Contains-push_cases, Contains-push}
use Rattle.am_version_order.specs.Versions.{Version, is_below}
use Rattle.am_merge.proofs.Keys.{IsKeyOrder, eq_itself, same_key}
use Rattle.am_collect.specs.Events.{taken}
use Rattle.am_runs.specs.declared.step.DeliverySource.TheVariants.{Made, Written, Arrived, Lent}
use Rattle.am_runs.specs.Steps.{RunStep, EachStep, SentFrame, moment, clock_after, clock_from, delivered_in, flights_by, flights_of, is_at}
use Rattle.am_runs.specs.Steps.RunStep.{Took, Ticked, Back, Refused, Saved, Stopped, Started}
use Rattle.am_runs.specs.Members.{Member, stepped, member_after, member_from, member_of, set_of}
use Rattle.am_runs.specs.Runs.{IsPossible, IsRun}
use Rattle.am_runs.specs.Timely.{IsSwift, HasCaughtUp, IsSpread, IsTimely}
use Rattle.am_runs.specs.Tests.{Watched, is_monotone, are_monotone, sent_in, flies_short, arrived_in_time, is_wanting, counts_for, watched, watch_after, comes, ComesToAll}
use Rattle.am_runs.proofs.Cuts.{carried, each_cons, each_nil, each_rest}
use Rattle.am_runs.proofs.Loops.{all_from}
use Rattle.am_runs.proofs.Pasts.{member_of-push, taken-passes, taken-tick, taken-pass}

-- ---- options

pub if_some : {A : Type 0} (P : A → Type 0) (o : Option A) → ((a : A) → o ≡ Some a → P a) → IfSome o P
if_some P None each = tt
if_some P (Some a) each = each a refl

pub some_if : {A : Type 0} (P : A → Type 0) (o : Option A) (a : A) → IfSome o P → o ≡ Some a → P a
some_if P None a holds e = absurd cc
some_if P (Some b) a holds e = let same : b ≡ a = cc in subst P same holds

-- ---- a test of each

module _ {A : Type 0} (p : A → Bool) where
  to_each : (xs : List A) → list_all p xs ≡ true → EachStep xs (λ before x. p x ≡ true)
  to_each [] e = each_nil (λ before x. p x ≡ true)
  to_each (x ∷ xs) e = let both = and_parts (p x) (list_all p xs) e in each_cons (λ before y. p y ≡ true) x xs both.0 (to_each xs both.1)

  from_each : (xs : List A) → EachStep xs (λ before x. p x ≡ true) → list_all p xs ≡ true
  from_each [] each = refl
  from_each (x ∷ xs) each = and_from (p x) (list_all p xs) (each [] x xs refl) (from_each xs (each_rest (λ before y. p y ≡ true) x xs each))

-- ---- onward

onward_to : (clock : ℕ) (o : Option ℕ) → is_monotone clock o ≡ true → IfSome o (λ now. clock ≤ now)
onward_to clock None e = tt
onward_to clock (Some now) e = leb-true clock now e

onward_from : (clock : ℕ) (o : Option ℕ) → IfSome o (λ now. clock ≤ now) → is_monotone clock o ≡ true
onward_from clock None h = refl
onward_from clock (Some now) h = le-leb clock now h

module _ {X : Type 0} where
  abbrev OnwardFrom : ℕ → List (RunStep X) → RunStep X → Type 0
  OnwardFrom clock before step = IfSome (moment step) (λ now. clock_from clock before ≤ now)

  pub to_onward : (clock : ℕ) (steps : List (RunStep X)) → are_monotone clock steps ≡ true → EachStep steps (OnwardFrom clock)
  to_onward clock [] e = each_nil (OnwardFrom clock)
  to_onward clock (s ∷ steps) e =
      let both = and_parts (is_monotone clock (moment s)) (are_monotone (clock_after clock (moment s)) steps) e in
      each_cons (OnwardFrom clock) s steps (onward_to clock (moment s) both.0) (to_onward (clock_after clock (moment s)) steps both.1)

  pub from_onward : (clock : ℕ) (steps : List (RunStep X)) → EachStep steps (OnwardFrom clock) → are_monotone clock steps ≡ true
  from_onward clock [] each = refl
  from_onward clock (s ∷ steps) each =
      and_from (is_monotone clock (moment s)) (are_monotone (clock_after clock (moment s)) steps) (onward_from clock (moment s) (each [] s steps refl))
      (from_onward (clock_after clock (moment s)) steps (each_rest (OnwardFrom clock) s steps each))

-- ---- swift

pub get_left : {A : Type 0} (xs ys : List A) (n : ℕ) → n < length xs → slice_get (xs ++ ys) n ≡ slice_get xs n
get_left [] ys n within = absurd (omega arith)
get_left (x ∷ xs) ys zero within = refl
get_left (x ∷ xs) ys (suc n) within = get_left xs ys n (omega arith)

pub get_right : {A : Type 0} (xs ys : List A) (n : ℕ) → length xs ≤ n → slice_get (xs ++ ys) n ≡ slice_get ys (n - length xs)
get_right [] ys n past = let same : n ≡ n - 0 = omega arith in ap (slice_get ys) same
get_right (x ∷ xs) ys zero past = absurd (omega arith)
get_right (x ∷ xs) ys (suc n) past = let same : n - length xs ≡ suc n - length (x ∷ xs) = omega arith in get_right xs ys n (omega arith) ∙ ap (slice_get ys) same

module _ {X : Type 0} where
  sent_now : (now : ℕ) (frames : List (List X)) (n : ℕ) → n < length frames → Some now ≡ option_map (λ (f : SentFrame X). f.sent) (slice_get (map (λ frame. record { sent = now; versions = frame }) frames) n)
  sent_now now [] n within = absurd (omega arith)
  sent_now now (frame ∷ frames) zero within = refl
  sent_now now (frame ∷ frames) (suc n) within = sent_now now frames n (omega arith)

  flights_long : (now : ℕ) (frames : List (List X)) → length (map {B = SentFrame X} (λ frame. record { sent = now; versions = frame }) frames) ≡ length frames
  flights_long now [] = refl
  flights_long now (frame ∷ frames) = let same = flights_long now frames in omega (arith, same)

  sent_here : (s : RunStep X) (n : ℕ) → n < length (flights_by s) → moment s ≡ option_map (λ (f : SentFrame X). f.sent) (slice_get (flights_by s) n)
  sent_here (Took place now source versions frames) n within = let same = flights_long now frames in sent_now now frames n (omega (arith, same, within))
  sent_here (Ticked place now) n within = absurd (omega arith)
  sent_here (Back place now) n within = absurd (omega arith)
  sent_here (Refused now) n within = absurd (omega arith)
  sent_here (Saved place) n within = absurd (omega arith)
  sent_here (Stopped place) n within = absurd (omega arith)
  sent_here (Started place now) n within = absurd (omega arith)

  sent_told : (steps : List (RunStep X)) (n : ℕ) → sent_in n steps ≡ option_map (λ (f : SentFrame X). f.sent) (slice_get (flights_of steps) n)
  sent_told [] n = refl
  sent_told (s ∷ steps) n = by (ltb n (length (flights_by s))) refl (λ m. sent_told steps m) where
    by : (b : Bool) → ltb n (length (flights_by s)) ≡ b → ((m : ℕ) → sent_in m steps ≡ option_map (λ (f : SentFrame X). f.sent) (slice_get (flights_of steps) m)) → cond b (moment s) (sent_in (n - length (flights_by s)) steps) ≡ option_map (λ (f : SentFrame X). f.sent) (slice_get (flights_by s ++ flights_of steps) n)
    by true e later = let within = ltb-true n (length (flights_by s)) e in sent_here s n within ∙ ap (option_map (λ (f : SentFrame X). f.sent)) (sym (get_left (flights_by s) (flights_of steps) n within))
    by false e later = later (n - length (flights_by s)) ∙ ap (option_map (λ (f : SentFrame X). f.sent)) (sym (get_right (flights_by s) (flights_of steps) n (ltb-false n (length (flights_by s)) e)))

  -- a frame that is in flight is the same one in the whole run
  same_flight : (before rest : List (RunStep X)) (s : RunStep X) (steps : List (RunStep X)) (n : ℕ) (f : SentFrame X) → before ++ s ∷ rest ≡ steps → slice_get (flights_of before) n ≡ Some f → sent_in n steps ≡ Some f.sent
  same_flight before rest s steps n f e found =
      let within : n < length (flights_of before) = slice_get_within (flights_of before) n f found in
      let whole : flights_of steps ≡ flights_of before ++ flights_of (s ∷ rest) = ap flights_of (sym e) ∙ flat_map-append flights_by before (s ∷ rest) in
      sent_told steps n ∙ ap (option_map (λ (g : SentFrame X). g.sent)) (ap (λ fs. slice_get fs n) whole ∙ (get_left (flights_of before) (flights_of (s ∷ rest)) n within ∙ found))

module _ {K X : Type 0} (seen : X → Version K) (cmp : K → K → Ordering) (members flight : ℕ) where
  -- a delivery, by when it was sent
  swift_arrived : (now : ℕ) (found : Option (SentFrame X)) (told : Option ℕ) → ((f : SentFrame X) → found ≡ Some f → told ≡ Some f.sent) → (P : SentFrame X → Type 0) → IsSomeAnd found P → (flies_short flight now told ≡ true) ↔ IfSome found (λ f. now ≤ f.sent + flight)
  swift_arrived now None told same P is = absurd is
  swift_arrived now (Some f) told same P is = let e = same f refl in (λ t. leb-true now (f.sent + flight) (subst (λ o. flies_short flight now o ≡ true) e t), λ h. subst (λ o. flies_short flight now o ≡ true) (sym e) (le-leb now (f.sent + flight) h))

  swift_one : (before : List (RunStep X)) (s : RunStep X) (rest steps : List (RunStep X)) → before ++ s ∷ rest ≡ steps → IsPossible seen cmp members before s → (arrived_in_time flight steps s ≡ true) ↔ IsSwift flight before s
  swift_one before (Took place now Made versions frames) rest steps e can = (λ t. tt, λ h. refl)
  swift_one before (Took place now (Written sent) versions frames) rest steps e can = (leb-true now (sent + flight), le-leb now (sent + flight))
  swift_one before (Took place now (Arrived number) versions frames) rest steps e can = swift_arrived now (slice_get (flights_of before) number) (sent_in number steps) (λ f found. same_flight before rest (Took place now (Arrived number) versions frames) steps number f e found) _ can.from
  swift_one before (Took place now (Lent lender) versions frames) rest steps e can = (λ t. tt, λ h. refl)
  swift_one before (Ticked place now) rest steps e can = (λ t. tt, λ h. refl)
  swift_one before (Back place now) rest steps e can = (λ t. tt, λ h. refl)
  swift_one before (Refused now) rest steps e can = (λ t. tt, λ h. refl)
  swift_one before (Saved place) rest steps e can = (λ t. tt, λ h. refl)
  swift_one before (Stopped place) rest steps e can = (λ t. tt, λ h. refl)
  swift_one before (Started place now) rest steps e can = (λ t. tt, λ h. refl)

  pub to_swift : (steps : List (RunStep X)) → IsRun seen cmp members steps → list_all (arrived_in_time flight steps) steps ≡ true → EachStep steps (IsSwift flight)
  to_swift steps run test before s rest e = (swift_one before s rest steps e (run before s rest e)).0 (to_each (arrived_in_time flight steps) steps test before s rest e)

  pub from_swift : (steps : List (RunStep X)) → IsRun seen cmp members steps → EachStep steps (IsSwift flight) → list_all (arrived_in_time flight steps) steps ≡ true
  from_swift steps run each = from_each (arrived_in_time flight steps) steps (λ before s rest e. (swift_one before s rest steps e (run before s rest e)).1 (each before s rest e))

-- ---- spread

module _ {K X : Type 0} (seen : X → Version K) where
  caught_left : (xs ys : List X) (v : X) → HasCaughtUp seen xs v → HasCaughtUp seen (xs ++ ys) v
  caught_left xs ys v h = record { version = h.version; member = Contains-append_left xs ys h.version h.member; same_key = h.same_key; not_below = h.not_below }

  caught_right : (xs ys : List X) (v : X) → HasCaughtUp seen ys v → HasCaughtUp seen (xs ++ ys) v
  caught_right xs ys v h = record { version = h.version; member = Contains-append_right xs ys h.version h.member; same_key = h.same_key; not_below = h.not_below }

  caught_cases : (xs ys : List X) (v : X) → HasCaughtUp seen (xs ++ ys) v → HasCaughtUp seen xs v ⊎ HasCaughtUp seen ys v
  caught_cases xs ys v h = elim (Contains-append_cases xs ys h.version h.member) [
    | inl c ↦ inl (record { version = h.version; member = c; same_key = h.same_key; not_below = h.not_below })
    | inr c ↦ inr (record { version = h.version; member = c; same_key = h.same_key; not_below = h.not_below })
  ]

  not_caught : (v : X) → HasCaughtUp seen [] v → ⊥
  not_caught v h = let few = h.member.1 in omega arith

  or_right : (a b : Bool) → b ≡ true → (a || b) ≡ true
  or_right true b e = refl
  or_right false b e = e

  module _ (cmp : K → K → Ordering) (keys : IsKeyOrder cmp) where
    counts_from : (v w : X) → counts_for seen cmp v w ≡ true → HasCaughtUp seen (w ∷ []) v
    counts_from v w e =
        let both = and_parts (eq_by_cmp cmp (seen w).key (seen v).key) (not (is_below (seen w) (seen v))) e in
        record { version = w; member = Contains-push [] w; same_key = same_key seen cmp keys (seen w).key (seen v).key both.0; not_below = not-true (is_below (seen w) (seen v)) both.1 }

    to_counts : (v w : X) → HasCaughtUp seen (w ∷ []) v → counts_for seen cmp v w ≡ true
    to_counts v w h =
        let same : w ≡ h.version = elim (Contains-push_cases [] w h.version h.member) [ inl none ↦ (let few = none.1 in absurd (omega arith)) | inr is ↦ is ] in
        let key : (seen w).key ≡ (seen v).key = ap (λ y. (seen y).key) same ∙ h.same_key in
        and_from (eq_by_cmp cmp (seen w).key (seen v).key) (not (is_below (seen w) (seen v)))
        (subst (λ k. eq_by_cmp cmp (seen w).key k ≡ true) key (eq_itself seen cmp keys (seen w).key))
        (ap not (subst (λ y. is_below (seen y) (seen v) ≡ false) (sym same) h.not_below))

    to_caught : (v : X) (ws : List X) → list_any (counts_for seen cmp v) ws ≡ true → HasCaughtUp seen ws v
    to_caught v [] e = absurd (false≢true e)
    to_caught v (w ∷ ws) e = elim (or_cases (counts_for seen cmp v w) (list_any (counts_for seen cmp v) ws) e) [
      | inl here ↦ caught_left (w ∷ []) ws v (counts_from v w here)
      | inr there ↦ caught_right (w ∷ []) ws v (to_caught v ws there)
    ]

    from_caught : (v : X) (ws : List X) → HasCaughtUp seen ws v → list_any (counts_for seen cmp v) ws ≡ true
    from_caught v [] h = absurd (not_caught v h)
    from_caught v (w ∷ ws) h = elim (caught_cases (w ∷ []) ws v h) [
      | inl here ↦ or_left (counts_for seen cmp v w) (list_any (counts_for seen cmp v) ws) (to_counts v w here)
      | inr there ↦ or_right (counts_for seen cmp v w) (list_any (counts_for seen cmp v) ws) (from_caught v ws there)
    ]

    -- what is watched of a member
    pub record Tells (v : X) (w : Watched) (m : Member X) : Type 0 where
      pub runs : w.runs ≡ m.runs
      pub has : (w.has ≡ true) ↔ HasCaughtUp seen (taken [] m.past) v
      pub saved : (w.saved ≡ true) ↔ HasCaughtUp seen (taken [] m.saved) v

    tells_more : (v : X) (has : Bool) (set versions : List X) → ((has ≡ true) ↔ HasCaughtUp seen set v) → ((has || list_any (counts_for seen cmp v) versions) ≡ true) ↔ HasCaughtUp seen (set ++ versions) v
    tells_more v has set versions told = (
      λ e. elim (or_cases has (list_any (counts_for seen cmp v) versions) e) [ inl old ↦ caught_left set versions v (told.0 old) | inr new ↦ caught_right set versions v (to_caught v versions new) ],
      λ h. elim (caught_cases set versions v h) [ inl old ↦ or_left has (list_any (counts_for seen cmp v) versions) (told.1 old) | inr new ↦ or_right has (list_any (counts_for seen cmp v) versions) (from_caught v versions new) ],
    )

    tells_stepped : (v : X) (w : Watched) (m : Member X) (s : RunStep X) → Tells v w m → Tells v (watched seen cmp v w s) (stepped m s)
    tells_stepped v w m (Took place now source versions frames) t = record {
      runs = t.runs;
      has = subst (λ set. ((w.has || list_any (counts_for seen cmp v) versions) ≡ true) ↔ HasCaughtUp seen set v) (sym (taken-passes m.past now versions)) (tells_more v w.has (taken [] m.past) versions t.has);
      saved = t.saved;
    }
    tells_stepped v w m (Ticked place now) t = record { runs = t.runs; has = subst (λ set. (w.has ≡ true) ↔ HasCaughtUp seen set v) (sym (taken-tick m.past now)) t.has; saved = t.saved }
    tells_stepped v w m (Back place now) t = t
    tells_stepped v w m (Refused now) t = t
    tells_stepped v w m (Saved place) t = record { runs = t.runs; has = t.has; saved = t.has }
    tells_stepped v w m (Stopped place) t = record { runs = refl; has = t.has; saved = t.saved }
    tells_stepped v w m (Started place now) t = record { runs = refl; has = subst (λ set. (w.saved ≡ true) ↔ HasCaughtUp seen set v) (sym (taken-pass m.saved now)) t.saved; saved = t.saved }

    tells_where : (v : X) (b : Bool) (w u : Watched) (m n : Member X) → Tells v w m → Tells v u n → Tells v (cond b u w) (cond b n m)
    tells_where v true w u m n t s = s
    tells_where v false w u m n t s = t

    -- the member doesn't run without the version when it should have come
    abbrev pub HasCome : ℕ → X → Member X → ℕ → Type 0
    HasCome spread v m now = (seen v).updated + spread ≤ now → m.runs ≡ true → HasCaughtUp seen (set_of m) v

    come_to : (spread : ℕ) (v : X) (w : Watched) (m : Member X) (o : Option ℕ) → Tells v w m → not (is_wanting ((seen v).updated + spread) w o) ≡ true → IfSome o (HasCome spread v m)
    come_to spread v w m None t e = tt
    come_to spread v w m (Some now) t e = λ old runs. by old runs w.has refl where
      by : (seen v).updated + spread ≤ now → m.runs ≡ true → (b : Bool) → w.has ≡ b → HasCaughtUp seen (set_of m) v
      by old runs true is = t.has.0 is
      by old runs false is =
          let wanting : is_wanting ((seen v).updated + spread) w (Some now) ≡ true = and_from (leb ((seen v).updated + spread) now) (w.runs && not w.has) (le-leb ((seen v).updated + spread) now old) (and_from w.runs (not w.has) (t.runs ∙ runs) (ap not is)) in
          absurd (false≢true (sym (not-true (is_wanting ((seen v).updated + spread) w (Some now)) e) ∙ wanting))

    come_from : (spread : ℕ) (v : X) (w : Watched) (m : Member X) (o : Option ℕ) → Tells v w m → IfSome o (HasCome spread v m) → not (is_wanting ((seen v).updated + spread) w o) ≡ true
    come_from spread v w m None t h = refl
    come_from spread v w m (Some now) t h = by (is_wanting ((seen v).updated + spread) w (Some now)) refl where
      by : (b : Bool) → is_wanting ((seen v).updated + spread) w (Some now) ≡ b → not (is_wanting ((seen v).updated + spread) w (Some now)) ≡ true
      by true e =
          let p = and_parts (leb ((seen v).updated + spread) now) (w.runs && not w.has) e in
          let q = and_parts w.runs (not w.has) p.1 in
          let has : w.has ≡ true = t.has.1 (h (leb-true ((seen v).updated + spread) now p.0) (sym t.runs ∙ q.0)) in
          absurd (false≢true (sym (not-true w.has q.1) ∙ has))
      by false e = ap not e

    abbrev ComeStep : ℕ → ℕ → X → Member X → List (RunStep X) → RunStep X → Type 0
    ComeStep q spread v m before s = IfSome (moment s) (HasCome spread v (member_from q m before))

    pub to_come : (q spread : ℕ) (v : X) (w : Watched) (m : Member X) (steps : List (RunStep X)) → Tells v w m → comes seen cmp spread q v w steps ≡ true → EachStep steps (ComeStep q spread v m)
    to_come q spread v w m [] t e = each_nil (ComeStep q spread v m)
    to_come q spread v w m (s ∷ steps) t e =
        let both = and_parts (not (is_wanting ((seen v).updated + spread) w (moment s))) (comes seen cmp spread q v (watch_after seen cmp q v w s) steps) e in
        each_cons (ComeStep q spread v m) s steps (come_to spread v w m (moment s) t both.0)
        (to_come q spread v (watch_after seen cmp q v w s) (member_after q m s) steps (tells_where v (is_at q s) w (watched seen cmp v w s) m (stepped m s) t (tells_stepped v w m s t)) both.1)

    pub from_come : (q spread : ℕ) (v : X) (w : Watched) (m : Member X) (steps : List (RunStep X)) → Tells v w m → EachStep steps (ComeStep q spread v m) → comes seen cmp spread q v w steps ≡ true
    from_come q spread v w m [] t each = refl
    from_come q spread v w m (s ∷ steps) t each =
        and_from (not (is_wanting ((seen v).updated + spread) w (moment s))) (comes seen cmp spread q v (watch_after seen cmp q v w s) steps)
        (come_from spread v w m (moment s) t (each [] s steps refl))
        (from_come q spread v (watch_after seen cmp q v w s) (member_after q m s) steps (tells_where v (is_at q s) w (watched seen cmp v w s) m (stepped m s) t (tells_stepped v w m s t)) (each_rest (ComeStep q spread v m) s steps each))

    -- at first
    tells_begin : (v : X) (members q : ℕ) → q < members → Tells v (record { runs = true; has = false; saved = false }) (record { past = []; saved = []; runs = ltb q members })
    tells_begin v members q within = record {
      runs = sym (lt-ltb q members within);
      has = (λ e. absurd (false≢true e), λ h. absurd (not_caught v h));
      saved = (λ e. absurd (false≢true e), λ h. absurd (not_caught v h));
    }

    -- in a run only members run
    only_members : (members q : ℕ) (before : List (RunStep X)) (s : RunStep X) → IsPossible seen cmp members before s → ((member_of members q before).runs ≡ true → q < members) → (member_after q (member_of members q before) s).runs ≡ true → q < members
    only_members members q before s can old = by s can where
      where_runs : (b : Bool) (n : Member X) → (b ≡ true → n.runs ≡ true → q < members) → (cond b n (member_of members q before)).runs ≡ true → q < members
      where_runs true n new runs = new refl runs
      where_runs false n new runs = old runs

      by : (s : RunStep X) → IsPossible seen cmp members before s → (member_after q (member_of members q before) s).runs ≡ true → q < members
      by (Took place now source versions frames) can = where_runs (eqb place q) _ (λ same runs. old runs)
      by (Ticked place now) can = where_runs (eqb place q) _ (λ same runs. old runs)
      by (Back place now) can = where_runs (eqb place q) _ (λ same runs. old runs)
      by (Refused now) can = old
      by (Saved place) can = where_runs (eqb place q) _ (λ same runs. old runs)
      by (Stopped place) can = where_runs (eqb place q) _ (λ same runs. absurd (false≢true runs))
      by (Started place now) can = where_runs (eqb place q) _ (λ same runs. subst (λ p. p < members) (eqb-true place q same) can.member)

    pub runs_within : (members q : ℕ) (steps : List (RunStep X)) → IsRun seen cmp members steps → (before rest : List (RunStep X)) → before ++ rest ≡ steps → (member_of members q before).runs ≡ true → q < members
    runs_within members q steps run before rest e =
        let Q : List (RunStep X) → Type 0 = λ past. (member_of members q past).runs ≡ true → q < members in
        carried Q steps [] before rest e
        (λ b s after d old. λ runs. only_members members q b s (run b s after d) old (subst (λ m. m.runs ≡ true) (member_of-push members q b s) runs))
        (λ runs. ltb-true q members runs)

    pub to_spread : (members spread : ℕ) (steps : List (RunStep X)) → IsRun seen cmp members steps → All (ComesToAll seen cmp spread members steps) (delivered_in steps) → EachStep steps (λ before s. IfSome (moment s) (IsSpread seen spread members (delivered_in steps) before))
    to_spread members spread steps run all before s rest e =
        if_some (IsSpread seen spread members (delivered_in steps) before) (moment s) (λ now at v has old q runs.
        let within : q < members = runs_within members q steps run before (s ∷ rest) e runs in
        let come = to_come q spread v (record { runs = true; has = false; saved = false }) (record { past = []; saved = []; runs = ltb q members }) steps (tells_begin v members q within) (All-contains (ComesToAll seen cmp spread members steps) (delivered_in steps) v all has q within) in
        some_if (HasCome spread v (member_of members q before)) (moment s) now (come before s rest e) at old runs)

    pub from_spread : (members spread : ℕ) (steps : List (RunStep X)) → EachStep steps (λ before s. IfSome (moment s) (IsSpread seen spread members (delivered_in steps) before)) → All (ComesToAll seen cmp spread members steps) (delivered_in steps)
    from_spread members spread steps each = all_from (ComesToAll seen cmp spread members steps) (delivered_in steps) (λ v has q within.
        from_come q spread v (record { runs = true; has = false; saved = false }) (record { past = []; saved = []; runs = ltb q members }) steps (tells_begin v members q within)
        (λ before s rest e. if_some (HasCome spread v (member_of members q before)) (moment s) (λ now at old runs. some_if (IsSpread seen spread members (delivered_in steps) before) (moment s) now (each before s rest e) at v has old q runs)))

    -- all of it
    pub timely_from : (spread flight members : ℕ) (steps : List (RunStep X)) → IsRun seen cmp members steps → are_monotone 0 steps ≡ true → All (λ v. ((seen v).updated + spread) + flight ≤ (seen v).expires) (delivered_in steps) → list_all (arrived_in_time flight steps) steps ≡ true → All (ComesToAll seen cmp spread members steps) (delivered_in steps) → IsTimely seen spread flight members steps
    timely_from spread flight members steps run onward lasting swift comes = record {
      onward = to_onward 0 steps onward;
      lasting = lasting;
      swift = to_swift seen cmp members flight steps run swift;
      caught_up = to_spread members spread steps run comes;
    }
