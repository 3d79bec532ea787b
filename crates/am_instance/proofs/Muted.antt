-- Silences that mute the same.
use Rattle.std.proofs.Common.{◌≡◌, ℕ, zero, Bool, true, false, cond, not, ◌&&◌, nat_le, nat_lt, List, [], ◌∷◌, Contains, map, filter, refl, sym, ap, ◌∙◌, subst, ⊎_elim, arith}
use Rattle.std.proofs.lemmas.List.Elements.{All-contains}
use Rattle.am_version_order.specs.Versions.{is_live}
use Rattle.am_silence.specs.Mesh.{Mesh, mesh_version}
use Rattle.am_merge.specs.Maps.{swept}
use Rattle.am_matcher.specs.declared.labels.Label.{Label}
use Rattle.am_silence.specs.declared.matcher.Matcher.{Matcher}
use Rattle.am_matcher.specs.declared.dialect.Dialect.{Dialect}
use Rattle.am_matcher.specs.Matching.{match_all}
use Rattle.am_matcher.specs.Dialects.{AreMeant}
use Rattle.am_matcher.specs.Mutes.{AreMutedIn, IsJudged, Judged, id_of, is_active, is_muting}
use Rattle.am_matcher.proofs.Meant.{meant_once}
use Rattle.am_matcher.proofs.Members.{Contains-filter, Contains-from_filter, Contains-later, Contains-map, first_or_later}

both_true : (a b : Bool) → (a && b) ≡ true → (a ≡ true) × (b ≡ true)
both_true true true e = (refl, refl)
both_true true false e = absurd cc
both_true false b e = absurd cc

-- what is in a mapped list comes from an element
Contains-from_map : {X Y : Type 0} (f : X → Y) (xs : List X) (y : Y) → Contains (map f xs) y → (x : X) × Contains xs x × (f x ≡ y)
Contains-from_map f [] y (k, within, is) = absurd (omega arith)
Contains-from_map f (x ∷ xs) y c =
    ⊎_elim (λ same. (x, (zero, omega arith, refl), same)) (λ later. let found = Contains-from_map f xs y later in (found.0, Contains-later x xs found.0 found.1, found.2)) (first_or_later (f x) (map f xs) y c)

-- a narrower test finds the same behind a wider one
module _ {X : Type 0} (wide narrow : X → Bool) (within : (x : X) → narrow x ≡ true → wide x ≡ true) where
  kept : (a b : Bool) (x : X) (xs : List X) → narrow x ≡ a → wide x ≡ b → filter narrow (filter wide xs) ≡ filter narrow xs →
      filter narrow (cond b (x ∷ filter wide xs) (filter wide xs)) ≡ cond a (x ∷ filter narrow xs) (filter narrow xs)
  kept true true x xs n w rest = rw n (ap (λ ys. x ∷ ys) rest)
  kept true false x xs n w rest = absurd (let wide_too = within x n in cc)
  kept false true x xs n w rest = rw n rest
  kept false false x xs n w rest = rest

  filter_within : (xs : List X) → filter narrow (filter wide xs) ≡ filter narrow xs
  filter_within [] = refl
  filter_within (x ∷ xs) = kept (narrow x) (wide x) x xs refl refl (filter_within xs)

-- active silences are in view
active_in_view : (now : ℕ) (m : Mesh) → is_active now m ≡ true → is_live now (mesh_version m) ≡ true
active_in_view now m e = (both_true (is_live now (mesh_version m)) (nat_le m.silence.starts_at now) (both_true (is_live now (mesh_version m) && nat_le m.silence.starts_at now) (nat_lt now m.silence.ends_at) e).0).0

same_active : (now : ℕ) (one other : List Mesh) → swept mesh_version now one ≡ swept mesh_version now other → filter (is_active now) one ≡ filter (is_active now) other
same_active now one other same =
    let live = λ (m : Mesh). is_live now (mesh_version m) in
    sym (filter_within live (is_active now) (active_in_view now) one) ∙ (ap (filter (is_active now)) same ∙ filter_within live (is_active now) (active_in_view now) other)

-- who mutes is found among those in view
pub muted_in_view : (dialect : Dialect) (labels : List Label) (now : ℕ) (silences : List Mesh) (ids broken : List (List ℕ)) → AreMutedIn dialect labels now silences ids broken →
    AreMutedIn dialect labels now (swept mesh_version now silences) ids broken
muted_in_view dialect labels now silences ids broken muted =
    let live = λ (m : Mesh). is_live now (mesh_version m) in
    record {
      judged = muted.judged;
      all_active = muted.all_active ∙ sym (filter_within live (is_active now) (active_in_view now) silences);
      are_judged = muted.are_judged;
      ids_are = muted.ids_are;
      broken_are = muted.broken_are;
    }

module _ (dialect : Dialect) (labels : List Label) (now : ℕ) where
  -- a silence that isn't broken mutes by its matchers
  mutes_by : (j : Judged) → j.broken ≡ false → match_all j.meant labels ≡ true → is_muting labels j ≡ true
  mutes_by j sound matches = rw (sound, matches) refl

  -- a silence that its matchers let mute, as they are meant, does so, or is broken
  muted_by : (other : List Mesh) (others broken_too : List (List ℕ)) (there : AreMutedIn dialect labels now other others broken_too) (m : Mesh) (meant : List Matcher) (id : List ℕ) → m.silence.id ≡ id →
      AreMeant dialect m.silence.matchers meant → match_all meant labels ≡ true → ¬ Contains broken_too id → (k : Judged) (b : Bool) → k.broken ≡ b → Contains there.judged k → k.silence ≡ m → Contains others id
  muted_by other others broken_too there m meant id is all matches sound k true e among same =
      let own : id_of k ≡ id = ap (λ x. x.silence.id) same ∙ is in
      absurd (sound (subst (λ xs. Contains xs id) (sym there.broken_are) (subst (λ i. Contains (map id_of (filter (λ j. j.broken) there.judged)) i) own
      (Contains-map id_of (filter (λ j. j.broken) there.judged) k (Contains-filter (λ j. j.broken) there.judged k among e)))))
  muted_by other others broken_too there m meant id is all matches sound k false e among same =
      let own : id_of k ≡ id = ap (λ x. x.silence.id) same ∙ is in
      let judged : IsJudged dialect k = All-contains (IsJudged dialect) there.judged k there.are_judged among in
      let here : AreMeant dialect m.silence.matchers k.meant = subst (λ (x : Mesh). AreMeant dialect x.silence.matchers k.meant) same (judged.are_meant e) in
      let mutes : is_muting labels k ≡ true = mutes_by k e (ap (λ (ms : List Matcher). match_all ms labels) (meant_once dialect m.silence.matchers k.meant meant here all) ∙ matches) in
      subst (λ xs. Contains xs id) (sym there.ids_are) (subst (λ i. Contains (map id_of (filter (is_muting labels) there.judged)) i) own
      (Contains-map id_of (filter (is_muting labels) there.judged) k (Contains-filter (is_muting labels) there.judged k among mutes)))

  unbroken : (b : Bool) → not b ≡ true → b ≡ false
  unbroken true e = absurd cc
  unbroken false e = refl

  -- a silence that mutes over one list mutes over the other, or is broken there
  pub mute_alike : (one other : List Mesh) (ids broken others broken_too : List (List ℕ)) → swept mesh_version now one ≡ swept mesh_version now other →
      AreMutedIn dialect labels now one ids broken → AreMutedIn dialect labels now other others broken_too → (id : List ℕ) → Contains ids id → ¬ Contains broken_too id → Contains others id
  mute_alike one other ids broken others broken_too same here there id muted sound =
      let first = Contains-from_map id_of (filter (is_muting labels) here.judged) id (subst (λ xs. Contains xs id) here.ids_are muted) in
      let j = first.0 in
      let passed = Contains-from_filter (is_muting labels) here.judged j first.1 in
      let tests = both_true (not j.broken) (match_all j.meant labels) passed.1 in
      let judged : IsJudged dialect j = All-contains (IsJudged dialect) here.judged j here.are_judged passed.0 in
      let active : Contains (filter (is_active now) other) j.silence =
      subst (λ xs. Contains xs j.silence) (here.all_active ∙ same_active now one other same) (Contains-map (λ x. x.silence) here.judged j passed.0) in
      let second = Contains-from_map (λ x. x.silence) there.judged j.silence (subst (λ xs. Contains xs j.silence) (sym there.all_active) active) in
      muted_by other others broken_too there j.silence j.meant id first.2 (judged.are_meant (unbroken j.broken tests.0)) tests.1 sound second.0 second.0.broken refl second.1 second.2
