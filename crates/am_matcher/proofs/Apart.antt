-- The silences that mute are among those that pass a test, if no other one could mute.
use Rattle.std.proofs.Common.{◌≡◌, ◌≢◌, ℕ, Bool, true, false, cond, List, [], ◌∷◌, map, filter, All, refl, sym, ap, ap₂, ◌∙◌, true≢false}
use Rattle.std.proofs.lemmas.List.Elements.{All-cons, All-head, All-tail}
use Rattle.am_silence.specs.Mesh.{Mesh}
use Rattle.am_matcher.specs.declared.labels.Label.{Label}
use Rattle.am_matcher.specs.declared.dialect.Dialect.{Dialect}
use Rattle.am_matcher.specs.Matching.{IsSoundMatcher, match_all}
use Rattle.am_matcher.specs.Dialects.{AreMeant}
use Rattle.am_matcher.specs.Mutes.{is_active, Judged, IsJudged, is_muting, id_of, AreMutedIn}

-- the judgement of a silence whose matchers are meant as they stand
abbrev plain : Mesh → Judged
plain m = record { silence = m; broken = false; meant = m.silence.matchers }

module _ (dialect : Dialect) (active test : Mesh → Bool) (mutes : Judged → Bool) where
  -- the judgements of all silences, where those of some are known
  record AreWoven (held : List Mesh) (some : List Judged) : Type 0 where
    pub all : List Judged
    pub silences : map (λ j. j.silence) all ≡ filter active held
    pub judged : All (IsJudged dialect) some → All (IsJudged dialect) all
    pub muting : filter mutes all ≡ filter mutes some
    pub broken : filter (λ j. j.broken) all ≡ filter (λ j. j.broken) some

  module _ (m : Mesh) (held : List Mesh) where
    passed_over : (some : List Judged) → active m ≡ false → AreWoven held some → AreWoven (m ∷ held) some
    passed_over some e rest = record {
      all = rest.all;
      silences = rest.silences ∙ sym (ap (λ b. cond b (m ∷ filter active held) (filter active held)) e);
      judged = rest.judged;
      muting = rest.muting;
      broken = rest.broken;
    }

    put_between : (some : List Judged) → active m ≡ true → IsJudged dialect (plain m) → mutes (plain m) ≡ false → AreWoven held some → AreWoven (m ∷ held) some
    put_between some e judged silent rest = record {
      all = plain m ∷ rest.all;
      silences = ap (λ ms. m ∷ ms) rest.silences ∙ sym (ap (λ b. cond b (m ∷ filter active held) (filter active held)) e);
      judged = λ all. All-cons (IsJudged dialect) (plain m) rest.all judged (rest.judged all);
      muting = ap (λ b. cond b (plain m ∷ filter mutes rest.all) (filter mutes rest.all)) silent ∙ rest.muting;
      broken = rest.broken;
    }

    kept : (j : Judged) (some : List Judged) → active m ≡ true → j.silence ≡ m → AreWoven held some → AreWoven (m ∷ held) (j ∷ some)
    kept j some e is rest = record {
      all = j ∷ rest.all;
      silences = ap₂ (λ x ms. x ∷ ms) is rest.silences ∙ sym (ap (λ b. cond b (m ∷ filter active held) (filter active held)) e);
      judged = λ all. All-cons (IsJudged dialect) j rest.all (All-head (IsJudged dialect) j some all) (rest.judged (All-tail (IsJudged dialect) j some all));
      muting = ap (λ js. cond (mutes j) (j ∷ js) js) rest.muting;
      broken = ap (λ js. cond j.broken (j ∷ js) js) rest.broken;
    }

    first_kept : (some : List Judged) → active m ≡ true → map (λ j. j.silence) some ≡ m ∷ filter active (filter test held) → ((others : List Judged) → map (λ j. j.silence) others ≡ filter active (filter test held) → AreWoven held others) → AreWoven (m ∷ held) some
    first_kept [] e all rest = absurd cc
    first_kept (j ∷ js) e all rest = let is : j.silence ≡ m = cc in let others : map (λ x. x.silence) js ≡ filter active (filter test held) = cc in kept j js e is (rest js others)

    woven_by : (some : List Judged) (a t : Bool) → active m ≡ a → test m ≡ t → (t ≡ false → IsJudged dialect (plain m) × (mutes (plain m) ≡ false)) → map (λ j. j.silence) some ≡ filter active (cond t (m ∷ filter test held) (filter test held)) → ((others : List Judged) → map (λ j. j.silence) others ≡ filter active (filter test held) → AreWoven held others) → AreWoven (m ∷ held) some
    woven_by some false true e f apart all rest = passed_over some e (rest some (all ∙ ap (λ b. cond b (m ∷ filter active (filter test held)) (filter active (filter test held))) e))
    woven_by some false false e f apart all rest = passed_over some e (rest some all)
    woven_by some true true e f apart all rest = first_kept some e (all ∙ ap (λ b. cond b (m ∷ filter active (filter test held)) (filter active (filter test held))) e) rest
    woven_by some true false e f apart all rest = put_between some e (apart refl).0 (apart refl).1 (rest some all)

  module _ (apart : (m : Mesh) → test m ≡ false → IsJudged dialect (plain m) × (mutes (plain m) ≡ false)) where
    woven : (held : List Mesh) (some : List Judged) → map (λ j. j.silence) some ≡ filter active (filter test held) → AreWoven held some
    woven [] some all = record { all = some; silences = all; judged = λ h. h; muting = refl; broken = refl }
    woven (m ∷ held) some all = woven_by m held some (active m) (test m) refl refl (λ f. apart m f) all (woven held)

pub muted_among_all : (dialect : Dialect) (labels : List Label) (now : ℕ) (test : Mesh → Bool) (held : List Mesh) (ids broken : List (List ℕ)) → ((m : Mesh) → test m ≡ false → AreMeant dialect m.silence.matchers m.silence.matchers × All IsSoundMatcher m.silence.matchers × (match_all m.silence.matchers labels ≡ false) × (m.silence.matchers ≢ [])) → AreMutedIn dialect labels now (filter test held) ids broken → AreMutedIn dialect labels now held ids broken
muted_among_all dialect labels now test held ids broken other some =
    let judged : (m : Mesh) → test m ≡ false → IsJudged dialect (plain m) × (is_muting labels (plain m) ≡ false) =
    λ m no. (record { refused = λ e. absurd (true≢false (sym e)); told = λ e unread. (other m no).3 unread.0; are_meant = λ e. (other m no).0; read = λ e. (other m no).1 }, (other m no).2) in
    let all = woven dialect (is_active now) test (is_muting labels) judged held some.judged some.all_active in
    record {
      judged = all.all;
      all_active = all.silences;
      are_judged = all.judged some.are_judged;
      ids_are = some.ids_are ∙ ap (map id_of) (sym all.muting);
      broken_are = some.broken_are ∙ ap (map id_of) (sym all.broken);
    }
