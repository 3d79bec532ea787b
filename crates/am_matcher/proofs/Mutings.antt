-- Silences that are judged one after the other.
use Rattle.std.proofs.Common.{◌≡◌, ℕ, ◌+◌, ◌<◌, Bool, true, false, cond, List, [], ◌∷◌, ◌++◌, length, take, get_or, map, refl, sym, ap, ap₂, ◌∙◌, true≢false, append-nil}
use Rattle.std.specs.Prelude.{filter}
use Rattle.std.proofs.lemmas.List.{map-append}
use Rattle.std.proofs.lemmas.List.Elements.{filter_more, filter-append, All-push}
use Rattle.am_silence.specs.Mesh.{Mesh}
use Rattle.am_matcher.specs.declared.labels.Label.{Label}
use Rattle.am_matcher.specs.declared.muting.Effect.{Effect}
use Rattle.am_matcher.specs.declared.muting.Effect.TheVariants.{Idle, Mutes, Passes, Broken}
use Rattle.am_matcher.specs.declared.dialect.Dialect.{Dialect}
use Rattle.am_matcher.specs.Dialects.{DoMatch}
use Rattle.am_matcher.specs.Mutes.{is_active, IsUnread, IsEffect, if_mutes, if_broken, Judged, IsJudged, is_muting, id_of, AreMutedIn}

active_more : (now : ℕ) (held : List Mesh) (i : ℕ) (v : Mesh) (b : Bool) → i < length held → v ≡ get_or held i v → is_active now v ≡ b → filter (is_active now) (take (i + 1) held) ≡ filter (is_active now) (take i held) ++ cond b (v ∷ []) []
active_more now held i v b within is active =
    let before = filter (is_active now) (take i held) in
    filter_more (is_active now) held i v within
    ∙ ap (λ (x : Mesh). before ++ cond (is_active now x) (x ∷ []) []) (sym is)
    ∙ ap (λ (c : Bool). before ++ cond c (v ∷ []) []) active

one_id : (j : Judged) (b : Bool) → map id_of (cond b (j ∷ []) []) ≡ cond b (id_of j ∷ []) []
one_id j true = refl
one_id j false = refl

ids_more : (test : Judged → Bool) (xs : List Judged) (j : Judged) (b : Bool) → test j ≡ b → map id_of (filter test (xs ++ j ∷ [])) ≡ map id_of (filter test xs) ++ cond b (id_of j ∷ []) []
ids_more test xs j b e =
    ap (map id_of) (filter-append test xs (j ∷ []))
    ∙ map-append id_of (filter test xs) (filter test (j ∷ []))
    ∙ ap (λ (c : Bool). map id_of (filter test xs) ++ map id_of (cond c (j ∷ []) [])) e
    ∙ ap (λ (l : List (List ℕ)). map id_of (filter test xs) ++ l) (one_id j b)

-- one more active silence, with its judgement
judged_more : (dialect : Dialect) (labels : List Label) (now : ℕ) (held : List Mesh) (i : ℕ) (v : Mesh) (j : Judged) (muting broken : Bool) (ids bs ids' bs' : List (List ℕ)) → i < length held → v ≡ get_or held i v → is_active now v ≡ true → j.silence ≡ v → IsJudged dialect j → is_muting labels j ≡ muting → j.broken ≡ broken → AreMutedIn dialect labels now (take i held) ids bs → ids' ≡ ids ++ cond muting (id_of j ∷ []) [] → bs' ≡ bs ++ cond broken (id_of j ∷ []) [] → AreMutedIn dialect labels now (take (i + 1) held) ids' bs'
judged_more dialect labels now held i v j muting broken ids bs ids' bs' within is active same judged is_muting_so is_broken_so before ids_so bs_so = record {
  judged = before.judged ++ j ∷ [];
  all_active =
      map-append (λ (x : Judged). x.silence) before.judged (j ∷ [])
      ∙ ap₂ (λ (l r : List Mesh). l ++ r) before.all_active (ap (λ (x : Mesh). x ∷ []) same)
      ∙ sym (active_more now held i v true within is active);
  are_judged = All-push (IsJudged dialect) before.judged j before.are_judged judged;
  ids_are = ids_so ∙ ap (λ (l : List (List ℕ)). l ++ cond muting (id_of j ∷ []) []) before.ids_are ∙ sym (ids_more (is_muting labels) before.judged j muting is_muting_so);
  broken_are = bs_so ∙ ap (λ (l : List (List ℕ)). l ++ cond broken (id_of j ∷ []) []) before.broken_are ∙ sym (ids_more (λ x. x.broken) before.judged j broken is_broken_so);
}

-- a silence whose matchers are read is judged
read_judged : (dialect : Dialect) (labels : List Label) (v : Mesh) (matches : Bool) → (¬ IsUnread v) → (does : DoMatch dialect v.silence.matchers labels matches)
    → IsJudged dialect (record { silence = v; broken = false; meant = does.meant })
read_judged dialect labels v matches told does = record {
  refused = λ e. absurd (true≢false (sym e));
  told = λ e. told;
  are_meant = λ e. does.are_meant;
  read = λ e. does.sound;
}

-- one more silence, whose ids go where its effect wants them
pub muted_more : (dialect : Dialect) (labels : List Label) (now : ℕ) (held : List Mesh) (i : ℕ) (v : Mesh) (e : Effect) (ids bs ids' bs' : List (List ℕ)) → i < length held → v ≡ get_or held i v → IsEffect dialect labels now v e → AreMutedIn dialect labels now (take i held) ids bs → ids' ≡ ids ++ if_mutes e v.silence.id → bs' ≡ bs ++ if_broken e v.silence.id → AreMutedIn dialect labels now (take (i + 1) held) ids' bs'
muted_more dialect labels now held i v Idle ids bs ids' bs' within is effect before ids_so bs_so = record {
  judged = before.judged;
  all_active = before.all_active ∙ sym (append-nil _) ∙ sym (active_more now held i v false within is effect);
  are_judged = before.are_judged;
  ids_are = ids_so ∙ append-nil ids ∙ before.ids_are;
  broken_are = bs_so ∙ append-nil bs ∙ before.broken_are;
}
muted_more dialect labels now held i v Mutes ids bs ids' bs' within is effect before ids_so bs_so =
    let j : Judged = record { silence = v; broken = false; meant = effect.2.meant } in
    judged_more dialect labels now held i v j true false ids bs ids' bs' within is effect.0 refl (read_judged dialect labels v true effect.1 effect.2) (sym effect.2.answer) refl before ids_so bs_so
muted_more dialect labels now held i v Passes ids bs ids' bs' within is effect before ids_so bs_so =
    let j : Judged = record { silence = v; broken = false; meant = effect.2.meant } in
    judged_more dialect labels now held i v j false false ids bs ids' bs' within is effect.0 refl (read_judged dialect labels v false effect.1 effect.2) (sym effect.2.answer) refl before ids_so bs_so
muted_more dialect labels now held i v Broken ids bs ids' bs' within is effect before ids_so bs_so =
    let j : Judged = record { silence = v; broken = true; meant = [] } in
    let refused : IsJudged dialect j = record { refused = λ e. effect.1; told = λ e. absurd (true≢false e); are_meant = λ e. absurd (true≢false e); read = λ e. absurd (true≢false e) } in
    judged_more dialect labels now held i v j false true ids bs ids' bs' within is effect.0 refl refused refl refl before ids_so bs_so
