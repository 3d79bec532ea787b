use Rattle.std.proofs.Common.{◌≡◌, ◌∙◌, ◌<◌, ℕ, Bool, List, ap, sym, subst, ◌++◌, length, get_or, arith}
use Rattle.std.proofs.lemmas.List.{get_or-map, length-map}
use Rattle.am_silence.specs.Mesh.{Mesh}
use Rattle.am_matcher.specs.Mutes.{if_mutes, if_broken}
use Rattle.am_matcher.specs.Uses.{PatternsPass, SilencesPass}
use Rattle.am_matcher.proofs.Mutings.{muted_more}
use Rattle.am_matcher.proofs.Orders.{Silence, silences}
use Rattle.am_matcher.proofs.muting.mutes_among.Goals as goal

-- a silence that is gone over is one of all
among : (all : List Silence) (i : ℕ) (item : Silence) → i < length all → item ≡ get_or all i item → item.now ≡ get_or (silences all) i item.now
among all i item within is = ap (λ (m : Silence). m.now) is ∙ sym (get_or-map (λ (m : Silence). m.now) all i item item.now within)

passing : (all : List Silence) (i : ℕ) (item : Silence) → i < length all → item ≡ get_or all i item → (test : List ℕ → Bool) → SilencesPass test (silences all) → PatternsPass test item.now.silence.matchers
passing all i item within is test pass =
    let inside : i < length (silences all) = omega (arith, length-map all (λ (m : Silence). m.now)) in
    subst (λ (m : Mesh). PatternsPass test m.silence.matchers) (sym (among all i item within is)) (pass i item.now inside)

pub loop-version-preserved : goal.loop-version-preserved
loop-version-preserved c =
    let item = c.version-item.result in
    let all = silences c.args.silences.now in
    let within : c.loop-version.version-index < length all = omega (arith, length-map c.args.silences.now (λ (m : Silence). m.now)) in
    let is : item.now ≡ get_or all c.loop-version.version-index item.now = among c.args.silences.now c.loop-version.version-index item c.loop-version-test.true c.version-item.is in record {
      muted =
          muted_more c.args.judging.now.dialect c.args.labels.now c.args.judging.now.moment all c.loop-version.version-index item.now c.in_ok-effect.effect c.loop-version.ids.items c.loop-version.broken.items _ _ within is
          c.in_ok-effect.ensures.effect c.loop-version.invariant.muted
          (c.in_ok-put_id.ensures.ids ∙ ap (λ id. c.loop-version.ids.items ++ if_mutes c.in_ok-effect.effect id) c.key.ensures)
          (c.in_ok-put_id.ensures.broken ∙ ap (λ id. c.loop-version.broken.items ++ if_broken c.in_ok-effect.effect id) c.key.ensures);
      kept = λ test pass old.
          c.in_ok-effect.ensures.kept test (passing c.args.silences.now c.loop-version.version-index item c.loop-version-test.true c.version-item.is test pass) (c.loop-version.invariant.kept test pass old);
    }

pub returns-in_err-effect-clause-kept : goal.returns-in_err-effect-clause-kept
returns-in_err-effect-clause-kept c = λ test pass old.
    c.in_err-effect.ensures.kept test (passing c.args.silences.now c.loop-version.version-index c.version-item.result c.loop-version-test.true c.version-item.is test pass) (c.loop-version.invariant.kept test pass old)

pub returns-in_err-put_id-clause-kept : goal.returns-in_err-put_id-clause-kept
returns-in_err-put_id-clause-kept c = λ test pass old.
    c.in_ok-effect.ensures.kept test (passing c.args.silences.now c.loop-version.version-index c.version-item.result c.loop-version-test.true c.version-item.is test pass) (c.loop-version.invariant.kept test pass old)
