-- Reports on one member after the other.
use Rattle.std.proofs.Common.{◌≡◌, ℕ, ◌+◌, ◌<◌, List, [], ◌∷◌, ◌++◌, Option, refl, sym, ap, ◌∙◌, subst, append_assoc, append-nil, drop, length, get_or, suc, drop-cons, add-one}
use Rattle.am_cluster.specs.Worlds.{World}
use Rattle.am_replay.specs.Reports.{AreReportsFrom, IsReport, PrintsReports, report_text}

-- The members before a place were reported on: with the reports of the others it is all.
pub record HasTold (world : World) (names : List (List ℕ)) (place : ℕ) (before after : List ℕ) : Type 0 where
  pub text : List ℕ
  pub printed : after ≡ before ++ text
  pub reports : (others : List ℕ) → AreReportsFrom world place (drop place names) others → AreReportsFrom world 0 names (text ++ others)

pub told_more : (world : World) (names : List (List ℕ)) (place : ℕ) (name : List ℕ) (fault : Option ℕ) (start mid end : List ℕ) →
    place < length names → name ≡ get_or names place name → IsReport world place fault → end ≡ mid ++ report_text name fault →
    HasTold world names place start mid → HasTold world names (place + 1) start end
told_more world names place name fault start mid end within is report printed told =
    let next : drop place names ≡ name ∷ drop (place + 1) names = drop-cons names place name within ∙ ap (λ y. y ∷ drop (suc place) names) (sym is) ∙ ap (λ n. name ∷ drop n names) (sym (add-one place)) in
    record {
      text = told.text ++ report_text name fault;
      printed = printed ∙ ap (λ v. v ++ report_text name fault) told.printed ∙ append_assoc start told.text (report_text name fault);
      reports = λ others rest.
          let P : List ℕ → Type 0 = λ t. AreReportsFrom world 0 names t in
          let Q : List (List ℕ) → Type 0 = λ ns. AreReportsFrom world place ns (report_text name fault ++ others) in
          subst P (sym (append_assoc told.text (report_text name fault) others))
          (told.reports (report_text name fault ++ others) (subst Q (sym next) (fault, others, report, rest, refl)));
    }

pub told_all : (world : World) (names : List (List ℕ)) (place : ℕ) (start end : List ℕ) → drop place names ≡ [] →
    HasTold world names place start end → PrintsReports world names start end
told_all world names place start end over told =
    let P : List (List ℕ) → Type 0 = λ ns. AreReportsFrom world place ns [] in
    let Q : List ℕ → Type 0 = λ t. AreReportsFrom world 0 names t in
    record {
      text = told.text;
      reports = subst Q (append-nil told.text) (told.reports [] (subst P (sym over) refl));
      printed = told.printed;
    }
