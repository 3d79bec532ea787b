-- One field more, and the first of the old comments.
use Rattle.std.proofs.Common.{◌≡◌, ℕ, true, false, eqb, List, [], ◌∷◌, ◌++◌, refl, sym, ap, subst, ◌∙◌}
use Rattle.std.specs.Prelude.{MatchOption, slice_get}
use Rattle.std.proofs.lemmas.Bool.{eqb-false}
use Rattle.am_wire.specs.Fields.{FieldAt}
use Rattle.am_wire.specs.Reading.{message_in, messages}
use Rattle.am_wire.proofs.Picked.{picked-here, picked-there}
use Rattle.am_silence.specs.Comments.{comment}
use Rattle.am_silence.specs.Drafts.{IsFirstComment, KeepsComment}
use Rattle.am_silence.specs.declared.comment.FirstComment.{FirstComment}

-- the comments, each as its fields
abbrev Keeps : FirstComment → List (List FieldAt) → Type 0
Keeps d comments = MatchOption (slice_get comments 0) (d.given ≡ false) (KeepsComment d)

none_yet : (d : FirstComment) (comments : List (List FieldAt)) → d.given ≡ false → Keeps d comments → comments ≡ []
none_yet d [] none h = refl
none_yet d (fs ∷ comments) none h = let given : d.given ≡ true = h.given in absurd cc

one_more : (d : FirstComment) (comments more : List (List FieldAt)) → d.given ≡ true → Keeps d comments → Keeps d (comments ++ more)
one_more d [] more given none = absurd cc
one_more d (fs ∷ comments) more given h = h

module _ (es : List FieldAt) (e : FieldAt) (d : FirstComment) (h : IsFirstComment es d) where
  -- the field is no comment
  pub comment_past : (m : ℕ) → e.number ≡ m → eqb m 7 ≡ false → IsFirstComment (es ++ e ∷ []) d
  comment_past m is other = subst (Keeps d) (sym (picked-there (message_in comment) 7 es e (λ same. eqb-false m 7 other (sym is ∙ same)))) h

  -- it is one, and not the first
  pub comment_later : e.number ≡ 7 → d.given ≡ true → IsFirstComment (es ++ e ∷ []) d
  comment_later is given = subst (Keeps d) (sym (picked-here (message_in comment) 7 es e is)) (one_more d (messages comment 7 es) (message_in comment e) given h)

  -- it is the first one
  pub comment_first : (fs : List FieldAt) (later : FirstComment) → e.number ≡ 7 → message_in comment e ≡ fs ∷ [] → d.given ≡ false → KeepsComment later fs → IsFirstComment (es ++ e ∷ []) later
  comment_first fs later is one none keeps =
      let all : messages comment 7 (es ++ e ∷ []) ≡ fs ∷ [] = picked-here (message_in comment) 7 es e is ∙ ap (λ (x : List (List FieldAt)). x ++ message_in comment e) (none_yet d (messages comment 7 es) none h) ∙ one in
      subst (Keeps later) (sym all) keeps
