-- A draft that takes one field after the other.
use Rattle.std.proofs.Common.{◌≡◌, List, [], ◌∷◌, ◌++◌, Option, None, Result, Ok, Err, refl, sym, ap, subst, ◌∙◌, append_assoc}
use Rattle.std.proofs.lemmas.List.{append-nil}
use Rattle.am_wire.specs.declared.error.WireError.{WireError}
use Rattle.am_wire.specs.Fields.{FieldAt}
use Rattle.am_wire.specs.Reading.{scan, sound_fields, FailsUnlessMemory, ◌then◌}

pub record Taken {D : Type 0} (holds : List FieldAt → D → Type 0) (inside : FieldAt → Option WireError) (start now : D) (all left : List (Result FieldAt WireError)) : Type 0 where
  pub front : List FieldAt
  pub held : (es : List FieldAt) → holds es start → holds (es ++ front) now
  pub whole : front ++ sound_fields left ≡ sound_fields all
  pub clean : scan inside all ≡ scan inside left

module _ {D : Type 0} (holds : List FieldAt → D → Type 0) (inside : FieldAt → Option WireError) where
  pub Taken-start : (d : D) (all : List (Result FieldAt WireError)) → Taken holds inside d d all all
  Taken-start d all = record { front = []; held = λ es h. subst (λ (x : List FieldAt). holds x d) (sym (append-nil es)) h; whole = refl; clean = refl }

  module _ (start now : D) (all left others : List (Result FieldAt WireError)) (so_far : Taken holds inside start now all left) where
    pub Taken-step : (e : FieldAt) (after : D) → left ≡ Ok e ∷ others → inside e ≡ None → ((es : List FieldAt) → holds es now → holds (es ++ e ∷ []) after) → Taken holds inside start after all others
    Taken-step e after is none step =
        let rest : sound_fields left ≡ e ∷ sound_fields others = ap sound_fields is in
        let goes : scan inside left ≡ scan inside others = ap (scan inside) is ∙ ap (λ (f : Option WireError). f then scan inside others) none in
        record {
          front = so_far.front ++ e ∷ [];
          held = λ es h. subst (λ (x : List FieldAt). holds x after) (append_assoc es so_far.front (e ∷ [])) (step (es ++ so_far.front) (so_far.held es h));
          whole = append_assoc so_far.front (e ∷ []) (sound_fields others) ∙ ap (λ (x : List FieldAt). so_far.front ++ x) (sym rest) ∙ so_far.whole;
          clean = so_far.clean ∙ goes;
        }

    pub Taken-fault : (e : WireError) → left ≡ Err e ∷ others → FailsUnlessMemory e (scan inside all)
    Taken-fault e is _ = so_far.clean ∙ ap (scan inside) is

    pub Taken-fails : (e : FieldAt) (fault : WireError) → left ≡ Ok e ∷ others → FailsUnlessMemory fault (inside e) → FailsUnlessMemory fault (scan inside all)
    Taken-fails e fault is fails not_memory =
        so_far.clean ∙ ap (scan inside) is ∙ ap (λ (f : Option WireError). f then scan inside others) (fails not_memory)

  pub Taken-end : (start now : D) (all left : List (Result FieldAt WireError)) → Taken holds inside start now all left → left ≡ [] → (es : List FieldAt) → holds es start → holds (es ++ sound_fields all) now
  Taken-end start now all left so_far is es h =
      let whole : so_far.front ≡ sound_fields all = sym (append-nil so_far.front) ∙ ap (λ (x : List FieldAt). so_far.front ++ x) (sym (ap sound_fields is)) ∙ so_far.whole in
      subst (λ (x : List FieldAt). holds (es ++ x) now) whole (so_far.held es h)

  pub Taken-clean : (start now : D) (all left : List (Result FieldAt WireError)) → Taken holds inside start now all left → left ≡ [] → scan inside all ≡ None
  Taken-clean start now all left so_far is = so_far.clean ∙ ap (scan inside) is
