-- Labels of an object, one member after the other.
use Rattle.std.proofs.Common.{◌≡◌, ℕ, List, [], ◌∷◌, ◌++◌, Some, None, Option, refl, sym, ap, ◌∙◌, append-nil, append_assoc, string_bytes}
use Rattle.std.specs.Prelude.{option_map}
use Rattle.serde_json.specs.Find.{as_str}
use Rattle.serde_json.specs.View.{view, members_view}
use Rattle.serde_json.proofs.Views.{Entry}
use Rattle.am_matcher.specs.declared.labels.Label.{Label}
use Rattle.am_api_decisions.specs.Messages.{labels_of}

-- what was read, and what is read behind it
abbrev pub labels_behind : List Label → Option (List Label) → Option (List Label)
labels_behind done later = option_map (λ others. done ++ others) later

abbrev label_at : Entry → List ℕ → Label
label_at e text = record { name = string_bytes e.0; value = text }

behind_one : (done : List Label) (x : Label) (later : Option (List Label)) → labels_behind done (option_map (λ xs. x ∷ xs) later) ≡ labels_behind (done ++ x ∷ []) later
behind_one done x (Some xs) = ap Some (sym (append_assoc done (x ∷ []) xs))
behind_one done x None = refl

first_label : (e : Entry) (others : List Entry) (text : List ℕ) → as_str (view e.1) ≡ Some text
    → labels_of (members_view (e ∷ others)) ≡ option_map (λ xs. label_at e text ∷ xs) (labels_of (members_view others))
first_label e others text h = rw h refl

pub one_label : (done : List Label) (left others : List Entry) (e : Entry) (text : List ℕ) → left ≡ e ∷ others → as_str (view e.1) ≡ Some text
    → labels_behind done (labels_of (members_view left)) ≡ labels_behind (done ++ label_at e text ∷ []) (labels_of (members_view others))
one_label done left others e text first h =
    ap (λ (es : List Entry). labels_behind done (labels_of (members_view es))) first
    ∙ ap (labels_behind done) (first_label e others text h) ∙ behind_one done (label_at e text) (labels_of (members_view others))

pub all_labels : (done : List Label) (left : List Entry) → left ≡ [] → labels_behind done (labels_of (members_view left)) ≡ Some done
all_labels done left none = ap (λ (es : List Entry). labels_behind done (labels_of (members_view es))) none ∙ ap Some (append-nil done)
