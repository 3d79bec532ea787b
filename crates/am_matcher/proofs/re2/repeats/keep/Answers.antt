use Rattle.std.proofs.Common.{◌∙◌, ℕ, List, true, not, ap, if◌then◌else◌}
use Rattle.std.specs.Prelude.{bytes_eq, string_bytes}
use Rattle.std.specs.BTreeSet.{contains_text}
use Rattle.std.proofs.lemmas.Map.Text.{btree_set_updates_text}
use Rattle.am_matcher.proofs.re2.repeats.keep.Goals as goal

pub returns-clause-added : goal.returns-clause-added
returns-clause-added c =
    c.in_ok-added.ensures.added ∙ ap (λ (bytes : List ℕ). not (contains_text c.args.seen.now bytes)) c.in_ok-name.ensures.cases

pub returns-clause-kept : goal.returns-clause-kept
returns-clause-kept c = λ bytes.
    btree_set_updates_text (string_bytes c.in_ok-name.name) c.args.seen.now c.insert.new.self _ c.in_ok-added.ensures.updates bytes
    ∙ ap (λ (name : List ℕ). if bytes_eq name bytes then true else contains_text c.args.seen.now bytes) c.in_ok-name.ensures.cases
