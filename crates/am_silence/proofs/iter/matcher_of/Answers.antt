use Rattle.std.proofs.Common.{[], ◌∙◌}
use Rattle.am_wire.specs.Writing.{writes_text}
use Rattle.am_silence.proofs.MatcherParts.{name_leads, pattern_leads}
use Rattle.am_silence.proofs.iter.matcher_of.Goals as goal

pub split_text-requires : goal.split_text-requires
split_text-requires c =
    let m = c.requires.0 in
    let kind = c.split_kind-kind.ensures m c.requires.1.is in
    (m.name, writes_text 3 m.pattern, name_leads c.requires.1 kind.1)

pub split_text-requires-2 : goal.split_text-requires-2
split_text-requires-2 c =
    let m = c.requires.0 in
    let kind = c.split_kind-kind.ensures m c.requires.1.is in
    let name = c.split_text.ensures m.name (writes_text 3 m.pattern) (name_leads c.requires.1 kind.1) in
    (m.pattern, [], pattern_leads c.requires.1 name.1)

pub returns : goal.returns
returns c = λ m h.
    let kind = c.split_kind-kind.ensures m h.is in
    let name = c.split_text.ensures m.name (writes_text 3 m.pattern) (name_leads h kind.1) in
    let pattern = c.split_text-2.ensures m.pattern [] (pattern_leads h name.1) in
    c.new.ensures ∙ (λ i. record { kind = kind.0 i; name = name.0 i; pattern = pattern.0 i })
