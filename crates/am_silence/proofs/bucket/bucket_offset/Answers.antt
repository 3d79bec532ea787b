use Rattle.std.proofs.Common.{List, ap, sym, ◌∙◌}
use Rattle.std.specs.List.{list_any}
use Rattle.am_silence.specs.declared.matcher.Matcher.{Matcher}
use Rattle.am_silence.specs.Kinds.{is_regexp}
use Rattle.am_silence.proofs.Buckets.{bucket_none, bucket_place}
use Rattle.am_silence.proofs.bucket.bucket_offset.Goals as goal

pub returns-then-has_regexp : goal.returns-then-has_regexp
returns-then-has_regexp c =
    let same = ap (λ (ms : List Matcher). list_any (λ m. is_regexp m.kind) ms) c.lent.ensures in
    bucket_none c.args.matchers (sym c.if-has_regexp.true ∙ c.has_regexp.ensures ∙ same)

pub returns : goal.returns
returns c =
    let same = ap (λ (ms : List Matcher). list_any (λ m. is_regexp m.kind) ms) c.lent.ensures in
    bucket_place c.args.matchers _ (sym c.if-has_regexp.false ∙ c.has_regexp.ensures ∙ same) c.first_wanting.ensures
