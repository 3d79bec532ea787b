use Rattle.std.proofs.Common.{◌≡◌, rules, sym, ◌∙◌, vec_len}
use Rattle.std.proofs.lemmas.List.{nil_from_length}
use Rattle.am_api_silences.proofs.Made.{unfiltered_says}
use Rattle.am_api_silences.proofs.reply_builder.sift.Goals as goal

pub returns-then-is_empty : goal.returns-then-is_empty
returns-then-is_empty c =
    let none : vec_len c.args.filters ≡ 0 = search rules in
    unfiltered_says c.args.filters.items c.args.rows.items c.list.result (nil_from_length _ (sym c.args.filters.ok.0 ∙ none)) c.list.ensures
