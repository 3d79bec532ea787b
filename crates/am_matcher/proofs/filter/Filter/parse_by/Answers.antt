use Rattle.am_matcher.specs.declared.dialect.Dialect.TheVariants.{Regex}
use Rattle.am_matcher.specs.Filters.{IsFilter}
use Rattle.am_matcher.specs.Dialects.{IsFilterIn}
use Rattle.am_matcher.proofs.HandedOn.{if_ok_then}
use Rattle.am_matcher.proofs.Meant.{filter_itself, refused_itself}
use Rattle.am_matcher.proofs.filter.Filter.parse_by.Goals as goal

pub returns-clause-read : goal.returns-clause-read
returns-clause-read c =
    let text = c.args.text.now in
    if_ok_then (IsFilterIn Regex text) (IsFilter text) c.parse_in.result (filter_itself text) c.parse_in.ensures.read

pub returns-clause-broken : goal.returns-clause-broken
returns-clause-broken c bad = let found = c.parse_in.ensures.broken bad in (found.0, found.1, refused_itself found.0 found.2)
