use Rattle.std.proofs.Common.{◌≡◌, ◌++◌, map, string_bytes}
use Rattle.form_urlencoded.specs.Parse.{raw_pairs_left}
use Rattle.am_http.specs.Queries.{filters_among, filter_texts_of}
use Rattle.am_http.proofs.filters.filter_texts.Given as goal

abbrev pub invariant-loop-name : goal.invariant-loop-name
invariant-loop-name l = map string_bytes l.texts.items ++ filters_among (raw_pairs_left l.name-iterator) ≡ filter_texts_of l.query
