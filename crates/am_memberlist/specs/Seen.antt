-- The code's results, without their places in memory.
use Rattle.std.specs.Prelude.{ℕ, List, map, Option, Some, None, Result, Ok, Err}
use Rattle.std.specs.Prelude.{Vec}
use Rattle.std.specs.declared.alloc.Global.{Global}
use denote.Ref.{Bor}
use Rattle.am_memberlist.specs.declared.error.AnswerError.{AnswerError}
use Rattle.am_memberlist.specs.declared.msgpack.Scalar.{Scalar}
use Rattle.am_memberlist.specs.declared.msgpack.Scalar.TheVariants as scalars
use Rattle.am_memberlist.specs.declared.msgpack.MapPair.{MapPair}
use Rattle.am_memberlist.specs.Msgpack.{ValueAt, PairAt, number, raw, word}

abbrev pub cut_seen : Result (Bor (List ℕ) × Bor (List ℕ)) AnswerError → Result (List ℕ × List ℕ) AnswerError
cut_seen (Ok x) = Ok (x.0.now, x.1.now)
cut_seen (Err e) = Err e

abbrev pub number_seen : Result (ℕ × Bor (List ℕ)) AnswerError → Result (ℕ × List ℕ) AnswerError
number_seen (Ok x) = Ok (x.0, x.1.now)
number_seen (Err e) = Err e

abbrev pub value_of : Scalar → ValueAt
value_of (scalars.Number n) = number n
value_of (scalars.Raw bytes) = raw bytes.now
value_of scalars.Word = word

abbrev pub pair_of : MapPair → PairAt
pair_of pair = record { key = pair.key.now; value = value_of pair.value }

abbrev pub scalar_seen : Result (Scalar × Bor (List ℕ)) AnswerError → Result (ValueAt × List ℕ) AnswerError
scalar_seen (Ok x) = Ok (value_of x.0, x.1.now)
scalar_seen (Err e) = Err e

abbrev pub pair_seen : Result (MapPair × Bor (List ℕ)) AnswerError → Result (PairAt × List ℕ) AnswerError
pair_seen (Ok x) = Ok (pair_of x.0, x.1.now)
pair_seen (Err e) = Err e

abbrev pub map_seen : Result (Vec MapPair Global × Bor (List ℕ)) AnswerError → Result (List PairAt × List ℕ) AnswerError
map_seen (Ok x) = Ok (map pair_of x.0.items, x.1.now)
map_seen (Err e) = Err e

abbrev pub bytes_seen : Result (Bor (List ℕ)) AnswerError → Result (List ℕ) AnswerError
bytes_seen (Ok x) = Ok x.now
bytes_seen (Err e) = Err e

abbrev pub items_seen : Result (Vec ℕ Global) AnswerError → Result (List ℕ) AnswerError
items_seen (Ok x) = Ok x.items
items_seen (Err e) = Err e

abbrev pub option_seen : Option MapPair → Option PairAt
option_seen None = None
option_seen (Some pair) = Some (pair_of pair)

abbrev pub found_seen : Option (Bor (List ℕ)) → Option (List ℕ)
found_seen None = None
found_seen (Some row) = Some row.now

abbrev pub row_seen : Result (Option (Bor (List ℕ))) AnswerError → Result (Option (List ℕ)) AnswerError
row_seen (Ok row) = Ok (found_seen row)
row_seen (Err e) = Err e

abbrev pub row_owned : Option (Vec ℕ Global) → Option (List ℕ)
row_owned None = None
row_owned (Some row) = Some row.items

abbrev pub owned_seen : Result (Option (Vec ℕ Global)) AnswerError → Result (Option (List ℕ)) AnswerError
owned_seen (Ok row) = Ok (row_owned row)
owned_seen (Err e) = Err e
