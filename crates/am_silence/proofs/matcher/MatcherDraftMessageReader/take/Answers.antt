use Rattle.std.proofs.Common.{refl, []}
use Rattle.am_wire.specs.Reading.{varint_in, varint_place, delimited_in}
use Rattle.am_wire.proofs.Picked.{goes_here, goes_past}
use Rattle.am_silence.proofs.matcher.MatcherDraftMessageReader.take.Goals as goal

pub returns-in-1-clause-held : goal.returns-in-1-clause-held
returns-in-1-clause-held c = λ es h. record {
  kind = goes_here varint_in 1 0 es _ _ _ c.in-1.is h.kind c.take.ensures.value;
  kind_place = goes_here varint_place 1 0 es _ _ _ c.in-1.is h.kind_place c.take.ensures.at;
  name = goes_past delimited_in 2 1 [] es _ _ c.in-1.is refl h.name;
  pattern = goes_past delimited_in 3 1 [] es _ _ c.in-1.is refl h.pattern;
}

pub returns-in_ok-take-in-2-clause-held : goal.returns-in_ok-take-in-2-clause-held
returns-in_ok-take-in-2-clause-held c = λ es h. record {
  kind = goes_past varint_in 1 2 0 es _ _ c.in-2.is refl h.kind;
  kind_place = goes_past varint_place 1 2 0 es _ _ c.in-2.is refl h.kind_place;
  name = goes_here delimited_in 2 [] es _ _ _ c.in-2.is h.name c.in_ok-take-in-2.ensures.held;
  pattern = goes_past delimited_in 3 2 [] es _ _ c.in-2.is refl h.pattern;
}

pub returns-in_ok-take-in-3-clause-held : goal.returns-in_ok-take-in-3-clause-held
returns-in_ok-take-in-3-clause-held c = λ es h. record {
  kind = goes_past varint_in 1 3 0 es _ _ c.in-3.is refl h.kind;
  kind_place = goes_past varint_place 1 3 0 es _ _ c.in-3.is refl h.kind_place;
  name = goes_past delimited_in 2 3 [] es _ _ c.in-3.is refl h.name;
  pattern = goes_here delimited_in 3 [] es _ _ _ c.in-3.is h.pattern c.in_ok-take-in-3.ensures.held;
}
