use Rattle.std.proofs.Common.{refl}
use Rattle.am_wire.specs.Reading.{varint_in}
use Rattle.am_wire.proofs.Picked.{goes_here, goes_past}
use Rattle.am_wire.proofs.timestamp.TimestampDraftMessageReader.take.Goals as goal

pub returns-in-1-clause-held : goal.returns-in-1-clause-held
returns-in-1-clause-held c = λ es h. record {
  seconds = goes_here varint_in 1 0 es _ _ _ c.in-1.is h.seconds c.take.ensures.value;
  nanos = goes_past varint_in 2 1 0 es _ _ c.in-1.is refl h.nanos;
}

pub returns-in-2-clause-held : goal.returns-in-2-clause-held
returns-in-2-clause-held c = λ es h. record {
  seconds = goes_past varint_in 1 2 0 es _ _ c.in-2.is refl h.seconds;
  nanos = goes_here varint_in 2 0 es _ _ _ c.in-2.is h.nanos c.take-in-2.ensures.value;
}
