use Rattle.std.proofs.Common.{refl, inl, inr, arith}
use Rattle.am_reactor.specs.declared.reading.ReadResult.TheVariants.{Bytes, End, Nothing, Interrupted, Failed}
use Rattle.am_reactor.proofs.Hears.{hears_none, hears_once}
use Rattle.am_reactor.proofs.reading.read_available.Goals as goal
use Rattle.am_reactor.proofs.reading.read_available.Goals.{in-Bytes, in-End}

pub loop-init : goal.loop-init
loop-init g c = hears_none _ _ _ _ _ _

pub loop-preserved : goal.loop-preserved
loop-preserved g c =
    let h = c.read_piece-brought.ensures in
    elim c.match-brought.branch [
      | in-Bytes w ↦ elim w.in-Bytes.is [
        | inl p ↦ rw w.connection-is (hears_once _ _ _ _ _ _ _ _ _ _ c.read_piece-brought.new.piece (Bytes p.0) c.loop.invariant c.if-connection.false
            (rw p.1 at h.fits) (rw p.1 at h.did) (rw p.1 at h.came) (rw p.1 at h.count) (λ _. rw p.1 at h.ended) (λ r. omega (arith, r)) h.gone refl refl c.if-connection.false)
        | inr q ↦ rw w.connection-is (hears_once _ _ _ _ _ _ _ _ _ _ c.read_piece-brought.new.piece Interrupted c.loop.invariant c.if-connection.false
            tt (rw q at h.did) (rw q at h.came) (rw q at h.count) (λ _. rw q at h.ended) (λ r. omega (arith, r)) h.gone refl refl c.if-connection.false)
      ]
      | in-End w ↦ let e = w.in-End.ensures in rw w.connection-is (hears_once _ _ _ _ _ _ _ _ _ _ c.read_piece-brought.new.piece End c.loop.invariant c.if-connection.false
          tt e.did e.came e.count (λ _. e.ended) (λ r. omega (arith, r)) e.gone refl refl refl)
    ]

pub returns-in-Nothing : goal.returns-in-Nothing
returns-in-Nothing g c =
    let h = c.in-Nothing.ensures in
    record { heard = hears_once _ _ _ _ _ _ _ _ _ _ c.read_piece-brought.new.piece Nothing c.loop.invariant c.if-connection.false tt h.did h.came h.count (λ _. h.ended) (λ r. omega (arith, r)) h.gone refl refl c.if-connection.false }

pub returns-in-Failed : goal.returns-in-Failed
returns-in-Failed g c =
    let h = c.in-Failed.ensures in
    record { heard = hears_once _ _ _ _ _ _ _ _ _ _ c.read_piece-brought.new.piece (Failed c.in-Failed.kind) c.loop.invariant c.if-connection.false tt h.did h.came h.count (λ _. h.ended) (λ r. omega (arith, r)) h.gone refl refl c.if-connection.false }
