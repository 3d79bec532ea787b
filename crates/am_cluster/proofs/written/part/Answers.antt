use Rattle.std.proofs.Common.{map, ap, sym, ◌∙◌}
use Rattle.am_instance.specs.Deliveries.Delivery.{OfSilence, OfEntry}
use Rattle.am_cluster.specs.Versions.{silence_of, entry_of, versions_of}
use Rattle.am_cluster.proofs.ReadAgain.{silences_part, log_part}
use Rattle.am_cluster.proofs.written.part.Goals as goal

pub returns-in_ok-row-in-Silences-clause-clean : goal.returns-in_ok-row-in-Silences-clause-clean
returns-in_ok-row-in-Silences-clause-clean c = λ unknown. (silences_part unknown c.in_ok-row-in-Silences.field-0 (map silence_of c.as_slice.result.now) (c.in_ok-row-in-Silences.ensures.read unknown)).clean

pub returns-in_ok-row-in-Silences-clause-read : goal.returns-in_ok-row-in-Silences-clause-read
returns-in_ok-row-in-Silences-clause-read c = λ unknown.
    let part = silences_part unknown c.in_ok-row-in-Silences.field-0 (map silence_of c.as_slice.result.now) (c.in_ok-row-in-Silences.ensures.read unknown) in
    part.read ∙ ap (λ lines. map OfSilence (map silence_of lines)) c.as_slice.ensures ∙ sym (ap versions_of c.in-Silences.is)

pub returns-in_ok-row-in-Log-clause-clean : goal.returns-in_ok-row-in-Log-clause-clean
returns-in_ok-row-in-Log-clause-clean c = λ unknown. (log_part unknown c.in_ok-row-in-Log.field-0 (map entry_of c.as_slice-in-Log.result.now) (c.in_ok-row-in-Log.ensures.read unknown)).clean

pub returns-in_ok-row-in-Log-clause-read : goal.returns-in_ok-row-in-Log-clause-read
returns-in_ok-row-in-Log-clause-read c = λ unknown.
    let part = log_part unknown c.in_ok-row-in-Log.field-0 (map entry_of c.as_slice-in-Log.result.now) (c.in_ok-row-in-Log.ensures.read unknown) in
    part.read ∙ ap (λ lines. map OfEntry (map entry_of lines)) c.as_slice-in-Log.ensures ∙ sym (ap versions_of c.in-Log.is)
