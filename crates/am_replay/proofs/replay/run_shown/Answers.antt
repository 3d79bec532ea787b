use Rattle.std.proofs.Common.{◌≡◌, Ok, ◌∙◌, subst, string_bytes}
use Rattle.am_schedule.specs.Schedules.{schedule_of}
use Rattle.am_wire.specs.OutputWriting.{WritesPart}
use Rattle.am_replay.proofs.Stopping.{stops_writing}
use Rattle.am_replay.proofs.replay.run_shown.Goals as goal

pub returns-clause-stopped : goal.returns-clause-stopped
returns-clause-stopped g c =
    stops_writing (g.R.Read.remaining c.args.reader.now) (g.R.Read.remaining c.read_input.new.reader) c.in_ok-input.input.items (string_bytes c.in_ok-text.text)
    c.in_ok-input.ensures.all c.in_ok-input.ensures.end
    (record {
      size = c.in_ok-input.ensures.size;
      schedule = c.in_ok-schedule.schedule;
      said = subst (λ bytes. schedule_of bytes ≡ Ok c.in_ok-schedule.schedule) c.deref.ensures.value c.in_ok-schedule.ensures.read;
      output = c.in_ok-text.ensures.output;
    })
    g.W.Write.contents c.args.writer.now c.send.new.writer c.in-Err.fault.written
    (subst (λ bytes. WritesPart (g.W.Write.contents c.args.writer.now) (g.W.Write.contents c.send.new.writer) bytes c.in-Err.fault.written)
    (c.as_bytes.ensures.value ∙ c.as_str.ensures.value) c.in-Err.ensures.stopped)
