use Rattle.std.proofs.Common.{refl, inl}
use Rattle.am_commands.specs.declared.fault.Stopped.TheVariants as stopped
use Rattle.am_commands.proofs.show.show_file.Goals as goal

pub returns-in-Err-clause-stopped : goal.returns-in-Err-clause-stopped
returns-in-Err-clause-stopped g c = λ failed. (
  stopped.Source 0 c.in-Err.fault,
  inl (
    c.in-Err.fault,
    refl,
    record {
      asked = c.request_of.result;
      file = c.request_of.ensures.file;
      logs = c.request_of.ensures.logs;
      reading = c.request_of.ensures.reading;
      opened = c.in-Err.ensures;
    },
    refl,
  ),
  c.report_stopped.ensures.status,
)
