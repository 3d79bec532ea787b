use Rattle.std.proofs.Common.{rules, is_ok}
use Rattle.std.specs.IoError.{error_kind}
use Rattle.am_store.proofs.Rewrites.{ended_log, kept_log}
use Rattle.am_store.proofs.rewriting.end_log.Goals as goal

pub returns-in-Err : goal.returns-in-Err
returns-in-Err g c = λ most map. kept_log g.V.Version.seen g.V.Key.Ord.cmp c.args.path.now most g.D.File.Write.contents map _ _ _ _ (search rules) c.requires (error_kind c.in-Err.error, search rules)

pub returns-in_default : goal.returns-in_default
returns-in_default g c = λ most map. ended_log g.V.Version.seen g.V.Key.Ord.cmp c.args.path.now most g.D.File.Write.contents map _ _ _ (is_ok c.remove.result) _ c.remove.ensures.noted c.requires
