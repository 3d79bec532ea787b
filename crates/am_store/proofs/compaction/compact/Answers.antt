use Rattle.std.proofs.Common.{◌≡◌, Bool, true, false, not, Result, Ok, rules}
use Rattle.am_store.specs.declared.file_fault.FileFault.{FileFault}
use Rattle.am_store.specs.Rewrites.{HasCome, is_left_at, new_bytes, path_of, stage_of, with_piece}
use Rattle.am_store.proofs.Rewrites.{is_whole}
use Rattle.am_store.proofs.compaction.compact.Goals as goal
use Rattle.am_store.proofs.compaction.compact.Goals.{in-Done, in_default}

no_more : (matches : Bool) → ◌≡◌ {A = Result Bool FileFault} (Ok (not matches)) (Ok false) → matches ≡ false → ⊥
no_more true over is = absurd cc
no_more false over is = absurd cc

pub returns-after-matches-clause-done : goal.returns-after-matches-clause-done
returns-after-matches-clause-done g c = λ maps before come over.
    let seen = g.V.Version.seen in
    let cmp = g.V.Key.Ord.cmp in
    let path = path_of c.args.file.now in
    let pieces = with_piece (stage_of c.args.compaction.now) c.args.held.now maps in
    let has : HasCome seen cmp path c.args.most new_bytes pieces c.in-Ok.stage before c.resume-done.new.disk.log.events =
    search (rules, c.in-Ok.ensures.advances.come maps before) in
    let ended : is_left_at c.in-Ok.stage ≡ false = elim c.match-matches.branch [
      | in-Done w ↦ search rules
      | in_default w ↦ absurd (no_more c.match-matches.matches over w.matches-is)
    ] in
    rw c.into_calls-file.ensures (is_whole seen cmp path c.args.most new_bytes c.args.held.now pieces c.in-Ok.stage before c.resume-done.new.disk.log.events ended has)
