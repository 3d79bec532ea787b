use Rattle.std.proofs.Common.{◌++◌, Err, sym, ◌∙◌, subst, length}
use Rattle.std.proofs.lemmas.Result.{err_from_is_err_and}
use Rattle.am_cluster.specs.Settling.{AreTurnsMade, AreTurns, all_turns, collections, gatherings, spreadings}
use Rattle.am_cluster.proofs.Turned.{still_can, turns_fail, turns_then}
use Rattle.am_cluster.proofs.cluster.Cluster.make_turns.Goals as goal

pub gather-requires : goal.gather-requires
gather-requires c = record { ready = (still_can c.args.self.now (collections (length c.args.self.now.replicas)) c.args.now c.args.line c.collect_all.new.self c.requires.ready c.in_ok-collect_all.ensures).ready }

pub returns-in_err-gather : goal.returns-in_err-gather
returns-in_err-gather c =
    let p = err_from_is_err_and c.from_residual-in_err-gather.result c.from_residual-in_err-gather.ensures.1 in
    let count = length c.args.self.now.replicas in
    let members = (still_can c.args.self.now (collections count) c.args.now c.args.line c.collect_all.new.self c.requires.ready c.in_ok-collect_all.ensures).members in
    subst (λ r. AreTurns c.args.self.now (all_turns count) c.args.now c.args.line r c.gather.new.self) (sym p.1)
    (turns_then c.args.self.now c.collect_all.new.self c.gather.new.self (collections count) (gatherings count ++ spreadings count) c.args.now c.args.line (Err p.0) c.in_ok-collect_all.ensures
    (turns_fail c.collect_all.new.self c.gather.new.self (gatherings count) (spreadings count) c.args.now c.args.line p.0
    (subst (λ n. AreTurns c.collect_all.new.self (gatherings n) c.args.now c.args.line (Err p.0) c.gather.new.self) members
    (subst (λ e. AreTurns c.collect_all.new.self (gatherings (length c.collect_all.new.self.replicas)) c.args.now c.args.line (Err e) c.gather.new.self) (sym p.2) c.in_err-gather.ensures))))

pub spread-requires : goal.spread-requires
spread-requires c =
    let first = still_can c.args.self.now (collections (length c.args.self.now.replicas)) c.args.now c.args.line c.collect_all.new.self c.requires.ready c.in_ok-collect_all.ensures in
    record { ready = (still_can c.collect_all.new.self (gatherings (length c.collect_all.new.self.replicas)) c.args.now c.args.line c.gather.new.self first.ready c.in_ok-gather.ensures).ready }

pub returns : goal.returns
returns c =
    let count = length c.args.self.now.replicas in
    let first = still_can c.args.self.now (collections count) c.args.now c.args.line c.collect_all.new.self c.requires.ready c.in_ok-collect_all.ensures in
    let second = still_can c.collect_all.new.self (gatherings (length c.collect_all.new.self.replicas)) c.args.now c.args.line c.gather.new.self first.ready c.in_ok-gather.ensures in
    turns_then c.args.self.now c.collect_all.new.self c.spread.new.self (collections count) (gatherings count ++ spreadings count) c.args.now c.args.line c.spread.result c.in_ok-collect_all.ensures
    (turns_then c.collect_all.new.self c.gather.new.self c.spread.new.self (gatherings count) (spreadings count) c.args.now c.args.line c.spread.result
    (subst (λ n. AreTurnsMade c.collect_all.new.self (gatherings n) c.args.now c.args.line c.gather.new.self) first.members c.in_ok-gather.ensures)
    (subst (λ n. AreTurns c.gather.new.self (spreadings n) c.args.now c.args.line c.spread.result c.spread.new.self) (second.members ∙ first.members) c.spread.ensures))
