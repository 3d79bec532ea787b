use Rattle.std.proofs.Common.{◌≡◌, ◌∙◌, arith}
use Rattle.std.proofs.lemmas.List.Sorted.{IsPermutation-trans}
use Rattle.std.proofs.lemmas.Result.{err_from_is_err_and}
use Rattle.am_gossip.specs.declared.refusals.ConfigError.TheVariants.{EmptyName, LongName, SameName, Memory}
use Rattle.am_cluster.proofs.Born.{empty_told, err_moved, long_told, newborns_are, no_error, none_unborn, other_error, same_told, to_front, twice_long, unborn}
use Rattle.am_cluster.proofs.cluster.Cluster.new.Goals as goal

not_empty : Memory ≡ EmptyName → ⊥
not_empty e = cc

not_long : Memory ≡ LongName → ⊥
not_long e = cc

not_same : Memory ≡ SameName → ⊥
not_same e = cc

-- no names have no twins
pub returns-in_default-clause-same_name : goal.returns-in_default-clause-same_name
returns-in_default-clause-same_name c = (
  λ same. absurd (no_error _ _ same),
  λ holds. let long = twice_long c.args.names.items holds.2 in absurd (omega (arith, long, c.in_default.ensures.cases.0, c.args.names.ok.0)),
)

pub returns-in_err-config-clause-empty_name : goal.returns-in_err-config-clause-empty_name
returns-in_err-config-clause-empty_name c =
    let p = err_from_is_err_and c.from_residual.result c.from_residual.ensures.1 in
    rw (p.1, p.2) (empty_told c.args.names.items c.pop.new.self.items c.in-Some.name c.in-Some.ensures.items _ _ (err_moved _ _) (err_moved _ _) c.in_err-config.ensures.empty_name)

pub returns-in_err-config-clause-long_name : goal.returns-in_err-config-clause-long_name
returns-in_err-config-clause-long_name c =
    let p = err_from_is_err_and c.from_residual.result c.from_residual.ensures.1 in
    rw (p.1, p.2) (long_told c.args.names.items c.pop.new.self.items c.in-Some.name c.in-Some.ensures.items _ _ (err_moved _ _) (err_moved _ _) c.in_err-config.ensures.long_name)

pub returns-in_err-config-clause-same_name : goal.returns-in_err-config-clause-same_name
returns-in_err-config-clause-same_name c =
    let p = err_from_is_err_and c.from_residual.result c.from_residual.ensures.1 in
    rw (p.1, p.2) (same_told c.args.names.items c.pop.new.self.items c.in-Some.name c.in-Some.ensures.items _ _ (err_moved _ _) (err_moved _ _) c.in_err-config.ensures.same_name)

pub returns-in_err-members-clause-empty_name : goal.returns-in_err-members-clause-empty_name
returns-in_err-members-clause-empty_name c =
    let p = err_from_is_err_and c.from_residual-in_err-members.result c.from_residual-in_err-members.ensures.1 in
    rw (p.1, p.2)
    (empty_told c.args.names.items c.pop.new.self.items c.in-Some.name c.in-Some.ensures.items _ _ (λ a. absurd (no_error _ _ a)) (λ b. absurd (other_error _ _ not_empty b)) c.in_ok-config.ensures.empty_name)

pub returns-in_err-members-clause-long_name : goal.returns-in_err-members-clause-long_name
returns-in_err-members-clause-long_name c =
    let p = err_from_is_err_and c.from_residual-in_err-members.result c.from_residual-in_err-members.ensures.1 in
    rw (p.1, p.2)
    (long_told c.args.names.items c.pop.new.self.items c.in-Some.name c.in-Some.ensures.items _ _ (λ a. absurd (no_error _ _ a)) (λ b. absurd (other_error _ _ not_long b)) c.in_ok-config.ensures.long_name)

pub returns-in_err-members-clause-same_name : goal.returns-in_err-members-clause-same_name
returns-in_err-members-clause-same_name c =
    let p = err_from_is_err_and c.from_residual-in_err-members.result c.from_residual-in_err-members.ensures.1 in
    rw (p.1, p.2)
    (same_told c.args.names.items c.pop.new.self.items c.in-Some.name c.in-Some.ensures.items _ _ (λ a. absurd (no_error _ _ a)) (λ b. absurd (other_error _ _ not_same b)) c.in_ok-config.ensures.same_name)

pub of-requires : goal.of-requires
of-requires c = none_unborn c.new.result.items c.new.ensures.items

pub of-requires-2 : goal.of-requires-2
of-requires-2 c = unborn c.in_ok-config.config c.in_ok-members.members.items c.in_ok-config.ensures.unknown c.in_ok-members.ensures

pub returns-clause-members : goal.returns-clause-members
returns-clause-members c =
    let s = c.in_ok-config.config in record {
      ordered = s.members;
      order = c.in_ok-config.ensures.order;
      among = IsPermutation-trans _ _ _ (to_front c.args.names.items c.pop.new.self.items c.in-Some.name c.in-Some.ensures.items) c.in_ok-config.ensures.members;
      members = c.of-2.ensures.members ∙ (c.in_ok-members.ensures ∙ newborns_are s c.args.retention c.args.peer_timeout c.in_ok-config.ensures.retention c.in_ok-config.ensures.peer_timeout c.in_ok-config.ensures.dialect c.in_ok-config.ensures.unknown);
      silences = c.of-2.ensures.silences;
      log = c.of-2.ensures.log;
      lines = c.of-2.ensures.lines;
      flights = c.of-2.ensures.flights;
    }

pub returns-clause-empty_name : goal.returns-clause-empty_name
returns-clause-empty_name c =
    empty_told c.args.names.items c.pop.new.self.items c.in-Some.name c.in-Some.ensures.items _ _ (λ a. absurd (no_error _ _ a)) (λ b. absurd (no_error _ _ b)) c.in_ok-config.ensures.empty_name

pub returns-clause-long_name : goal.returns-clause-long_name
returns-clause-long_name c =
    long_told c.args.names.items c.pop.new.self.items c.in-Some.name c.in-Some.ensures.items _ _ (λ a. absurd (no_error _ _ a)) (λ b. absurd (no_error _ _ b)) c.in_ok-config.ensures.long_name

pub returns-clause-same_name : goal.returns-clause-same_name
returns-clause-same_name c =
    same_told c.args.names.items c.pop.new.self.items c.in-Some.name c.in-Some.ensures.items _ _ (λ a. absurd (no_error _ _ a)) (λ b. absurd (no_error _ _ b)) c.in_ok-config.ensures.same_name
