use Rattle.am_wire.specs.declared.unknown.Unknown.TheVariants.{Drop}
use Rattle.std.proofs.Common.{◌≡◌, sym, ap, subst, length}
use Rattle.std.specs.Prelude.{None}
use Rattle.am_instance.specs.declared.event.Event.TheVariants as events
use Rattle.am_instance.specs.InstanceStates.{InstanceState, HoldsWhole}
use Rattle.am_instance.specs.Steps.{fault_of}
use Rattle.am_cluster.specs.BothRuns.{log_run, silence_run}
use Rattle.am_cluster.proofs.Lent.{lendable, lent_in}
use Rattle.am_cluster.proofs.Lived.{found_at, inside}
use Rattle.am_cluster.proofs.cluster.Cluster.lent_by.Goals as goal

pub frame_of-requires-clause-drops : goal.frame_of-requires-clause-drops
frame_of-requires-clause-drops c =
    let less = inside _ _ c.args.lender c.self.view_is c.requires.within in
    let found = found_at c.self.inside.members.items c.args.lender c.index.result.now less c.index.ensures in
    subst (λ (s : InstanceState). s.config.unknown ≡ Drop) (sym (ap (λ x. x.stand) c.behind-self.view_is)) (c.self.invariant.world.members c.args.lender c.index.result.now found).unknown

pub frame_of-requires-clause-whole : goal.frame_of-requires-clause-whole
frame_of-requires-clause-whole c =
    let less = inside _ _ c.args.lender c.self.view_is c.requires.within in
    let found = found_at c.self.inside.members.items c.args.lender c.index.result.now less c.index.ensures in
    subst HoldsWhole (sym (ap (λ x. x.stand) c.behind-self.view_is)) (c.self.invariant.world.members c.args.lender c.index.result.now found).whole

pub returns-clause-sound : goal.returns-clause-sound
returns-clause-sound c = λ settings now.
    subst (λ f. fault_of settings now (events.Frame c.args.lender f) ≡ None) (sym c.in_ok-frame.ensures.frame)
    (c.lent_maps_come_from_their_lender.ensures.sound settings c.args.lender now c.behind-self.inside.instance (c.in_ok-frame.ensures.silences settings.unknown) (c.in_ok-frame.ensures.log settings.unknown))

pub returns-clause-silences : goal.returns-clause-silences
returns-clause-silences c = λ now.
    let less = inside _ _ c.args.lender c.self.view_is c.requires.within in
    let found = found_at c.self.inside.members.items c.args.lender c.index.result.now less c.index.ensures in
    lent_in (record { replicas = c.self.inside.members.items; silences = c.self.inside.journal.silences; log = c.self.inside.journal.log; lines = c.self.inside.journal.lines; flights = c.self.inside.flights.items; room = c.self.inside.journal.room })
    c.args.self.now c.args.lender now c.index.result.now c.behind-self.inside.instance c.in_ok-frame.frame c.self.view_is c.self.invariant.world found (sym (ap (λ x. x.stand) c.behind-self.view_is)) c.requires.runs c.in_ok-frame.ensures.frame
    silence_run (λ m. m.silences)
    (λ runs gone. c.lent_maps_come_from_their_lender.ensures.silences Drop (length c.self.inside.members.items) c.args.lender now c.self.inside.journal.silences c.behind-self.inside.instance runs gone c.in_ok-frame.ensures.maps (c.in_ok-frame.ensures.silences Drop) (c.in_ok-frame.ensures.log Drop))

pub returns-clause-log : goal.returns-clause-log
returns-clause-log c = λ now.
    let less = inside _ _ c.args.lender c.self.view_is c.requires.within in
    let found = found_at c.self.inside.members.items c.args.lender c.index.result.now less c.index.ensures in
    lent_in (record { replicas = c.self.inside.members.items; silences = c.self.inside.journal.silences; log = c.self.inside.journal.log; lines = c.self.inside.journal.lines; flights = c.self.inside.flights.items; room = c.self.inside.journal.room })
    c.args.self.now c.args.lender now c.index.result.now c.behind-self.inside.instance c.in_ok-frame.frame c.self.view_is c.self.invariant.world found (sym (ap (λ x. x.stand) c.behind-self.view_is)) c.requires.runs c.in_ok-frame.ensures.frame
    log_run (λ m. m.log)
    (λ runs gone. c.lent_maps_come_from_their_lender.ensures.log Drop (length c.self.inside.members.items) c.args.lender now c.self.inside.journal.log c.behind-self.inside.instance runs gone c.in_ok-frame.ensures.maps (c.in_ok-frame.ensures.silences Drop) (c.in_ok-frame.ensures.log Drop))

pub returns-clause-lendable : goal.returns-clause-lendable
returns-clause-lendable c =
    let less = inside _ _ c.args.lender c.self.view_is c.requires.within in
    let found = found_at c.self.inside.members.items c.args.lender c.index.result.now less c.index.ensures in
    lendable _ _ c.args.lender c.index.result.now c.behind-self.inside.instance c.self.view_is found (sym (ap (λ x. x.stand) c.behind-self.view_is))
    (record {
      maps = c.in_ok-frame.ensures.maps;
      silences = c.in_ok-frame.ensures.silences;
      log = c.in_ok-frame.ensures.log;
      silences_fit = c.in_ok-frame.ensures.silences_fit;
      log_fit = c.in_ok-frame.ensures.log_fit;
    })
