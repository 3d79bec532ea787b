use Rattle.std.proofs.Common.{◌≡◌, ◌∙◌, ◌<◌, Global, List, Option, Vec, ap, arith, get_or, length, map, refl, subst, sym, ℕ}
use Rattle.std.proofs.lemmas.List.{length-map, map-set}
use Rattle.am_daemon.specs.Offers.{AreNext, ForPeers, PutBy, for_peers, gone_on, nothing_put_by, place_in, put_by_of}
use Rattle.am_daemon.proofs.Offers.{next_count, none_lost, part_given, put_by_there, text_given}
use Rattle.am_gossip.specs.declared.frame.Frame.{Frame}
use Rattle.am_peer_auth.specs.declared.seal.Lock.{Lock}
use Rattle.am_daemon.proofs.member.server_state.ServerState.encoding_behind.Goals as goal

pub returns-in_default-clause-given : goal.returns-in_default-clause-given
returns-in_default-clause-given g c =
    let within : c.args.peer < length c.args.self.now.pending_frames.items = omega (arith, c.in_ok-pending.ensures.variant.0 refl, c.args.self.now.pending_frames.ok.0) in
    let held : ForPeers = for_peers g.U.Backend.outbound g.U.Backend.sealed_by c.args.self.now in
    let there : get_or (map put_by_of c.args.self.now.pending_frames.items) c.args.peer nothing_put_by ≡ put_by_of c.in_ok-pending.pending.now =
    put_by_there c.args.self.now.pending_frames.items c.args.peer c.in_ok-pending.pending.now c.take-put_by.new.self within c.in_ok-pending.ensures.value in
    none_lost held (for_peers g.U.Backend.outbound g.U.Backend.sealed_by c.or_part.new.self) c.args.peer (put_by_of c.take-put_by.new.self)
    (subst (λ n. c.args.peer < n) (sym (length-map c.args.self.now.pending_frames.items put_by_of)) within)
    (ap (λ (it : PutBy). it.frames) there ∙ sym c.take-put_by.ensures.frames ∙ c.in_default.ensures.next)
    (c.or_part.ensures.same ∙ ap (λ (l : List PutBy). record held { put_by = l }) (map-set put_by_of c.args.self.now.pending_frames.items c.args.peer c.take-put_by.new.self))

pub returns-clause-given : goal.returns-clause-given
returns-clause-given g c =
    let within : c.args.peer < length c.args.self.now.pending_frames.items = omega (arith, c.in_ok-pending.ensures.variant.0 refl, c.args.self.now.pending_frames.ok.0) in
    let held : ForPeers = for_peers g.U.Backend.outbound g.U.Backend.sealed_by c.args.self.now in
    let mid : ForPeers = for_peers g.U.Backend.outbound g.U.Backend.sealed_by c.or_part.new.self in
    let there : get_or (map put_by_of c.args.self.now.pending_frames.items) c.args.peer nothing_put_by ≡ put_by_of c.in_ok-pending.pending.now =
    put_by_there c.args.self.now.pending_frames.items c.args.peer c.in_ok-pending.pending.now c.take-put_by.new.self within c.in_ok-pending.ensures.value in
    text_given (λ (bytes : Vec ℕ Global). bytes.items) c.args.instance.now.config c.args.peer c.args.answer.now held (put_by_of c.take-put_by.new.self) c.in-Some.frames.items c.place-from.result
    (g.U.Backend.outbound c.encoding_of.new.self)
    (subst (λ n. c.args.peer < n) (sym (length-map c.args.self.now.pending_frames.items put_by_of)) within)
    (subst (λ (put_by : List Frame). AreNext put_by c.in-Some.frames.items) (c.take-put_by.ensures.frames ∙ sym (ap (λ (it : PutBy). it.frames) there)) c.in-Some.ensures.next)
    (c.take-put_by.ensures.taken ∙ ap (λ n. gone_on n (put_by_of c.in_ok-pending.pending.now)) (next_count c.take-put_by.result.items c.in-Some.frames.items c.in-Some.ensures.next)
    ∙ ap (gone_on (length c.in-Some.frames.items)) (sym there))
    (c.place-from.ensures ∙ ap (λ (it : PutBy). place_in c.args.answer.now it.number) (sym there))
    c.encoding_of.result c.config.result.now c.deref.result.now mid _ c.config.ensures c.deref.ensures.value
    (c.or_part.ensures.same ∙ ap (λ (l : List PutBy). record held { put_by = l }) (map-set put_by_of c.args.self.now.pending_frames.items c.args.peer c.take-put_by.new.self))
    (ap (λ (lock : Option Lock). record mid { queue = g.U.Backend.outbound c.encoding_of.new.self; lock = lock }) c.encoding_of.ensures.lock)
    c.encoding_of.ensures.queue c.encoding_of.ensures.encoding c.encoding_of.ensures.unsent

pub returns-clause-part : goal.returns-clause-part
returns-clause-part g c =
    let within : c.args.peer < length c.args.self.now.pending_frames.items = omega (arith, c.in_ok-pending.ensures.variant.0 refl, c.args.self.now.pending_frames.ok.0) in
    let held : ForPeers = for_peers g.U.Backend.outbound g.U.Backend.sealed_by c.args.self.now in
    let there : get_or (map put_by_of c.args.self.now.pending_frames.items) c.args.peer nothing_put_by ≡ put_by_of c.in_ok-pending.pending.now =
    put_by_there c.args.self.now.pending_frames.items c.args.peer c.in_ok-pending.pending.now c.take-put_by.new.self within c.in_ok-pending.ensures.value in
    part_given (λ (bytes : Vec ℕ Global). bytes.items) c.args.instance.now c.args.peer c.args.answer.now held c.place-from.result _ c.config.result.now c.in-Some.frames.items c.deref.result.now _ _
    c.encoding_of.result (ap (λ (h : ForPeers). h.lock) c.or_part.ensures.same) c.config.ensures c.deref.ensures.value
    (c.place-from.ensures ∙ ap (λ (it : PutBy). place_in c.args.answer.now it.number) (sym there))
    (λ none. c.in-Some.ensures.part (c.take-put_by.ensures.frames ∙ sym (ap (λ (it : PutBy). it.frames) there) ∙ none)) c.encoding_of.ensures.encoding
