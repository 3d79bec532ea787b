-- The steps of a loop, by one more, each of which is calls.
use Rattle.std.proofs.Common.{◌≡◌, ◌⊎◌, ap, sym, subst, ℕ, zero, suc, List, [], ◌∷◌, ◌++◌, Option, None, Some, MatchOption, length, refl, inl, inr}
use Rattle.slab.specs.Slab.{Slab}
use Rattle.am_reactor.specs.declared.connection.Connection.{Connection}
use Rattle.am_reactor.specs.declared.exchange.Exchange.{Exchange}
use Rattle.am_reactor.specs.declared.exchanges.Exchanges.{Exchanges}
use Rattle.am_reactor.specs.declared.fault.LinkFault.{LinkFault}
use Rattle.am_reactor.specs.declared.fault.LinkFault.TheVariants.{Time}
use Rattle.am_reactor.specs.declared.links.Links.{Links}
use Rattle.am_reactor.specs.declared.noted_stream.NotedStream.{NotedStream}
use Rattle.am_reactor.specs.declared.service.Service.{Ghosts as Service}
use Rattle.am_reactor.specs.Exchanges.{GoesOn, IsAskedOf, IsDriven, IsHeard, IsTimedOut, KeepsExchanges, OneByOne, exchange_with}
use Rattle.am_reactor.specs.History.{Acts, ActsOn, AreSame, Happening, Happens, IsCall, Leads, LeadsOn, Line, Makes, lines, no_lines}
use Rattle.am_reactor.specs.History.Happening.{Came, TurnedAway, Called, Thrown, Closed, Acted}
use Rattle.am_reactor.specs.Links.{IsHanded, IsMoved, KeepsLinks, Moves, link_to}
use Rattle.am_reactor.specs.Peered.{Goes, Held, LoopGoes, LoopGoesOn, PeerStep, Steps, held}
use Rattle.am_reactor.specs.Streams.{arrived_over, gone_over}
use Rattle.am_reactor.specs.Peered.PeerStep.{Handed, Moved, Asked, Heard, TimedOut, Apart}
use Rattle.am_reactor.proofs.Drives.{exchange_rests}
use Rattle.am_reactor.proofs.Histories.{leads_act, leads_acts, leads_more, leads_none, leads_same}

module _ {S T : Type 0} (law : Service S T) where
  -- ---- one step more

  abbrev On : S → Held T → S → Held T → Type 0
  On service old service' new = LoopGoesOn law service old service' new

  goes_more : (steps : List PeerStep) (step : PeerStep) (s : S) (h : Held T) (m : S) (k : Held T) (s' : S) (h' : Held T)
      → Goes law s h steps m k → Steps law m k step s' h'
      → Goes law s h (steps ++ step ∷ []) s' h'
  goes_more [] step s h m k s' h' same more = (
    s',
    h',
    subst (λ x. Steps law x h step s' h') same.0 (subst (λ y. Steps law m y step s' h') same.1 more),
    (refl, refl),
  )
  goes_more (first ∷ steps) step s h m k s' h' goes more = (goes.0, goes.1, goes.2, goes_more steps step goes.0 goes.1 m k s' h' goes.3 more)

  loops_more : (step : PeerStep) (s : S) (h : Held T) (s' : S) (h' : Held T) → Steps law s h step s' h' → On s h s' h'
  loops_more step s h s' h' more first begun loops = record { steps = loops.steps ++ step ∷ []; go = goes_more loops.steps step first begun s h s' h' loops.go more }

  -- what leads on for connections leaves the links and the exchanges
  pub loops_apart : (s : S) (t : ℕ → Option (Line T NotedStream)) (s' : S) (t' : ℕ → Option (Line T NotedStream)) (l : Links NotedStream) (e : Exchanges NotedStream) → LeadsOn law law.acts arrived_over gone_over s t s' t'
      → On s (held t l e) s' (held t' l e)
  loops_apart s t s' t' l e leads = loops_more Apart s (held t l e) s' (held t' l e) (leads s t (leads_none law law.acts arrived_over gone_over s t), λ _. refl, λ _. refl)

  -- tables, links and exchanges that are the same
  pub loops_same : (s : S) (old new : Slab (Connection T NotedStream)) (l l' : Links NotedStream) (e e' : Exchanges NotedStream) → new ≡ old → l' ≡ l → e' ≡ e
      → On s (held (lines old) l e) s (held (lines new) l' e')
  loops_same s old new l l' e e' same kept silent = loops_more Apart s (held (lines old) l e) s (held (lines new) l' e') (
    leads_same law law.acts arrived_over gone_over s (lines old) (lines new) (λ key. ap (λ t. lines t key) same) s (lines old) (leads_none law law.acts arrived_over gone_over s (lines old)),
    λ peer. ap (λ k. link_to k peer) kept,
    λ peer. ap (λ k. exchange_with k peer) silent,
  )

  -- calls for no session and no peer leave them
  pub loops_acts : (s s' : S) (t : ℕ → Option (Line T NotedStream)) (l : Links NotedStream) (e : Exchanges NotedStream) → ActsOn law.acts s s' → On s (held t l e) s' (held t l e)
  loops_acts s s' t l e acted = loops_apart s t s' t l e (leads_acts law law.acts arrived_over gone_over s s' t acted)

  -- one such call leaves them
  pub loops_act : (s s' : S) (t : ℕ → Option (Line T NotedStream)) (l : Links NotedStream) (e : Exchanges NotedStream) → law.acts s s' → On s (held t l e) s' (held t l e)
  loops_act s s' t l e act = loops_apart s t s' t l e (leads_act law law.acts arrived_over gone_over s s' t act)

  -- what the service gives for a peer is handed to the link to it
  pub loops_handed : (peer : ℕ) (bytes : List ℕ) (s m : S) (t : ℕ → Option (Line T NotedStream)) (l : Links NotedStream) (e : Exchanges NotedStream) (s' : S) (l' : Links NotedStream) → law.offers s peer bytes m
      → KeepsLinks peer l l' → IsHanded arrived_over gone_over law.loses peer bytes m l s' l' → On s (held t l e) s' (held t l' e)
  loops_handed peer bytes s m t l e s' l' offered others handed =
      loops_more (Handed peer bytes) s (held t l e) s' (held t l' e) (m, offered, others, handed, refl, refl)

  -- what waits in one link goes on
  pub loops_moved : (peer : ℕ) (s : S) (t : ℕ → Option (Line T NotedStream)) (l : Links NotedStream) (e : Exchanges NotedStream) (s' : S) (l' : Links NotedStream) → KeepsLinks peer l l'
      → IsMoved arrived_over gone_over law.loses law.gives peer s l s' l' → On s (held t l e) s' (held t l' e)
  loops_moved peer s t l e s' l' others moved = loops_more (Moved peer) s (held t l e) s' (held t l' e) (others, moved, refl, refl)

  moves_on : (peers : List ℕ) (s : S) (t : ℕ → Option (Line T NotedStream)) (l : Links NotedStream) (e : Exchanges NotedStream) (s' : S) (l' : Links NotedStream) → Moves arrived_over gone_over law.loses law.gives peers s l s' l'
      → On s (held t l e) s' (held t l' e)
  moves_on [] s t l e s' l' none first begun loops = loops_more Apart s (held t l e) s' (held t l' e) (
    subst (λ x. Leads law law.acts arrived_over gone_over s t x t) (sym none.0) (leads_none law law.acts arrived_over gone_over s t),
    none.1,
    λ _. refl,
  ) first begun loops
  moves_on (peer ∷ peers) s t l e s' l' moves first begun loops =
      moves_on peers moves.0 t moves.1 e s' l' moves.4 first begun (loops_moved peer s t l e moves.0 moves.1 moves.2 moves.3 first begun loops)

  -- what waits in links goes on, one after the other
  pub loops_moves : (s : S) (t : ℕ → Option (Line T NotedStream)) (l : Links NotedStream) (e : Exchanges NotedStream) (s' : S) (l' : Links NotedStream) → (peers : List ℕ) × Moves arrived_over gone_over law.loses law.gives peers s l s' l'
      → On s (held t l e) s' (held t l' e)
  loops_moves s t l e s' l' moves = moves_on moves.0 s t l e s' l' moves.1

  -- what the service asks of a peer is asked
  pub loops_asked : (peer : ℕ) (bytes : List ℕ) (s m : S) (t : ℕ → Option (Line T NotedStream)) (l : Links NotedStream) (e : Exchanges NotedStream) (s' : S) (e' : Exchanges NotedStream) → law.asks s peer bytes m
      → KeepsExchanges peer e e' → IsAskedOf arrived_over gone_over law.loses peer bytes m e s' e' → On s (held t l e) s' (held t l e')
  loops_asked peer bytes s m t l e s' e' asked others begun =
      loops_more (Asked peer bytes) s (held t l e) s' (held t l e') (m, asked, others, begun, refl, refl)

  -- one exchange goes on
  pub loops_heard : (room peer : ℕ) (s : S) (t : ℕ → Option (Line T NotedStream)) (l : Links NotedStream) (e : Exchanges NotedStream) (s' : S) (e' : Exchanges NotedStream) → KeepsExchanges peer e e'
      → IsDriven arrived_over gone_over law.answers law.loses room peer s e s' e' → On s (held t l e) s' (held t l e')
  loops_heard room peer s t l e s' e' others heard = loops_more (Heard peer) s (held t l e) s' (held t l e') (room, others, heard, refl, refl)

  one_by_one : (step : ℕ → S → Exchanges NotedStream → S → Exchanges NotedStream → Type 0) (t : ℕ → Option (Line T NotedStream)) (l : Links NotedStream)
      → ((peer : ℕ) (s : S) (e : Exchanges NotedStream) (s' : S) (e' : Exchanges NotedStream) → KeepsExchanges peer e e' → step peer s e s' e' → On s (held t l e) s' (held t l e'))
      → (peers : List ℕ) (s : S) (e : Exchanges NotedStream) (s' : S) (e' : Exchanges NotedStream) → OneByOne step peers s e s' e' → On s (held t l e) s' (held t l e')
  one_by_one step t l each [] s e s' e' none first begun loops = loops_more Apart s (held t l e) s' (held t l e') (
    subst (λ x. Leads law law.acts arrived_over gone_over s t x t) (sym none.0) (leads_none law law.acts arrived_over gone_over s t),
    λ _. refl,
    none.1,
  ) first begun loops
  one_by_one step t l each (peer ∷ peers) s e s' e' steps first begun loops =
      one_by_one step t l each peers steps.0 steps.1 s' e' steps.4 first begun (each peer s e steps.0 steps.1 steps.2 steps.3 first begun loops)

  -- exchanges go on, one after the other
  pub loops_hears : (room : ℕ) (s : S) (t : ℕ → Option (Line T NotedStream)) (l : Links NotedStream) (e : Exchanges NotedStream) (s' : S) (e' : Exchanges NotedStream)
      → (peers : List ℕ) × OneByOne (IsDriven arrived_over gone_over law.answers law.loses room) peers s e s' e' → On s (held t l e) s' (held t l e')
  loops_hears room s t l e s' e' steps = one_by_one (IsDriven arrived_over gone_over law.answers law.loses room) t l
      (λ peer x a y b others heard. loops_heard room peer x t l a y b others heard) steps.0 s e s' e' steps.1

  -- the time of exchanges is over, one after the other
  pub loops_over : (s : S) (t : ℕ → Option (Line T NotedStream)) (l : Links NotedStream) (e : Exchanges NotedStream) (s' : S) (e' : Exchanges NotedStream)
      → (peers : List ℕ) × OneByOne (IsTimedOut law.loses) peers s e s' e' → On s (held t l e) s' (held t l e')
  loops_over s t l e s' e' steps = one_by_one (IsTimedOut law.loses) t l
      (λ peer x a y b others over. loops_more (TimedOut peer) x (held t l a) y (held t l b) (others, over, refl, refl)) steps.0 s e s' e' steps.1

  -- from nothing on
  pub loops_from : (s m s' : S) (t : ℕ → Option (Line T NotedStream)) (l : Links NotedStream) (e : Exchanges NotedStream) (h' : Held T) → ActsOn law.acts s m → AreSame t no_lines
      → On m (held t l e) s' h' → LoopGoes law s (held no_lines l e) s' h'
  loops_from s m s' t l e h' acted none on = on s (held no_lines l e) (loops_acts s m t l e acted s (held no_lines l e)
      (loops_apart s no_lines s t l e (leads_same law law.acts arrived_over gone_over s no_lines t none) s (held no_lines l e) (record { steps = []; go = (refl, refl) })))

  -- ---- the calls of a step

  abbrev Call : S → S → Type 0
  Call = IsCall law

  abbrev Calling : S → S → Type 0
  Calling s s' = (count : ℕ) × Acts Call count s s'

  abbrev IsLost : ℕ → S → S → Type 0
  IsLost peer s s' = (fault : LinkFault) × law.loses s peer fault s'

  call : (s s' : S) → Call s s' → Calling s s'
  call s s' c = (1, (s', c, refl))

  lost : (peer : ℕ) (s s' : S) → IsLost peer s s' → Call s s'
  lost peer s s' h = inr (inl (peer, h.0, h.1))

  call_then : (peer : ℕ) (s m s' : S) → Call s m → (s' ≡ m) ⊎ IsLost peer m s' → Calling s s'
  call_then peer s m s' c (inl same) = call s s' (subst (λ x. Call s x) (sym same) c)
  call_then peer s m s' c (inr h) = (2, (m, c, (s', lost peer m s' h, refl)))

  handed_calls : (peer : ℕ) (bytes : List ℕ) (m : S) (l : Links NotedStream) (s' : S) (l' : Links NotedStream) → IsHanded arrived_over gone_over law.loses peer bytes m l s' l' → (s' ≡ m) ⊎ IsLost peer m s'
  handed_calls peer bytes m l s' l' (inl h) = inl h.0
  handed_calls peer bytes m l s' l' (inr h) = inr h.0

  asked_calls : (peer : ℕ) (bytes : List ℕ) (m : S) (e : Exchanges NotedStream) (s' : S) (e' : Exchanges NotedStream) → IsAskedOf arrived_over gone_over law.loses peer bytes m e s' e' → (s' ≡ m) ⊎ IsLost peer m s'
  asked_calls peer bytes m e s' e' (inl h) = inl h.0
  asked_calls peer bytes m e s' e' (inr h) = inr h.0

  moved_calls : (peer : ℕ) (s : S) (l : Links NotedStream) (s' : S) (l' : Links NotedStream) → IsMoved arrived_over gone_over law.loses law.gives peer s l s' l' → Calling s s'
  moved_calls peer s l s' l' (inl none) = (0, none.2)
  moved_calls peer s l s' l' (inr (inl pushed)) = elim pushed.1.next [
    | inl p ↦ (0, p.0)
    | inr q ↦ elim q [
      | inl more ↦ call s s' (inr (inr (inr (inl (peer, more.3.answer, more.3.more, more.3.given)))))
      | inr h ↦ call s s' (lost peer s s' h.1)
    ]
  ]
  moved_calls peer s l s' l' (inr (inr h)) = call s s' (lost peer s s' h.1)

  heard_calls : (room peer : ℕ) (begun : Exchange NotedStream) (s s' : S) (then : Option (Exchange NotedStream)) → IsHeard arrived_over gone_over law.answers law.loses room peer begun s s' then → Calling s s'
  heard_calls room peer begun s s' then heard = elim heard.1 [
    | inl p ↦ (0, p.2)
    | inr q ↦ elim q [
      | inl h ↦ call s s' (inr (inr (inl (peer, heard.0.answer.items, h.2.told))))
      | inr h ↦ call s s' (lost peer s s' h.2)
    ]
  ]

  driven_calls : (room peer : ℕ) (s s' : S) (was then : Option (Exchange NotedStream)) → MatchOption was ((then ≡ None) × (s' ≡ s))
      (λ before. (begun : Exchange NotedStream) → GoesOn arrived_over gone_over begun before → IsHeard arrived_over gone_over law.answers law.loses room peer begun s s' then) → Calling s s'
  driven_calls room peer s s' None then h = (0, h.1)
  driven_calls room peer s s' (Some b) then h = heard_calls room peer b s s' then (h b (exchange_rests arrived_over gone_over b))

  over_calls : (peer : ℕ) (s s' : S) (was : Option (Exchange NotedStream)) → MatchOption was (s' ≡ s) (λ before. law.loses s peer (Time (length before.buffer.gone)) s') → Calling s s'
  over_calls peer s s' None h = (0, h)
  over_calls peer s s' (Some b) h = call s s' (lost peer s s' (Time (length b.buffer.gone), h))

  -- ---- what is done, as happenings

  abbrev Wide : S → (ℕ → Option (Line T NotedStream)) → S → (ℕ → Option (Line T NotedStream)) → Type 0
  Wide service old service' new = LeadsOn law Call arrived_over gone_over service old service' new

  wide_acts : (count : ℕ) (s s' : S) → Acts law.acts count s s' → Acts Call count s s'
  wide_acts zero s s' same = same
  wide_acts (suc n) s s' h = (h.0, inl h.1, wide_acts n h.0 s' h.2)

  wide : (happening : Happening) (s : S) (t : ℕ → Option (Line T NotedStream)) (s' : S) (t' : ℕ → Option (Line T NotedStream)) → Makes law law.acts arrived_over gone_over s t happening s' t' → Makes law Call arrived_over gone_over s t happening s' t'
  wide (Came key) s t s' t' m = m
  wide TurnedAway s t s' t' m = m
  wide (Called key deeds) s t s' t' m =
      (m.0, m.1, m.2, record { did = m.3.did; came = m.3.came; heard = m.3.heard; went = m.3.went; first = m.3.first; leaves = m.3.leaves }, m.4)
  wide (Thrown key bytes) s t s' t' m = m
  wide Closed s t s' t' m = m
  wide (Acted count) s t s' t' m = (wide_acts count s s' m.0, m.1)

  wide_leads : (happenings : List Happening) (s : S) (t : ℕ → Option (Line T NotedStream)) (s' : S) (t' : ℕ → Option (Line T NotedStream)) → Happens law law.acts arrived_over gone_over s t happenings s' t' → Wide s t s' t'
  wide_leads [] s t s' t' same first begun leads = subst (λ x. Leads law Call arrived_over gone_over first begun x t') (sym same.0) (leads_same law Call arrived_over gone_over s t t' same.1 first begun leads)
  wide_leads (h ∷ hs) s t s' t' happens first begun leads = wide_leads hs happens.0 happens.1 s' t' happens.3 first begun
      (leads_more law Call arrived_over gone_over h s t happens.0 happens.1 (wide h s t happens.0 happens.1 happens.2) first begun leads)

  calling_leads : (s s' : S) (t t' : ℕ → Option (Line T NotedStream)) → Calling s s' → t' ≡ t → Wide s t s' t'
  calling_leads s s' t t' calls same = leads_more law Call arrived_over gone_over (Acted calls.0) s t s' t' (calls.1, λ key. ap (λ f. f key) same)

  step_leads : (step : PeerStep) (s : S) (h : Held T) (s' : S) (h' : Held T) → Steps law s h step s' h' → Wide s h.connections s' h'.connections
  step_leads (Handed peer bytes) s h s' h' step = calling_leads s s' h.connections h'.connections
      (call_then peer s step.0 s' (inr (inr (inr (inr (inl (peer, bytes, step.1)))))) (handed_calls peer bytes step.0 h.links s' h'.links step.3)) step.4
  step_leads (Moved peer) s h s' h' step = calling_leads s s' h.connections h'.connections (moved_calls peer s h.links s' h'.links step.1) step.2
  step_leads (Asked peer bytes) s h s' h' step = calling_leads s s' h.connections h'.connections
      (call_then peer s step.0 s' (inr (inr (inr (inr (inr (peer, bytes, step.1)))))) (asked_calls peer bytes step.0 h.exchanges s' h'.exchanges step.3)) step.4
  step_leads (Heard peer) s h s' h' step = calling_leads s s' h.connections h'.connections
      (driven_calls step.0 peer s s' (exchange_with h.exchanges peer) (exchange_with h'.exchanges peer) step.2) step.3
  step_leads (TimedOut peer) s h s' h' step = calling_leads s s' h.connections h'.connections (over_calls peer s s' (exchange_with h.exchanges peer) step.1.1) step.2
  step_leads Apart s h s' h' step = wide_leads step.0.happenings s h.connections s' h'.connections step.0.happens

  steps_lead : (steps : List PeerStep) (s : S) (h : Held T) (s' : S) (h' : Held T) → Goes law s h steps s' h' → Wide s h.connections s' h'.connections
  steps_lead [] s h s' h' same first begun leads =
      subst (λ x. Leads law Call arrived_over gone_over first begun x h'.connections) (sym same.0) (subst (λ y. Leads law Call arrived_over gone_over first begun s y.connections) (sym same.1) leads)
  steps_lead (step ∷ steps) s h s' h' goes first begun leads =
      steps_lead steps goes.0 goes.1 s' h' goes.3 first begun (step_leads step s h goes.0 goes.1 goes.2 first begun leads)

  -- what a loop did is one list of happenings
  pub loops_lead : (s : S) (t : ℕ → Option (Line T NotedStream)) (l : Links NotedStream) (e : Exchanges NotedStream) (s' : S) (t' : ℕ → Option (Line T NotedStream)) (l' : Links NotedStream) (e' : Exchanges NotedStream)
      → LoopGoes law s (held t l e) s' (held t' l' e') → Leads law (IsCall law) arrived_over gone_over s t s' t'
  loops_lead s t l e s' t' l' e' loops = steps_lead loops.steps s (held t l e) s' (held t' l' e') loops.go s t (leads_none law Call arrived_over gone_over s t)
