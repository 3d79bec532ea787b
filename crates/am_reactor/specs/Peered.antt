-- The steps that a loop takes with its links to peers and its exchanges with them, beside what happens to its connections.
use Rattle.std.specs.Prelude.{◌≡◌, ◌⊎◌, ℕ, List, [], ◌∷◌, Option}
use Rattle.am_reactor.specs.declared.exchanges.Exchanges.{Exchanges}
use Rattle.am_reactor.specs.declared.links.Links.{Links}
use Rattle.am_reactor.specs.declared.noted_stream.NotedStream.{NotedStream}
use Rattle.am_reactor.specs.declared.reactor.Reactor.{Reactor}
use Rattle.am_reactor.specs.declared.service.Service.{Ghosts as Service}
use Rattle.am_reactor.specs.Exchanges.{HasNoExchange, IsAskedOf, IsDriven, IsTimedOut, KeepsExchanges, exchange_with}
use Rattle.am_reactor.specs.History.{Leads, Line, lines, no_lines}
use Rattle.am_reactor.specs.Links.{HasNoLink, IsHanded, IsMoved, KeepsLinks, link_to}
use Rattle.am_reactor.specs.Streams.{arrived_over, gone_over}

-- the state of a loop: its connections, as they are to the service, its links and its exchanges
pub record Held (T : Type 0) : Type 0 where
  pub connections : ℕ → Option (Line T NotedStream)
  pub links : Links NotedStream
  pub exchanges : Exchanges NotedStream

-- the state with these connections, links and exchanges
abbrev pub held : {T : Type 0} → (ℕ → Option (Line T NotedStream)) → Links NotedStream → Exchanges NotedStream → Held T
held connections links exchanges = record { connections = connections; links = links; exchanges = exchanges }

-- the state of a loop
abbrev pub held_by : {T : Type 0} → Reactor T → Held T
held_by reactor = held (lines reactor.connections.table) reactor.links reactor.exchanges

-- A step of a loop: the service gives bytes for a peer, and they are handed to the link to it; what waits in the link to a peer
-- goes on; the service asks something of a peer; the exchange with a peer goes on; its time is over; or something happens for
-- connections, or for no session and no peer, and each link and each exchange is as it was.
pub data PeerStep : Type 0 where
  Handed : ℕ → List ℕ → PeerStep
  Moved : ℕ → PeerStep
  Asked : ℕ → List ℕ → PeerStep
  Heard : ℕ → PeerStep
  TimedOut : ℕ → PeerStep
  Apart : PeerStep

-- For a service, whose trait says what each call does: `law.offers`, `law.does` and so on.
module _ {S T : Type 0} (law : Service S T) where
  -- a step leads from one service and loop state to others
  abbrev pub Steps : S → Held T → PeerStep → S → Held T → Type 0
  Steps service old (Handed peer bytes) service' new = (mid : S) × law.offers service peer bytes mid × KeepsLinks peer old.links new.links
      × IsHanded arrived_over gone_over law.loses peer bytes mid old.links service' new.links × (new.connections ≡ old.connections) × (new.exchanges ≡ old.exchanges)
  Steps service old (Moved peer) service' new = KeepsLinks peer old.links new.links × IsMoved arrived_over gone_over law.loses law.gives peer service old.links service' new.links
      × (new.connections ≡ old.connections) × (new.exchanges ≡ old.exchanges)
  Steps service old (Asked peer bytes) service' new = (mid : S) × law.asks service peer bytes mid × KeepsExchanges peer old.exchanges new.exchanges
      × IsAskedOf arrived_over gone_over law.loses peer bytes mid old.exchanges service' new.exchanges × (new.connections ≡ old.connections) × (new.links ≡ old.links)
  Steps service old (Heard peer) service' new = (room : ℕ) × KeepsExchanges peer old.exchanges new.exchanges
      × IsDriven arrived_over gone_over law.answers law.loses room peer service old.exchanges service' new.exchanges × (new.connections ≡ old.connections) × (new.links ≡ old.links)
  Steps service old (TimedOut peer) service' new = KeepsExchanges peer old.exchanges new.exchanges × IsTimedOut law.loses peer service old.exchanges service' new.exchanges
      × (new.connections ≡ old.connections) × (new.links ≡ old.links)
  Steps service old Apart service' new = Leads law law.acts arrived_over gone_over service old.connections service' new.connections
      × ((peer : ℕ) → link_to new.links peer ≡ link_to old.links peer) × ((peer : ℕ) → exchange_with new.exchanges peer ≡ exchange_with old.exchanges peer)

  -- steps, one after the other, lead from one service and loop state to others
  abbrev pub Goes : S → Held T → List PeerStep → S → Held T → Type 0
  Goes service old [] service' new = (service' ≡ service) × (new ≡ old)
  Goes service old (step ∷ steps) service' new = (next : S) × (mid : Held T) × Steps service old step next mid × Goes next mid steps service' new

  -- there are steps that go from one state to the other
  pub record LoopGoes (service : S) (old : Held T) (service' : S) (new : Held T) : Type 0 where
    pub steps : List PeerStep
    pub go : Goes service old steps service' new

  -- from wherever steps went to the first state, they go on to the other
  abbrev pub LoopGoesOn : S → Held T → S → Held T → Type 0
  LoopGoesOn service old service' new = (first : S) (begun : Held T) → LoopGoes first begun service old → LoopGoes first begun service' new

  -- nothing was begun, and the service is as it was; or steps go from no connection, no link and no exchange to what is left
  abbrev pub LoopGoesFromNone : S → S → Type 0
  LoopGoesFromNone service service' = (service' ≡ service)
      ⊎ ((links : Links NotedStream) × (exchanges : Exchanges NotedStream) × (left : Held T) × HasNoLink links × HasNoExchange exchanges
      × LoopGoes service (held no_lines links exchanges) service' left)
