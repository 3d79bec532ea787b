-- The exchanges under the places of their peers.
use Rattle.std.specs.Prelude.{◌≡◌, ◌≢◌, ◌+◌, ◌<◌, ◌++◌, [], ◌∷◌, ℕ, List, Option, None, Some, IfSome, IsSome, MatchOption, length, slice_index_or, ◌⊎◌}
use Rattle.am_reactor.specs.declared.exchange.Exchange.{Exchange}
use Rattle.am_reactor.specs.declared.exchanges.Exchanges.{Exchanges}
use Rattle.am_reactor.specs.declared.fault.LinkFault.{LinkFault}
use Rattle.am_reactor.specs.declared.fault.LinkFault.TheVariants.{Time}
use Rattle.am_reactor.specs.SendBuffer.{Empties}
use Rattle.am_reactor.specs.Streams.{Arrival, HasEnded, IsSilent, Receives}

-- bytes came over a stream, and just these stand behind what came before
pub record ComesBack (old new : Arrival) (before after : List ℕ) : Type 0 where
  pub bytes : List ℕ
  pub came : Receives old new bytes
  pub behind : after ≡ before ++ bytes

-- bytes came over a stream, and just these stand behind what came before, but for the last ones, which are dropped
pub record BreaksOff (old new : Arrival) (before after : List ℕ) : Type 0 where
  pub bytes : List ℕ
  pub dropped : List ℕ
  pub came : Receives old new (bytes ++ dropped)
  pub behind : after ≡ before ++ bytes

-- more bytes came over a stream than fit behind those that came before
pub record IsTooMuch (most : ℕ) (old new : Arrival) (before : List ℕ) : Type 0 where
  pub bytes : List ℕ
  pub came : Receives old new bytes
  pub much : most < length before + length bytes

module _ {C : Type 0} where
  -- the exchange with a peer, if one is under way
  abbrev pub exchange_with : Exchanges C → ℕ → Option (Exchange C)
  exchange_with exchanges peer = slice_index_or exchanges.open.items peer None

  -- no exchange is under way
  abbrev pub HasNoExchange : Exchanges C → Type 0
  HasNoExchange exchanges = (peer : ℕ) → exchange_with exchanges peer ≡ None

  -- the exchanges with other peers are as they were
  abbrev pub KeepsExchanges : ℕ → Exchanges C → Exchanges C → Type 0
  KeepsExchanges peer old new = (other : ℕ) → other ≢ peer → exchange_with new other ≡ exchange_with old other

  -- all that was to be asked of a peer went out, or no exchange is under way with it
  abbrev pub IsAsked : Exchanges C → ℕ → Type 0
  IsAsked exchanges peer = IfSome (exchange_with exchanges peer) (λ exchange. exchange.buffer.waiting ≡ [])

  -- the peer has ended the stream of its exchange, if there is room to read, or no exchange with it is under way
  abbrev pub IsEnded : (C → Arrival) → ℕ → Exchanges C → ℕ → Type 0
  IsEnded arrived room exchanges peer = IfSome (exchange_with exchanges peer) (λ exchange. 0 < room → HasEnded (arrived exchange.stream))

  -- a step leads the exchange with a peer from one state to the other
  abbrev pub Goes : (Exchange C → Exchange C → Type 0) → Exchanges C → Exchanges C → ℕ → Type 0
  Goes step old new peer = IfSome (exchange_with old peer) (λ before. IfSome (exchange_with new peer) (step before))

  -- such steps are taken with one peer after the other: no exchange goes on, ends or is closed in any other way
  abbrev pub OneByOne : {S : Type 0} → (ℕ → S → Exchanges C → S → Exchanges C → Type 0) → List ℕ → S → Exchanges C → S → Exchanges C → Type 0
  OneByOne step [] service old service' new = (service' ≡ service) × ((peer : ℕ) → exchange_with new peer ≡ exchange_with old peer)
  OneByOne {S} step (peer ∷ peers) service old service' new =
      (next : S) × (mid : Exchanges C) × KeepsExchanges peer old mid × step peer service old next mid × OneByOne step peers next mid service' new

  module _ (arrived : C → Arrival) (gone : C → List ℕ) where
    -- an exchange has just begun: these bytes are to be asked, nothing has come back, and nothing has passed over its stream
    pub record IsBegun (exchange : Exchange C) (bytes : List ℕ) : Type 0 where
      pub unasked : exchange.buffer.gone ≡ []
      pub waiting : exchange.buffer.waiting ≡ bytes
      pub unanswered : exchange.answer.items ≡ []
      pub silent : IsSilent (arrived exchange.stream) (gone exchange.stream)

    -- An exchange goes on: the first of the bytes that are to be asked went out over its stream; once all of them had, more came
    -- back over it, perhaps nothing, and stands in the answer.
    pub record GoesOn (before after : Exchange C) : Type 0 where
      pub asked : Empties (gone before.stream) (gone after.stream) before.buffer after.buffer
      pub more : List ℕ
      pub came : Receives (arrived before.stream) (arrived after.stream) more
      pub answer : after.answer.items ≡ before.answer.items ++ more
      pub behind : more ≢ [] → after.buffer.waiting ≡ []

    -- an exchange fails: it went on, but the last bytes that came back are dropped
    pub record Fails (before after : Exchange C) : Type 0 where
      pub asked : Empties (gone before.stream) (gone after.stream) before.buffer after.buffer
      pub more : List ℕ
      pub dropped : List ℕ
      pub came : Receives (arrived before.stream) (arrived after.stream) (more ++ dropped)
      pub answer : after.answer.items ≡ before.answer.items ++ more
      pub behind : more ++ dropped ≢ [] → after.buffer.waiting ≡ []

    module _ {S : Type 0} (answers : S → ℕ → List ℕ → S → Type 0) (loses : S → ℕ → LinkFault → S → Type 0) where
      -- The service is told of all that came back in an exchange that went on from here, once all was asked and the peer has ended
      -- its stream. If that is where the exchange began, just the question went out over its stream, each byte once, and the answer
      -- is just what came over it.
      pub record IsTold (room peer : ℕ) (begun : Exchange C) (service service' : S) (exchange : Exchange C) : Type 0 where
        pub asked : exchange.buffer.waiting ≡ []
        pub ended : 0 < room → HasEnded (arrived exchange.stream)
        pub told : answers service peer exchange.answer.items service'
        pub question : (bytes : List ℕ) → IsBegun begun bytes → gone exchange.stream ≡ bytes
        pub answer : (bytes : List ℕ) → IsBegun begun bytes → exchange.answer.items ≡ (arrived exchange.stream).bytes

      -- An exchange with a peer goes on from its beginning; or it has ended, and the service is told of what came back since; or it
      -- is closed, and the service is told that what it asked of this peer is lost.
      abbrev pub IsHeard : ℕ → ℕ → Exchange C → S → S → Option (Exchange C) → Type 0
      IsHeard room peer begun service service' then = (after : Exchange C)
          × ((GoesOn begun after × (then ≡ Some after) × (service' ≡ service))
          ⊎ ((GoesOn begun after × (then ≡ None) × IsTold room peer begun service service' after)
          ⊎ (Fails begun after × (then ≡ None) × ((fault : LinkFault) × loses service peer fault service'))))

      -- the same holds of the exchange that is under way with a peer, from wherever it began; if none is, nothing is done or told
      abbrev pub IsDriven : ℕ → ℕ → S → Exchanges C → S → Exchanges C → Type 0
      IsDriven room peer service old service' new = MatchOption (exchange_with old peer) ((exchange_with new peer ≡ None) × (service' ≡ service))
          (λ before. (begun : Exchange C) → GoesOn begun before → IsHeard room peer begun service service' (exchange_with new peer))

    module _ {S : Type 0} (loses : S → ℕ → LinkFault → S → Type 0) where
      -- an exchange has begun with a peer with which there was none, or the service is told that what it asks of this peer is lost,
      -- and the one that is under way with it is as it was
      abbrev pub IsAskedOf : ℕ → List ℕ → S → Exchanges C → S → Exchanges C → Type 0
      IsAskedOf peer bytes service old service' new =
          ((service' ≡ service) × (exchange_with old peer ≡ None) × IsSome (exchange_with new peer) × IfSome (exchange_with new peer) (λ exchange. IsBegun exchange bytes))
          ⊎ (((fault : LinkFault) × loses service peer fault service') × (exchange_with new peer ≡ exchange_with old peer))

  module _ {S : Type 0} (loses : S → ℕ → LinkFault → S → Type 0) where
    -- the exchange that is under way with a peer is closed, and the service is told that what it asked of this peer is lost because
    -- its time is over, and how many bytes went out; if none is, nothing is told
    abbrev pub IsTimedOut : ℕ → S → Exchanges C → S → Exchanges C → Type 0
    IsTimedOut peer service old service' new = (exchange_with new peer ≡ None)
        × MatchOption (exchange_with old peer) (service' ≡ service) (λ before. loses service peer (Time (length before.buffer.gone)) service')
