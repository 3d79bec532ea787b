-- A request that begins, and one that is decided.
use Rattle.std.proofs.Common.{◌≡◌, ℕ, ◌≤◌, ◌⊎◌, List, [], ◌∷◌, None, Some, inl, inr, refl, arith}
use Rattle.std.specs.Prelude.{slice_get}
use Rattle.am_http.specs.declared.request.Read.{Read}
use Rattle.am_http.specs.declared.request.Read.TheVariants.{More, Whole, Refused}
use Rattle.am_http.specs.Sessions.{SessionPhase, fresh, over, Spoken, asked, IsAsked, Asks, LacksToAsk, Feeds}

pub asked_is : (bytes : List ℕ) (read : Read) (said : Spoken) (new : SessionPhase) → (read ≡ More → ⊥) → said ≡ asked read → new ≡ over None → IsAsked bytes read said new
asked_is bytes More said new other is ends = absurd (other refl)
asked_is bytes (Whole request) said new other is ends = (is, ends)
asked_is bytes (Refused refusal) said new other is ends = (is, ends)

-- a connection whose first byte is no greeting's begins as a request does
pub begins_asking : (piece : List ℕ) (first : ℕ) (said : Spoken) (new : SessionPhase) → slice_get piece 0 ≡ Some first → 32 ≤ first → Asks piece said new ⊎ LacksToAsk said new → Feeds fresh piece said new
begins_asking [] first said new is le told = absurd (never is)
  where
    never : None ≡ Some first → ⊥
    never h = cc
begins_asking (b ∷ bytes) first said new is le told =
    let same : b ≡ first = some_is b first is in
    elim told [
      | inl says ↦ inl record { peer = λ lt. absurd (omega (arith, same, le, lt)); request = λ _. says }
      | inr lacks ↦ inr record { peer = λ lt. absurd (omega (arith, same, le, lt)); request = λ _. lacks }
    ]
  where
    some_is : (x y : ℕ) → Some x ≡ Some y → x ≡ y
    some_is x y h = cc
