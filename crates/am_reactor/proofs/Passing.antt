-- The bytes that passed over a stream, by one more call.
use Rattle.std.proofs.Common.{◌≡◌, ◌≢◌, ◌∙◌, ◌<◌, ap, sym, refl, arith, ℕ, zero, suc, List, [], ◌++◌, append-nil, append_assoc, length, take}
use Rattle.am_reactor.specs.Streams.{Appends, Arrival, Receives}

-- nothing came
pub receives_none : (a : Arrival) → Receives a a []
receives_none a = sym (append-nil a.bytes)

-- what came, and behind it what came then
pub receives_on : (a b c : Arrival) (bs cs : List ℕ) → Receives a b bs → Receives b c cs → Receives a c (bs ++ cs)
receives_on a b c bs cs h t = t ∙ (ap (λ l. l ++ cs) h ∙ append_assoc a.bytes bs cs)

-- nothing went out
pub appends_none : (a : List ℕ) → Appends a a []
appends_none a = sym (append-nil a)

-- what went out, and behind it what went out then
pub appends_on : (a b c bs cs : List ℕ) → Appends a b bs → Appends b c cs → Appends a c (bs ++ cs)
appends_on a b c bs cs h t = t ∙ (ap (λ l. l ++ cs) h ∙ append_assoc a bs cs)
