-- Requests for decisions that wait, and the limits until which they do.
use Rattle.std.specs.Prelude.{Bool, true, false}
use Rattle.std.specs.declared.time.Instant.{Instant}
use Rattle.am_http.specs.declared.request.Request.{Request}
use Rattle.am_server.specs.declared.turns.Turn.{Turn}
use Rattle.am_server.specs.declared.turns.Wait.{Wait}
use Rattle.am_server.specs.declared.turns.Wait.TheVariants as waits

-- the moment until which a request waits, at the latest until the limit, by whether the exchanges that it waits for are over
abbrev pub waits_until : Wait → Bool → Instant → Instant
waits_until (waits.Exchanges round since) true limit = since
waits_until (waits.Exchanges round since) false limit = limit
waits_until waits.Turn are_over limit = limit

-- the moment until which a request waits
abbrev pub due_of : Turn → Bool → Instant
due_of turn are_over = waits_until turn.wait are_over turn.limit

-- the request that waits
abbrev pub request_of : Turn → Request
request_of turn = turn.request
