-- Talks that rest, one after the other.
use Rattle.std.proofs.Common.{◌≡◌, ◌∙◌, inl, inr, ap}
use Rattle.am_http.specs.Sessions.{SessionPhase, name_of, over}
use Rattle.am_server.specs.Talks.{Closes, Rests, Stays, Talk, WaitsNoMore}

waits_no_more : (a b c : Talk) → WaitsNoMore a b → WaitsNoMore b c → WaitsNoMore a c
waits_no_more a b c (inl one) (inl other) = inl (other ∙ one)
waits_no_more a b c (inr one) (inl other) = inr (other ∙ one)
waits_no_more a b c first (inr other) = inr other

-- the same name, behind either
over_same : (one other : SessionPhase) → one ≡ other → over (name_of one) ≡ over (name_of other)
over_same one other e = ap (λ (s : SessionPhase). over (name_of s)) e

over_over : (one other : SessionPhase) → one ≡ over (name_of other) → over (name_of one) ≡ over (name_of other)
over_over one other e = over_same one (over (name_of other)) e

pub stays_same : (a b : Talk) → b ≡ a → Stays a b
stays_same a b same = record { auth_phase = ap (λ (t : Talk). t.auth_phase) same; session = ap (λ (t : Talk). t.session) same; waiting = inl (ap (λ (t : Talk). t.waiting) same) }

pub stays_on : (a b c : Talk) → Stays a b → Stays b c → Stays a c
stays_on a b c first then =
    record { auth_phase = then.auth_phase ∙ first.auth_phase; session = then.session ∙ first.session; waiting = waits_no_more a b c first.waiting then.waiting }

-- what is closed stays so
pub closes_on : (a b c : Talk) → Closes a b → Rests b c → Closes a c
closes_on a b c first (inl then) =
    record { auth_phase = then.auth_phase ∙ first.auth_phase; session = then.session ∙ first.session; waiting = waits_no_more a b c first.waiting then.waiting }
closes_on a b c first (inr then) = record {
  auth_phase = then.auth_phase ∙ first.auth_phase;
  session = then.session ∙ over_over b.session a.session first.session;
  waiting = waits_no_more a b c first.waiting then.waiting;
}
