-- A replay whose output isn't written to its end.
use Rattle.std.proofs.Common.{◌≡◌, ℕ, List, Option, refl, subst}
use Rattle.std.specs.Io.KnownBytes.{Consumes, IsAtEnd}
use Rattle.std.proofs.KnownBytes.{Consumes-whole}
use Rattle.am_wire.specs.OutputWriting.{WritesPart}
use Rattle.am_replay.specs.declared.error.ReplayError.TheVariants as errors
use Rattle.am_replay.specs.Replays.{IsReplay, StopsReplay}

pub stops_writing : (start left : Option (List ℕ)) (input text : List ℕ) → Consumes start left input → IsAtEnd left → IsReplay input text →
    {W : Type 0} (contents : W → Option (List ℕ)) (old new : W) (written : ℕ) → WritesPart (contents old) (contents new) text written →
    StopsReplay start left contents old new (errors.Write written)
stops_writing start left input text consumed end replay contents old new written part = record {
  read = λ at is. absurd cc;
  too_large = λ is. absurd cc;
  in_schedule = λ error is. absurd cc;
  memory = λ line is. absurd cc;
  write = λ count is.
      let same : written ≡ count = cc in
      let out = subst (WritesPart (contents old) (contents new) text) same part in
      record { text = text; short = out.0; out = out.1; printed = Consumes-whole start left input (λ i. IsReplay i text) consumed end replay };
  unwritten = λ none. absurd (none written refl);
}
