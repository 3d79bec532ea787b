-- Frames that fly, one after the other.
use Rattle.std.proofs.Common.{◌≡◌, ℕ, ◌+◌, ◌≤◌, List, [], ◌∷◌, ◌++◌, refl, sym, ap, ◌∙◌, length, arith, append_assoc}
use Rattle.am_gossip.specs.declared.frame.Frame.{Frame}
use Rattle.am_cluster.specs.declared.flight.Flight.{Flight}
use Rattle.am_cluster.specs.Worlds.{sent_on}

-- one frame as it flies
abbrev pub flight_of : ℕ → ℕ → ℕ → ℕ × Frame → Flight
flight_of number sender now frame = record { number = number; sender = sender; addressee = frame.0; sent = now; frame = frame.1 }

pub sent_on-push : (count sender now : ℕ) (done : List (ℕ × Frame)) (frame : ℕ × Frame) →
    sent_on count sender now (done ++ frame ∷ []) ≡ sent_on count sender now done ++ flight_of ((count + length done) + 1) sender now frame ∷ []
sent_on-push count sender now [] frame = ap (λ n. flight_of n sender now frame ∷ []) (omega arith)
sent_on-push count sender now (f ∷ done) frame =
    ap (λ fs. flight_of (count + 1) sender now f ∷ fs)
    (sent_on-push (count + 1) sender now done frame ∙ ap (λ n. sent_on (count + 1) sender now done ++ flight_of (n + 1) sender now frame ∷ []) (omega arith))

-- so many frames fly, and the others are to
pub record HasSentOff (count sender now : ℕ) (old : List Flight) (all done left : List (ℕ × Frame)) (flights : List Flight) (number room : ℕ) : Type 0 where
  pub flights_are : flights ≡ old ++ sent_on count sender now done
  pub number_is : number ≡ count + length done
  pub all_are : all ≡ done ++ left
  pub enough : length left ≤ room

length-push : {A : Type 0} (xs : List A) (x : A) → length (xs ++ x ∷ []) ≡ length xs + 1
length-push [] x = refl
length-push (y ∷ xs) x = let rest : length (xs ++ x ∷ []) ≡ length xs + 1 = length-push xs x in omega arith

-- one more
pub sent_one : (count sender now : ℕ) (old : List Flight) (all done left : List (ℕ × Frame)) (flights : List Flight) (number room : ℕ) (frame : ℕ × Frame) (rest : List (ℕ × Frame)) (more : List Flight) (room_left : ℕ) →
    HasSentOff count sender now old all done left flights number room → left ≡ frame ∷ rest → more ≡ flights ++ flight_of (number + 1) sender now frame ∷ [] → room ≤ room_left + 1 →
    HasSentOff count sender now old all (done ++ frame ∷ []) rest more (number + 1) room_left
sent_one count sender now old all done left flights number room frame rest more room_left h here pushed kept = record {
  flights_are =
      pushed ∙ (ap (λ fs. fs ++ flight_of (number + 1) sender now frame ∷ []) h.flights_are
      ∙ (ap (λ n. (old ++ sent_on count sender now done) ++ flight_of (n + 1) sender now frame ∷ []) h.number_is
      ∙ (append_assoc old (sent_on count sender now done) _ ∙ ap (λ fs. old ++ fs) (sym (sent_on-push count sender now done frame)))));
  number_is = ap (λ n. n + 1) h.number_is ∙ (omega arith ∙ ap (λ n. count + n) (sym (length-push done frame)));
  all_are = h.all_are ∙ (ap (λ fs. done ++ fs) here ∙ sym (append_assoc done (frame ∷ []) rest));
  enough = (let short : length left ≤ room = h.enough in let one : length left ≡ length rest + 1 = ap length here ∙ omega arith in omega arith);
}
