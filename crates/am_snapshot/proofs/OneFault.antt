-- The first fault of an input is one.
use Rattle.std.proofs.Common.{◌≡◌, ℕ, ◌+◌, ◌≤◌, List, [], ◌∷◌, ◌++◌, length, take, drop, map, Result, Err, refl, sym, ap, subst, ◌∙◌, arith, length-append, length-drop, append-nil}
use Rattle.std.proofs.lemmas.List.{drop-append-le}
use Rattle.am_wire.specs.declared.error.WireError.{WireError}
use Rattle.am_wire.specs.declared.error.WireError.TheVariants.{Truncated}
use Rattle.am_wire.specs.RoundTrip.Pieces.{pieces-first}
use Rattle.am_wire.specs.Inputs.{sound, message_at, messages_of, HasFaultAfter, IsCutAfter, IsTooLargePast}
use Rattle.am_snapshot.proofs.Ends.{from, has_first, none_there}
use Rattle.am_snapshot.proofs.RowReads.{from-fault, from-nil, message_at-cut}

module _ {A : Type 0} (reads : ℕ → List ℕ → Result A WireError) where
  -- bytes that are these messages are them whatever follows
  reads_on : (messages : List A) (at : ℕ) (bytes rest : List ℕ) → from reads at bytes ≡ map sound messages → from reads at (bytes ++ rest) ≡ map sound messages ++ from reads (at + length bytes) rest
  reads_on [] at bytes rest h =
      let none = none_there reads at bytes h in
      subst (λ (b : List ℕ). from reads at (b ++ rest) ≡ from reads (at + length b) rest) (sym none) (ap (λ (n : ℕ). from reads n rest) (omega arith))
  reads_on (m ∷ messages) at bytes rest h =
      let f = has_first reads m messages at bytes h in
      let within : f.len ≤ length (bytes ++ rest) = omega (arith, f.first.within, length-append bytes rest) in
      let one = pieces-first (message_at reads) at (bytes ++ rest) (m, f.len) (f.first.stays rest) f.first.filled within in
      let back = drop-append-le f.len bytes rest f.first.within in
      let others = reads_on messages (at + f.len) (drop f.len bytes) rest f.rest in
      let place : at + f.len + length (drop f.len bytes) ≡ at + length bytes = omega (arith, f.first.within, length-drop f.len bytes) in
      one
      ∙ ap (λ (l : List ℕ). sound m ∷ from reads (at + f.len) l) back
      ∙ ap (λ (l : List (Result A WireError)). sound m ∷ l) (others ∙ ap (λ (n : ℕ). map sound messages ++ from reads n rest) place)

  abbrev faulty : WireError → Result A WireError
  faulty e = Err e

  err_is : (e d : WireError) → faulty e ∷ [] ≡ faulty d ∷ [] → e ≡ d
  err_is e d h = cc

  err_first : (e : WireError) (m : A) (others : List (Result A WireError)) → faulty e ∷ [] ≡ sound m ∷ others → ⊥
  err_first e m others h = absurd cc

  pub head_is : (m n : A) (ms ns : List (Result A WireError)) → sound m ∷ ms ≡ sound n ∷ ns → m ≡ n
  head_is m n ms ns h = cc

  pub tail_is : (m n : A) (ms ns : List (Result A WireError)) → sound m ∷ ms ≡ sound n ∷ ns → ms ≡ ns
  tail_is m n ms ns h = cc

  same_fault : (ms ns : List A) (e d : WireError) → map sound ms ++ faulty e ∷ [] ≡ map sound ns ++ faulty d ∷ [] → (ms ≡ ns) × (e ≡ d)
  same_fault [] [] e d h = (refl, err_is e d h)
  same_fault [] (n ∷ ns) e d h = absurd (err_first e n (map sound ns ++ faulty d ∷ []) h)
  same_fault (m ∷ ms) [] e d h = absurd (err_first d m (map sound ms ++ faulty e ∷ []) (sym h))
  same_fault (m ∷ ms) (n ∷ ns) e d h =
      let rest = same_fault ms ns e d (tail_is m n (map sound ms ++ faulty e ∷ []) (map sound ns ++ faulty d ∷ []) h) in
      let first = head_is m n (map sound ms ++ faulty e ∷ []) (map sound ns ++ faulty d ∷ []) h in
      (ap (λ (x : A). x ∷ ms) first ∙ ap (λ (xs : List A). n ∷ xs) rest.0, rest.1)

  pub no_fault : (ms ns : List A) (e : WireError) → map sound ms ++ faulty e ∷ [] ≡ map sound ns → ⊥
  no_fault [] [] e h = absurd cc
  no_fault [] (n ∷ ns) e h = absurd (err_first e n (map sound ns) h)
  no_fault (m ∷ ms) [] e h = absurd cc
  no_fault (m ∷ ms) (n ∷ ns) e h = no_fault ms ns e (tail_is m n (map sound ms ++ faulty e ∷ []) (map sound ns) h)

  -- what begins a row and is not whole is read as a fault, or is nothing
  cut_by : (ms ns : List A) (e : WireError) (at : ℕ) (begun : List ℕ) → message_at reads at begun ≡ Err (Truncated at) → map sound ms ++ faulty e ∷ [] ≡ map sound ns ++ from reads at begun → ms ≡ ns
  cut_by ms ns e at [] cut h = absurd (no_fault ms ns e (h ∙ ap (λ (l : List (Result A WireError)). map sound ns ++ l) (from-nil reads at) ∙ append-nil (map sound ns)))
  cut_by ms ns e at (b ∷ begun) cut h =
      (same_fault ms ns e (Truncated at) (h ∙ ap (λ (l : List (Result A WireError)). map sound ns ++ l) (from-fault reads at (b ∷ begun) (Truncated at) cut (omega arith)))).0

  cut_alike : (bytes : List ℕ) (ms ns : List A) (e : WireError) → HasFaultAfter reads bytes ms e → IsCutAfter reads bytes ns → ms ≡ ns
  cut_alike bytes ms ns e fault cut =
      cut_by ms ns e (length cut.whole) cut.begun (message_at-cut reads (length cut.whole) cut.begun cut.cut)
      (sym fault ∙ ap (λ (l : List ℕ). messages_of reads l) cut.parts ∙ reads_on ns 0 cut.whole cut.begun cut.before
      ∙ ap (λ (n : ℕ). map sound ns ++ from reads n cut.begun) (omega arith))

  pub faults_alike : (input : List ℕ) (ms ns : List A) (e d : WireError) → HasFaultAfter reads input ms e → HasFaultAfter reads input ns d → (ms ≡ ns) × (e ≡ d)
  faults_alike input ms ns e d one other = same_fault ms ns e d (sym one ∙ other)

  pub none_too_large : (limit : ℕ) (input : List ℕ) (ms ns : List A) (e : WireError) → HasFaultAfter reads (take limit input) ms e → ¬ IsTooLargePast reads limit input ms → ¬ IsTooLargePast reads limit input ns
  none_too_large limit input ms ns e fault apart large =
      apart (subst (λ (messages : List A). IsTooLargePast reads limit input messages) (sym (cut_alike (take limit input) ms ns e fault large.cut)) large)
