-- An input that is read row by row.
use Rattle.std.proofs.Common.{◌≡◌, ◌≢◌, ℕ, ◌+◌, ◌-◌, ◌<◌, ◌≤◌, List, [], ◌∷◌, ◌++◌, length, take, drop, map, Option, Some, None, IfSome, Result, Ok, Err, ◌⊎◌, inl, inr, ⊎_elim, refl, sym, ap, subst, ◌∙◌, arith, append_assoc, append-nil, length-append}
use Rattle.std.proofs.lemmas.List.{map-append, take-append-le}
use Rattle.std.proofs.Math.Seq.{take-append_seam, drop-append_seam, take-append-add, take-nil}
use Rattle.std.specs.Io.KnownBytes.{Consumes, IsAtEnd}
use Rattle.std.proofs.KnownBytes.{Consumes-nil, Consumes-trans}
use Rattle.am_wire.specs.declared.error.WireError.{WireError}
use Rattle.am_wire.specs.declared.error.WireError.TheVariants.{Truncated}
use Rattle.am_wire.specs.declared.reader.RowFault.{RowFault}
use Rattle.am_wire.specs.declared.reader.RowFault.TheVariants.{Read, Wire, TooLarge, Ended, Memory}
use Rattle.am_wire.specs.declared.reader.RowPosition.{RowPosition}
use Rattle.am_wire.specs.declared.reader.RowPosition.TheVariants.{Before, Over, Refused}
use Rattle.am_wire.specs.Varint.{varint_within}
use Rattle.am_wire.specs.Fields.{row_at, pieces}
use Rattle.am_wire.specs.RoundTrip.Pieces.{pieces-first}
use Rattle.am_wire.specs.Reader.{IsCut, ReadsAs, HasBadLength, EndsInRow, Answers, all_but_last}
use Rattle.am_wire.specs.Inputs.{sound, message_at, messages_of, AreMessages, HasFaultAfter, IsTooLargePast, StopsWithin}
use Rattle.am_snapshot.proofs.Whole.{row_at-whole, row_at-fails}
use Rattle.am_snapshot.proofs.Ends.{ends_once}

-- where the next row begins
abbrev pub offset : RowPosition → ℕ
offset (Before at limit) = at
offset Over = 0
offset Refused = 0

abbrev rest_is : List ℕ → Option (List ℕ)
rest_is bytes = Some bytes

abbrev position_at : ℕ → ℕ → RowPosition
position_at limit at = Before at limit

-- what holds of all known bytes, by those that were read and those that are left
pub known : (a b : Option (List ℕ)) (bytes : List ℕ) (P : List ℕ → Type 0) → Consumes a b bytes → ((left : List ℕ) → b ≡ Some left → P (bytes ++ left)) → IfSome a P
known None b bytes P read each = tt
known (Some xs) None bytes P read each = absurd read
known (Some xs) (Some ys) bytes P read each = subst P (sym read) (each ys refl)

-- at the end these are all
pub known_end : (a b : Option (List ℕ)) (bytes : List ℕ) (P : List ℕ → Type 0) → Consumes a b bytes → IsAtEnd b → P bytes → IfSome a P
known_end None b bytes P read end here = tt
known_end (Some xs) None bytes P read end here = absurd read
known_end (Some xs) (Some ys) bytes P read end here = subst P (sym (read ∙ ap (λ (l : List ℕ). bytes ++ l) end ∙ append-nil bytes)) here

-- a fact that follows, of what is there
pub some_then : {A : Type 0} (P Q : A → Type 0) → ((x : A) → P x → Q x) → (o : Option A) → IfSome o P → IfSome o Q
some_then P Q follows None p = tt
some_then P Q follows (Some x) p = follows x p

append_same : (xs ys zs : List ℕ) → xs ++ ys ≡ xs ++ zs → ys ≡ zs
append_same xs ys zs same =
    sym (drop-append_seam xs ys) ∙ ap (λ (l : List ℕ). drop (length xs) l) same ∙ drop-append_seam xs zs

module _ {A : Type 0} (reads : ℕ → List ℕ → Result A WireError) where
  abbrev from : ℕ → List ℕ → List (Result A WireError)
  from at bytes = pieces (message_at reads) 0 at bytes

  abbrev done : A × ℕ → Result (A × ℕ) WireError
  done x = Ok x

  abbrev lost : WireError → Result (A × ℕ) WireError
  lost e = Err e

  -- ---- one row
  message_at-whole : (at : ℕ) (row rest : List ℕ) (v : A) → ReadsAs reads at row (Ok v) → message_at reads at (row ++ rest) ≡ Ok (v, length row)
  message_at-whole at row rest v (message, is_row, value) =
      rw (row_at-whole at row rest (message, length row) is_row, value) refl

  message_at-fault : (at : ℕ) (row rest : List ℕ) (e : WireError) → ReadsAs reads at row (Err e) → message_at reads at (row ++ rest) ≡ Err e
  message_at-fault at row rest e (message, is_row, value) =
      rw (row_at-whole at row rest (message, length row) is_row, value) refl

  message_at-fails : (at : ℕ) (bytes rest : List ℕ) (e : WireError) → row_at at bytes ≡ Err e → e ≢ Truncated at → message_at reads at (bytes ++ rest) ≡ Err e
  message_at-fails at bytes rest e h other = rw (row_at-fails at bytes rest e h other) refl

  pub message_at-cut : (at : ℕ) (bytes : List ℕ) → IsCut at bytes → message_at reads at bytes ≡ Err (Truncated at)
  message_at-cut at bytes h = rw h refl

  pub from-more : (at : ℕ) (row rest : List ℕ) (v : A) → 0 < length row → ReadsAs reads at row (Ok v) → from at (row ++ rest) ≡ Ok v ∷ from (at + length row) rest
  from-more at row rest v filled gives =
      pieces-first (message_at reads) at (row ++ rest) (v, length row) (message_at-whole at row rest v gives) filled (omega (arith, length-append row rest))
      ∙ ap (λ (r : List ℕ). sound v ∷ from (at + length row) r) (drop-append_seam row rest)

  pub from-fault : (at : ℕ) (bytes : List ℕ) (e : WireError) → message_at reads at bytes ≡ Err e → 0 < length bytes → from at bytes ≡ Err e ∷ []
  unfolding pieces
  from-fault at [] e h filled = absurd (omega (arith, filled))
  from-fault at (b ∷ bytes) e h filled = rw h refl

  pub from-nil : (at : ℕ) → from at [] ≡ []
  unfolding pieces
  from-nil at = refl

  row_at-nil : (at : ℕ) → row_at at [] ≡ Err (Truncated at)
  unfolding row_at varint_within
  row_at-nil at = refl

  -- ---- many rows
  -- the bytes are a row of these messages, whatever follows
  pub record HasRead (bytes : List ℕ) (messages : List A) : Type 0 where
    pub reads_on : (rest : List ℕ) → messages_of reads (bytes ++ rest) ≡ map sound messages ++ from (length bytes) rest

  pub HasRead-nil : HasRead [] []
  HasRead-nil = record { reads_on = λ rest. refl }

  pub HasRead-more : (bytes row : List ℕ) (messages : List A) (v : A) → HasRead bytes messages → 0 < length row → ReadsAs reads (length bytes) row (Ok v) → HasRead (bytes ++ row) (messages ++ v ∷ [])
  HasRead-more bytes row messages v so_far filled gives =
      record {
        reads_on = λ rest.
            ap (λ (x : List ℕ). messages_of reads x) (append_assoc bytes row rest)
            ∙ so_far.reads_on (row ++ rest)
            ∙ ap (λ (x : List (Result A WireError)). map sound messages ++ x) (from-more (length bytes) row rest v filled gives)
            ∙ ap (λ (n : ℕ). map sound messages ++ (sound v ∷ from n rest)) (sym (length-append bytes row))
            ∙ sym (append_assoc (map sound messages) (sound v ∷ []) (from (length (bytes ++ row)) rest))
            ∙ ap (λ (x : List (Result A WireError)). x ++ from (length (bytes ++ row)) rest) (sym (map-append sound messages (v ∷ [])));
      }

  pub HasRead-whole : (bytes : List ℕ) (messages : List A) → HasRead bytes messages → AreMessages reads bytes messages
  HasRead-whole bytes messages so_far =
      ap (λ (x : List ℕ). messages_of reads x) (sym (append-nil bytes))
      ∙ so_far.reads_on []
      ∙ ap (λ (x : List (Result A WireError)). map sound messages ++ x) (from-nil (length bytes))
      ∙ append-nil (map sound messages)

  HasRead-fault : (bytes last : List ℕ) (messages : List A) (e : WireError) → HasRead bytes messages → message_at reads (length bytes) last ≡ Err e → 0 < length last → HasFaultAfter reads (bytes ++ last) messages e
  HasRead-fault bytes last messages e so_far h filled =
      so_far.reads_on last ∙ ap (λ (x : List (Result A WireError)). map sound messages ++ x) (from-fault (length bytes) last e h filled)

  -- ---- what a call answers after them
  bad_filled : (at : ℕ) (row : List ℕ) (e : WireError) → row_at at row ≡ Err e → e ≢ Truncated at → 0 < length row
  bad_filled at [] e h other = absurd (other (let k = row_at-nil at in cc))
  bad_filled at (b ∷ row) e h other = omega arith

  whole_filled : (at : ℕ) (row : List ℕ) (y : List ℕ × ℕ) → row_at at row ≡ Ok y → 0 < length row
  whole_filled at [] y h = absurd (let k = row_at-nil at in cc)
  whole_filled at (b ∷ row) y h = omega arith

  filled_more : (row rest : List ℕ) → 0 < length row → 0 < length (row ++ rest)
  filled_more row rest filled = omega (arith, filled, length-append row rest)

  -- the fault is there whatever follows; where the input ended, as long as nothing does
  faults : (bytes row : List ℕ) (messages : List A) (e : WireError) (left : List ℕ) → HasRead bytes messages
      → (HasBadLength (length bytes) row e ⊎ EndsInRow (length bytes) row (Some left) e) ⊎ ReadsAs reads (length bytes) row (Err e)
      → (rest : List ℕ) → (left ≡ [] → rest ≡ []) → HasFaultAfter reads ((bytes ++ row) ++ rest) messages e
  faults bytes row messages e left so_far (inl (inl bad)) rest ends =
      ap (λ (x : List ℕ). messages_of reads x) (append_assoc bytes row rest)
      ∙ HasRead-fault bytes (row ++ rest) messages e so_far (message_at-fails (length bytes) row rest e bad.0 bad.1) (filled_more row rest (bad_filled (length bytes) row e bad.0 bad.1))
  faults bytes row messages e left so_far (inl (inr cut)) rest ends =
      ap (λ (x : List ℕ). messages_of reads ((bytes ++ row) ++ x)) (ends cut.2)
      ∙ ap (λ (x : List ℕ). messages_of reads x) (append-nil (bytes ++ row))
      ∙ HasRead-fault bytes row messages e so_far (message_at-cut (length bytes) row cut.0 ∙ ap lost (sym cut.3)) cut.1
  faults bytes row messages e left so_far (inr gives) rest ends =
      ap (λ (x : List ℕ). messages_of reads x) (append_assoc bytes row rest)
      ∙ HasRead-fault bytes (row ++ rest) messages e so_far (message_at-fault (length bytes) row rest e gives) (filled_more row rest (whole_filled (length bytes) row (gives.0, length row) gives.1))

  -- bytes behind a row that is whole, or whose length is at fault, don't make it one that is cut
  told : (at : ℕ) (row rest : List ℕ) (e : WireError) (left : List ℕ) → (HasBadLength at row e ⊎ EndsInRow at row (Some left) e) ⊎ ReadsAs reads at row (Err e) → (left ≡ [] → ⊥) → IsCut at (row ++ rest) → ⊥
  told at row rest e left (inl (inl bad)) more cut = bad.1 (let k = row_at-fails at row rest e bad.0 bad.1 in cc)
  told at row rest e left (inl (inr ends)) more cut = more ends.2
  told at row rest e left (inr (message, is_row, value)) more cut = let k = row_at-whole at row rest (message, length row) is_row in absurd cc

  -- where so many bytes may be read
  module _ (limit : ℕ) where
    -- the input is not merely too large
    not_too_large : (bytes row : List ℕ) (messages : List A) (e : WireError) (left : List ℕ) → HasRead bytes messages
        → (HasBadLength (length bytes) row e ⊎ EndsInRow (length bytes) row (Some left) e) ⊎ ReadsAs reads (length bytes) row (Err e)
        → length bytes + length row ≤ limit → ¬ IsTooLargePast reads limit ((bytes ++ row) ++ left) messages
    not_too_large bytes row messages e left so_far fault small large =
        let room = limit - length (bytes ++ row) in
        let all : length (bytes ++ row) + room ≡ limit = omega (arith, small, length-append bytes row) in
        let front : take limit ((bytes ++ row) ++ left) ≡ bytes ++ (row ++ take room left) =
        ap (λ (n : ℕ). take n ((bytes ++ row) ++ left)) (sym all) ∙ take-append-add (bytes ++ row) left room ∙ append_assoc bytes row (take room left) in
        let same : bytes ++ (row ++ take room left) ≡ large.cut.whole ++ large.cut.begun = sym front ∙ large.cut.parts in
        let whole = ends_once reads messages bytes large.cut.whole (row ++ take room left) large.cut.begun same (HasRead-whole bytes messages so_far) large.cut.before in
        let begun : row ++ take room left ≡ large.cut.begun = append_same bytes (row ++ take room left) large.cut.begun (same ∙ ap (λ (l : List ℕ). l ++ large.cut.begun) (sym whole)) in
        let cut : IsCut (length bytes) (row ++ take room left) =
        subst (λ (l : List ℕ). IsCut (length bytes) l) (sym begun) (subst (λ (l : List ℕ). IsCut (length l) large.cut.begun) (sym whole) large.cut.cut) in
        told (length bytes) row (take room left) e left fault
        (λ end. (let len : length left ≡ 0 = ap (λ (l : List ℕ). length l) end in omega (arith, large.more, small, len, length-append bytes row, length-append (bytes ++ row) left)))
        cut

    -- it stands in the input, and in what may be read of it
    faults_twice : (bytes row : List ℕ) (messages : List A) (e : WireError) (left : List ℕ) → HasRead bytes messages
        → (HasBadLength (length bytes) row e ⊎ EndsInRow (length bytes) row (Some left) e) ⊎ ReadsAs reads (length bytes) row (Err e)
        → length bytes + length row ≤ limit → StopsWithin reads limit ((bytes ++ row) ++ left) messages (Some left) (Wire e)
    faults_twice bytes row messages e left so_far fault small =
        let room = limit - length (bytes ++ row) in
        let all : length (bytes ++ row) + room ≡ limit = omega (arith, small, length-append bytes row) in
        let front : take limit ((bytes ++ row) ++ left) ≡ (bytes ++ row) ++ take room left = ap (λ (n : ℕ). take n ((bytes ++ row) ++ left)) (sym all) ∙ take-append-add (bytes ++ row) left room in (
          faults bytes row messages e left so_far fault left (λ end. end),
          ap (λ (x : List ℕ). messages_of reads x) front ∙ faults bytes row messages e left so_far fault (take room left) (λ end. ap (λ (x : List ℕ). take room x) end ∙ take-nil room),
          not_too_large bytes row messages e left so_far fault small,
        )

    stops_at : (bytes row : List ℕ) (messages : List A) (left : List ℕ) (fault : RowFault) (next : RowPosition) → HasRead bytes messages → length bytes ≤ limit
        → Answers reads (Before (length bytes) limit) row (Some left) (Err fault) next → StopsWithin reads limit ((bytes ++ row) ++ left) messages (Some left) fault
    stops_at bytes row messages left (Wire e) next so_far small answer =
        ⊎_elim (λ stop. faults_twice bytes row messages e left so_far (inl stop.0) stop.1) (λ gives. faults_twice bytes row messages e left so_far (inr gives.0) gives.1) answer.0
    stops_at bytes row messages left (Read k) next so_far small (stop, _) =
        let n : k ≡ length (bytes ++ row) = omega (arith, stop.1, length-append bytes row) in
        let front : take k ((bytes ++ row) ++ left) ≡ bytes ++ row = ap (λ (m : ℕ). take m ((bytes ++ row) ++ left)) n ∙ take-append_seam (bytes ++ row) left in
        let back : drop k ((bytes ++ row) ++ left) ≡ left = ap (λ (m : ℕ). drop m ((bytes ++ row) ++ left)) n ∙ drop-append_seam (bytes ++ row) left in
        (record { whole = bytes; begun = row; parts = front; before = HasRead-whole bytes messages so_far; cut = stop.0 }, stop.2, omega (arith, n, length-append (bytes ++ row) left), ap (λ (x : List ℕ). rest_is x) (sym back))
    stops_at bytes row messages left TooLarge next so_far small (stop, _) =
        let n : limit ≡ length bytes + (length row - 1) = omega (arith, stop.1, small) in
        let within : limit ≤ length (bytes ++ row) = omega (arith, stop.1, length-append bytes row) in
        let front : take limit ((bytes ++ row) ++ left) ≡ bytes ++ all_but_last row =
        take-append-le limit (bytes ++ row) left within ∙ ap (λ (m : ℕ). take m (bytes ++ row)) n ∙ take-append-add bytes row (length row - 1) in
        record {
          cut = record { whole = bytes; begun = all_but_last row; parts = front; before = HasRead-whole bytes messages so_far; cut = stop.0 };
          more = omega (arith, stop.1, length-append bytes row, length-append (bytes ++ row) left);
        }
    stops_at bytes row messages left Memory next so_far small answer = tt
    stops_at bytes row messages left Ended next so_far small answer = absurd answer.0

    -- ---- a loop of calls
    -- the bytes were read, which are a row of these messages, and the reader of rows stands behind them
    pub record ReadsSoFar (start now : Option (List ℕ)) (position : RowPosition) (bytes : List ℕ) (messages : List A) : Type 0 where
      pub consumed : Consumes start now bytes
      pub read : HasRead bytes messages
      pub stands : position ≡ Before (length bytes) limit
      pub small : length bytes ≤ limit

    pub reads_none : (start : Option (List ℕ)) (position : RowPosition) → position ≡ Before 0 limit → ReadsSoFar start start position [] []
    reads_none start position stands = record { consumed = Consumes-nil start; read = HasRead-nil; stands = stands; small = omega arith }

    module _ (start now left : Option (List ℕ)) (position next : RowPosition) (bytes row : List ℕ) (messages : List A) (so_far : ReadsSoFar start now position bytes messages) (read : Consumes now left row) where
      stands_before : (r : Result (Option A) RowFault) → Answers reads position row left r next → Answers reads (Before (length bytes) limit) row left r next
      stands_before r answer = subst (λ (s : RowPosition). Answers reads s row left r next) so_far.stands answer

      both : Consumes start left (bytes ++ row)
      both = Consumes-trans start now left bytes row so_far.consumed read

      pub reads_more : (v : A) → Answers reads position row left (Ok (Some v)) next → ReadsSoFar start left next (bytes ++ row) (messages ++ v ∷ [])
      reads_more v answer =
          let one = stands_before (Ok (Some v)) answer in
          record {
            consumed = both;
            read = HasRead-more bytes row messages v so_far.read one.1 one.0;
            stands = one.3 ∙ ap (λ (n : ℕ). position_at limit n) (sym (length-append bytes row));
            small = omega (arith, one.2, length-append bytes row);
          }

      pub reads_further : (v : A) → Answers reads position row left (Ok (Some v)) next → limit - offset next < limit - offset position
      reads_further v answer =
          let one = stands_before (Ok (Some v)) answer in
          let here : offset position ≡ length bytes = ap offset so_far.stands in
          let there : offset next ≡ length bytes + length row = ap offset one.3 in
          omega (arith, one.1, one.2, here, there)

      pub reads_end : Answers reads position row left (Ok None) next → IsAtEnd left × IfSome start (λ input. AreMessages reads input messages) × IfSome start (λ input. length input ≤ limit)
      reads_end answer =
          let one = stands_before (Ok None) answer in
          let all : Consumes start left bytes = subst (λ (x : List ℕ). Consumes start left x) (ap (λ (x : List ℕ). bytes ++ x) one.0 ∙ append-nil bytes) both in
          (one.1, known_end start left bytes (λ input. AreMessages reads input messages) all one.1 (HasRead-whole bytes messages so_far.read), known_end start left bytes (λ input. length input ≤ limit) all one.1 so_far.small)

      stops_by : (a b : Option (List ℕ)) (fault : RowFault) → Consumes a b (bytes ++ row) → Answers reads (Before (length bytes) limit) row b (Err fault) next → IfSome a (λ input. StopsWithin reads limit input messages b fault)
      stops_by None b fault read answer = tt
      stops_by (Some xs) None fault read answer = absurd read
      stops_by (Some xs) (Some ys) fault read answer = subst (λ (input : List ℕ). StopsWithin reads limit input messages (Some ys) fault) (sym read) (stops_at bytes row messages ys fault next so_far.read so_far.small answer)

      pub reads_stop : (fault : RowFault) → Answers reads position row left (Err fault) next → IfSome start (λ input. StopsWithin reads limit input messages left fault)
      reads_stop fault answer = stops_by start left fault both (stands_before (Err fault) answer)

      pub reads_stops : (fault : RowFault) → Answers reads position row left (Err fault) next → IfSome start (λ input. (ms : List A) × StopsWithin reads limit input ms left fault)
      reads_stops fault answer = some_then (λ (input : List ℕ). StopsWithin reads limit input messages left fault) (λ input. (ms : List A) × StopsWithin reads limit input ms left fault) (λ input stop. (messages, stop)) start (reads_stop fault answer)

      -- with what else holds of the messages
      pub reads_stop_with : (Q : List A → Type 0) → Q messages → (fault : RowFault) → Answers reads position row left (Err fault) next → IfSome start (λ input. (ms : List A) × StopsWithin reads limit input ms left fault × Q ms)
      reads_stop_with Q here fault answer = some_then (λ (input : List ℕ). StopsWithin reads limit input messages left fault) (λ input. (ms : List A) × StopsWithin reads limit input ms left fault × Q ms) (λ input stop. (messages, stop, here)) start (reads_stop fault answer)

      pub reads_end_with : (Q : List A → Type 0) → Q messages → Answers reads position row left (Ok None) next → IfSome start (λ input. (ms : List A) × AreMessages reads input ms × Q ms)
      reads_end_with Q here answer = some_then (λ (input : List ℕ). AreMessages reads input messages) (λ input. (ms : List A) × AreMessages reads input ms × Q ms) (λ input all. (messages, all, here)) start (reads_end answer).1
