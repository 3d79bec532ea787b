-- Rows that are read piece by piece.
use Rattle.std.proofs.Common.{◌≡◌, ℕ, zero, suc, ◌+◌, ◌-◌, ◌<◌, ◌≤◌, ◌≢◌, ltb, nat_lt, if◌then◌else◌, Option, Some, None, true, false, List, [], ◌∷◌, ◌++◌, length, take, drop, Result, Ok, Err, refl, sym, ap, subst, ◌∙◌, arith, inl, inr, length-append, append-nil, add-one, slice_set, length-take, take-append-drop}
use Rattle.std.proofs.lemmas.Bool.{lt-ltb, le-ltb, cases_lt}
use Rattle.std.proofs.lemmas.List.{take-take, drop-take}
use Rattle.std.proofs.Math.Seq.{take-length, take-append_seam, drop-append_seam, take-suc-set, take-append-add}
use Rattle.am_wire.specs.declared.error.WireError.{WireError}
use Rattle.am_wire.specs.declared.error.WireError.TheVariants.{Truncated, LongVarint}
use Rattle.am_wire.specs.declared.error.WireError.TheVariants as errors
use Rattle.am_wire.specs.declared.reader.RowFault.{RowFault}
use Rattle.am_wire.specs.declared.reader.RowFault.TheVariants.{Read, Wire, TooLarge, Ended, Memory}
use Rattle.am_wire.specs.declared.reader.RowPosition.{RowPosition}
use Rattle.am_wire.specs.declared.reader.RowPosition.TheVariants.{Before, Refused}
use Rattle.am_wire.specs.Varint.{one_more, varint_within, varint_at}
use Rattle.am_wire.specs.Fields.{row_at, ◌>>=◌}
use Rattle.std.specs.Io.KnownBytes.{Consumes, Keeps, IsAtEnd}
use Rattle.std.proofs.KnownBytes.{Consumes-nil, Consumes-trans}
use Rattle.am_wire.specs.Limits.{most}
use Rattle.am_wire.specs.Reader.{IsCut, IsRow, ReadsAs, Stops, Answers, row_fault, all_but_last, length_at, IsLength, ByteStops, BytesStop}
use Rattle.am_wire.proofs.Spelled.{more_ok}

abbrev cut : ℕ → Result (ℕ × ℕ) WireError
cut at = Err (Truncated at)

abbrev found : ℕ × ℕ → Result (ℕ × ℕ) WireError
found y = Ok y

abbrev lost : WireError → Result (ℕ × ℕ) WireError
lost d = Err d

ends : (b : ℕ) (y : ℕ × ℕ) → found (b, 1) ≡ found y → y.1 ≡ 0 + 1
ends b y e = let p : (b, 1) ≡ y = cc in ap (λ (q : ℕ × ℕ). q.1) (sym p)

fails : (d : WireError) (y : ℕ × ℕ) → lost d ≡ found y → ⊥
fails d y e = cc

more_cut : (b at : ℕ) (r : Result (ℕ × ℕ) WireError) → one_more b r ≡ cut at → r ≡ cut at
more_cut b at (Ok x) e = absurd cc
more_cut b at (Err d) e = cc

-- ---- numbers
-- room is left for what is cut off of a number
varint_cut : (at room : ℕ) (bytes : List ℕ) → varint_within at room bytes ≡ cut at → length bytes ≤ room
unfolding varint_within
varint_cut at room [] e = omega arith
varint_cut at zero (b ∷ bytes) e =
    elim (cases_lt b 2) [
      | inl lt ↦ let t : ltb b 2 ≡ true = lt-ltb _ _ lt in let k = rw t at e in absurd cc
      | inr le ↦ let t : ltb b 2 ≡ false = le-ltb _ _ le in let k = rw t at e in absurd cc
    ]
varint_cut at (suc room) (b ∷ bytes) e =
    elim (cases_lt b 128) [
      | inl lt ↦ let t : ltb b 128 ≡ true = lt-ltb _ _ lt in let k = rw t at e in absurd cc
      | inr le ↦
          let t : ltb b 128 ≡ false = le-ltb _ _ le in
          omega (arith, varint_cut at room bytes (more_cut b at _ (rw t at e)))
    ]

-- a byte more makes it whole at its end
varint_more : (at room b : ℕ) (bytes : List ℕ) (y : ℕ × ℕ) → varint_within at room bytes ≡ cut at → varint_within at room (bytes ++ b ∷ []) ≡ Ok y → y.1 ≡ length bytes + 1
unfolding varint_within
varint_more at zero b [] y e h =
    elim (cases_lt b 2) [
      | inl lt ↦ let t : ltb b 2 ≡ true = lt-ltb _ _ lt in ends b y (rw t at h)
      | inr le ↦ let t : ltb b 2 ≡ false = le-ltb _ _ le in absurd (fails (LongVarint at) y (rw t at h))
    ]
varint_more at (suc room) b [] y e h =
    elim (cases_lt b 128) [
      | inl lt ↦ let t : ltb b 128 ≡ true = lt-ltb _ _ lt in ends b y (rw t at h)
      | inr le ↦ let t : ltb b 128 ≡ false = le-ltb _ _ le in absurd (fails (Truncated at) y (rw t at h))
    ]
varint_more at zero b (x ∷ bytes) y e h = let room : length (x ∷ bytes) ≤ 0 = varint_cut at zero (x ∷ bytes) e in absurd (omega (arith, room))
varint_more at (suc room) b (x ∷ bytes) y e h =
    elim (cases_lt x 128) [
      | inl lt ↦ let t : ltb x 128 ≡ true = lt-ltb _ _ lt in let k = rw t at e in absurd cc
      | inr le ↦
          let t : ltb x 128 ≡ false = le-ltb _ _ le in
          let m = more_ok x (varint_within at room (bytes ++ b ∷ [])) y (rw t at h) in
          let rest = varint_more at room b bytes m.0 (more_cut x at _ (rw t at e)) m.1 in
          let one : y.1 ≡ m.0.1 + 1 = ap (λ (p : ℕ × ℕ). p.1) m.2 in
          omega (arith, rest, one)
    ]

-- a number is read, whatever follows it
varint_longer : (at room : ℕ) (bytes rest : List ℕ) (y : ℕ × ℕ) → varint_within at room bytes ≡ Ok y → varint_within at room (bytes ++ rest) ≡ Ok y
unfolding varint_within
varint_longer at room [] rest y e = absurd (fails (Truncated at) y e)
varint_longer at zero (b ∷ bytes) rest y e = e
varint_longer at (suc room) (b ∷ bytes) rest y e =
    elim (cases_lt b 128) [
      | inl lt ↦ let t : ltb b 128 ≡ true = lt-ltb _ _ lt in let k = rw t at e in rw t k
      | inr le ↦
          let t : ltb b 128 ≡ false = le-ltb _ _ le in
          let m = more_ok b (varint_within at room bytes) y (rw t at e) in
          rw (t, varint_longer at room bytes rest m.0 m.1) (sym (ap found m.2))
    ]

varint_some : (at size : ℕ) (text : List ℕ) → varint_at at text ≡ Ok (size, length text) → 0 < length text
unfolding varint_within
varint_some at size [] e = absurd (fails (Truncated at) (size, 0) e)
varint_some at size (x ∷ text) e = omega arith

-- ---- the length of a row
abbrev length_by : Result (ℕ × ℕ) WireError → Result ℕ WireError
length_by r = r >>= λ n. if nat_lt most n.0 then Err errors.TooLarge else Ok n.0

abbrev row_by : ℕ → List ℕ → Result (ℕ × ℕ) WireError → Result (List ℕ × ℕ) WireError
row_by at bytes r = r >>= λ n. if nat_lt most n.0 then Err errors.TooLarge else if nat_lt (length (drop n.1 bytes)) n.0 then Err (Truncated at) else Ok (take n.0 (drop n.1 bytes), n.1 + n.0)

length_by-row_by : (at : ℕ) (bytes : List ℕ) (e : WireError) (r : Result (ℕ × ℕ) WireError) → length_by r ≡ Err e → row_by at bytes r ≡ Err e
length_by-row_by at bytes e (Ok n) h =
    elim (cases_lt most n.0) [
      | inl lt ↦ let t : ltb most n.0 ≡ true = lt-ltb _ _ lt in let k = rw t at h in rw t cc
      | inr le ↦ let t : ltb most n.0 ≡ false = le-ltb _ _ le in let k = rw t at h in absurd cc
    ]
length_by-row_by at bytes e (Err d) h = cc

-- a length at fault is a row at fault
row_at-of_length : (at : ℕ) (bytes : List ℕ) (e : WireError) → length_at at bytes ≡ Err e → row_at at bytes ≡ Err e
unfolding length_at row_at
row_at-of_length at bytes e h = length_by-row_by at bytes e (varint_at at bytes) h

length_by-cut : (at : ℕ) (r : Result (ℕ × ℕ) WireError) → length_by r ≡ Err (Truncated at) → r ≡ cut at
length_by-cut at (Ok n) h =
    elim (cases_lt most n.0) [
      | inl lt ↦ let t : ltb most n.0 ≡ true = lt-ltb _ _ lt in let k = rw t at h in absurd cc
      | inr le ↦ let t : ltb most n.0 ≡ false = le-ltb _ _ le in let k = rw t at h in absurd cc
    ]
length_by-cut at (Err d) h = cc

-- a length that is cut is a number that is cut
length_at-cut : (at : ℕ) (bytes : List ℕ) → length_at at bytes ≡ Err (Truncated at) → varint_at at bytes ≡ cut at
unfolding length_at
length_at-cut at bytes h = length_by-cut at (varint_at at bytes) h

length_by-ok : (size : ℕ) (r : Result (ℕ × ℕ) WireError) → length_by r ≡ Ok size → (y : ℕ × ℕ) × (r ≡ Ok y) × (y.0 ≡ size) × (size ≤ most)
length_by-ok size (Ok n) h =
    elim (cases_lt most n.0) [
      | inl lt ↦ let t : ltb most n.0 ≡ true = lt-ltb _ _ lt in let k = rw t at h in absurd cc
      | inr le ↦ let t : ltb most n.0 ≡ false = le-ltb _ _ le in let k = rw t at h in let e : n.0 ≡ size = cc in (n, refl, e, omega arith)
    ]
length_by-ok size (Err d) h = absurd cc

abbrev failed : WireError → Result ℕ WireError
failed e = Err e

length_at-nil : (at : ℕ) → length_at at [] ≡ Err (Truncated at)
unfolding length_at varint_within
length_at-nil at = refl

-- a byte more makes the length whole at its end
length_whole : (at size start b : ℕ) (bytes : List ℕ) → length_at at bytes ≡ Err (Truncated at) → length_at at (bytes ++ b ∷ []) ≡ Ok size → start ≡ at + length (bytes ++ b ∷ []) → IsLength at size start (bytes ++ b ∷ [])
unfolding length_at
length_whole at size start b bytes e h place =
    let m = length_by-ok size (varint_at at (bytes ++ b ∷ [])) h in
    let one = varint_more at 9 b bytes m.0 (length_at-cut at bytes e) m.1 in
    let two : m.0.1 ≡ length (bytes ++ b ∷ []) = one ∙ sym (length-append bytes (b ∷ [])) in
    record { whole = m.1 ∙ ap (λ (n : ℕ). found (m.0.0, n)) two ∙ ap (λ (n : ℕ). found (n, length (bytes ++ b ∷ []))) m.2; small = m.3; place = place }

-- ---- all bytes but the last
all_but_last-append : (xs ys : List ℕ) → length ys ≡ 1 → all_but_last (xs ++ ys) ≡ xs
all_but_last-append xs ys e =
    let n : length (xs ++ ys) - 1 ≡ length xs = omega (arith, length-append xs ys) in
    rw n (take-append_seam xs ys)

-- ---- a loop that has read the first bytes of a length
pub record HasPart (limit at len : ℕ) (text : List ℕ) (old now : Option (List ℕ)) : Type 0 where
  pub so_far : length (take len text) ≡ len
  pub room : len ≤ 9
  pub small : at + len ≤ limit
  pub unfinished : length_at at (take len text) ≡ Err (Truncated at)
  pub consumed : Consumes old now (take len text)

pub HasPart-start : (limit at : ℕ) (text : List ℕ) (old : Option (List ℕ)) → at ≤ limit → HasPart limit at 0 text old old
HasPart-start limit at text old small = record { so_far = refl; room = omega arith; small = omega (arith, small); unfinished = length_at-nil at; consumed = Consumes-nil old }

module _ (limit at len : ℕ) (text : List ℕ) (old now : Option (List ℕ)) (h : HasPart limit at len text old now) (new : Option (List ℕ)) where
  is_cut : IsCut at (take len text)
  is_cut = row_at-of_length at (take len text) (Truncated at) h.unfinished

  -- the read of the next byte fails, or gives a byte too many
  pub stops_at_byte : (fault : RowFault) → ((more : List ℕ) × Consumes now new more × ByteStops limit (at + len) more fault) → (bytes : List ℕ) × Consumes old new bytes × Stops limit at bytes new fault
  stops_at_byte (Read k) (more, read, (none, e)) =
      let bytes : take len text ++ more ≡ take len text = rw none (append-nil (take len text)) in
      let given : Consumes old new (take len text) = subst (λ (l : List ℕ). Consumes old new l) bytes (Consumes-trans old now new _ more h.consumed read) in
      (take len text, given, (is_cut, rw h.so_far e, rw e h.small))
  stops_at_byte TooLarge (more, read, (one, above)) =
      let over : at + length (take len text ++ more) ≡ limit + 1 = omega (arith, length-append (take len text) more, h.so_far, h.small) in
      (_, Consumes-trans old now new _ more h.consumed read, (rw (all_but_last-append (take len text) more one) is_cut, over))
  stops_at_byte (Wire e) (more, read, none) = absurd none
  stops_at_byte Ended (more, read, none) = absurd none
  stops_at_byte Memory (more, read, none) = absurd none

  -- the input ends there
  pub stops_at_end : len ≢ 0 → Consumes now new [] × IsAtEnd new → (bytes : List ℕ) × Consumes old new bytes × Stops limit at bytes new (Wire (Truncated at))
  stops_at_end some (read, end) =
      let given : Consumes old new (take len text) = subst (λ (l : List ℕ). Consumes old new l) (append-nil (take len text)) (Consumes-trans old now new _ [] h.consumed read) in
      (take len text, given, (inr (is_cut, omega (arith, h.so_far), end, refl), rw h.so_far h.small))

  -- another byte comes
  module _ (byte : ℕ) (lt : len < length text) (read : Consumes now new (byte ∷ []) × (at + len < limit)) (r : Result ℕ WireError) (is : r ≡ length_at at (take (len + 1) (slice_set text len byte))) where
    more : take (len + 1) (slice_set text len byte) ≡ take len text ++ byte ∷ []
    more = rw (add-one len) (take-suc-set text len byte lt)

    given : Consumes old new (take len text ++ byte ∷ [])
    given = Consumes-trans old now new _ _ h.consumed read.0

    size : length (take len text ++ byte ∷ []) ≡ len + 1
    size = length-append (take len text) (byte ∷ []) ∙ ap (λ (n : ℕ). n + 1) h.so_far

    then_is : r ≡ length_at at (take len text ++ byte ∷ [])
    then_is = is ∙ ap (length_at at) more

    pub ends_length : (n : ℕ) → r ≡ Ok n → (bytes : List ℕ) × Consumes old new bytes × IsLength at n (at + (len + 1)) bytes × (at + (len + 1) ≤ limit)
    ends_length n e = (_, given, length_whole at n _ byte (take len text) h.unfinished (sym then_is ∙ e) (rw size refl), omega (arith, read.1))

    pub stops_in_length : (e : WireError) → r ≡ Err e → e ≢ Truncated at → (bytes : List ℕ) × Consumes old new bytes × Stops limit at bytes new (Wire e)
    stops_in_length e fault other =
        let whole = row_at-of_length at (take len text ++ byte ∷ []) e (sym then_is ∙ fault) in
        (_, given, (inl (whole, other, rw (all_but_last-append (take len text) (byte ∷ []) refl) is_cut), rw size (omega (arith, read.1))))

    pub HasPart-more : (e : WireError) → r ≡ Err e → e ≡ Truncated at → HasPart limit at (len + 1) (slice_set text len byte) old new
    HasPart-more e fault same =
        let still : length_at at (take len text ++ byte ∷ []) ≡ Err (Truncated at) = sym then_is ∙ fault ∙ ap (λ (x : WireError). failed x) same in
        let in_room = varint_cut at 9 _ (length_at-cut at _ still) in
        record {
          so_far = rw more size;
          room = omega (arith, in_room, size);
          small = omega (arith, read.1);
          unfinished = rw more still;
          consumed = rw more given;
        }

-- ---- a loop that has read the first bytes of a message
-- a piece more is read behind them
pub more_read : (a b c : Option (List ℕ)) (old new : List ℕ) (len n : ℕ) → Consumes a b (take len old) → take len new ≡ take len old → Consumes b c (take n (drop len new)) → Consumes a c (take (len + n) new)
more_read a b c old new len n first front more =
    let cut : take len (take (len + n) new) ≡ take len old = take-take len (len + n) new (omega arith) ∙ front in
    let rest : drop len (take (len + n) new) ≡ take n (drop len new) = drop-take len n new in
    let whole : take len old ++ take n (drop len new) ≡ take (len + n) new =
    ap (λ (x : List ℕ). x ++ take n (drop len new)) (sym cut) ∙ ap (λ (x : List ℕ). take len (take (len + n) new) ++ x) (sym rest) ∙ take-append-drop len (take (len + n) new) in
    subst (λ (x : List ℕ). Consumes a c x) whole (Consumes-trans a b c _ _ first more)

-- a read that fails, or finds no byte
pub none_read : (a b c : Option (List ℕ)) (bytes : List ℕ) → Consumes a b bytes → Keeps b c → Consumes a c bytes
none_read None b c bytes first same = tt
none_read (Some xs) None c bytes first same = absurd first
none_read (Some xs) (Some ys) None bytes first same = absurd same
none_read (Some xs) (Some ys) (Some zs) bytes first same = first ∙ ap (λ (l : List ℕ). bytes ++ l) (sym same)

-- ---- a message behind its length
module _ (at size start : ℕ) (text : List ℕ) (h : IsLength at size start text) where
  row_is : (more : List ℕ) → row_at at (text ++ more) ≡ (if nat_lt (length more) size then Err (Truncated at) else Ok (take size more, length text + size))
  unfolding row_at
  row_is more =
      let e : varint_at at (text ++ more) ≡ found (size, length text) = varint_longer at 9 text more (size, length text) h.whole in
      let t : ltb most size ≡ false = le-ltb _ _ h.small in
      let k = drop-append_seam text more in
      rw e (rw t (rw k refl))

  row_cut : (more : List ℕ) → length more < size → IsCut at (text ++ more)
  row_cut more lt =
      let t : ltb (length more) size ≡ true = lt-ltb _ _ lt in row_is more ∙ rw t refl

  pub row_whole : (more : List ℕ) → length more ≡ size → IsRow at (text ++ more) more
  row_whole more e =
      let t : ltb (length more) size ≡ false = le-ltb _ _ (omega arith) in
      let all : take size more ≡ more = rw (← e) (take-length more) in
      let n : length text + size ≡ length (text ++ more) = omega (arith, length-append text more) in
      row_is more ∙ rw t (rw (all, n) refl)

  length_some : 0 < length text
  length_some = varint_some at size text h.whole

  -- a byte too many came
  pub stops_above : (limit : ℕ) (more : List ℕ) → length more ≤ size → start + length more ≡ limit + 1 → start ≤ limit → IsCut at (all_but_last (text ++ more)) × (at + length (text ++ more) ≡ limit + 1)
  stops_above limit more in_size over small =
      let n = length-append text more in
      let last : length (text ++ more) - 1 ≡ length text + (length more - 1) = omega (arith, n, over, small) in
      let front : all_but_last (text ++ more) ≡ text ++ take (length more - 1) more = rw last (take-append-add text more (length more - 1)) in
      let shorter : length (take (length more - 1) more) < size = omega (arith, length-take (length more - 1) more, over, small, in_size) in
      (rw front (row_cut _ shorter), omega (arith, n, over, h.place))

  -- fewer bytes came than are wanted
  module _ (limit : ℕ) (left : Option (List ℕ)) (more : List ℕ) where
    pub stops_in_message : (wanted : ℕ) (fault : RowFault) → wanted ≤ size → start + wanted ≤ limit + 1 → BytesStop start wanted more fault → Stops limit at (text ++ more) left fault
    stops_in_message wanted (Read k) in_size in_room (lt, e) =
        let n = length-append text more in
        (row_cut more (omega (arith, lt, in_size)), omega (arith, e, n, h.place), omega (arith, e, lt, in_room))
    stops_in_message wanted Memory in_size in_room stop = tt
    stops_in_message wanted TooLarge in_size in_room stop = absurd stop
    stops_in_message wanted (Wire e) in_size in_room stop = absurd stop
    stops_in_message wanted Ended in_size in_room stop = absurd stop

    -- the input ends there
    pub stops_before_end : length more < size → start + length more ≤ limit → IsAtEnd left → Stops limit at (text ++ more) left (Wire (Truncated at))
    stops_before_end lt small end =
        let n = length-append text more in
        (inr (row_cut more lt, omega (arith, n, length_some), end, refl), omega (arith, n, small, h.place))

-- ---- a call's answer
abbrev position : ℕ → ℕ → RowPosition
position limit at = Before at limit

module _ {A : Type 0} (reads : ℕ → List ℕ → Result A WireError) (limit at : ℕ) where
  pub answers_stop : (bytes : List ℕ) (left : Option (List ℕ)) (fault : RowFault) → Stops limit at bytes left fault → Answers reads (Before at limit) bytes left (Err fault) Refused
  answers_stop bytes left (Read k) stop = (stop, refl)
  answers_stop bytes left (Wire e) stop = (inl stop, refl)
  answers_stop bytes left TooLarge stop = (stop, refl)
  answers_stop bytes left Ended stop = (stop, refl)
  answers_stop bytes left Memory stop = (stop, refl)

  -- a length and then a message were read, or not all of it
  module _ (size start : ℕ) (a b c : Option (List ℕ)) (front : (text : List ℕ) × Consumes a b text × IsLength at size start text × (start ≤ limit)) where
    pub answers_cut : (fault : RowFault) → ((bytes : List ℕ) × Consumes b c bytes × ((text : List ℕ) → IsLength at size start text → Stops limit at (text ++ bytes) c fault))
        → (bytes : List ℕ) × Consumes a c bytes × Answers reads (Before at limit) bytes c (Err fault) Refused
    answers_cut fault (bytes, more, stop) = (_, Consumes-trans a b c front.0 bytes front.1 more, answers_stop _ c fault (stop front.0 front.2))

    module _ (items : List ℕ) (back : (bytes : List ℕ) × Consumes b c bytes × ((text : List ℕ) → IsLength at size start text → (items ≡ bytes) × (length bytes ≡ size) × IsRow at (text ++ bytes) bytes × (at + length (text ++ bytes) ≤ limit))) where
      both : Consumes a c (front.0 ++ back.0)
      both = Consumes-trans a b c front.0 back.0 front.1 back.1

      whole : (items ≡ back.0) × (length back.0 ≡ size) × IsRow at (front.0 ++ back.0) back.0 × (at + length (front.0 ++ back.0) ≤ limit)
      whole = back.2 front.0 front.2

      reads_as : (now : List ℕ) → now ≡ items → (r : Result A WireError) → reads start now ≡ r → ReadsAs reads at (front.0 ++ back.0) r
      reads_as now is r e =
          let begins : at + (length (front.0 ++ back.0) - length back.0) ≡ start = omega (arith, length-append front.0 back.0, front.2.place) in
          (back.0, whole.2, rw (begins, ← whole.0, ← is) e)

      -- the reader stands within its limit
      pub ends_below : (place bound : ℕ) → Before (start + size) limit ≡ Before place bound → place ≤ bound
      ends_below place bound same =
          let ends : start + size ≡ place = cc in
          let stays : limit ≡ bound = cc in
          omega (arith, ends, stays, whole.1, whole.3, length-append front.0 back.0, front.2.place)

      pub answers_value : (now : List ℕ) → now ≡ items → (v : A) → reads start now ≡ Ok v → (bytes : List ℕ) × Consumes a c bytes × Answers reads (Before at limit) bytes c (Ok (Some v)) (Before (start + size) limit)
      answers_value now is v e =
          let end : start + size ≡ at + length (front.0 ++ back.0) = omega (arith, whole.1, length-append front.0 back.0, front.2.place) in
          let some = length_some at size start front.0 front.2 in
          (_, both, (reads_as now is (Ok v) e, omega (arith, some, length-append front.0 back.0), whole.3, ap (λ (k : ℕ). position limit k) end))

      pub answers_fault : (now : List ℕ) → now ≡ items → (e : WireError) → (e ≢ errors.Memory → reads start now ≡ Err e) → (bytes : List ℕ) × Consumes a c bytes × Answers reads (Before at limit) bytes c (Err (row_fault e)) Refused
      answers_fault now is errors.Memory fault = (_, both, (tt, refl))
      answers_fault now is e fault = let other : e ≢ errors.Memory = λ same. absurd cc in (_, both, (inr (reads_as now is (Err e) (fault other), whole.3, other), refl))
