-- Bytes are read exactly as they spell.
use Rattle.std.proofs.Common.{◌≡◌, ℕ, zero, suc, ◌+◌, ◌*◌, ◌/◌, ◌%◌, ◌<◌, ◌≤◌, Bool, ltb, true, false, List, [], ◌∷◌, ◌++◌, length, map, take, drop, Result, refl, ap, ◌∙◌, append_assoc, length-append, arith, inl, inr, ◌^◌, sym}
use Rattle.std.specs.List.{All, AllPass, flat_map}
use Rattle.std.proofs.lemmas.Bool.{lt-ltb, le-ltb, cases_lt}
use Rattle.std.proofs.lemmas.List.{take_at, drop_at}
use Rattle.std.proofs.lemmas.List.Elements.{All-cons, All-head, All-tail}
use Rattle.am_wire.specs.Limits.{most}
use Rattle.am_wire.specs.declared.error.WireError.{WireError}
use Rattle.am_wire.specs.declared.value.WireType.{WireType}
use Rattle.am_wire.specs.Varint.{IsVarint, IsChain, total, varint_at, groups, shortest}
use Rattle.am_wire.specs.Fields.{FieldAt, fields_of, field_at, row_at, rows_of, any}
use Rattle.am_wire.specs.Grammar.{AreSpelled, AreFields, IsRow, AreRows, ArePacked, field_fits}
use Rattle.am_wire.specs.Reading.{unpacked}
use Rattle.am_wire.specs.Writing.{delimited, writes_rows}
use Rattle.am_wire.specs.RoundTrip.Varints.{varint_read, varint_filled, shortest_spells}
use Rattle.am_wire.specs.RoundTrip.Pieces.{done, Reads, pieces-spelled}
use Rattle.am_wire.specs.RoundTrip.Fields.{field_read}
use Rattle.am_wire.proofs.Found.{IsTaken, IsNumber, field_found, number_found, row_found, pieces_found}

-- ---- one way only
done_is : {A : Type 0} (x y : A) (xs ys : List A) → map done (x ∷ xs) ≡ map done (y ∷ ys) → (x ≡ y) × (map done xs ≡ map done ys)
done_is x y xs ys h = (cc, cc)

pub lists_are : {A : Type 0} (xs ys : List A) → map done xs ≡ map done ys → xs ≡ ys
lists_are [] [] h = refl
lists_are [] (y ∷ ys) h = absurd cc
lists_are (x ∷ xs) [] h = absurd cc
lists_are {A} (x ∷ xs) (y ∷ ys) h =
    let parts = done_is x y xs ys h in
    let rest = lists_are xs ys parts.1 in
    ap (λ (z : A). z ∷ xs) parts.0 ∙ ap (λ (zs : List A). y ∷ zs) rest

read_is : (x y : ℕ × ℕ) → done x ≡ done y → x ≡ y
read_is x y h = cc

pub varints_one_way : (n m : ℕ) (text other rest more : List ℕ) → IsVarint text n → IsVarint other m → text ++ rest ≡ other ++ more → (n ≡ m) × (text ≡ other)
varints_one_way n m text other rest more first second same =
    let same_read = sym (varint_read 0 n text rest first) ∙ ap (varint_at 0) same ∙ varint_read 0 m other more second in
    let are = read_is (n, length text) (m, length other) same_read in
    let len : length text ≡ length other = ap (λ (p : ℕ × ℕ). p.1) are in
    (ap (λ (p : ℕ × ℕ). p.0) are, sym (take_at text rest (length text) refl) ∙ ap (take (length text)) same ∙ take_at other more (length text) (sym len))

-- ---- fields
module _ (fits : ℕ → WireType → Bool) where
  abbrev Fits : FieldAt → Type 0
  Fits e = field_fits fits e ≡ true

  pub taken_parts : (es : List FieldAt) (at : ℕ) (bytes : List ℕ) → AreSpelled (IsTaken fits) es at bytes → AreFields es at bytes × AllPass (field_fits fits) es
  taken_parts [] at bytes h = (h, λ k d lt. absurd (omega arith))
  taken_parts (e ∷ es) at bytes (text, rest, is, one, others) =
      let more = taken_parts es (at + length text) rest others in
      ((text, rest, is, one.0, more.0), All-cons Fits e es one.1 more.1)

  pub taken_from : (es : List FieldAt) (at : ℕ) (bytes : List ℕ) → AreFields es at bytes → AllPass (field_fits fits) es → AreSpelled (IsTaken fits) es at bytes
  taken_from [] at bytes h fit = h
  taken_from (e ∷ es) at bytes (text, rest, is, one, others) fit =
      (text, rest, is, (one, All-head Fits e es fit), taken_from es (at + length text) rest others (All-tail Fits e es fit))

  pub fields_found : (at : ℕ) (bytes : List ℕ) (es : List FieldAt) → fields_of fits at bytes ≡ map done es → AreFields es at bytes × AllPass (field_fits fits) es
  fields_found at bytes es h = taken_parts es at bytes (pieces_found (field_at fits) (IsTaken fits) (field_found fits) es at bytes h)

  pub fields_read : (at : ℕ) (bytes : List ℕ) (es : List FieldAt) → AreFields es at bytes → AllPass (field_fits fits) es → fields_of fits at bytes ≡ map done es
  fields_read at bytes es is fit =
      pieces-spelled (field_at fits) (IsTaken fits) (λ e p text h. field_read fits e p text h.0 h.1) es at bytes (taken_from es at bytes is fit)

pub any_fields_read : (at : ℕ) (bytes : List ℕ) (es : List FieldAt) → AreFields es at bytes → fields_of any at bytes ≡ map done es
any_fields_read at bytes es is = fields_read any at bytes es is (λ k d lt. refl)

pub fields_one_way : (at : ℕ) (bytes : List ℕ) (es others : List FieldAt) → AreFields es at bytes → AreFields others at bytes → es ≡ others
fields_one_way at bytes es others first second = lists_are es others (sym (any_fields_read at bytes es first) ∙ any_fields_read at bytes others second)

-- ---- rows
pub row_read : (message : List ℕ) (at : ℕ) (text : List ℕ) → IsRow message at text → Reads row_at message at text
unfolding row_at
row_read message at text is =
    let size : List ℕ = is.size in
    let len : length text ≡ length size + length message = ap length is.text_is ∙ length-append size message in
    let filled = varint_filled _ _ is.size_is in
    record {
      filled = omega (arith, len, filled);
      reads = λ rest.
          let regroup : text ++ rest ≡ size ++ (message ++ rest) = ap (λ (x : List ℕ). x ++ rest) is.text_is ∙ append_assoc size message rest in
          let sized = varint_read at (length message) size (message ++ rest) is.size_is in
          let small : ltb most (length message) ≡ false = le-ltb _ _ is.not_large in
          let cut : drop (length size) (size ++ (message ++ rest)) ≡ message ++ rest = drop_at size (message ++ rest) (length size) refl in
          let room : ltb (length (message ++ rest)) (length message) ≡ false = le-ltb _ _ (omega (arith, length-append message rest)) in
          let front : take (length message) (message ++ rest) ≡ message = take_at message rest (length message) refl in
          ap (row_at at) regroup ∙ rw (sized, small, cut, room, front, len) refl;
    }

pub rows_found : (bytes : List ℕ) (messages : List (List ℕ)) → rows_of bytes ≡ map done messages → AreRows messages bytes
rows_found bytes messages h = pieces_found row_at IsRow row_found messages 0 bytes h

pub rows_read : (bytes : List ℕ) (messages : List (List ℕ)) → AreRows messages bytes → rows_of bytes ≡ map done messages
rows_read bytes messages is = pieces-spelled row_at IsRow row_read messages 0 bytes is

pub rows_one_way : (bytes : List ℕ) (messages others : List (List ℕ)) → AreRows messages bytes → AreRows others bytes → messages ≡ others
rows_one_way bytes messages others first second = lists_are messages others (sym (rows_read bytes messages first) ∙ rows_read bytes others second)

abbrev IsSmall : List ℕ → Type 0
IsSmall message = length message ≤ most

pub rows_written : (messages : List (List ℕ)) (at : ℕ) → All IsSmall messages → AreSpelled IsRow messages at (writes_rows messages)
rows_written [] at small = refl
rows_written (m ∷ messages) at small =
    let low = All-head IsSmall m messages small in
    let row : IsRow m at (delimited m) = record { size = shortest (length m); size_is = shortest_spells (length m) (omega arith); text_is = refl; not_large = low } in
    (delimited m, writes_rows messages, refl, row, rows_written messages (at + length (delimited m)) (All-tail IsSmall m messages small))

-- ---- packed numbers
module _ (tag : ℕ) (bytes numbers : List ℕ) where
  abbrev front : ℕ → List ℕ → Result (ℕ × ℕ) WireError
  front at text = varint_at tag text

  pub numbers_found : unpacked tag bytes ≡ map done numbers → ArePacked numbers bytes
  numbers_found h = pieces_found front IsNumber (number_found tag) numbers 0 bytes h

  pub numbers_read : ArePacked numbers bytes → unpacked tag bytes ≡ map done numbers
  numbers_read is = pieces-spelled front IsNumber (λ n at text v. record { filled = varint_filled text n v; reads = λ rest. varint_read tag n text rest v }) numbers 0 bytes is

pub numbers_one_way : (bytes numbers others : List ℕ) → ArePacked numbers bytes → ArePacked others bytes → numbers ≡ others
numbers_one_way bytes numbers others first second = lists_are numbers others (sym (numbers_read 0 bytes numbers first) ∙ numbers_read 0 bytes others second)

abbrev Fits64 : ℕ → Type 0
Fits64 n = n < 2 ^ 64

pub numbers_written : (numbers : List ℕ) (at : ℕ) → All Fits64 numbers → AreSpelled IsNumber numbers at (flat_map shortest numbers)
numbers_written [] at small = refl
numbers_written (n ∷ numbers) at small =
    (shortest n, flat_map shortest numbers, refl, shortest_spells n (All-head Fits64 n numbers small), numbers_written numbers (at + length (shortest n)) (All-tail Fits64 n numbers small))

-- ---- no spelling is shorter
groups_least : (room : ℕ) (text : List ℕ) → IsChain text → length (groups room (total text)) ≤ length text
unfolding groups
groups_least room [] chain = absurd chain
groups_least zero (b ∷ text) chain = omega arith
groups_least (suc room) (b ∷ []) chain =
    let small : b % 128 + 128 * 0 < 128 = omega arith in
    let t : ltb (b % 128 + 128 * 0) 128 ≡ true = lt-ltb _ _ small in
    rw t (omega arith)
groups_least (suc room) (b ∷ c ∷ text) chain =
    let n : ℕ = total (b ∷ c ∷ text) in
    elim (cases_lt n 128) [
      | inl lt ↦ let t : ltb n 128 ≡ true = lt-ltb _ _ lt in rw t (omega arith)
      | inr le ↦
          let t : ltb n 128 ≡ false = le-ltb _ _ le in
          let rest : n / 128 ≡ total (c ∷ text) = omega arith in
          let more = groups_least room (c ∷ text) chain.1 in
          rw (t, rest) (omega (arith, more))
    ]

pub shortest_least : (n : ℕ) (text : List ℕ) → IsVarint text n → length (shortest n) ≤ length text
shortest_least n text v = rw v.value (groups_least 9 text v.chain)
