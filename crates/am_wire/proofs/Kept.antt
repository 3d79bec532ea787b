-- The fields of a message that are kept: those that are unknown, which are fields wherever they stand.
use Rattle.std.proofs.Common.{◌≡◌, ℕ, zero, suc, ◌-◌, ◌+◌, ◌*◌, ◌<◌, ◌≤◌, true, false, cond, List, [], ◌∷◌, ◌++◌, length, take, drop}
use Rattle.std.proofs.Common.{Result, Ok, Err, refl, sym, ap, subst, ◌∙◌, append_assoc, length-append, arith}
use Rattle.std.specs.List.{All, flat_map}
use Rattle.std.proofs.lemmas.List.{append-nil, take_at, drop_at}
use Rattle.std.proofs.lemmas.List.Elements.{All-nil, All-cons, All-head, All-tail, All-append}
use Rattle.am_wire.specs.declared.error.WireError.{WireError}
use Rattle.am_wire.specs.Fields.{FieldAt, Payload, varint, eight, four, delimited_at, field_at, any, pieces, next_piece}
use Rattle.am_wire.specs.Grammar.{IsPayload, IsField, AreFields, wire_type_of, wire_code}
use Rattle.am_wire.specs.Reading.{until_fault}
use Rattle.am_wire.specs.Unknown.{knows, IsOther, unknown_at, unknown_in, AllUnknown, AreUnknown, IsUnknown, expiring_numbers, none}
use Rattle.am_wire.specs.RoundTrip.Pieces.{pieces-first}
use Rattle.am_wire.specs.RoundTrip.Fields.{field_read}
use Rattle.am_wire.specs.Varint.{IsVarint}

-- ---- a field at another offset
payload_moved : (p : Payload) (at to : ℕ) (text : List ℕ) → IsPayload p at text
    → (q : Payload) × IsPayload q to text × (wire_type_of q ≡ wire_type_of p)
payload_moved (varint n) at to text is = (varint n, is, refl)
payload_moved (eight n) at to text is = (eight n, is, refl)
payload_moved (four n) at to text is = (four n, is, refl)
payload_moved (delimited_at inside bytes) at to text is = (
  delimited_at (to + length is.size) bytes,
  record { size = is.size; size_is = is.size_is; text_is = is.text_is; inside_is = refl },
  refl,
)

pub field_moved : (e : FieldAt) (at to : ℕ) (text : List ℕ) → IsField e at text → (f : FieldAt) × IsField f to text × (f.number ≡ e.number)
field_moved e at to text is =
    let q = payload_moved e.payload (at + length is.tag) (to + length is.tag) is.payload is.payload_is in (
      record { number = e.number; payload = q.0; at = to },
      record {
        tag = is.tag;
        payload = is.payload;
        text_is = is.text_is;
        at_is = refl;
        above_none = is.above_none;
        below_all = is.below_all;
        tag_is = subst (λ kind. IsVarint is.tag (e.number * 8 + wire_code kind)) (sym q.2) is.tag_is;
        payload_is = q.1;
      },
      refl,
    )

-- ---- what is kept of fields
module _ (known : List ℕ) where
  abbrev front : ℕ → List ℕ → Result (List ℕ × ℕ) WireError
  front at text = unknown_at known text

  -- the unknown fields of bytes, behind so many others
  abbrev pub unknown_from : ℕ → List ℕ → List ℕ
  unknown_from place bytes = flat_map (λ text. text) (until_fault (pieces front 0 place bytes))

  -- a field itself, where it is unknown
  abbrev pub kept : FieldAt → List ℕ → List ℕ
  kept e text = cond (knows known e.number) [] text

  pub kept_first : (place : ℕ) (bytes : List ℕ) (e : FieldAt) (len : ℕ) → field_at any 0 bytes ≡ Ok (e, len) → 0 < len → len ≤ length bytes
      → unknown_from place bytes ≡ kept e (take len bytes) ++ unknown_from (place + len) (drop len bytes)
  unfolding unknown_at
  kept_first place bytes e len is pos within =
      let one : front place bytes ≡ Ok (kept e (take len bytes), len) = rw is refl in
      ap (λ items. flat_map (λ text. text) (until_fault items)) (pieces-first front place bytes (kept e (take len bytes), len) one pos within)

  pub kept_none : (place : ℕ) (bytes : List ℕ) (fault : WireError) → field_at any 0 bytes ≡ Err fault → unknown_from place bytes ≡ []
  unfolding unknown_at pieces
  kept_none place [] fault is = refl
  kept_none place (b ∷ bytes) fault is = rw is refl

  -- it is the same behind however many others
  pieces_anywhere : (skip at to : ℕ) (bytes : List ℕ) → pieces front skip at bytes ≡ pieces front skip to bytes
  unfolding pieces
  pieces_anywhere skip at to [] = refl
  pieces_anywhere zero at to (b ∷ bytes) =
      next_alike (unknown_at known (b ∷ bytes)) (λ skip. pieces_anywhere skip (at + 1) (to + 1) bytes)
    where
      next_alike : {others more : ℕ → List (Result (List ℕ) WireError)} (r : Result (List ℕ × ℕ) WireError)
          → ((skip : ℕ) → others skip ≡ more skip) → next_piece others r ≡ next_piece more r
      next_alike (Ok x) same = ap (λ rest. Ok x.0 ∷ rest) (same (x.1 - 1))
      next_alike (Err e) same = refl
  pieces_anywhere (suc skip) at to (b ∷ bytes) = pieces_anywhere skip (at + 1) (to + 1) bytes

  kept_then : (e : FieldAt) (at place : ℕ) (text rest : List ℕ) → IsField e at text
      → unknown_from place (text ++ rest) ≡ kept e text ++ unknown_from (place + length text) rest
  kept_then e at place text rest is =
      let (f, says, same) = field_moved e at 0 text is in
      let read = field_read any f 0 text says refl in
      let within : length text ≤ length (text ++ rest) = omega (arith, length-append text rest) in
      let first = kept_first place (text ++ rest) f (length text) (read.reads rest) read.filled within in
      rw (take_at text rest (length text) refl, drop_at text rest (length text) refl, same) at first

  -- nothing of known fields is
  pub known_passed : (es : List FieldAt) (at place : ℕ) (text rest : List ℕ) → AreFields es at text → All (λ e. knows known e.number ≡ true) es
      → unknown_from place (text ++ rest) ≡ unknown_from (place + length text) rest
  known_passed [] at place text rest is all = rw is (ap (λ n. unknown_from n rest) (omega arith))
  known_passed (e ∷ es) at place text rest (one_text, others, is, one, more) all =
      let regroup : text ++ rest ≡ one_text ++ (others ++ rest) = ap (λ t. t ++ rest) is ∙ append_assoc one_text others rest in
      let none : kept e one_text ≡ [] = ap (λ b. cond b [] one_text) (All-head (λ (e : FieldAt). knows known e.number ≡ true) e es all) in
      let place_is : place + length one_text + length others ≡ place + length text = omega (arith, ap length is, length-append one_text others) in
      ap (unknown_from place) regroup ∙ kept_then e at place one_text (others ++ rest) one
      ∙ ap (λ t. t ++ unknown_from (place + length one_text) (others ++ rest)) none
      ∙ known_passed es (at + length one_text) (place + length one_text) others rest more (All-tail (λ (e : FieldAt). knows known e.number ≡ true) e es all)
      ∙ ap (λ n. unknown_from n rest) place_is

  -- unknown fields are, all of them
  pub unknown_stay : (es : List FieldAt) (at place : ℕ) (text : List ℕ) → AreFields es at text → AllUnknown known es → unknown_from place text ≡ text
  unfolding pieces
  unknown_stay [] at place text is all = rw is refl
  unknown_stay (e ∷ es) at place text (one_text, others, is, one, more) all =
      let own : kept e one_text ≡ one_text = ap (λ b. cond b [] one_text) (All-head (IsOther known) e es all) in
      let rest = unknown_stay es (at + length one_text) (place + length one_text) others more (All-tail (IsOther known) e es all) in
      ap (unknown_from place) is ∙ kept_then e at place one_text others one ∙ rw (own, rest) (sym is)

  -- ---- what is kept are unknown fields
  pub none_unknown : AreUnknown known []
  none_unknown at = record { fields = []; spelled = refl; unknown = All-nil (IsOther known) }

  pub is_none : IsUnknown known none
  is_none = record {
    inner = none_unknown;
    outer = λ at. record { fields = []; spelled = refl; unknown = All-nil (IsOther expiring_numbers) };
  }

  pub fields_joined : (es fs : List FieldAt) (at : ℕ) (text rest : List ℕ) → AreFields es at text → AreFields fs (at + length text) rest
      → AreFields (es ++ fs) at (text ++ rest)
  fields_joined [] fs at text rest first second = rw first (subst (λ n. AreFields fs n rest) (omega (arith, ap length first)) second)
  fields_joined (e ∷ es) fs at text rest (one_text, others, is, one, more) second =
      let place : at + length text ≡ at + length one_text + length others = omega (arith, ap length is, length-append one_text others) in (
        one_text,
        others ++ rest,
        ap (λ t. t ++ rest) is ∙ append_assoc one_text others rest,
        one,
        fields_joined es fs (at + length one_text) others rest more (subst (λ n. AreFields fs n rest) place second),
      )

  pub unknown_joined : (text rest : List ℕ) → AreUnknown known text → AreUnknown known rest → AreUnknown known (text ++ rest)
  unknown_joined text rest first second at =
      let one = first at in
      let two = second (at + length text) in
      record {
        fields = one.fields ++ two.fields;
        spelled = fields_joined one.fields two.fields at text rest one.spelled two.spelled;
        unknown = All-append (IsOther known) one.fields two.fields one.unknown two.unknown;
      }

  kept_unknown : (e : FieldAt) (at : ℕ) (text : List ℕ) → IsField e at text → AreUnknown known (kept e text)
  kept_unknown e at text is =
      elim (knows known e.number) as (λ b. knows known e.number ≡ b → AreUnknown known (cond b [] text)) [
        | true ↦ λ _. none_unknown
        | false ↦ λ new to.
            let (f, says, same) = field_moved e at to text is in
            record {
              fields = f ∷ [];
              spelled = (text, [], sym (append-nil text), says, refl);
              unknown = All-cons (IsOther known) f [] (ap (knows known) same ∙ new) (All-nil (IsOther known));
            }
      ] refl

  pub fields_unknown : (es : List FieldAt) (at place : ℕ) (bytes : List ℕ) → AreFields es at bytes → AreUnknown known (unknown_from place bytes)
  unfolding pieces
  fields_unknown [] at place bytes is = rw is none_unknown
  fields_unknown (e ∷ es) at place bytes (text, rest, is, one, more) =
      rw (is, kept_then e at place text rest one)
      (unknown_joined (kept e text) (unknown_from (place + length text) rest) (kept_unknown e at text one)
      (fields_unknown es (at + length text) (place + length text) rest more))

-- ---- the same of a whole text
module _ (known : List ℕ) where
  pub first_field : (at : ℕ) (e : FieldAt) (text rest : List ℕ) → IsField e at text
      → unknown_in known (text ++ rest) ≡ kept known e text ++ unknown_in known rest
  unfolding unknown_in
  first_field at e text rest is =
      kept_then known e at 0 text rest is
      ∙ ap (λ items. kept known e text ++ flat_map (λ t. t) (until_fault items)) (pieces_anywhere known 0 (0 + length text) 0 rest)

  pub no_field : (bytes : List ℕ) (fault : WireError) → field_at any 0 bytes ≡ Err fault → unknown_in known bytes ≡ []
  unfolding unknown_in
  no_field bytes fault is = kept_none known 0 bytes fault is

  pub all_unknown : (at : ℕ) (bytes : List ℕ) (es : List FieldAt) → AreFields es at bytes → AreUnknown known (unknown_in known bytes)
  unfolding unknown_in
  all_unknown at bytes es is = fields_unknown known es at 0 bytes is

  pub all_stay : (bytes : List ℕ) → AreUnknown known bytes → unknown_in known bytes ≡ bytes
  unfolding unknown_in
  all_stay bytes unknown = let own = unknown 0 in unknown_stay known own.fields 0 0 bytes own.spelled own.unknown
