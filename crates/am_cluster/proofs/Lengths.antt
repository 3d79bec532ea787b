-- Versions and entries of short words are not too large.
use Rattle.std.proofs.Common.{◌≡◌, ℕ, zero, suc, ◌+◌, ◌*◌, ◌/◌, ◌%◌, ◌≤◌, Bool, true, false, ltb, eqb, cond, List, [], ◌∷◌, ◌++◌, length, length-append, ap, arith, inl, inr}
use Rattle.std.specs.List.{flat_map}
use Rattle.std.proofs.lemmas.List.{append-nil}
use Rattle.std.proofs.lemmas.Bool.{lt-ltb, le-ltb, cases_lt}
use Rattle.am_wire.specs.Limits.{most}
use Rattle.am_wire.specs.Varint.{groups, shortest}
use Rattle.am_wire.specs.Writing.{tag, writes_number, writes_delimited, writes_text, writes_numbers, writes_messages}
use Rattle.am_wire.specs.Timestamps.{writes_moment, seconds_number}
use Rattle.am_silence.specs.Kinds.{kind_code}
use Rattle.am_silence.specs.Matchers.{writes_matcher}
use Rattle.am_silence.specs.declared.matcher.MatcherKind.TheVariants as kinds
use Rattle.am_silence.specs.declared.silence.Silence.{Silence}
use Rattle.am_silence.specs.Silences.{writes_silence}
use Rattle.am_silence.specs.Mesh.{plain_version, writes_mesh_silence}
use Rattle.am_nflog.specs.declared.receiver.Receiver.{Receiver}
use Rattle.am_nflog.specs.declared.entry.Entry.{Entry}
use Rattle.am_nflog.specs.Receivers.{writes_receiver}
use Rattle.am_nflog.specs.Entries.{writes_entry}
use Rattle.am_nflog.specs.Mesh.{plain_version as plain_entry, writes_mesh_entry}
use Rattle.am_nflog.specs.Made.{made_entry}
use Rattle.am_schedule.specs.declared.step.SilenceLine.{SilenceLine}
use Rattle.am_schedule.specs.declared.step.LogLine.{LogLine}
use Rattle.am_cluster.specs.Versions.{wants, silence_of, entry_of}

few_groups : (room n : ℕ) → length (groups room n) ≤ room + 1
unfolding groups
few_groups zero n = omega arith
few_groups (suc room) n =
    elim (cases_lt n 128) [
      | inl lt ↦ let t : ltb n 128 ≡ true = lt-ltb _ _ lt in rw t (omega arith)
      | inr le ↦ let t : ltb n 128 ≡ false = le-ltb _ _ le in let more = few_groups room (n / 128) in rw t (omega (arith, more))
    ]

number_size : (n v : ℕ) → length (writes_number n v) ≤ 20
number_size n v = by_zero (eqb v 0)
  where
    by_zero : (b : Bool) → length (cond b [] (tag n 0 ++ shortest v)) ≤ 20
    by_zero true = omega arith
    by_zero false = omega (arith, length-append (tag n 0) (shortest v), few_groups 9 (n * 8 + 0), few_groups 9 v)

delimited_size : (n : ℕ) (bytes : List ℕ) → length (writes_delimited n bytes) ≤ 20 + length bytes
delimited_size n bytes =
    omega (arith, length-append (tag n 2) (shortest (length bytes) ++ bytes), length-append (shortest (length bytes)) bytes, few_groups 9 (n * 8 + 2), few_groups 9 (length bytes))

text_size : (n : ℕ) (bytes : List ℕ) → length (writes_text n bytes) ≤ 20 + length bytes
text_size n bytes = by_length (eqb (length bytes) 0)
  where
    by_length : (b : Bool) → length (cond b [] (writes_delimited n bytes)) ≤ 20 + length bytes
    by_length true = omega arith
    by_length false = delimited_size n bytes

packed_size : (numbers : List ℕ) → length (flat_map shortest numbers) ≤ 10 * length numbers
packed_size [] = omega arith
packed_size (n ∷ numbers) = omega (arith, length-append (shortest n) (flat_map shortest numbers), few_groups 9 n, packed_size numbers)

numbers_size : (n : ℕ) (numbers : List ℕ) → length (writes_numbers n numbers) ≤ 20 + 10 * length numbers
numbers_size n numbers = omega (arith, text_size n (flat_map shortest numbers), packed_size numbers)

moment_size : (at : ℕ) → length (writes_moment at) ≤ 40
unfolding writes_moment
moment_size at =
    omega (arith, length-append (writes_number 1 (seconds_number at)) (writes_number 2 (at % 1_000_000_000)), number_size 1 (seconds_number at), number_size 2 (at % 1_000_000_000))

part_moment_size : (n at : ℕ) → length (writes_delimited n (writes_moment at)) ≤ 60
part_moment_size n at = omega (arith, delimited_size n (writes_moment at), moment_size at)

-- ---- silences
one_matcher : (name value : List ℕ) → length (writes_messages writes_matcher 2 (wants name value)) ≤ 80 + (length name + length value)
unfolding writes_matcher
one_matcher name value =
    let number = writes_number 1 (kind_code kinds.Equal) in
    let text = number ++ (writes_text 2 name ++ writes_text 3 value) in
    omega (
      arith,
      ap (λ (l : List ℕ). length l) (append-nil (writes_delimited 2 text)),
      delimited_size 2 text,
      length-append number (writes_text 2 name ++ writes_text 3 value),
      length-append (writes_text 2 name) (writes_text 3 value),
      number_size 1 (kind_code kinds.Equal),
      text_size 2 name,
      text_size 3 value,
    )

silence_size : (s : Silence) (most_matchers : ℕ) → length (writes_messages writes_matcher 2 s.matchers) ≤ most_matchers
    → length (writes_silence s) ≤ 240 + (length s.id + (most_matchers + (length s.created_by + length s.comment)))
unfolding writes_silence
silence_size s m matchers =
    omega (arith, length-append {A = ℕ}, text_size 1 s.id, matchers, part_moment_size 3 s.starts_at, part_moment_size 4 s.ends_at, part_moment_size 5 s.updated_at, text_size 8 s.created_by, text_size 9 s.comment)

mesh_silence_size : (s : Silence) (expires_at : ℕ) → length (writes_mesh_silence (plain_version s expires_at)) ≤ 80 + length (writes_silence s)
unfolding writes_mesh_silence
mesh_silence_size s expires_at =
    let text = writes_silence s ++ [] in
    omega (
      arith,
      length-append (writes_silence s) [],
      length-append (writes_delimited 1 text ++ writes_delimited 2 (writes_moment expires_at)) [],
      length-append (writes_delimited 1 text) (writes_delimited 2 (writes_moment expires_at)),
      delimited_size 1 text,
      part_moment_size 2 expires_at,
    )

-- a line of short words
pub silence_fits : (line : SilenceLine) → length line.id ≤ 1024 → length line.name ≤ 1024 → length line.value ≤ 1024 → length (writes_mesh_silence (silence_of line)) ≤ most
silence_fits line id name value =
    let v = silence_of line in
    omega (arith, mesh_silence_size v.silence v.expires_at, silence_size v.silence (80 + (length line.name + length line.value)) (one_matcher line.name line.value), id, name, value)

-- ---- entries
receiver_size : (r : Receiver) → length (writes_receiver r) ≤ 60 + (length r.group_name + length r.integration)
unfolding writes_receiver
receiver_size r = omega (arith, length-append {A = ℕ}, text_size 1 r.group_name, text_size 2 r.integration, number_size 3 r.idx)

entry_size : (e : Entry) → length (writes_entry e) ≤ 280 + (length e.key.group_key + (length e.key.receiver.group_name + (length e.key.receiver.integration + (length e.group_hash + (10 * length e.firing_alerts + 10 * length e.resolved_alerts)))))
unfolding writes_entry
entry_size e =
    omega (
      arith,
      length-append {A = ℕ},
      text_size 1 e.key.group_key,
      delimited_size 2 (writes_receiver e.key.receiver),
      receiver_size e.key.receiver,
      text_size 3 e.group_hash,
      number_size 4 (cond e.resolved 1 0),
      part_moment_size 5 e.timestamp,
      numbers_size 6 e.firing_alerts,
      numbers_size 7 e.resolved_alerts,
    )

mesh_entry_size : (e : Entry) (expires_at : ℕ) → length (writes_mesh_entry (plain_entry e expires_at)) ≤ 80 + length (writes_entry e)
unfolding writes_mesh_entry
mesh_entry_size e expires_at =
    let text = writes_entry e ++ [] in
    omega (
      arith,
      length-append (writes_entry e) [],
      length-append (writes_delimited 1 text ++ writes_delimited 2 (writes_moment expires_at)) [],
      length-append (writes_delimited 1 text) (writes_delimited 2 (writes_moment expires_at)),
      delimited_size 1 text,
      part_moment_size 2 expires_at,
    )

-- a line of short words and lists
pub entry_fits : (line : LogLine) → length line.group ≤ 1024 → length line.receiver ≤ 1024 → length line.firing ≤ 512 → length line.resolved ≤ 512
    → length (writes_mesh_entry (entry_of line)) ≤ most
entry_fits line group receiver firing resolved =
    let e = entry_of line in
    omega (arith, mesh_entry_size e.entry e.expires_at, entry_size e.entry, group, receiver, firing, resolved)

-- the entry that a notification leaves, whenever that is
pub entry_made_fits : (group_key : List ℕ) (receiver : Receiver) (firing resolved : List ℕ) (repeat retention now : ℕ) → length group_key ≤ 1024
    → length receiver.group_name ≤ 1024 → receiver.integration ≡ [] → length firing ≤ 512 → length resolved ≤ 512
    → length (writes_mesh_entry (made_entry group_key receiver firing resolved repeat retention now)) ≤ most
entry_made_fits group_key receiver firing resolved repeat retention now group name none few others =
    let m = made_entry group_key receiver firing resolved repeat retention now in
    let empty : length receiver.integration ≡ 0 = ap (λ (l : List ℕ). length l) none in
    omega (arith, mesh_entry_size m.entry m.expires_at, entry_size m.entry, group, name, empty, few, others)
