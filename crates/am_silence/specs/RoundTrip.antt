-- Proofs that a silence that is written is read back. They are in specs, and not in proofs, since the laws of the messages are
-- proved by them.
use Rattle.std.proofs.Common.{◌≡◌, ℕ, ◌^◌, ◌<◌, Bool, true, cond, ltb, List, [], ◌∷◌, length, map, Option, Some, None}
use Rattle.std.proofs.Common.{Ok, refl, ap, ◌∙◌, arith}
use Rattle.std.specs.Prelude.{slice_get}
use Rattle.std.specs.Option.{option_map_or}
use Rattle.std.proofs.lemmas.Bool.{lt-ltb}
use Rattle.am_version_order.specs.Versions.{Version}
use Rattle.am_wire.specs.declared.error.WireError.{WireError}
use Rattle.am_wire.specs.declared.error.WireError.TheVariants as errors
use Rattle.am_wire.specs.Fields.{FieldAt}
use Rattle.am_wire.specs.Reading.{Row, varint_row, text_row, part_row, item_row, last_number, last_number_place}
use Rattle.am_wire.specs.Reading.{last_text, last_or, delimited_in, messages, message_in, ◌then◌}
use Rattle.am_wire.specs.Timestamps.{timestamp, low_half, moment_test}
use Rattle.am_wire.specs.RoundTrip.Written.{Means, ReadsAs, EachReads, read_by-reads, written_nothing, written_number}
use Rattle.am_wire.specs.RoundTrip.Written.{written_text, written_part, written_items, number_again, text_again}
use Rattle.am_wire.specs.RoundTrip.Written.{items_again, nothing_again, reads_whole}
use Rattle.am_wire.specs.RoundTrip.Moments.{MeansMoment, moment_reads, moment_part_again}
use Rattle.am_wire.specs.declared.unknown.Unknown.{Unknown}
use Rattle.am_wire.specs.declared.unknown.Unknown.TheVariants.{Drop, Keep}
use Rattle.am_wire.specs.Expiring.{expiring, expiring_tests, expiring_value}
use Rattle.am_wire.specs.Unknown.{unknown_fields, plainly}
use Rattle.am_wire.specs.RoundTrip.Plain.{read_plain}
use Rattle.am_wire.proofs.ExpiringKept.{kept_reads}
use Rattle.am_wire.proofs.Overlooked.{AreKnown, Overlooks, picked_before, moment_before, moment_test_before, written_known}
use Rattle.am_wire.specs.RoundTrip.Expiring.{made_reads, read_alike}
use Rattle.am_silence.specs.declared.matcher.Matcher.{Matcher}
use Rattle.am_silence.specs.declared.matcher.MatcherKind.{MatcherKind}
use Rattle.am_silence.specs.declared.matcher.MatcherKind.TheVariants as kinds
use Rattle.am_silence.specs.declared.silence.Silence.{Silence}
use Rattle.am_silence.specs.Kinds.{kind_code, kind_of}
use Rattle.am_silence.specs.Matchers.{matcher, matcher_tests, matcher_value, reads_matcher, writes_matcher, IsMatcher}
use Rattle.am_silence.specs.Comments.{comment, comment_tests}
use Rattle.am_silence.specs.Silences.{silence, silence_tests, silence_value, first_comment, reads_silence, writes_silence, IsSilence}
use Rattle.am_silence.specs.Mesh.{Mesh, IsMesh, mesh_version, silence_numbers, without_unknown, writes_mesh_silence}
use Rattle.am_silence.specs.MeshTable.{mesh_of, reads_mesh_silence}

-- ---- matchers
kind_low : (k : MatcherKind) → kind_code k < 4
kind_low kinds.Equal = omega arith
kind_low kinds.Regexp = omega arith
kind_low kinds.NotEqual = omega arith
kind_low kinds.NotRegexp = omega arith

pub kind_again : (k : MatcherKind) → kind_of (kind_code k) ≡ k
kind_again kinds.Equal = refl
kind_again kinds.Regexp = refl
kind_again kinds.NotEqual = refl
kind_again kinds.NotRegexp = refl

pub matcher_reads : (m : Matcher) → IsMatcher m → length (writes_matcher m) < 2 ^ 64
    → ReadsAs matcher matcher_tests matcher_value (writes_matcher m) m
unfolding writes_matcher
matcher_reads m is small =
    let low = kind_low m.kind in
    let start = written_nothing (varint_row 1 ∷ text_row 2 ∷ text_row 3 ∷ []) in
    let one = written_number start 1 (kind_code m.kind) (omega arith) refl refl in
    let two = written_text one 2 m.name is.name refl refl in
    let all = written_text two 3 m.pattern is.pattern refl refl in
    reads_whole all small (λ at. whole low (number_again all at 1 refl) (text_again all at 2 refl) (text_again all at 3 refl))
  where
    whole : {es : List FieldAt} → kind_code m.kind < 4 → last_number 1 es ≡ kind_code m.kind → last_text 2 es ≡ m.name
        → last_text 3 es ≡ m.pattern → Means matcher_tests matcher_value es m
    whole {es} low kind name pattern =
        let code : low_half (last_number 1 es) ≡ kind_code m.kind = ap low_half kind ∙ (omega arith) in
        let known : ltb (low_half (last_number 1 es)) 4 ≡ true = rw code (lt-ltb _ _ low) in
        let same : kind_of (low_half (last_number 1 es)) ≡ m.kind = ap kind_of code ∙ kind_again m.kind in
        record {
          passes = λ place. ap (λ (b : Bool). cond b None (Some (errors.MatcherType (last_number_place 1 es)))) known;
          value_is = λ i. record { kind = same i; name = name i; pattern = pattern i };
        }

pub matcher_again : (m : Matcher) (at : ℕ) → IsMatcher m → length (writes_matcher m) < 2 ^ 64 → reads_matcher at (writes_matcher m) ≡ Ok m
unfolding reads_matcher
matcher_again m at is small = read_by-reads (matcher_reads m is small) at at

-- ---- silences
abbrev silence_rows : List Row
silence_rows = text_row 1 ∷ item_row 2 matcher matcher_tests ∷ part_row 3 timestamp ∷ part_row 4 timestamp ∷ part_row 5 timestamp
    ∷ item_row 7 comment comment_tests ∷ text_row 8 ∷ text_row 9 ∷ []

-- without an old comment, the author and the comment are the silence's own
own_text : (n m : ℕ) (es : List FieldAt) (own : List ℕ) → messages comment 7 es ≡ [] → last_text n es ≡ own
    → option_map_or (last_text m) (first_comment es) (last_text n es) ≡ own
own_text n m es own none is = ap (λ (fs : List (List FieldAt)). option_map_or (last_text m) (slice_get fs 0) (last_text n es)) none ∙ is

silence_reads : (s : Silence) → IsSilence s → length (writes_silence s) < 2 ^ 64
    → ReadsAs silence silence_tests silence_value (writes_silence s) s × AreKnown silence_numbers (writes_silence s)
unfolding writes_silence
silence_reads s is small =
    let each : EachReads matcher matcher_tests matcher_value writes_matcher s.matchers =
    record { each = λ k d h. matcher_reads _ (is.matchers k d h) } in
    let start = written_nothing silence_rows in
    let one = written_text start 1 s.id is.id refl refl in
    let two = written_items one 2 each refl refl in
    let three = written_part two 3 (moment_reads s.starts_at is.starts_at) refl refl in
    let four = written_part three 4 (moment_reads s.ends_at is.ends_at) refl refl in
    let five = written_part four 5 (moment_reads s.updated_at is.updated_at) refl refl in
    let eight = written_text five 8 s.created_by is.created_by refl refl in
    let all = written_text eight 9 s.comment is.comment refl refl in
    let reads = reads_whole all small (λ at.
    whole (text_again all at 1 refl) (items_again all at 2 small each refl)
    (moment_part_again all at 3 small is.starts_at refl) (moment_part_again all at 4 small is.ends_at refl)
    (moment_part_again all at 5 small is.updated_at refl)
    (nothing_again all at 7 (message_in comment) refl) (text_again all at 8 refl) (text_again all at 9 refl)) in
    (reads, written_known silence_numbers all small refl)
  where
    whole : {es : List FieldAt} → last_text 1 es ≡ s.id → map matcher_value (messages matcher 2 es) ≡ s.matchers
        → MeansMoment 3 es s.starts_at → MeansMoment 4 es s.ends_at → MeansMoment 5 es s.updated_at
        → messages comment 7 es ≡ [] → last_text 8 es ≡ s.created_by → last_text 9 es ≡ s.comment → Means silence_tests silence_value es s
    whole {es} id matchers starts ends updated none by words =
        let author = own_text 8 1 es s.created_by none by in
        let text = own_text 9 2 es s.comment none words in
        record {
          passes = λ place.
              ap (λ (f : Option WireError). f then moment_test 4 es then moment_test 5 es) starts.passes
              ∙ ap (λ (f : Option WireError). f then moment_test 5 es) ends.passes ∙ updated.passes;
          value_is = λ i. record {
            id = id i;
            matchers = matchers i;
            starts_at = starts.value_is i;
            ends_at = ends.value_is i;
            updated_at = updated.value_is i;
            created_by = author i;
            comment = text i;
          };
        }

pub silence_again : (s : Silence) (at : ℕ) → IsSilence s → length (writes_silence s) < 2 ^ 64 → reads_silence at (writes_silence s) ≡ Ok s
unfolding reads_silence
silence_again s at is small = read_by-reads (silence_reads s is small).0 at at

-- the silence made of some fields is that of the known ones among them
silence_overlooks : Overlooks silence_numbers silence_tests silence_value
silence_overlooks = record {
  tests_stay = λ place es fs all i.
      moment_test_before silence_numbers 3 refl es fs all i then moment_test_before silence_numbers 4 refl es fs all i
      then moment_test_before silence_numbers 5 refl es fs all i;
  value_stays = λ es fs all.
      let id = picked_before delimited_in silence_numbers 1 refl es fs all in
      let matchers = picked_before (message_in matcher) silence_numbers 2 refl es fs all in
      let old = picked_before (message_in comment) silence_numbers 7 refl es fs all in
      let author = picked_before delimited_in silence_numbers 8 refl es fs all in
      let words = picked_before delimited_in silence_numbers 9 refl es fs all in
      λ i. record {
        id = last_or [] (id i);
        matchers = map matcher_value (matchers i);
        starts_at = moment_before silence_numbers 3 refl es fs all i;
        ends_at = moment_before silence_numbers 4 refl es fs all i;
        updated_at = moment_before silence_numbers 5 refl es fs all i;
        created_by = option_map_or (last_text 1) (slice_get (old i) 0) (last_or [] (author i));
        comment = option_map_or (last_text 2) (slice_get (old i) 0) (last_or [] (words i));
      };
}

-- ---- silences that instances exchange
mesh_reads : (m : Mesh) → IsMesh m → length (writes_mesh_silence m) < 2 ^ 64
    → ReadsAs (expiring silence) (expiring_tests silence silence_tests)
    (λ es. mesh_of (unknown_fields Keep silence_numbers es (writes_mesh_silence m), expiring_value silence silence_value es))
    (writes_mesh_silence m) m
unfolding writes_mesh_silence
mesh_reads m is small =
    made_reads mesh_of
    (kept_reads silence_rows silence_tests silence_value (writes_silence m.silence) m.silence m.expires_at m.unknown silence_overlooks
    is.unknown (silence_reads m.silence is.silence) is.expires_at small)

pub mesh_again : (m : Mesh) (at : ℕ) → IsMesh m → length (writes_mesh_silence m) < 2 ^ 64
    → reads_mesh_silence Keep at (writes_mesh_silence m) ≡ Ok m
unfolding reads_mesh_silence
mesh_again m at is small = read_by-reads (mesh_reads m is small) at at

-- if unknown fields are dropped, the rest is read
pub mesh_dropped : (at : ℕ) (bytes : List ℕ)
    → reads_mesh_silence Drop at bytes ≡ plainly without_unknown (reads_mesh_silence Keep at bytes)
unfolding reads_mesh_silence
mesh_dropped at bytes =
    read_plain without_unknown (expiring silence) (expiring_tests silence silence_tests)
    (λ es. mesh_of (unknown_fields Keep silence_numbers es bytes, expiring_value silence silence_value es)) at at bytes

-- a version without unknown fields is read from its text whether they are kept or dropped
pub plain_again : (unknown : Unknown) (m : Mesh) (at : ℕ) → IsMesh m → length (writes_mesh_silence m) < 2 ^ 64 → without_unknown m ≡ m
    → reads_mesh_silence unknown at (writes_mesh_silence m) ≡ Ok m
plain_again Keep m at is small plain = mesh_again m at is small
plain_again Drop m at is small plain =
    mesh_dropped at (writes_mesh_silence m) ∙ ap (plainly without_unknown) (mesh_again m at is small) ∙ ap (λ v. Ok v) plain

-- versions that the merge sees as equal are the same
pub mesh_exact : (v w : Mesh) → IsMesh v → IsMesh w → mesh_version v ≡ mesh_version w → v ≡ w
mesh_exact v w is_v is_w same =
    let text : writes_mesh_silence v ≡ writes_mesh_silence w = ap (λ (x : Version (List ℕ)). x.content) same in
    let small_v = is_v.size in
    let small_w = is_w.size in
    read_alike (reads_mesh_silence Keep 0) (mesh_again v 0 is_v (omega arith)) (mesh_again w 0 is_w (omega arith)) text
