-- A frame that was written is read again.
use Rattle.std.proofs.Common.{◌≡◌, ℕ, zero, suc, ◌+◌, ◌^◌, ◌<◌, ◌≤◌, List, [], ◌∷◌, length, map, length-append, Option, Some, Result, Ok, refl, sym, ap, ◌∙◌, arith}
use Rattle.std.specs.List.{All, flat_map}
use Rattle.std.specs.Str.{IsUtf8, IsAscii}
use Rattle.std.proofs.lemmas.Str.{IsUtf8-from_ascii}
use Rattle.std.specs.Option.{option_map}
use Rattle.std.proofs.lemmas.List.{append-nil}
use Rattle.std.proofs.lemmas.List.Folds.{flat_map-map}
use Rattle.std.proofs.lemmas.List.Elements.{All-head, All-tail}
use Rattle.am_wire.specs.Fields.{FieldAt, fields_of}
use Rattle.am_wire.specs.Varint.{shortest}
use Rattle.am_wire.specs.Reading.{text_row, blob_row, last_text}
use Rattle.am_wire.specs.Writing.{tag, writes_delimited}
use Rattle.am_wire.specs.RoundTrip.Pieces.{done}
use Rattle.am_wire.specs.RoundTrip.Puts.{Puts-each_delimited, Puts-whole, writes_each_delimited, delimited_fields, length-writes_delimited}
use Rattle.am_wire.specs.RoundTrip.Varints.{shortest_spells}
use Rattle.am_wire.specs.RoundTrip.Written.{Means, ReadsAs, read_by-reads, written_nothing, written_text, written_blob, text_again, reads_whole}
use Rattle.am_gossip.specs.declared.error.FrameError.{FrameError}
use Rattle.am_gossip.specs.declared.frame.Frame.{Frame}
use Rattle.am_gossip.specs.declared.frame.Frame.TheVariants as frames
use Rattle.am_gossip.specs.declared.frame.Part.{Part}
use Rattle.am_gossip.specs.declared.frame.StateKey.{StateKey}
use Rattle.am_gossip.specs.declared.frame.StateKey.TheVariants as keys
use Rattle.am_gossip.specs.Keys.{key_of, key_text}
use Rattle.am_gossip.specs.Kinds.{limit}
use Rattle.am_gossip.specs.Parts.{part_table, part_tests, part_value, known, parts_fit, parts_in, parts_of, reads_part, writes_part, reads_parts, writes_parts}
use Rattle.am_gossip.specs.Frames.{kind_of, payload_encoding, frame_encoding, reads_payload}
use Rattle.am_gossip.specs.Streams.{stream_of}
use Rattle.am_gossip.specs.Grammar.{IsFrame, AreFrames}
use Rattle.am_gossip.proofs.Fronts.{front_more_wanted}
use Rattle.am_gossip.specs.Headers.{header_of}
use Rattle.am_gossip.proofs.Spellings.{unfinished_found}
use Rattle.am_gossip.proofs.Decomposed.{stream_is}
use Rattle.am_gossip.proofs.Streaming.{make}

-- ---- a part
-- three bytes of ASCII
ascii : (a b c : ℕ) → a < 128 → b < 128 → c < 128 → IsAscii (a ∷ b ∷ c ∷ [])
ascii a b c first second third zero = first
ascii a b c first second third (suc zero) = second
ascii a b c first second third (suc (suc zero)) = third
ascii a b c first second third (suc (suc (suc n))) = omega arith

key_utf8 : (k : StateKey) → IsUtf8 (key_text k)
key_utf8 keys.Sil = IsUtf8-from_ascii (key_text keys.Sil) (ascii 115 105 108 (omega arith) (omega arith) (omega arith))
key_utf8 keys.Nfl = IsUtf8-from_ascii (key_text keys.Nfl) (ascii 110 102 108 (omega arith) (omega arith) (omega arith))

key_again : (k : StateKey) → key_of (key_text k) ≡ Some k
key_again keys.Sil = refl
key_again keys.Nfl = refl

abbrev part_of : List ℕ → StateKey → Part
part_of bytes key = record { key = key; bytes = bytes }

abbrev some : Part → Option Part
some x = Some x

part_reads : (p : Part) → length (writes_part p) < 2 ^ 64 → ReadsAs part_table part_tests part_value (writes_part p) (Some p)
unfolding writes_part
part_reads p small =
    let start = written_nothing (text_row 1 ∷ blob_row 2 ∷ []) in
    let one = written_text start 1 (key_text p.key) (key_utf8 p.key) refl refl in
    let all = written_blob one 2 p.bytes refl refl in
    reads_whole all small (λ at. whole (text_again all at 1 refl) (text_again all at 2 refl))
  where
    whole : {es : List FieldAt} → last_text 1 es ≡ key_text p.key → last_text 2 es ≡ p.bytes → Means part_tests part_value es (Some p)
    whole {es} key bytes = record {
      passes = λ place. refl;
      value_is = ap (λ (o : Option StateKey). option_map (part_of (last_text 2 es)) o) (ap key_of key ∙ key_again p.key) ∙ ap (λ (b : List ℕ). some (part_of b p.key)) bytes;
    }

pub part_again : (p : Part) (at : ℕ) → length (writes_part p) < 2 ^ 64 → reads_part at (writes_part p) ≡ Ok p
unfolding reads_part
part_again p at small = ap known (read_by-reads (part_reads p small) at at)

-- ---- a full state
abbrev good : List Part → Result (List Part) FrameError
good ps = Ok ps

each_part_again : (ps : List Part) (at : ℕ) → length (writes_each_delimited 1 (map writes_part ps)) < 2 ^ 64 → parts_of (map done (delimited_fields 1 (map writes_part ps) at)) ≡ Ok ps
unfolding parts_of parts_in
each_part_again [] at small = refl
each_part_again (p ∷ ps) at small =
    let len = length-append (writes_delimited 1 (writes_part p)) (writes_each_delimited 1 (map writes_part ps)) in
    let inner = length-writes_delimited 1 (writes_part p) in
    let one = part_again p (at + length (tag 1 2) + length (shortest (length (writes_part p)))) (omega (arith, len, inner, small)) in
    let others = each_part_again ps (at + length (writes_delimited 1 (writes_part p))) (omega (arith, len, small)) in
    rw (one, others) refl

pub parts_again : (ps : List Part) → length (writes_parts ps) < 2 ^ 64 → reads_parts (writes_parts ps) ≡ Ok ps
unfolding reads_parts writes_parts
parts_again ps small =
    let same = flat_map-map (writes_delimited 1) writes_part ps in
    let len : length (writes_each_delimited 1 (map writes_part ps)) < 2 ^ 64 = rw same small in
    let fields : fields_of parts_fit 0 (writes_each_delimited 1 (map writes_part ps)) ≡ map done (delimited_fields 1 (map writes_part ps) 0) =
    Puts-whole parts_fit 0 _ _ (Puts-each_delimited parts_fit 1 (omega arith) (omega arith) (map writes_part ps) 0 len refl) in
    ap (λ (x : List ℕ). parts_of (fields_of parts_fit 0 x)) (sym same) ∙ ap parts_of fields ∙ each_part_again ps 0 len

-- ---- a frame
payload_again : (f : Frame) → length (payload_encoding f) < 2 ^ 64 → reads_payload (kind_of f) (payload_encoding f) ≡ Ok f
unfolding reads_payload
payload_again (frames.Delta p) small = rw (part_again p 0 small) refl
payload_again (frames.Push ps) small = rw (parts_again ps small) refl
payload_again (frames.Pull ps) small = rw (parts_again ps small) refl
payload_again frames.Tick small = refl

limit_small : (f : Frame) → limit (kind_of f) < 2 ^ 63
limit_small (frames.Delta p) = omega arith
limit_small (frames.Push ps) = omega arith
limit_small (frames.Pull ps) = omega arith
limit_small frames.Tick = omega arith

pub frame_again : (f : Frame) → length (payload_encoding f) ≤ limit (kind_of f) → IsFrame f (frame_encoding f)
frame_again f small =
    let most = limit_small f in
    record {
      size = shortest (length (payload_encoding f));
      payload = payload_encoding f;
      text_is = refl;
      size_is = shortest_spells (length (payload_encoding f)) (omega (arith, most, small));
      small = small;
      reads = payload_again f (omega (arith, most, small));
    }

-- ---- a stream
abbrev pub Fits : Frame → Type 0
Fits f = length (payload_encoding f) ≤ limit (kind_of f)

frames_again : (fs : List Frame) → All Fits fs → AreFrames fs (flat_map frame_encoding fs)
frames_again [] small = refl
frames_again (f ∷ fs) small = (frame_encoding f, flat_map frame_encoding fs, refl, frame_again f (All-head Fits f fs small), frames_again fs (All-tail Fits f fs small))

pub stream_again : (fs : List Frame) → All Fits fs → make fs (Ok []) ≡ stream_of (flat_map frame_encoding fs)
unfolding header_of
stream_again fs small =
    stream_is (make fs (Ok [])) (flat_map frame_encoding fs) (record {
      front = flat_map frame_encoding fs;
      behind = [];
      bytes_are = sym (append-nil (flat_map frame_encoding fs));
      frames_are = frames_again fs small;
      ends = (refl, unfinished_found [] (front_more_wanted [] refl));
    })
