-- The front of bytes is read as it spells.
use Rattle.std.proofs.Common.{◌≡◌, ◌≢◌, ℕ, zero, suc, ◌+◌, ◌≤◌, ltb, eqb, true, false, cond, List, [], ◌∷◌, ◌++◌, length, take, drop, length-drop, length-append, append_assoc, add-one, Option, Some, None, Result, Ok, Err, ◌⊎◌, inl, inr, refl, sym, ap, subst, ◌∙◌, arith}
use Rattle.std.proofs.lemmas.Bool.{lt-ltb, le-ltb, ltb-true, eqb-true, cases_lt}
use Rattle.std.proofs.lemmas.List.{take-append-drop, length-take-le, take_at, drop_at}
use Rattle.std.proofs.Math.Seq.{take-add}
use Rattle.am_wire.specs.declared.error.WireError.{WireError}
use Rattle.am_wire.specs.declared.error.WireError.TheVariants.{Truncated, LongVarint}
use Rattle.am_wire.specs.Varint.{IsVarint, varint_at, varint_within, one_more}
use Rattle.am_wire.specs.RoundTrip.Varints.{varint_read}
use Rattle.am_wire.proofs.Spelled.{varint_found}
use Rattle.am_wire.proofs.Faults.{long_found, long_fails}
use Rattle.am_gossip.specs.declared.error.FrameError.{FrameError}
use Rattle.am_gossip.specs.declared.error.FrameError.TheVariants.{Kind, Length, Wire, UnknownState, Ended, Memory}
use Rattle.am_gossip.specs.declared.frame.Frame.{Frame}
use Rattle.am_gossip.specs.declared.frame.Frame.TheVariants as frames
use Rattle.am_gossip.specs.declared.frame.Part.{Part}
use Rattle.am_gossip.specs.declared.kind.FrameKind.{FrameKind}
use Rattle.am_gossip.specs.declared.kind.FrameKind.TheVariants as kinds
use Rattle.am_gossip.specs.Answers.{◌>>=◌}
use Rattle.am_gossip.specs.Kinds.{kind_at, code_of, limit}
use Rattle.am_gossip.specs.Parts.{known, reads_part, reads_parts, parts_in, parts_of}
use Rattle.am_wire.specs.Fields.{FieldAt, Payload, varint, eight, four, delimited_at}
use Rattle.am_gossip.specs.Frames.{kind_of, reads_payload}
use Rattle.am_gossip.specs.Headers.{head, bad, more, header_with_length, header_with_kind, header_of}
use Rattle.am_gossip.specs.Streams.{whole, fault, incomplete, payload_front, front_of}
use Rattle.am_gossip.specs.Grammar.{IsFrame, HasNoKind, HasLargeNumber, HasLongNumber, HasBadLength, HasBadPayload, IsFaultAt, IsUnfinished}
use Rattle.am_gossip.proofs.Fronts.{header_found, header_reads, HasPayload, front_found, front_fault_found, front_full, front_bad, kind_at-code_of}

-- ---- kinds
some_is : (k l : FrameKind) → Some k ≡ Some l → k ≡ l
some_is k l h = cc

none_some : (k : FrameKind) → ◌≡◌ {A = Option FrameKind} None (Some k) → ⊥
none_some k h = cc

abbrev some : FrameKind → Option FrameKind
some k = Some k

-- the byte that names a kind
kind_found : (code : ℕ) (kind : FrameKind) → kind_at code ≡ Some kind → code ≡ code_of kind
kind_found code kind h =
    let four : Option FrameKind = cond (eqb code 4) (Some kinds.Tick) None in
    let three : Option FrameKind = cond (eqb code 3) (Some kinds.Pull) four in
    let two : Option FrameKind = cond (eqb code 2) (Some kinds.Push) three in
    step 1 kinds.Delta two refl h (λ h2. step 2 kinds.Push three refl h2 (λ h3. step 3 kinds.Pull four refl h3 (λ h4. step 4 kinds.Tick None refl h4 (λ e. absurd (none_some kind e)))))
  where
    step : (n : ℕ) (this : FrameKind) (others : Option FrameKind) → code_of this ≡ n → cond (eqb code n) (Some this) others ≡ Some kind → (others ≡ Some kind → code ≡ code_of kind) → code ≡ code_of kind
    step n this others is h next =
        elim (eqb code n) as (λ b. eqb code n ≡ b → cond b (Some this) others ≡ Some kind → code ≡ code_of kind) [
          | true ↦ λ t e. eqb-true _ _ t ∙ sym is ∙ ap code_of (some_is this kind e)
          | false ↦ λ t e. next e
        ] refl h

-- a byte that names none
no_kind_found : (code : ℕ) → ((kind : FrameKind) → code ≢ code_of kind) → kind_at code ≡ None
no_kind_found code other =
    elim (kind_at code) as (λ o. kind_at code ≡ o → o ≡ None) [
      | None ↦ λ h. refl
      | Some kind ↦ λ h. absurd (other kind (kind_found code kind h))
    ] refl

no_kind_says : (code : ℕ) → kind_at code ≡ None → (kind : FrameKind) → code ≢ code_of kind
no_kind_says code h kind is = none_some kind (sym h ∙ ap kind_at is ∙ kind_at-code_of kind)

-- ---- payloads
part_kind : (r : Result Part FrameError) (f : Frame) → (r >>= λ p. Ok (frames.Delta p)) ≡ Ok f → kind_of f ≡ kinds.Delta
part_kind (Ok p) f h = let e : frames.Delta p ≡ f = cc in ap kind_of (sym e)
part_kind (Err e) f h = absurd cc

push_kind : (r : Result (List Part) FrameError) (f : Frame) → (r >>= λ p. Ok (frames.Push p)) ≡ Ok f → kind_of f ≡ kinds.Push
push_kind (Ok p) f h = let e : frames.Push p ≡ f = cc in ap kind_of (sym e)
push_kind (Err e) f h = absurd cc

pull_kind : (r : Result (List Part) FrameError) (f : Frame) → (r >>= λ p. Ok (frames.Pull p)) ≡ Ok f → kind_of f ≡ kinds.Pull
pull_kind (Ok p) f h = let e : frames.Pull p ≡ f = cc in ap kind_of (sym e)
pull_kind (Err e) f h = absurd cc

-- a payload of a kind is read as a frame of that kind
reads_kind : (kind : FrameKind) (payload : List ℕ) (f : Frame) → reads_payload kind payload ≡ Ok f → kind_of f ≡ kind
unfolding reads_payload
reads_kind kinds.Delta payload f h = part_kind (reads_part 0 payload) f h
reads_kind kinds.Push payload f h = push_kind (reads_parts payload) f h
reads_kind kinds.Pull payload f h = pull_kind (reads_parts payload) f h
reads_kind kinds.Tick payload f h = let e : frames.Tick ≡ f = cc in ap kind_of (sym e)

-- what is found in a payload is a fault of wire, or an unknown state
abbrev IsInPayload : FrameError → Type 0
IsInPayload (Wire e) = Unit {0}
IsInPayload UnknownState = Unit {0}
IsInPayload e = ⊥

bind_err : {A B : Type 0} (r : Result A FrameError) (g : A → Result B FrameError) (e : FrameError) → (r >>= g) ≡ Err e → (r ≡ Err e) ⊎ ((x : A) × (r ≡ Ok x) × (g x ≡ Err e))
bind_err (Ok x) g e h = inr (x, refl, h)
bind_err (Err d) g e h = inl cc

ok_err : {A : Type 0} (x : A) (e : FrameError) → Ok x ≡ Err e → ⊥
ok_err x e h = cc

err_is : {A : Type 0} (d e : FrameError) → ◌≡◌ {A = Result A FrameError} (Err d) (Err e) → d ≡ e
err_is d e h = cc

known_fault : (r : Result (Option Part) WireError) (e : FrameError) → known r ≡ Err e → IsInPayload e
known_fault (Ok (Some p)) e h = absurd (ok_err p e h)
known_fault (Ok None) e h = subst IsInPayload (err_is UnknownState e h) tt
known_fault (Err w) e h = subst IsInPayload (err_is (Wire w) e h) tt

part_fault : (at : ℕ) (bytes : List ℕ) (e : FrameError) → reads_part at bytes ≡ Err e → IsInPayload e
unfolding reads_part
part_fault at bytes e h = known_fault _ e h

delimited_fault : (p : Payload) (e : FrameError) → ◌≡◌ {A = Result (List Part) FrameError} (elim p [ delimited_at at bytes ↦ reads_part at bytes >>= (λ x. Ok (x ∷ [])) | _ ↦ Ok [] ]) (Err e) → IsInPayload e
delimited_fault (varint n) e h = absurd (ok_err [] e h)
delimited_fault (eight n) e h = absurd (ok_err [] e h)
delimited_fault (four n) e h = absurd (ok_err [] e h)
delimited_fault (delimited_at at bytes) e h =
    elim (bind_err (reads_part at bytes) (λ x. Ok (x ∷ [])) e h) [
      | inl here ↦ part_fault at bytes e here
      | inr other ↦ absurd (ok_err _ e other.2)
    ]

field_fault : (f : FieldAt) (e : FrameError) → parts_in f ≡ Err e → IsInPayload e
unfolding parts_in
field_fault f e h =
    let r : Result (List Part) FrameError = elim f.payload [ delimited_at at bytes ↦ reads_part at bytes >>= (λ x. Ok (x ∷ [])) | _ ↦ Ok [] ] in
    elim (eqb f.number 1) as (λ b. cond b r (Ok []) ≡ Err e → IsInPayload e) [
      | true ↦ λ k. delimited_fault f.payload e k
      | false ↦ λ k. absurd (ok_err [] e k)
    ] h

items_fault : (items : List (Result FieldAt WireError)) (e : FrameError) → parts_of items ≡ Err e → IsInPayload e
unfolding parts_of
items_fault [] e h = absurd (ok_err [] e h)
items_fault (Err w ∷ items) e h = subst IsInPayload (err_is (Wire w) e h) tt
items_fault (Ok f ∷ items) e h =
    elim (bind_err (parts_in f) (λ parts. parts_of items >>= λ others. Ok (parts ++ others)) e h) [
      | inl here ↦ field_fault f e here
      | inr later ↦
          elim (bind_err (parts_of items) (λ others. Ok (later.0 ++ others)) e later.2) [
            | inl there ↦ items_fault items e there
            | inr never ↦ absurd (ok_err _ e never.2)
          ]
    ]

all_fault : (bytes : List ℕ) (e : FrameError) → reads_parts bytes ≡ Err e → IsInPayload e
unfolding reads_parts
all_fault bytes e h = items_fault _ e h

payload_error : (kind : FrameKind) (payload : List ℕ) (e : FrameError) → reads_payload kind payload ≡ Err e → IsInPayload e
unfolding reads_payload
payload_error kinds.Delta payload e h = elim (bind_err (reads_part 0 payload) (λ p. Ok (frames.Delta p)) e h) [ inl here ↦ part_fault 0 payload e here | inr never ↦ absurd (ok_err _ e never.2) ]
payload_error kinds.Push payload e h = elim (bind_err (reads_parts payload) (λ p. Ok (frames.Push p)) e h) [ inl here ↦ all_fault payload e here | inr never ↦ absurd (ok_err _ e never.2) ]
payload_error kinds.Pull payload e h = elim (bind_err (reads_parts payload) (λ p. Ok (frames.Pull p)) e h) [ inl here ↦ all_fault payload e here | inr never ↦ absurd (ok_err _ e never.2) ]
payload_error kinds.Tick payload e h = absurd (ok_err _ e h)

-- ---- a payload that is whole
module _ (kind : FrameKind) (size payload later : List ℕ) (size_is : IsVarint size (length payload)) (small : length payload ≤ limit kind) where
  abbrev all : List ℕ
  all = code_of kind ∷ (size ++ (payload ++ later))

  all_header : header_of all ≡ head kind (length payload) (length size + 1)
  all_header =
      header_reads all kind (length payload) (length size + 1) (record {
        code = code_of kind;
        text = size ++ (payload ++ later);
        digits = length size;
        bytes_is = refl;
        kind_is = kind_at-code_of kind;
        number = varint_read 0 (length payload) size (payload ++ later) size_is;
        small = small;
        len_is = refl;
      })

  pub payload_at_front : (r : Result Frame FrameError) → reads_payload kind payload ≡ r → front_of all ≡ payload_front (length size + 1 + length payload) r
  payload_at_front r reads =
      let k : length (code_of kind ∷ size) ≡ length size + 1 = omega arith in
      let behind : drop (length size + 1) all ≡ payload ++ later = drop_at (code_of kind ∷ size) (payload ++ later) (length size + 1) k in
      let front : take (length payload) (drop (length size + 1) all) ≡ payload = ap (take (length payload)) behind ∙ take_at payload later (length payload) refl in
      let len = length-append size (payload ++ later) in
      front_full all kind (length payload) (length size + 1) all_header (omega (arith, len, length-append payload later))
      ∙ ap (λ (x : List ℕ). payload_front (length size + 1 + length payload) (reads_payload kind x)) front
      ∙ ap (payload_front (length size + 1 + length payload)) reads

pub frame_reads : (f : Frame) (text later : List ℕ) → IsFrame f text → front_of (text ++ later) ≡ whole f (length text)
frame_reads f text later is =
    let len : length text ≡ length is.size + 1 + length is.payload = ap length is.text_is ∙ (let a = length-append is.size is.payload in omega (arith, a)) in
    let regroup : text ++ later ≡ code_of (kind_of f) ∷ (is.size ++ (is.payload ++ later)) = ap (λ (x : List ℕ). x ++ later) is.text_is ∙ ap (λ (x : List ℕ). code_of (kind_of f) ∷ x) (append_assoc is.size is.payload later) in
    ap front_of regroup ∙ payload_at_front (kind_of f) is.size is.payload later is.size_is is.small (Ok f) is.reads ∙ ap (λ (n : ℕ). whole f n) (sym len)

-- the text of what was read at the front
pub record HasText (r : Result Frame FrameError) (n : ℕ) (bytes : List ℕ) : Type 0 where
  pub kind : FrameKind
  pub size : List ℕ
  pub payload : List ℕ
  pub text_is : take n bytes ≡ code_of kind ∷ (size ++ payload)
  pub size_is : IsVarint size (length payload)
  pub small : length payload ≤ limit kind
  pub reads : reads_payload kind payload ≡ r

text_found : (r : Result Frame FrameError) (n : ℕ) (bytes : List ℕ) → HasPayload r n bytes → HasText r n bytes
text_found r n bytes p =
    let h = header_found bytes p.kind p.size p.start p.header in
    let payload : List ℕ = take p.size (drop p.start bytes) in
    let room : p.size ≤ length (drop p.start bytes) = (let a = length-drop p.start bytes in let w = p.within in omega (arith, a, w)) in
    let payload_size : length payload ≡ p.size = length-take-le p.size (drop p.start bytes) room in
    let code : h.code ≡ code_of p.kind = kind_found h.code p.kind h.kind_is in
    let start : take p.start bytes ≡ code_of p.kind ∷ take h.digits h.text =
    ap (λ (k : ℕ). take k bytes) (h.len_is ∙ add-one h.digits) ∙ ap (take (suc h.digits)) h.bytes_is ∙ ap (λ (c : ℕ). c ∷ take h.digits h.text) code in
    record {
      kind = p.kind;
      size = take h.digits h.text;
      payload = payload;
      text_is = ap (λ (k : ℕ). take k bytes) p.len_is ∙ take-add p.start p.size bytes ∙ ap (λ (x : List ℕ). x ++ payload) start;
      size_is = subst (λ (k : ℕ). IsVarint (take h.digits h.text) k) (sym payload_size) (varint_found 0 h.text (p.size, h.digits) h.number);
      small = subst (λ (k : ℕ). k ≤ limit p.kind) (sym payload_size) h.small;
      reads = p.reads;
    }

pub frame_found : (bytes : List ℕ) (f : Frame) (n : ℕ) → front_of bytes ≡ whole f n → IsFrame f (take n bytes)
frame_found bytes f n is =
    let t = text_found (Ok f) n bytes (front_found bytes f n is) in
    let kind : t.kind ≡ kind_of f = sym (reads_kind t.kind t.payload f t.reads) in
    record {
      size = t.size;
      payload = t.payload;
      text_is = t.text_is ∙ ap (λ (k : FrameKind). code_of k ∷ (t.size ++ t.payload)) kind;
      size_is = t.size_is;
      small = subst (λ (k : FrameKind). length t.payload ≤ limit k) kind t.small;
      reads = ap (λ (k : FrameKind). reads_payload k t.payload) (sym kind) ∙ t.reads;
    }

-- ---- faults
one_more_err : (b : ℕ) (r : Result (ℕ × ℕ) WireError) (e : WireError) → one_more b r ≡ Err e → r ≡ Err e
one_more_err b (Ok x) e h = absurd cc
one_more_err b (Err d) e h = cc

ok_wire : (x : ℕ × ℕ) (e : WireError) → Ok x ≡ Err e → ⊥
ok_wire x e h = cc

wire_is : (d e : WireError) → ◌≡◌ {A = Result (ℕ × ℕ) WireError} (Err d) (Err e) → d ≡ e
wire_is d e h = cc

varint_faults : (at room : ℕ) (bytes : List ℕ) (e : WireError) → varint_within at room bytes ≡ Err e → (e ≡ Truncated at) ⊎ (e ≡ LongVarint at)
unfolding varint_within
varint_faults at room [] e h = inl (sym (wire_is _ _ h))
varint_faults at zero (b ∷ bytes) e h =
    elim (cases_lt b 2) [
      | inl lt ↦ let t : ltb b 2 ≡ true = lt-ltb _ _ lt in absurd (ok_wire _ e (rw t at h))
      | inr le ↦ let t : ltb b 2 ≡ false = le-ltb _ _ le in inr (sym (wire_is _ _ (rw t at h)))
    ]
varint_faults at (suc room) (b ∷ bytes) e h =
    elim (cases_lt b 128) [
      | inl lt ↦ let t : ltb b 128 ≡ true = lt-ltb _ _ lt in absurd (ok_wire _ e (rw t at h))
      | inr le ↦ let t : ltb b 128 ≡ false = le-ltb _ _ le in varint_faults at room bytes e (one_more_err b (varint_within at room bytes) e (rw t at h))
    ]

bads_are : (d e : FrameError) → bad d ≡ bad e → d ≡ e
bads_are d e h = cc

more_bad : (e : FrameError) → more ≡ bad e → ⊥
more_bad e h = cc

head_bad : (kind : FrameKind) (size len : ℕ) (e : FrameError) → head kind size len ≡ bad e → ⊥
head_bad kind size len e h = cc

number_bad : (kind : FrameKind) (text : List ℕ) (e : FrameError) → header_with_length kind (varint_at 0 text) ≡ bad e → (e ≡ Length) × (HasLargeNumber (limit kind) text ⊎ HasLongNumber text)
number_bad kind text e h =
    elim (varint_at 0 text) as (λ r. varint_at 0 text ≡ r → header_with_length kind r ≡ bad e → (e ≡ Length) × (HasLargeNumber (limit kind) text ⊎ HasLongNumber text)) [
      | Ok n ↦ λ is k.
          elim (ltb (limit kind) n.0) as (λ b. ltb (limit kind) n.0 ≡ b → cond b (bad Length) (head kind n.0 (n.1 + 1)) ≡ bad e → (e ≡ Length) × (HasLargeNumber (limit kind) text ⊎ HasLongNumber text)) [
            | true ↦ λ t l. (
              sym (bads_are _ _ l),
              inl (record { number = n.0; size = take n.1 text; rest = drop n.1 text; bytes_are = sym (take-append-drop n.1 text); size_is = varint_found 0 text n is; large = ltb-true _ _ t }),
            )
            | false ↦ λ t l. absurd (head_bad _ _ _ e l)
          ] refl k
      | Err d ↦ λ is k.
          elim (varint_faults 0 9 text d is) [
            | inl cut ↦ absurd (more_bad e (subst (λ (x : WireError). header_with_length kind (Err x) ≡ bad e) cut k))
            | inr long ↦
                let l = long_found 0 9 text (is ∙ ap wrong long) in
                (sym (bads_are _ _ (subst (λ (x : WireError). header_with_length kind (Err x) ≡ bad e) long k)), inr (record { enough = l.enough; go_on = l.go_on; much = l.much }))
          ]
    ] refl h
  where
    wrong : WireError → Result (ℕ × ℕ) WireError
    wrong x = Err x

kinded_bad : (code : ℕ) (text : List ℕ) (e : FrameError) → header_with_kind (kind_at code) text ≡ bad e → IsFaultAt e (code ∷ text)
kinded_bad code text e h =
    elim (kind_at code) as (λ o. kind_at code ≡ o → header_with_kind o text ≡ bad e → IsFaultAt e (code ∷ text)) [
      | None ↦ λ is k. subst (λ (x : FrameError). IsFaultAt x (code ∷ text)) (bads_are _ _ k) (record { code = code; rest = text; bytes_are = refl; no_kind = no_kind_says code is })
      | Some kind ↦ λ is k.
          let b = number_bad kind text e k in
          subst (λ (x : FrameError). IsFaultAt x (code ∷ text)) (sym b.0) (record { kind = kind; rest = text; bytes_are = ap (λ (c : ℕ). c ∷ text) (kind_found code kind is); bad = b.1 })
    ] refl h

header_bad : (bytes : List ℕ) (e : FrameError) → header_of bytes ≡ bad e → IsFaultAt e bytes
unfolding header_of
header_bad [] e h = absurd (more_bad e h)
header_bad (code ∷ text) e h = kinded_bad code text e h

payload_bad : (e : FrameError) (bytes : List ℕ) → IsInPayload e → HasBadPayload e bytes → IsFaultAt e bytes
payload_bad (Wire w) bytes is p = p
payload_bad UnknownState bytes is p = p
payload_bad Kind bytes is p = absurd is
payload_bad Length bytes is p = absurd is
payload_bad Ended bytes is p = absurd is
payload_bad Memory bytes is p = absurd is

pub fault_found : (bytes : List ℕ) (e : FrameError) → front_of bytes ≡ fault e → IsFaultAt e bytes
fault_found bytes e is =
    elim (front_fault_found bytes e is) [
      | inl h ↦ header_bad bytes e h
      | inr there ↦
          let t = text_found (Err e) there.0 bytes there.1 in
          payload_bad e bytes (payload_error t.kind t.payload e t.reads) (record {
            kind = t.kind;
            size = t.size;
            payload = t.payload;
            rest = drop there.0 bytes;
            bytes_are =
                sym (take-append-drop there.0 bytes) ∙ ap (λ (x : List ℕ). x ++ drop there.0 bytes) t.text_is
                ∙ ap (λ (x : List ℕ). code_of t.kind ∷ x) (append_assoc t.size t.payload (drop there.0 bytes));
            size_is = t.size_is;
            small = t.small;
            reads = t.reads;
          })
    ]

payload_reads : (e : FrameError) (bytes : List ℕ) → HasBadPayload e bytes → front_of bytes ≡ fault e
payload_reads e bytes p = ap front_of p.bytes_are ∙ payload_at_front p.kind p.size p.payload p.rest p.size_is p.small (Err e) p.reads

no_kind_reads : (bytes : List ℕ) → HasNoKind bytes → header_of bytes ≡ bad Kind
unfolding header_of
no_kind_reads bytes is = ap header_of is.bytes_are ∙ ap (λ (o : Option FrameKind). header_with_kind o is.rest) (no_kind_found is.code is.no_kind)

bad_length_reads : (bytes : List ℕ) → HasBadLength bytes → header_of bytes ≡ bad Length
unfolding header_of
bad_length_reads bytes is =
    ap header_of is.bytes_are ∙ ap (λ (o : Option FrameKind). header_with_kind o is.rest) (kind_at-code_of is.kind)
    ∙ elim is.bad [
      | inl large ↦
          let t : ltb (limit is.kind) large.number ≡ true = lt-ltb _ _ large.large in
          ap (λ (x : List ℕ). header_with_length is.kind (varint_at 0 x)) large.bytes_are
          ∙ ap (header_with_length is.kind) (varint_read 0 large.number large.size large.rest large.size_is) ∙ rw t refl
      | inr long ↦ ap (header_with_length is.kind) (long_fails 0 9 is.rest (record { enough = long.enough; go_on = long.go_on; much = long.much }))
    ]

pub fault_reads : (e : FrameError) (bytes : List ℕ) → IsFaultAt e bytes → front_of bytes ≡ fault e
fault_reads Kind bytes is = front_bad bytes Kind (no_kind_reads bytes is)
fault_reads Length bytes is = front_bad bytes Length (bad_length_reads bytes is)
fault_reads (Wire w) bytes is = payload_reads (Wire w) bytes is
fault_reads UnknownState bytes is = payload_reads UnknownState bytes is
fault_reads Ended bytes is = absurd is
fault_reads Memory bytes is = absurd is

-- ---- neither a frame nor a fault
never_frame : (f : Frame) (n : ℕ) → incomplete ≡ whole f n → ⊥
never_frame f n h = cc

never_fault : (e : FrameError) → incomplete ≡ fault e → ⊥
never_fault e h = cc

pub unfinished_found : (bytes : List ℕ) → front_of bytes ≡ incomplete → IsUnfinished bytes
unfinished_found bytes is = record {
  no_frame = λ f text later one are. never_frame f (length text) (sym is ∙ ap front_of are ∙ frame_reads f text later one);
  no_fault = λ e there. never_fault e (sym is ∙ fault_reads e bytes there);
}

pub unfinished_reads : (bytes : List ℕ) → IsUnfinished bytes → front_of bytes ≡ incomplete
unfinished_reads bytes is =
    elim (front_of bytes) as (λ r. front_of bytes ≡ r → r ≡ incomplete) [
      | whole f n ↦ λ h. absurd (is.no_frame f (take n bytes) (drop n bytes) (frame_found bytes f n h) (sym (take-append-drop n bytes)))
      | fault e ↦ λ h. absurd (is.no_fault e (fault_found bytes e h))
      | incomplete ↦ λ h. refl
    ] refl
