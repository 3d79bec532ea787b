-- The front of a stream, and the difference that more bytes make to it.
use Rattle.std.proofs.Common.{◌≡◌, ℕ, zero, suc, ◌+◌, ◌<◌, ◌≤◌, ltb, true, false, cond, List, [], ◌∷◌, ◌++◌, length, take, drop, length-drop, length-append, Option, Some, None, Result, Ok, Err, ◌⊎◌, inl, inr, refl, sym, ap, subst, ◌∙◌, arith}
use Rattle.std.proofs.lemmas.Bool.{lt-ltb, le-ltb, cases_lt, ltb-false}
use Rattle.std.proofs.lemmas.List.{take-append-le, drop-append-le, take-append-drop, length-take-le}
use Rattle.am_wire.specs.declared.error.WireError.{WireError}
use Rattle.am_wire.specs.declared.error.WireError.TheVariants.{Truncated, LongVarint}
use Rattle.am_wire.specs.Varint.{IsVarint, one_more, varint_within, varint_at}
use Rattle.am_wire.specs.RoundTrip.Varints.{varint_read}
use Rattle.am_wire.proofs.Faults.{cut_fails}
use Rattle.am_wire.proofs.Spelled.{varint_found}
use Rattle.std.specs.List.{All}
use Rattle.am_gossip.specs.declared.error.FrameError.{FrameError}
use Rattle.am_gossip.specs.declared.error.FrameError.TheVariants.{Length}
use Rattle.am_gossip.specs.declared.frame.Frame.{Frame}
use Rattle.am_gossip.specs.declared.kind.FrameKind.{FrameKind}
use Rattle.am_gossip.specs.declared.kind.FrameKind.TheVariants as kinds
use Rattle.am_gossip.specs.Kinds.{kind_at, code_of, limit}
use Rattle.am_gossip.specs.Frames.{reads_payload}
use Rattle.am_gossip.specs.Headers.{Header, head, bad, more, header_with_length, header_with_kind, header_of}
use Rattle.am_gossip.specs.Streams.{whole, fault, incomplete, payload_front, front_with, front_of}

-- ---- numbers
-- more bytes change nothing, or the number was cut
pub varint_more : (at room : ℕ) (text later : List ℕ) → (varint_within at room (text ++ later) ≡ varint_within at room text) ⊎ (varint_within at room text ≡ Err (Truncated at))
unfolding varint_within
varint_more at room [] later = inr refl
varint_more at zero (b ∷ text) later = inl refl
varint_more at (suc room) (b ∷ text) later =
    elim (cases_lt b 128) [
      | inl lt ↦ let t : ltb b 128 ≡ true = lt-ltb _ _ lt in inl (rw t refl)
      | inr le ↦
          let t : ltb b 128 ≡ false = le-ltb _ _ le in
          elim (varint_more at room text later) [
            | inl same ↦ inl (rw t (ap (one_more b) same))
            | inr cut ↦ inr (rw t (ap (one_more b) cut))
          ]
    ]

-- ---- headers
-- the parts of a header that is whole
pub record HasHeader (kind : FrameKind) (size len : ℕ) (bytes : List ℕ) : Type 0 where
  pub code : ℕ
  pub text : List ℕ
  pub digits : ℕ
  pub bytes_is : bytes ≡ code ∷ text
  pub kind_is : kind_at code ≡ Some kind
  pub number : varint_at 0 text ≡ Ok (size, digits)
  pub small : size ≤ limit kind
  pub len_is : len ≡ digits + 1

abbrev read : ℕ → ℕ → Result (ℕ × ℕ) WireError
read n len = Ok (n, len)

heads_are : (k l : FrameKind) (s t m n : ℕ) → head k s m ≡ head l t n → (k ≡ l) × (s ≡ t) × (m ≡ n)
heads_are k l s t m n h = (cc, cc, cc)

never_bad : (e : FrameError) (kind : FrameKind) (size len : ℕ) → bad e ≡ head kind size len → ⊥
never_bad e kind size len h = cc

never_more : (kind : FrameKind) (size len : ℕ) → more ≡ head kind size len → ⊥
never_more kind size len h = cc

sized_found : (k kind : FrameKind) (size len : ℕ) (r : Result (ℕ × ℕ) WireError) → header_with_length k r ≡ head kind size len → (digits : ℕ) × (r ≡ Ok (size, digits)) × (k ≡ kind) × (size ≤ limit kind) × (len ≡ digits + 1)
sized_found k kind size len (Ok n) h =
    elim (ltb (limit k) n.0) as (λ b. ltb (limit k) n.0 ≡ b → cond b (bad Length) (head k n.0 (n.1 + 1)) ≡ head kind size len → (digits : ℕ) × (Ok n ≡ read size digits) × (k ≡ kind) × (size ≤ limit kind) × (len ≡ digits + 1)) [
      | true ↦ λ t e. absurd (never_bad _ _ _ _ e)
      | false ↦ λ t e.
          let are = heads_are k kind n.0 size (n.1 + 1) len e in
          let le = ltb-false _ _ t in
          (n.1, ap (λ (s : ℕ). read s n.1) are.1, are.0, subst (λ (s : ℕ). s ≤ limit kind) are.1 (subst (λ (l : FrameKind). n.0 ≤ limit l) are.0 le), sym are.2)
    ] refl h
sized_found k kind size len (Err (Truncated at)) h = absurd (never_more _ _ _ h)
sized_found k kind size len (Err e) h = absurd (never_bad _ _ _ _ h)

kinded_found : (o : Option FrameKind) (text : List ℕ) (kind : FrameKind) (size len : ℕ) → header_with_kind o text ≡ head kind size len → (digits : ℕ) × (o ≡ Some kind) × (varint_at 0 text ≡ Ok (size, digits)) × (size ≤ limit kind) × (len ≡ digits + 1)
kinded_found None text kind size len h = absurd (never_bad _ _ _ _ h)
kinded_found (Some k) text kind size len h =
    let f = sized_found k kind size len (varint_at 0 text) h in
    (f.0, ap (λ (x : FrameKind). some x) f.2, f.1, f.3, f.4)
  where
    some : FrameKind → Option FrameKind
    some x = Some x

pub header_found : (bytes : List ℕ) (kind : FrameKind) (size len : ℕ) → header_of bytes ≡ head kind size len → HasHeader kind size len bytes
unfolding header_of
header_found [] kind size len h = absurd (never_more _ _ _ h)
header_found (code ∷ text) kind size len h =
    let f = kinded_found (kind_at code) text kind size len h in
    record { code = code; text = text; digits = f.0; bytes_is = refl; kind_is = f.1; number = f.2; small = f.3; len_is = f.4 }

pub header_reads : (bytes : List ℕ) (kind : FrameKind) (size len : ℕ) → HasHeader kind size len bytes → header_of bytes ≡ head kind size len
unfolding header_of
header_reads bytes kind size len h =
    let t : ltb (limit kind) size ≡ false = le-ltb _ _ h.small in
    ap header_of h.bytes_is ∙ ap (λ (o : Option FrameKind). header_with_kind o h.text) h.kind_is ∙ ap (header_with_length kind) h.number ∙ rw (t, h.len_is) refl

-- more bytes change nothing, or it was cut
kinded_more : (o : Option FrameKind) (text later : List ℕ) → (header_with_kind o (text ++ later) ≡ header_with_kind o text) ⊎ (header_with_kind o text ≡ more)
kinded_more None text later = inl refl
kinded_more (Some kind) text later =
    elim (varint_more 0 9 text later) [
      | inl same ↦ inl (ap (header_with_length kind) same)
      | inr cut ↦ inr (ap (header_with_length kind) cut)
    ]

pub header_more : (bytes later : List ℕ) → (header_of (bytes ++ later) ≡ header_of bytes) ⊎ (header_of bytes ≡ more)
unfolding header_of
header_more [] later = inr refl
header_more (code ∷ text) later = kinded_more (kind_at code) text later

-- a header stays, and a fault in it
pub header_stays : (bytes later : List ℕ) (kind : FrameKind) (size len : ℕ) → header_of bytes ≡ head kind size len → header_of (bytes ++ later) ≡ head kind size len
header_stays bytes later kind size len h =
    elim (header_more bytes later) [
      | inl same ↦ same ∙ h
      | inr cut ↦ absurd (never_more kind size len (sym cut ∙ h))
    ]

bad_more : (e : FrameError) → bad e ≡ more → ⊥
bad_more e h = cc

pub bad_stays : (bytes later : List ℕ) (e : FrameError) → header_of bytes ≡ bad e → header_of (bytes ++ later) ≡ bad e
bad_stays bytes later e h =
    elim (header_more bytes later) [
      | inl same ↦ same ∙ h
      | inr cut ↦ absurd (bad_more e (sym h ∙ cut))
    ]

-- a header that is whole in the first bytes is theirs
pub header_within : (bytes later : List ℕ) (kind : FrameKind) (size len : ℕ) → header_of (bytes ++ later) ≡ head kind size len → len ≤ length bytes → header_of bytes ≡ head kind size len
unfolding header_of
header_within [] later kind size len h le = let f = header_found later kind size len h in absurd (omega (arith, le, f.len_is))
header_within (code ∷ text) later kind size len h le =
    let f = kinded_whole in
    header_reads (code ∷ text) kind size len (record { code = code; text = text; digits = f.0; bytes_is = refl; kind_is = f.1; number = f.2; small = f.3; len_is = f.4 })
  where
    kinded_whole : (digits : ℕ) × (kind_at code ≡ Some kind) × (varint_at 0 text ≡ Ok (size, digits)) × (size ≤ limit kind) × (len ≡ digits + 1)
    kinded_whole =
        let f = kinded_found (kind_at code) (text ++ later) kind size len h in
        let in_text : f.0 ≤ length text = omega (arith, le, f.4) in
        let spelled : IsVarint (take f.0 text) size = subst (λ (x : List ℕ). IsVarint x size) (take-append-le f.0 text later in_text) (varint_found 0 (text ++ later) (size, f.0) f.2) in
        let again = varint_read 0 size (take f.0 text) (drop f.0 text) spelled in
        let size_is : length (take f.0 text) ≡ f.0 = length-take-le f.0 text in_text in
        (f.0, f.1, ap (varint_at 0) (sym (take-append-drop f.0 text)) ∙ again ∙ ap (read size) size_is, f.3, f.4)

-- ---- a header that comes byte by byte
pub kind_at-code_of : (kind : FrameKind) → kind_at (code_of kind) ≡ Some kind
kind_at-code_of kinds.Delta = refl
kind_at-code_of kinds.Push = refl
kind_at-code_of kinds.Pull = refl
kind_at-code_of kinds.Tick = refl

module _ (bytes text : List ℕ) (kind : FrameKind) (byte places : ℕ) (is : bytes ≡ code_of kind ∷ text) (places_is : places ≡ length text) where
  behind : bytes ++ byte ∷ [] ≡ code_of kind ∷ (text ++ byte ∷ [])
  behind = ap (λ (x : List ℕ). x ++ byte ∷ []) is

  pub length_ends : (size : ℕ) → varint_at 0 (text ++ byte ∷ []) ≡ Ok (size, length text + 1) → size ≤ limit kind → header_of (bytes ++ byte ∷ []) ≡ head kind size (places + 2)
  length_ends size number small =
      header_reads (bytes ++ byte ∷ []) kind size (places + 2) (record {
        code = code_of kind;
        text = text ++ byte ∷ [];
        digits = length text + 1;
        bytes_is = behind;
        kind_is = kind_at-code_of kind;
        number = number;
        small = small;
        len_is = omega (arith, places_is);
      })

  pub length_large : (size : ℕ) → varint_at 0 (text ++ byte ∷ []) ≡ Ok (size, length text + 1) → limit kind < size → header_of (bytes ++ byte ∷ []) ≡ bad Length
  unfolding header_of
  length_large size number large =
      let t : ltb (limit kind) size ≡ true = lt-ltb _ _ large in
      ap header_of behind ∙ ap (λ (o : Option FrameKind). header_with_kind o (text ++ byte ∷ [])) (kind_at-code_of kind) ∙ ap (header_with_length kind) number ∙ rw t refl

  pub length_too_long : varint_at 0 (text ++ byte ∷ []) ≡ Err (LongVarint 0) → header_of (bytes ++ byte ∷ []) ≡ bad Length
  unfolding header_of
  length_too_long number =
      ap header_of behind ∙ ap (λ (o : Option FrameKind). header_with_kind o (text ++ byte ∷ [])) (kind_at-code_of kind) ∙ ap (header_with_length kind) number

  -- the length goes on
  pub length_goes_on : length text ≤ 9 → All (λ b. 128 ≤ b) text → header_of bytes ≡ more
  unfolding header_of
  length_goes_on few go_on =
      ap header_of is ∙ ap (λ (o : Option FrameKind). header_with_kind o text) (kind_at-code_of kind) ∙ ap (header_with_length kind) (cut_fails 0 9 text (record { few = few; go_on = go_on }))

-- ---- frames
-- the parts of a frame at the front
pub record HasPayload (r : Result Frame FrameError) (len : ℕ) (bytes : List ℕ) : Type 0 where
  pub kind : FrameKind
  pub size : ℕ
  pub start : ℕ
  pub header : header_of bytes ≡ head kind size start
  pub within : start + size ≤ length bytes
  pub reads : reads_payload kind (take size (drop start bytes)) ≡ r
  pub len_is : len ≡ start + size

pub front_short : (bytes : List ℕ) (kind : FrameKind) (size len : ℕ) → header_of bytes ≡ head kind size len → length bytes < len + size → front_of bytes ≡ incomplete
unfolding front_of
front_short bytes kind size len h lt =
    let t : ltb (length bytes) (len + size) ≡ true = lt-ltb _ _ lt in
    ap (λ (x : Header). front_with x bytes) h ∙ rw t refl

pub front_more_wanted : (bytes : List ℕ) → header_of bytes ≡ more → front_of bytes ≡ incomplete
unfolding front_of
front_more_wanted bytes h = ap (λ (x : Header). front_with x bytes) h

pub front_bad : (bytes : List ℕ) (e : FrameError) → header_of bytes ≡ bad e → front_of bytes ≡ fault e
unfolding front_of
front_bad bytes e h = ap (λ (x : Header). front_with x bytes) h

pub front_full : (bytes : List ℕ) (kind : FrameKind) (size len : ℕ) → header_of bytes ≡ head kind size len → len + size ≤ length bytes → front_of bytes ≡ payload_front (len + size) (reads_payload kind (take size (drop len bytes)))
unfolding front_of
front_full bytes kind size len h le =
    let t : ltb (length bytes) (len + size) ≡ false = le-ltb _ _ le in
    ap (λ (x : Header). front_with x bytes) h ∙ rw t refl

-- more bytes change nothing, or bytes were wanting
pub front_more : (bytes later : List ℕ) → (front_of (bytes ++ later) ≡ front_of bytes) ⊎ (front_of bytes ≡ incomplete)
front_more bytes later =
    elim (header_of bytes) as (λ h. header_of bytes ≡ h → (front_of (bytes ++ later) ≡ front_of bytes) ⊎ (front_of bytes ≡ incomplete)) [
      | head kind size len ↦ λ h.
          elim (cases_lt (length bytes) (len + size)) [
            | inl lt ↦ inr (front_short bytes kind size len h lt)
            | inr le ↦
                let later_le : len + size ≤ length (bytes ++ later) = omega (arith, le, length-append bytes later) in
                let start : drop len (bytes ++ later) ≡ drop len bytes ++ later = drop-append-le len bytes later (omega (arith, le)) in
                let same : take size (drop len bytes ++ later) ≡ take size (drop len bytes) = take-append-le size (drop len bytes) later (omega (arith, le, length-drop len bytes)) in
                inl (front_full (bytes ++ later) kind size len (header_stays bytes later kind size len h) later_le
                ∙ ap (λ (x : List ℕ). payload_front (len + size) (reads_payload kind x)) (ap (take size) start ∙ same)
                ∙ sym (front_full bytes kind size len h le))
          ]
      | bad e ↦ λ h. inl (front_bad (bytes ++ later) e (bad_stays bytes later e h) ∙ sym (front_bad bytes e h))
      | more ↦ λ h. inr (front_more_wanted bytes h)
    ] refl

payload_whole : (len n : ℕ) (f : Frame) (r : Result Frame FrameError) → payload_front len r ≡ whole f n → (r ≡ Ok f) × (n ≡ len)
payload_whole len n f (Ok g) h = (cc, cc)
payload_whole len n f (Err e) h = absurd cc

payload_fault : (len : ℕ) (e : FrameError) (r : Result Frame FrameError) → payload_front len r ≡ fault e → r ≡ Err e
payload_fault len e (Ok g) h = absurd cc
payload_fault len e (Err d) h = cc

never_wants : (f : Frame) (n : ℕ) → incomplete ≡ whole f n → ⊥
never_wants f n h = cc

never_fault : (e : FrameError) (f : Frame) (n : ℕ) → fault e ≡ whole f n → ⊥
never_fault e f n h = cc

never_wants_fault : (e : FrameError) → incomplete ≡ fault e → ⊥
never_wants_fault e h = cc

faults_are : (d e : FrameError) → fault d ≡ fault e → d ≡ e
faults_are d e h = cc

pub front_found : (bytes : List ℕ) (f : Frame) (n : ℕ) → front_of bytes ≡ whole f n → HasPayload (Ok f) n bytes
front_found bytes f n is =
    elim (header_of bytes) as (λ h. header_of bytes ≡ h → HasPayload (Ok f) n bytes) [
      | head kind size len ↦ λ h.
          elim (cases_lt (length bytes) (len + size)) [
            | inl lt ↦ absurd (never_wants f n (sym (front_short bytes kind size len h lt) ∙ is))
            | inr le ↦
                let p = payload_whole (len + size) n f _ (sym (front_full bytes kind size len h le) ∙ is) in
                record { kind = kind; size = size; start = len; header = h; within = le; reads = p.0; len_is = p.1 }
          ]
      | bad e ↦ λ h. absurd (never_fault e f n (sym (front_bad bytes e h) ∙ is))
      | more ↦ λ h. absurd (never_wants f n (sym (front_more_wanted bytes h) ∙ is))
    ] refl

pub front_fault_found : (bytes : List ℕ) (e : FrameError) → front_of bytes ≡ fault e → (header_of bytes ≡ bad e) ⊎ ((n : ℕ) × HasPayload (Err e) n bytes)
front_fault_found bytes e is =
    elim (header_of bytes) as (λ h. header_of bytes ≡ h → (header_of bytes ≡ bad e) ⊎ ((n : ℕ) × HasPayload (Err e) n bytes)) [
      | head kind size len ↦ λ h.
          elim (cases_lt (length bytes) (len + size)) [
            | inl lt ↦ absurd (never_wants_fault e (sym (front_short bytes kind size len h lt) ∙ is))
            | inr le ↦
                let p = payload_fault (len + size) e _ (sym (front_full bytes kind size len h le) ∙ is) in
                inr (len + size, record { kind = kind; size = size; start = len; header = h; within = le; reads = p; len_is = refl })
          ]
      | bad d ↦ λ h. inl (h ∙ ap bad (faults_are d e (sym (front_bad bytes d h) ∙ is)))
      | more ↦ λ h. absurd (never_wants_fault e (sym (front_more_wanted bytes h) ∙ is))
    ] refl

pub front_within : (bytes : List ℕ) (f : Frame) (n : ℕ) → front_of bytes ≡ whole f n → (0 < n) × (n ≤ length bytes)
front_within bytes f n is =
    let p = front_found bytes f n is in
    let h = header_found bytes p.kind p.size p.start p.header in
    (omega (arith, p.len_is, h.len_is), omega (arith, p.len_is, p.within))

-- what waits is shorter than its frame
pub waits_short : (bytes later : List ℕ) (kind : FrameKind) (size len : ℕ) → front_of bytes ≡ incomplete → header_of (bytes ++ later) ≡ head kind size len → length bytes < len + size
waits_short bytes later kind size len waits h =
    elim (cases_lt (length bytes) (len + size)) [
      | inl lt ↦ lt
      | inr le ↦
          let here = header_within bytes later kind size len h (omega (arith, le)) in
          absurd (full_waits (len + size) _ (sym (front_full bytes kind size len here le) ∙ waits))
    ]
  where
    full_waits : (n : ℕ) (r : Result Frame FrameError) → payload_front n r ≡ incomplete → ⊥
    full_waits n (Ok f) h = cc
    full_waits n (Err e) h = cc
