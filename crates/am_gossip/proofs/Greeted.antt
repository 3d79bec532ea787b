-- Bytes that are read as a greeting are one.
use Rattle.std.proofs.Common.{◌≡◌, ℕ, suc, ◌+◌, ◌<◌, ◌≤◌, ltb, eqb, true, false, cond, ◌||◌, List, [], ◌∷◌, ◌++◌, length, take, drop, length-drop, length-append, append_assoc, Option, Some, None, Result, Ok, Err, ◌⊎◌, inl, inr, refl, sym, ap, subst, ◌∙◌, arith}
use Rattle.std.specs.Str.{IsUtf8, is_utf8}
use Rattle.std.proofs.lemmas.Bool.{lt-ltb, le-ltb, ltb-false, eqb-true, eqb-false, ne_eqb, cases_lt}
use Rattle.std.proofs.lemmas.Str.{is_utf8-from_IsUtf8, IsUtf8-from_is_utf8}
use Rattle.std.proofs.lemmas.List.{take_at, drop_at, take-append-le, drop-append-le, length-take-le}
use Rattle.std.proofs.Math.Seq.{take-add}
use Rattle.am_wire.specs.declared.error.WireError.{WireError}
use Rattle.am_wire.specs.declared.error.WireError.TheVariants.{NotUtf8, Truncated}
use Rattle.am_wire.specs.Varint.{IsVarint, varint_at}
use Rattle.am_wire.specs.RoundTrip.Varints.{varint_read}
use Rattle.am_wire.proofs.Spelled.{varint_found}
use Rattle.am_gossip.specs.declared.error.FrameError.{FrameError}
use Rattle.am_gossip.specs.declared.error.FrameError.TheVariants.{Kind, Length, Wire}
use Rattle.am_gossip.specs.Hellos.{name_at, named_by, hello_of, IsHello}
use Rattle.am_gossip.proofs.Varints.{varint_within_bytes}
use Rattle.am_gossip.proofs.Fronts.{varint_more}

abbrev Read : Type 0
Read = Result (Option (List ℕ × ℕ)) FrameError

abbrev found : List ℕ → ℕ → Read
found name len = Ok (Some (name, len))

abbrev waiting : Read
waiting = Ok None

abbrev wrong : FrameError → Read
wrong e = Err e

-- ---- a greeting is read
pub hello_reads : (name text later : List ℕ) → IsHello name text → hello_of (text ++ later) ≡ Ok (Some (name, length text))
unfolding hello_of
hello_reads name text later is =
    let regroup : text ++ later ≡ 0 ∷ (is.size ++ (name ++ later)) = ap (λ (x : List ℕ). x ++ later) is.text_is ∙ ap (λ (x : List ℕ). 0 ∷ x) (append_assoc is.size name later) in
    let number = varint_read 0 (length name) is.size (name ++ later) is.size_is in
    let filled : eqb (length name) 0 ≡ false = ne_eqb _ _ (λ none. (let f = is.filled in absurd (omega (arith, f, none)))) in
    let short : ltb 255 (length name) ≡ false = le-ltb _ _ is.short in
    let behind : drop (length is.size) (is.size ++ (name ++ later)) ≡ name ++ later = drop_at is.size (name ++ later) (length is.size) refl in
    let room : ltb (length (name ++ later)) (length name) ≡ false = le-ltb _ _ (omega (arith, length-append name later)) in
    let front : take (length name) (name ++ later) ≡ name = take_at name later (length name) refl in
    let utf8 : is_utf8 name ≡ true = is_utf8-from_IsUtf8 name is.utf8 in
    let len : length is.size + 1 + length name ≡ length text = sym (ap length is.text_is ∙ (let a = length-append is.size name in omega (arith, a))) in
    ap hello_of regroup ∙ rw (number, filled, short, behind, room, front, utf8, len) refl

-- ---- what is read is a greeting
never_none : (name : List ℕ) (len : ℕ) → waiting ≡ found name len → ⊥
never_none name len h = cc

never_wrong : (e : FrameError) (name : List ℕ) (len : ℕ) → wrong e ≡ found name len → ⊥
never_wrong e name len h = cc

abbrev unwrapped : Read → List ℕ × ℕ
unwrapped (Ok (Some x)) = x
unwrapped (Ok None) = ([], 0)
unwrapped (Err e) = ([], 0)

are : (name other : List ℕ) (len more : ℕ) → found name len ≡ found other more → (name ≡ other) × (len ≡ more)
are name other len more h = (ap (λ (r : Read). (unwrapped r).0) h, ap (λ (r : Read). (unwrapped r).1) h)

record HasName (size start : ℕ) (bytes name : List ℕ) (len : ℕ) : Type 0 where
  within : size ≤ length bytes
  name_is : take size bytes ≡ name
  len_is : start + size ≡ len
  utf8 : IsUtf8 name

name_found : (size start : ℕ) (bytes name : List ℕ) (len : ℕ) → name_at size start bytes ≡ found name len → HasName size start bytes name len
name_found size start bytes name len h =
    elim (ltb (length bytes) size) as (λ b. ltb (length bytes) size ≡ b → cond b waiting (cond (is_utf8 (take size bytes)) (found (take size bytes) (start + size)) (wrong (Wire (NotUtf8 0)))) ≡ found name len → HasName size start bytes name len) [
      | true ↦ λ t k. absurd (never_none name len k)
      | false ↦ λ t k.
          elim (is_utf8 (take size bytes)) as (λ b. is_utf8 (take size bytes) ≡ b → cond b (found (take size bytes) (start + size)) (wrong (Wire (NotUtf8 0))) ≡ found name len → HasName size start bytes name len) [
            | true ↦ λ u l.
                let a = are _ _ _ _ l in
                record { within = ltb-false _ _ t; name_is = a.0; len_is = a.1; utf8 = subst IsUtf8 a.0 (IsUtf8-from_is_utf8 _ u) }
            | false ↦ λ u l. absurd (never_wrong _ name len l)
          ] refl k
    ] refl h

-- the tests of a name's length
size_found : (n : ℕ) (r : Read) (name : List ℕ) (len : ℕ) → cond (eqb n 0 || ltb 255 n) (wrong Length) r ≡ found name len → (0 < n) × (n ≤ 255) × (r ≡ found name len)
size_found n r name len h =
    elim (eqb n 0) as (λ b. eqb n 0 ≡ b → cond (b || ltb 255 n) (wrong Length) r ≡ found name len → (0 < n) × (n ≤ 255) × (r ≡ found name len)) [
      | true ↦ λ t k. absurd (never_wrong _ name len k)
      | false ↦ λ t k.
          elim (ltb 255 n) as (λ b. ltb 255 n ≡ b → cond b (wrong Length) r ≡ found name len → (0 < n) × (n ≤ 255) × (r ≡ found name len)) [
            | true ↦ λ u l. absurd (never_wrong _ name len l)
            | false ↦ λ u l. let other = eqb-false n 0 t in (omega (arith, other), ltb-false _ _ u, l)
          ] refl k
    ] refl h

named_found : (bytes name : List ℕ) (len : ℕ) → named_by (varint_at 0 bytes) bytes ≡ found name len → (len ≤ suc (length bytes)) × IsHello name (take len (0 ∷ bytes))
named_found bytes name len h =
    elim (varint_at 0 bytes) as (λ r. varint_at 0 bytes ≡ r → named_by r bytes ≡ found name len → (len ≤ suc (length bytes)) × IsHello name (take len (0 ∷ bytes))) [
      | Ok n ↦ λ is k.
          let s = size_found n.0 (name_at n.0 (n.1 + 1) (drop n.1 bytes)) name len k in
          let m = name_found n.0 (n.1 + 1) (drop n.1 bytes) name len s.2 in
          let within = varint_within_bytes 0 bytes n is in
          let size : length name ≡ n.0 = ap length (sym m.name_is) ∙ length-take-le n.0 (drop n.1 bytes) m.within in
          let k2 : len ≡ suc (n.1 + n.0) = (let l = m.len_is in omega (arith, l)) in
          let text : take len (0 ∷ bytes) ≡ 0 ∷ (take n.1 bytes ++ name) =
          ap (λ (i : ℕ). take i (0 ∷ bytes)) k2 ∙ ap (λ (x : List ℕ). 0 ∷ x) (take-add n.1 n.0 bytes ∙ ap (λ (x : List ℕ). take n.1 bytes ++ x) m.name_is) in (
            (let w = m.within in omega (arith, k2, w, within, length-drop n.1 bytes)),
            record {
              size = take n.1 bytes;
              size_is = subst (λ (i : ℕ). IsVarint (take n.1 bytes) i) (sym size) (varint_found 0 bytes n is);
              text_is = text;
              filled = subst (λ (i : ℕ). 0 < i) (sym size) s.0;
              short = subst (λ (i : ℕ). i ≤ 255) (sym size) s.1;
              utf8 = m.utf8;
            },
          )
      | Err e ↦ λ is k. absurd (fault_found e k)
    ] refl h
  where
    fault_found : (e : WireError) → named_by (Err e) bytes ≡ found name len → ⊥
    fault_found (Truncated at) k = never_none name len k
    fault_found e k = never_wrong Length name len k

pub hello_found : (bytes name : List ℕ) (len : ℕ) → hello_of bytes ≡ Ok (Some (name, len)) → (len ≤ length bytes) × IsHello name (take len bytes)
unfolding hello_of
hello_found [] name len h = absurd (never_none name len h)
hello_found (b ∷ bytes) name len h =
    elim (eqb b 0) as (λ t. eqb b 0 ≡ t → cond t (named_by (varint_at 0 bytes) bytes) (wrong Kind) ≡ found name len → (len ≤ suc (length bytes)) × IsHello name (take len (b ∷ bytes))) [
      | true ↦ λ is k.
          let zero_is : 0 ≡ b = sym (eqb-true _ _ is) in
          subst (λ (x : ℕ). (len ≤ suc (length bytes)) × IsHello name (take len (x ∷ bytes))) zero_is (named_found bytes name len k)
      | false ↦ λ is k. absurd (never_wrong Kind name len k)
    ] refl h

-- ---- more bytes
name_more : (size start : ℕ) (bytes later : List ℕ) → (name_at size start (bytes ++ later) ≡ name_at size start bytes) ⊎ (name_at size start bytes ≡ waiting)
name_more size start bytes later =
    elim (cases_lt (length bytes) size) [
      | inl lt ↦ let t : ltb (length bytes) size ≡ true = lt-ltb _ _ lt in inr (rw t refl)
      | inr le ↦
          let t : ltb (length bytes) size ≡ false = le-ltb _ _ le in
          let u : ltb (length (bytes ++ later)) size ≡ false = le-ltb _ _ (omega (arith, le, length-append bytes later)) in
          let front : take size (bytes ++ later) ≡ take size bytes = take-append-le size bytes later le in
          inl (rw (t, u, front) refl)
    ]

tested_more : (n : ℕ) (r s : Read) → (r ≡ s) ⊎ (s ≡ waiting) → (cond (eqb n 0 || ltb 255 n) (wrong Length) r ≡ cond (eqb n 0 || ltb 255 n) (wrong Length) s) ⊎ (cond (eqb n 0 || ltb 255 n) (wrong Length) s ≡ waiting)
tested_more n r s h =
    elim (eqb n 0 || ltb 255 n) as (λ b. (cond b (wrong Length) r ≡ cond b (wrong Length) s) ⊎ (cond b (wrong Length) s ≡ waiting)) [
      | true ↦ inl refl
      | false ↦ h
    ]

named_more : (bytes later : List ℕ) → (named_by (varint_at 0 (bytes ++ later)) (bytes ++ later) ≡ named_by (varint_at 0 bytes) bytes) ⊎ (named_by (varint_at 0 bytes) bytes ≡ waiting)
named_more bytes later =
    elim (varint_more 0 9 bytes later) [
      | inr cut ↦ inr (ap (λ (r : Result (ℕ × ℕ) WireError). named_by r bytes) cut)
      | inl same ↦
          elim (varint_at 0 bytes) as (λ r. varint_at 0 bytes ≡ r → (named_by (varint_at 0 (bytes ++ later)) (bytes ++ later) ≡ named_by r bytes) ⊎ (named_by r bytes ≡ waiting)) [
            | Ok n ↦ λ is.
                let behind : drop n.1 (bytes ++ later) ≡ drop n.1 bytes ++ later = drop-append-le n.1 bytes later (varint_within_bytes 0 bytes n is) in
                rw (same, is, behind) (tested_more n.0 (name_at n.0 (n.1 + 1) (drop n.1 bytes ++ later)) (name_at n.0 (n.1 + 1) (drop n.1 bytes)) (name_more n.0 (n.1 + 1) (drop n.1 bytes) later))
            | Err e ↦ λ is. rw (same, is) (inl (fault_same e))
          ] refl
    ]
  where
    fault_same : (e : WireError) → named_by (Err e) (bytes ++ later) ≡ named_by (Err e) bytes
    fault_same (Truncated at) = refl
    fault_same e = refl

pub hello_more : (bytes later : List ℕ) → (hello_of (bytes ++ later) ≡ hello_of bytes) ⊎ (hello_of bytes ≡ Ok None)
unfolding hello_of
hello_more [] later = inr refl
hello_more (b ∷ bytes) later =
    elim (eqb b 0) as (λ t. (cond t (named_by (varint_at 0 (bytes ++ later)) (bytes ++ later)) (wrong Kind) ≡ cond t (named_by (varint_at 0 bytes) bytes) (wrong Kind)) ⊎ (cond t (named_by (varint_at 0 bytes) bytes) (wrong Kind) ≡ waiting)) [
      | true ↦ named_more bytes later
      | false ↦ inl refl
    ]
