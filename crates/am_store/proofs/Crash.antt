-- The files that a crash in each step leaves.
use Rattle.std.proofs.Common.{◌≡◌, ◌⊎◌, inl, inr, ⊎_elim, ℕ, ◌+◌, ◌-◌, ◌^◌, ◌<◌, ◌≤◌, List, [], ◌∷◌, ◌++◌, None, length, get_or, take, drop, refl, sym, ◌∙◌, ap, subst, arith, append_assoc, append-nil, length-append, length-drop, length-take, take-append-drop}
use Rattle.std.proofs.lemmas.Bool.{cases_eq}
use Rattle.std.proofs.lemmas.List.{take_at, drop_at, drop_more, take_all, drop_all}
use Rattle.std.proofs.Math.Seq.{take-append-add}
use Rattle.std.specs.Int.{w64, to_le_bytes}
use Rattle.am_store.specs.Device.{Holds, Torn, Cut}
use Rattle.am_store.specs.Blocks.{first_block, recovered, blocks_length, IsAtRest, with_batch, IsBeforeOrAfter}
use Rattle.am_store.proofs.BlockLemmas.{adds, behind, fits_in, front_none, short_none, closed, recovered_none, recovered_opens, opens_written, blocks_length-append}

pub with_some : (batches : List (List ℕ)) (batch : List ℕ) → 0 < length batch → with_batch batches batch ≡ batches ++ batch ∷ []
with_some batches [] some = absurd (omega (arith, some))
with_some batches (b ∷ batch) some = refl

-- the bytes that are written behind a gate
abbrev pub block : List ℕ → List ℕ
block batch = to_le_bytes w64 (length batch) ++ batch ++ 0 ∷ []

pub length_block : (batch : List ℕ) → length (block batch) ≡ 9 + length batch
length_block batch = omega (arith, length-append batch (0 ∷ []))

-- ---- a file whose whole blocks take `end` bytes
module _ (file : List ℕ) (end : ℕ) (ends : end ≡ blocks_length (recovered file)) where
  abbrev front : List ℕ
  front = take end file

  within : end ≤ length file
  within = omega (arith, ends, fits_in (recovered file) file refl)

  size : length front ≡ end
  size = omega (arith, within, length-take end file)

  stands_for : (more : List ℕ) → recovered (front ++ more) ≡ recovered file ++ recovered more
  stands_for more = ap (λ (n : ℕ). recovered (take n file ++ more)) ends ∙ adds (recovered file) file more refl

  nothing_more : (more : List ℕ) → first_block more ≡ None → recovered (front ++ more) ≡ recovered file
  nothing_more more none = stands_for more ∙ ap (λ (l : List (List ℕ)). recovered file ++ l) (recovered_none more none) ∙ append-nil (recovered file)

  pub room : end ≤ length file
  room = within

  -- any cut keeps the batches
  pub cut_keeps : (c : List ℕ) → Cut end file c → recovered c ≡ recovered file
  cut_keeps c cut =
      let n = length c - end in
      let long : length c ≡ length front + n = omega (arith, size, cut.no_shorter) in
      let whole : c ≡ front ++ take n (drop end file) =
      sym cut.front ∙ ap (λ (k : ℕ). take k file) long ∙ ap (take (length front + n)) (sym (take-append-drop end file)) ∙ take-append-add front (drop end file) n in
      let none : first_block (drop end file) ≡ None = ap (λ (k : ℕ). first_block (drop k file)) ends ∙ behind (recovered file) file refl in
      ap recovered whole ∙ nothing_more _ (front_none n _ none)

  pub cut_length : length (take end file) ≡ end
  cut_length = size

  -- one byte behind the blocks is no block
  pub torn_end : (c : List ℕ) → Torn end 1 (take end file) c → recovered c ≡ recovered file
  torn_end c torn =
      let whole : c ≡ front ++ drop end c = sym (take-append-drop end c) ∙ ap (λ (l : List ℕ). l ++ drop end c) (torn.before ∙ take_all end front (omega (arith, size))) in
      ap recovered whole ∙ nothing_more (drop end c) (short_none (drop end c) (omega (arith, length-drop end c, torn.no_longer, size)))

  pub written_end : (c : List ℕ) → Holds (take end file) end (0 ∷ []) c → c ≡ front ++ 0 ∷ []
  written_end c holds =
      holds
      ∙ ap (λ (l : List ℕ). l ++ (0 ∷ []) ++ drop (end + 1) front) (take_all end front (omega (arith, size)))
      ∙ ap (λ (l : List ℕ). front ++ (0 ∷ []) ++ l) (drop_all (end + 1) front (omega (arith, size)))
      ∙ append-nil (front ++ 0 ∷ [])

  pub end_stands_for : recovered (front ++ 0 ∷ []) ≡ recovered file
  end_stands_for = nothing_more (0 ∷ []) (closed 0 [] (omega arith))

  pub end_rests : (c : List ℕ) → c ≡ front ++ 0 ∷ [] → IsAtRest end c
  end_rests c is =
      let same : take end c ≡ front = ap (take end) is ∙ take_at front (0 ∷ []) end size in
      (is ∙ ap (λ (l : List ℕ). l ++ 0 ∷ []) (sym same), ends ∙ ap blocks_length (sym (ap recovered is ∙ end_stands_for)))

-- ---- a batch more
module _ (file : List ℕ) (end : ℕ) (rests : IsAtRest end file) (batch : List ℕ) where
  abbrev before : List ℕ
  before = take end file

  abbrev blocks_size : length before ≡ end
  blocks_size = cut_length file end rests.1

  pub length_rest : length file ≡ end + 1
  length_rest = ap length rests.0 ∙ omega (arith, blocks_size, length-append before (0 ∷ []))

  -- the closed gate stands in each outcome of the first write
  pub torn_behind : (n : ℕ) (c : List ℕ) → Torn (end + 1) n file c → recovered c ≡ recovered file
  torn_behind n c torn =
      let start : take (end + 1) c ≡ before ++ 0 ∷ [] = torn.before ∙ take_all (end + 1) file (omega (arith, length_rest)) ∙ rests.0 in
      let whole : c ≡ before ++ 0 ∷ drop (end + 1) c =
      sym (take-append-drop (end + 1) c) ∙ ap (λ (l : List ℕ). l ++ drop (end + 1) c) start ∙ append_assoc before (0 ∷ []) (drop (end + 1) c) in
      ap recovered whole ∙ nothing_more file end rests.1 _ (closed 0 (drop (end + 1) c) (omega arith))

  pub written_behind : (c : List ℕ) → Holds file (end + 1) (block batch) c → c ≡ before ++ 0 ∷ block batch
  written_behind c holds =
      holds
      ∙ ap (λ (l : List ℕ). l ++ block batch ++ drop (end + 1 + length (block batch)) file) (take_all (end + 1) file (omega (arith, length_rest)) ∙ rests.0)
      ∙ ap (λ (l : List ℕ). (before ++ 0 ∷ []) ++ block batch ++ l) (drop_all _ file (omega (arith, length_rest)))
      ∙ append-nil ((before ++ 0 ∷ []) ++ block batch)
      ∙ append_assoc before (0 ∷ []) (block batch)

  pub length_staged : length (before ++ 0 ∷ block batch) ≡ end + 10 + length batch
  length_staged = omega (arith, blocks_size, length-append before (0 ∷ block batch), length_block batch)

  staged_front : take end (before ++ 0 ∷ block batch) ≡ before
  staged_front = take_at before (0 ∷ block batch) end blocks_size

  staged_back : drop (end + 1) (before ++ 0 ∷ block batch) ≡ block batch
  staged_back =
      ap (drop (end + 1)) (sym (append_assoc before (0 ∷ []) (block batch)))
      ∙ drop_at (before ++ 0 ∷ []) (block batch) (end + 1) (omega (arith, blocks_size, length-append before (0 ∷ [])))

  pub written_gate : (c : List ℕ) → Holds (before ++ 0 ∷ block batch) end (1 ∷ []) c → c ≡ before ++ 1 ∷ block batch
  written_gate c holds =
      holds
      ∙ ap (λ (l : List ℕ). l ++ (1 ∷ []) ++ drop (end + 1) (before ++ 0 ∷ block batch)) staged_front
      ∙ ap (λ (l : List ℕ). before ++ (1 ∷ []) ++ l) staged_back
      ∙ append_assoc before (1 ∷ []) (block batch)

  module _ (fits : length batch < 2 ^ 64) where
    opened : recovered (before ++ 1 ∷ block batch) ≡ recovered file ++ batch ∷ []
    opened =
        stands_for file end rests.1 (1 ∷ block batch)
        ∙ ap (λ (l : List (List ℕ)). recovered file ++ l) (recovered_opens _ batch (0 ∷ []) (opens_written batch (0 ∷ []) fits) ∙ ap (λ (l : List (List ℕ)). batch ∷ l) (recovered_none (0 ∷ []) (closed 0 [] (omega arith))))

    -- the block stands whole in each outcome of the second write
    pub torn_gate : (c : List ℕ) → Torn end 1 (before ++ 0 ∷ block batch) c → (recovered c ≡ recovered file) ⊎ (recovered c ≡ recovered file ++ batch ∷ [])
    torn_gate c torn =
        let gate = get_or c end 0 in
        let rest : drop end c ≡ gate ∷ block batch =
        drop_more c end 0 (omega (arith, torn.no_shorter, length_staged)) ∙ ap (λ (l : List ℕ). gate ∷ l) (torn.after ∙ staged_back) in
        let whole : c ≡ before ++ gate ∷ block batch =
        sym (take-append-drop end c) ∙ ap (λ (l : List ℕ). l ++ drop end c) (torn.before ∙ staged_front) ∙ ap (λ (l : List ℕ). before ++ l) rest in
        elim (cases_eq gate 1) [
          | inl is_open ↦ inr (ap recovered (whole ∙ ap (λ (g : ℕ). before ++ g ∷ block batch) is_open) ∙ opened)
          | inr shut ↦ inl (ap recovered whole ∙ nothing_more file end rests.1 _ (closed gate (block batch) shut))
        ]

    pub added : (c : List ℕ) → c ≡ before ++ 1 ∷ block batch → recovered c ≡ recovered file ++ batch ∷ []
    added c is = ap recovered is ∙ opened

    -- and the file rests again
    pub added_rests : (c : List ℕ) → c ≡ before ++ 1 ∷ block batch → IsAtRest (end + (9 + length batch)) c
    added_rests c is =
        let header = to_le_bytes w64 (length batch) in
        let all = before ++ (1 ∷ header ++ batch) in
        let split : before ++ 1 ∷ block batch ≡ all ++ 0 ∷ [] = sym (append_assoc before (1 ∷ header ++ batch) (0 ∷ [])) in
        let long : length all ≡ end + (9 + length batch) = omega (arith, blocks_size, length-append before (1 ∷ header ++ batch), length-append header batch) in
        let start : take (end + (9 + length batch)) c ≡ all = ap (take (end + (9 + length batch))) (is ∙ split) ∙ take_at all (0 ∷ []) _ long in
        (is ∙ split ∙ ap (λ (l : List ℕ). l ++ 0 ∷ []) (sym start), omega (arith, rests.1, ap blocks_length (added c is), blocks_length-append (recovered file) batch))

    -- ---- the same of the bytes and contents that calls name
    module _ (some : 0 < length batch) where
      as_added : (recovered file ++ batch ∷ []) ≡ with_batch (recovered file) batch
      as_added = sym (with_some (recovered file) batch some)

      pub outcomes : (mid c : List ℕ) → mid ≡ before ++ 0 ∷ block batch → Torn end 1 mid c → IsBeforeOrAfter (recovered file) batch c
      outcomes mid c is torn = ⊎_elim (λ old. inl old) (λ new. inr (new ∙ as_added)) (torn_gate c (subst (λ d. Torn end 1 d c) is torn))

      pub acknowledged : (c : List ℕ) → c ≡ before ++ 1 ∷ block batch → recovered c ≡ with_batch (recovered file) batch
      acknowledged c is = added c is ∙ as_added

  pub staged_by : (bytes c : List ℕ) → bytes ≡ block batch → Holds file (end + 1) bytes c → c ≡ before ++ 0 ∷ block batch
  staged_by bytes c is holds = written_behind c (subst (λ b. Holds file (end + 1) b c) is holds)

  pub opened_by : (mid c : List ℕ) → mid ≡ before ++ 0 ∷ block batch → Holds mid end (1 ∷ []) c → c ≡ before ++ 1 ∷ block batch
  opened_by mid c is holds = written_gate c (subst (λ d. Holds d end (1 ∷ []) c) is holds)
