-- Names of sources that hold the same, one more.
use Rattle.std.proofs.Common.{◌≡◌, ℕ, ◌+◌, ◌<◌, Bool, true, false, not, cond, ◌&&◌, List, [], ◌∷◌, ◌++◌, Option, length, get_or, take, map, refl, sym, ap, ◌∙◌, append_assoc, append-nil}
use Rattle.std.specs.Prelude.{filter}
use Rattle.std.proofs.lemmas.List.{take_more, map-append}
use Rattle.am_version_order.specs.Versions.{Version}
use Rattle.am_report.specs.Sources.{Holding, MergeCursor, holding_of}
use Rattle.am_report.specs.Differences.{is_same}
use Rattle.am_report.specs.Words.{listed_word_of}
use Rattle.am_report.specs.ReportLine.{holders, names_word, next_name}

-- no name comes before
abbrev pub is_none_before : List (List ℕ) → Bool
is_none_before [] = true
is_none_before (name ∷ names) = false

-- a name more
more_words : (names : List (List ℕ)) (name : List ℕ) → names_word (names ++ name ∷ []) ≡ names_word names ++ next_name (is_none_before names) name
more_words [] name = refl
more_words (first ∷ []) name = refl
more_words (first ∷ second ∷ names) name =
    ap (λ (rest : List ℕ). listed_word_of first ++ (44 ∷ rest)) (more_words (second ∷ names) name)
    ∙ sym (append_assoc (listed_word_of first) (44 ∷ names_word (second ∷ names)) (44 ∷ listed_word_of name))

some_before : (names : List (List ℕ)) (name : List ℕ) → is_none_before (names ++ name ∷ []) ≡ false
some_before [] name = refl
some_before (first ∷ names) name = refl

and_true : (b : Bool) → b ≡ (b && true)
and_true true = refl
and_true false = refl

and_false : (b : Bool) → false ≡ (b && false)
and_false true = refl
and_false false = refl

module _ {K X : Type 0} (seen : X → Version K) (here : Option X) where
  kept_name : (b : Bool) (holding : Holding X) → map (λ (h : Holding X). h.name) (cond b (holding ∷ []) []) ≡ cond b (holding.name ∷ []) []
  kept_name true holding = refl
  kept_name false holding = refl

  behind_kept : (b : Bool) (first : Holding X) (kept : List (Holding X)) (names last : List (List ℕ)) → map (λ (h : Holding X). h.name) kept ≡ names ++ last
      → map (λ (h : Holding X). h.name) (cond b (first ∷ kept) kept) ≡ map (λ (h : Holding X). h.name) (cond b (first ∷ []) []) ++ (names ++ last)
  behind_kept true first kept names last e = ap (λ ns. first.name ∷ ns) e
  behind_kept false first kept names last e = e

  front_kept : (b : Bool) (first : Holding X) (kept : List (Holding X)) → map (λ (h : Holding X). h.name) (cond b (first ∷ kept) kept)
      ≡ map (λ (h : Holding X). h.name) (cond b (first ∷ []) []) ++ map (λ (h : Holding X). h.name) kept
  front_kept true first kept = refl
  front_kept false first kept = refl

  holders_push : (holdings : List (Holding X)) (holding : Holding X)
      → holders seen here (holdings ++ holding ∷ []) ≡ holders seen here holdings ++ cond (is_same seen holding.here here) (holding.name ∷ []) []
  holders_push [] holding = kept_name (is_same seen holding.here here) holding
  holders_push (first ∷ holdings) holding =
      let b = is_same seen first.here here in
      let last = cond (is_same seen holding.here here) (holding.name ∷ []) [] in
      behind_kept b first (filter (λ h. is_same seen h.here here) (holdings ++ holding ∷ [])) (holders seen here holdings) last (holders_push holdings holding)
      ∙ sym (append_assoc (map (λ (h : Holding X). h.name) (cond b (first ∷ []) [])) (holders seen here holdings) last)
      ∙ ap (λ names. names ++ last) (sym (front_kept b first (filter (λ h. is_same seen h.here here) holdings)))

  pub holders_more : (sides : List (MergeCursor X)) (i : ℕ) (d : MergeCursor X) → i < length sides
      → holders seen here (map holding_of (take (i + 1) sides))
      ≡ holders seen here (map holding_of (take i sides)) ++ cond (is_same seen (get_or sides i d).here here) ((get_or sides i d).name ∷ []) []
  holders_more sides i d less =
      ap (λ (ss : List (MergeCursor X)). holders seen here (map holding_of ss)) (take_more sides i d less)
      ∙ ap (holders seen here) (map-append holding_of (take i sides) (get_or sides i d ∷ []))
      ∙ holders_push (map holding_of (take i sides)) (holding_of (get_or sides i d))

  -- what is written so far
  pub record AreNamed (sides : List (MergeCursor X)) (start text : List ℕ) (is_first : Bool) : Type 0 where
    pub text_is : text ≡ start ++ names_word (holders seen here (map holding_of sides))
    pub first_is : is_first ≡ is_none_before (holders seen here (map holding_of sides))

  named_by : (names new : List (List ℕ)) (start text : List ℕ) (is_first b : Bool) (name : List ℕ) → new ≡ names ++ cond b (name ∷ []) []
      → text ≡ start ++ names_word names → is_first ≡ is_none_before names
      → (text ++ cond b (next_name is_first name) [] ≡ start ++ names_word new) × ((is_first && not b) ≡ is_none_before new)
  named_by names new start text is_first true name is so_far first = (
    rw (so_far, first, is) (append_assoc start (names_word names) (next_name (is_none_before names) name) ∙ ap (λ word. start ++ word) (sym (more_words names name))),
    rw is (sym (and_false is_first) ∙ sym (some_before names name)),
  )
  named_by names new start text is_first false name is so_far first = (
    rw (so_far, is) (append-nil (start ++ names_word names) ∙ ap (λ ns. start ++ names_word ns) (sym (append-nil names))),
    rw is (sym (and_true is_first) ∙ first ∙ ap is_none_before (sym (append-nil names))),
  )

  pub named_more : (sides : List (MergeCursor X)) (i : ℕ) (cursor : MergeCursor X) (start text new : List ℕ) (is_first still : Bool) → i < length sides → cursor ≡ get_or sides i cursor
      → AreNamed (take i sides) start text is_first → new ≡ text ++ cond (is_same seen cursor.here here) (next_name is_first cursor.name) []
      → still ≡ (is_first && not (is_same seen cursor.here here)) → AreNamed (take (i + 1) sides) start new still
  named_more sides i cursor start text new is_first still less is before written answered =
      let more : holders seen here (map holding_of (take (i + 1) sides)) ≡ holders seen here (map holding_of (take i sides)) ++ cond (is_same seen cursor.here here) (cursor.name ∷ []) [] =
      holders_more sides i cursor less
      ∙ ap (λ (s : MergeCursor X). holders seen here (map holding_of (take i sides)) ++ cond (is_same seen s.here here) (s.name ∷ []) []) (sym is) in
      let both = named_by (holders seen here (map holding_of (take i sides))) (holders seen here (map holding_of (take (i + 1) sides))) start text is_first (is_same seen cursor.here here) cursor.name more before.text_is before.first_is in
      record { text_is = written ∙ both.0; first_is = answered ∙ both.1 }

  pub none_named : (start : List ℕ) → AreNamed [] start start true
  none_named start = record { text_is = sym (append-nil start); first_is = refl }
