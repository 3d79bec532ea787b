-- Matchers are read again of their one text.
use Rattle.std.proofs.Common.{◌≡◌, ℕ, ◌+◌, ◌-◌, ◌<◌, ◌^◌, List, [], ◌∷◌, ◌++◌, length, length-append, append_assoc, take, drop, map, None, Bool, eqb, true, false, refl, sym, ap, subst, ◌∙◌, arith}
use Rattle.std.specs.Prelude.{All}
use Rattle.std.proofs.lemmas.Bool.{eqb-true, eqb-false, ne_eqb}
use Rattle.std.proofs.lemmas.List.{take_rest, nil_from_length, flat_map_more}
use Rattle.std.proofs.lemmas.List.Elements.{All-nil, All-head, All-tail, All-push}
use Rattle.am_wire.specs.Varint.{shortest, groups}
use Rattle.am_wire.specs.Reading.{Row, item_row, messages}
use Rattle.am_wire.specs.Writing.{tag, writes_delimited}
use Rattle.am_wire.specs.RoundTrip.Written.{EachReads, written_nothing, written_items, items_again, reads_whole}
use Rattle.am_wire.specs.Offsets.{Follows}
use Rattle.am_silence.specs.declared.matcher.Matcher.{Matcher}
use Rattle.am_silence.specs.Matchers.{matcher, matcher_tests, matcher_value, writes_matcher, IsMatcher}
use Rattle.am_silence.specs.MatcherTexts.{writes_matchers, matchers_in, IsMatchersText, IsMatcherText}
use Rattle.am_silence.specs.RoundTrip.{matcher_reads}

abbrev rows : List Row
rows = item_row 2 matcher matcher_tests ∷ []

pub matchers_spelled : (ms : List Matcher) → All IsMatcher ms → length (writes_matchers ms) < 2 ^ 64 → matchers_in (writes_matchers ms) ≡ ms
unfolding matchers_in
matchers_spelled ms values short =
    let each : EachReads matcher matcher_tests matcher_value writes_matcher ms =
    record { each = λ k d h. matcher_reads _ (values k d h) } in
    let all = written_items (written_nothing rows) 2 each refl refl in
    let whole = reads_whole {tests = λ place es. None} {value = λ es. map matcher_value (messages matcher 2 es)} all short
    (λ at. record { passes = λ place. refl; value_is = items_again all at 2 short each refl }) in
    (whole.means 0).value_is

pub is_text : (ms : List Matcher) → All IsMatcher ms → length (writes_matchers ms) < 2 ^ 64 → IsMatchersText (writes_matchers ms)
is_text ms values short =
    let spelled = matchers_spelled ms values short in
    record { is = ap writes_matchers (sym spelled); values = subst (All IsMatcher) (sym spelled) values; short = short }

-- ---- a text by its first matcher
pub tag_2 : tag 2 2 ≡ 18 ∷ []
unfolding groups
tag_2 = refl

pub tag_3 : tag 3 2 ≡ 26 ∷ []
unfolding groups
tag_3 = refl

-- a matcher, and the others
pub record BeginsWith (text : List ℕ) (m : Matcher) (others : List Matcher) : Type 0 where
  pub spells : matchers_in text ≡ m ∷ others
  pub own : IsMatcherText (writes_matcher m) m
  pub rest : IsMatchersText (writes_matchers others)
  pub rest_spells : matchers_in (writes_matchers others) ≡ others
  pub is : text ≡ 18 ∷ (shortest (length (writes_matcher m)) ++ (writes_matcher m ++ writes_matchers others))

begins : (text : List ℕ) (m : Matcher) (others : List Matcher) → matchers_in text ≡ m ∷ others → IsMatchersText text → BeginsWith text m others
begins text m others spells h =
    let own = writes_matcher m in
    let rest = writes_matchers others in
    let values : All IsMatcher (m ∷ others) = subst (All IsMatcher) spells h.values in
    let is : text ≡ (tag 2 2 ++ (shortest (length own) ++ own)) ++ rest = h.is ∙ ap writes_matchers spells in
    let len : length text ≡ length (tag 2 2) + (length (shortest (length own)) + length own) + length rest =
    ap length is ∙ length-append (tag 2 2 ++ (shortest (length own) ++ own)) rest
    ∙ ap (λ (n : ℕ). n + length rest) (length-append (tag 2 2) (shortest (length own) ++ own) ∙ ap (λ (n : ℕ). length (tag 2 2) + n) (length-append (shortest (length own)) own)) in
    let value = All-tail IsMatcher m others values in
    let small : length rest < 2 ^ 64 = omega (arith, len, h.short) in
    record {
      spells = spells;
      own = record { is = refl; value = All-head IsMatcher m others values; short = omega (arith, len, h.short) };
      rest = is_text others value small;
      rest_spells = matchers_spelled others value small;
      is = is ∙ ap (λ (t : List ℕ). (t ++ (shortest (length own) ++ own)) ++ rest) tag_2
          ∙ ap (λ (t : List ℕ). 18 ∷ t) (append_assoc (shortest (length own)) own rest);
    }

-- only the empty text spells no matcher
pub spells_none : matchers_in [] ≡ []
spells_none = matchers_spelled [] (All-nil IsMatcher) (omega arith)

pub nothing_in : (text : List ℕ) → true ≡ eqb (length text) 0 → matchers_in text ≡ []
nothing_in text none = ap matchers_in (nil_from_length text (eqb-true _ _ (sym none))) ∙ spells_none

-- a text that is not empty begins with a matcher
pub first_in : (text : List ℕ) → IsMatchersText text → false ≡ eqb (length text) 0 → (m : Matcher) × (others : List Matcher) × BeginsWith text m others
first_in text h some = by_list (matchers_in text) refl
  where
    by_list : (ms : List Matcher) → matchers_in text ≡ ms → (m : Matcher) × (others : List Matcher) × BeginsWith text m others
    by_list [] e = absurd (eqb-false _ _ (sym some) (ap length (h.is ∙ ap writes_matchers e)))
    by_list (m ∷ others) e = (m, others, begins text m others e h)

abbrev pub behind_tag : {text : List ℕ} {m : Matcher} {others : List Matcher} → BeginsWith text m others → Follows 0 (writes_matcher m) (take (length text - 1) (drop 1 text))
behind_tag {text} {m} {others} h =
    record { rest = writes_matchers others; within = omega arith; short = h.own.short; is = take_rest text 1 ∙ ap (drop 1) h.is }

pub nothing : IsMatchersText []
nothing = is_text [] (All-nil IsMatcher) (omega arith)

-- no text, no matcher
pub empty_tells : (text : List ℕ) → IsMatchersText text → eqb (length text) 0 ≡ eqb (length (matchers_in text)) 0
empty_tells text h = by_text (eqb (length text) 0) refl
  where
    by_text : (b : Bool) → b ≡ eqb (length text) 0 → eqb (length text) 0 ≡ eqb (length (matchers_in text)) 0
    by_text true e = sym e ∙ sym (ap (λ (ms : List Matcher). eqb (length ms) 0) (nothing_in text e))
    by_text false e =
        let f = first_in text h e in
        let some : eqb (length (f.0 ∷ f.1)) 0 ≡ false = ne_eqb _ _ (λ z. omega (arith, z)) in
        sym e ∙ sym (ap (λ (ms : List Matcher). eqb (length ms) 0) f.2.spells ∙ some)

-- one matcher more
module _ {text longer : List ℕ} {m : Matcher} (h : IsMatchersText text) (value : IsMatcher m) (e : longer ≡ text ++ writes_delimited 2 (writes_matcher m)) (short : length longer < 2 ^ 64) where
  more_is : longer ≡ writes_matchers (matchers_in text ++ m ∷ [])
  more_is = e ∙ ap (λ (t : List ℕ). t ++ writes_delimited 2 (writes_matcher m)) h.is
      ∙ flat_map_more (λ (x : Matcher). writes_delimited 2 (writes_matcher x)) [] (matchers_in text) m

  more_values : All IsMatcher (matchers_in text ++ m ∷ [])
  more_values = All-push IsMatcher (matchers_in text) m h.values value

  more_short : length (writes_matchers (matchers_in text ++ m ∷ [])) < 2 ^ 64
  more_short = omega (arith, short, ap length more_is)

  pub more_text : IsMatchersText longer
  more_text = subst IsMatchersText (sym more_is) (is_text (matchers_in text ++ m ∷ []) more_values more_short)

  pub more_spells : matchers_in longer ≡ matchers_in text ++ m ∷ []
  more_spells = ap matchers_in more_is ∙ matchers_spelled (matchers_in text ++ m ∷ []) more_values more_short

-- what is read of it
module _ {text own rest : List ℕ} {m : Matcher} {others : List Matcher} (h : BeginsWith text m others) (e : (own ≡ writes_matcher m) × (rest ≡ writes_matchers others)) where
  pub own_read : IsMatcherText own m
  own_read = subst (λ (t : List ℕ). IsMatcherText t m) (sym e.0) h.own

  pub rest_read : IsMatchersText rest
  rest_read = subst IsMatchersText (sym e.1) h.rest

  pub others_read : matchers_in rest ≡ others
  others_read = ap matchers_in e.1 ∙ h.rest_spells
