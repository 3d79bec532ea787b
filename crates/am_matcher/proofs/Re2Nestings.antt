-- The nesting at a place of a pattern, from the parts behind it, and expressions.
use Rattle.std.proofs.Common.{◌≡◌, ◌∙◌, ℕ, suc, ◌+◌, ◌-◌, ◌*◌, ◌≤◌, Bool, true, false, nat_le, nat_lt, List, [], ◌∷◌, ◌++◌, length, append_assoc, refl, sym, ap, subst, arith, true≢false}
use Rattle.std.specs.Prelude.{Option, Some, None, unwrap_or, if◌then◌else◌, MatchBool}
use Rattle.std.proofs.lemmas.Bool.Decides.{nat_tests}
use Rattle.am_matcher.specs.declared.re2.pieces.PatternPart.{PatternPart}
use Rattle.am_matcher.specs.declared.re2.pieces.PatternPart.TheVariants.{Atom, Fixed, Repeat, Open, Close, Bar}
use Rattle.am_matcher.specs.Re2.{IsRepeated, once, often, IsExpression, empty, fixed, bar, atom, group}
use Rattle.am_matcher.specs.Re2Nesting.{Nest, at_end, opened, closed, repeated, back_over, before_all}

abbrev nest : Option ℕ → ℕ → List ℕ → Nest
nest waiting times outer = record { waiting = waiting; times = times; outer = outer }

-- ---- the walk over joined parts
abbrev over : PatternPart → Option Nest → Option Nest
over part found = elim found [ None ↦ None | Some behind ↦ back_over part behind ]

pub before_all-append : (front rest : List PatternPart) (found : Option Nest) → before_all (front ++ rest) found ≡ before_all front (before_all rest found)
unfolding before_all
before_all-append [] rest found = refl
before_all-append (part ∷ front) rest found = ap (over part) (before_all-append front rest found)

-- ---- what follows an expression is known before it
record Waits (times often : ℕ) (repeats : List PatternPart) (outer : List ℕ) : Type 0 where
  waiting : Option ℕ
  known : before_all repeats (Some (nest None times outer)) ≡ Some (nest waiting times outer)
  often_is : unwrap_or waiting times ≡ often

within : (n : ℕ) → n ≤ 1000 → nat_le n 1000 ≡ true
within n h = grind (arith, nat_tests)

room : (n m : ℕ) → n + suc m ≡ 100 → nat_lt n 100 ≡ true
room n m h = grind (arith, nat_tests)

repeated_known : (times most : ℕ) (outer : List ℕ) → times * most ≤ 1000 → repeated most (nest None times outer) ≡ Some (nest (Some (times * most)) times outer)
unfolding repeated
repeated_known times most outer h =
    ap (λ (b : Bool). if b then Some (nest (Some (times * most)) times outer) else None) (within (times * most) h)

waits : {times often : ℕ} {repeats : List PatternPart} → IsRepeated times often repeats → (outer : List ℕ) → Waits times often repeats outer
unfolding before_all back_over
waits {times} once outer = record { waiting = None; known = refl; often_is = refl }
waits {times} (often {most} h) outer =
    record { waiting = Some (times * most); known = repeated_known times most outer h; often_is = refl }

closed_known : (waiting : Option ℕ) (times levels : ℕ) (outer : List ℕ) → length outer + suc levels ≡ 100 → closed (nest waiting times outer) ≡ Some (nest None (unwrap_or waiting times) (times ∷ outer))
unfolding closed
closed_known waiting times levels outer h =
    ap (λ (b : Bool). if b then Some (nest None (unwrap_or waiting times) (times ∷ outer)) else None) (room (length outer) levels h)

one_in : (n m : ℕ) → n + suc m ≡ 100 → suc n + m ≡ 100
one_in n m h = omega arith

known : {times levels : ℕ} {parts : List PatternPart} → IsExpression times levels parts → (outer : List ℕ) → length outer + levels ≡ 100 → before_all parts (Some (nest None times outer)) ≡ Some (nest None times outer)
unfolding before_all back_over opened
known empty outer h = refl
known (fixed e) outer h = ap (over Fixed) (known e outer h)
known (bar e) outer h = ap (over Bar) (known e outer h)
known {times} (atom {repeats} {rest} r e) outer h =
    ap (over Atom) (before_all-append repeats rest _ ∙ ap (before_all repeats) (known e outer h) ∙ (waits r outer).known)
known {times} (group {often} {inside} {repeats} {rest} r i e) outer h =
    let w = waits r outer in
    let behind : before_all (repeats ++ rest) (Some (nest None times outer)) ≡ Some (nest w.waiting times outer) =
    before_all-append repeats rest _ ∙ ap (before_all repeats) (known e outer h) ∙ w.known in
    let end : before_all (Close ∷ (repeats ++ rest)) (Some (nest None times outer)) ≡ Some (nest None often (times ∷ outer)) =
    ap (over Close) behind ∙ closed_known w.waiting times _ outer h ∙ ap (λ (t : ℕ). Some (nest None t (times ∷ outer))) w.often_is in
    ap (over Open) (before_all-append inside (Close ∷ (repeats ++ rest)) _ ∙ ap (before_all inside) end ∙ known i (times ∷ outer) (one_in _ _ h))

pub known_before : (parts : List PatternPart) → IsExpression 1 100 parts → before_all parts (Some at_end) ≡ Some at_end
known_before parts e = known e [] refl

-- ---- what is known stands before an expression
-- the parts go on in a group for each of the outer ones, and behind it
record Level (total times : ℕ) (outer : List ℕ) (behind : List PatternPart → Type 0) (parts : List PatternPart) : Type 0 where
  levels : ℕ
  deep : suc (length outer) + levels ≡ 100
  inside : List PatternPart
  repeats : List PatternPart
  rest : List PatternPart
  parts_are : parts ≡ inside ++ Close ∷ (repeats ++ rest)
  is_inside : IsExpression total levels inside
  is_repeated : IsRepeated times total repeats
  is_behind : behind rest

IsOpen : ℕ → List ℕ → List PatternPart → Type 0
IsOpen times [] parts = (times ≡ 1) × IsExpression times 100 parts
IsOpen total (times ∷ outer) parts = Level total times outer (IsOpen times outer) parts

record IsWaiting (total times : ℕ) (outer : List ℕ) (parts : List PatternPart) : Type 0 where
  most : ℕ
  rest : List PatternPart
  parts_are : parts ≡ Repeat most ∷ rest
  total_is : total ≡ times * most
  within : times * most ≤ 1000
  is_open : IsOpen times outer rest

IsKnown : Option ℕ → ℕ → List ℕ → List PatternPart → Type 0
IsKnown None times outer parts = IsOpen times outer parts
IsKnown (Some total) times outer parts = IsWaiting total times outer parts

-- what is put before an expression of these levels
abbrev Prepends : ℕ → List ℕ → List PatternPart → Type 0
Prepends times outer front =
    (levels : ℕ) (rest : List PatternPart) → length outer + levels ≡ 100 → IsExpression times levels rest → IsExpression times levels (front ++ rest)

prepend : (times : ℕ) (outer : List ℕ) (front parts : List PatternPart) → Prepends times outer front → IsOpen times outer parts → IsOpen times outer (front ++ parts)
unfolding IsOpen
prepend times [] front parts put k = (k.0, put 100 parts refl k.1)
prepend total (times ∷ outer) front parts put k = record {
  levels = k.levels;
  deep = k.deep;
  inside = front ++ k.inside;
  repeats = k.repeats;
  rest = k.rest;
  parts_are = ap (λ (ps : List PatternPart). front ++ ps) k.parts_are ∙ sym (append_assoc front k.inside (Close ∷ (k.repeats ++ k.rest)));
  is_inside = put k.levels k.inside k.deep k.is_inside;
  is_repeated = k.is_repeated;
  is_behind = k.is_behind;
}

abbrev IsKnownNest : Nest → List PatternPart → Type 0
IsKnownNest n parts = IsKnown n.waiting n.times n.outer parts

-- a choice that is there was made
record Chosen (b : Bool) (a found : Nest) : Type 0 where
  holds : b ≡ true
  found_is : a ≡ found

chosen : (b : Bool) (a found : Nest) → (if b then Some a else None) ≡ Some found → Chosen b a found
chosen true a found e = record { holds = refl; found_is = (cc) }
chosen false a found e = cc

same_known : (a found : Nest) (parts : List PatternPart) → a ≡ found → IsKnownNest a parts → IsKnownNest found parts
same_known a found parts e k = subst (λ (n : Nest). IsKnownNest n parts) e k

some_is : (a found : Nest) → Some a ≡ Some found → a ≡ found
some_is a found e = cc

at_most : (n : ℕ) → nat_le n 1000 ≡ true → n ≤ 1000
at_most n h = grind (arith, nat_tests)

few : (n : ℕ) → nat_lt n 100 ≡ true → suc n + (100 - suc n) ≡ 100
few n h = grind (arith, nat_tests)

atom_before : (waiting : Option ℕ) (times : ℕ) (outer : List ℕ) (parts : List PatternPart) → IsKnown waiting times outer parts → IsOpen times outer (Atom ∷ parts)
unfolding IsKnown
atom_before None times outer parts k = prepend times outer (Atom ∷ []) parts (λ levels rest h e. atom once e) k
atom_before (Some total) times outer parts k =
    subst (λ (ps : List PatternPart). IsOpen times outer (Atom ∷ ps)) (sym k.parts_are)
    (prepend times outer (Atom ∷ Repeat k.most ∷ []) k.rest (λ levels rest h e. atom (often k.within) e) k.is_open)

repeat_before : (waiting : Option ℕ) (times most : ℕ) (outer : List ℕ) (parts : List PatternPart) (found : Nest) → IsKnown waiting times outer parts → repeated most (nest waiting times outer) ≡ Some found → IsKnownNest found (Repeat most ∷ parts)
unfolding IsKnown repeated
repeat_before None times most outer parts found k e =
    let c = chosen (nat_le (times * most) 1000) (nest (Some (times * most)) times outer) found e in
    same_known (nest (Some (times * most)) times outer) found (Repeat most ∷ parts) c.found_is (record {
      most = most;
      rest = parts;
      parts_are = refl;
      total_is = refl;
      within = at_most (times * most) c.holds;
      is_open = k;
    })
repeat_before (Some total) times most outer parts found k e = cc

close_before : (waiting : Option ℕ) (times : ℕ) (outer : List ℕ) (parts : List PatternPart) → nat_lt (length outer) 100 ≡ true → IsKnown waiting times outer parts → IsOpen (unwrap_or waiting times) (times ∷ outer) (Close ∷ parts)
unfolding IsKnown IsOpen
close_before None times outer parts h k = record {
  levels = 100 - suc (length outer);
  deep = few (length outer) h;
  inside = [];
  repeats = [];
  rest = parts;
  parts_are = refl;
  is_inside = empty;
  is_repeated = once;
  is_behind = k;
}
close_before (Some total) times outer parts h k = record {
  levels = 100 - suc (length outer);
  deep = few (length outer) h;
  inside = [];
  repeats = Repeat k.most ∷ [];
  rest = k.rest;
  parts_are = ap (λ (ps : List PatternPart). Close ∷ ps) k.parts_are;
  is_inside = empty;
  is_repeated = subst (λ (t : ℕ). IsRepeated times t (Repeat k.most ∷ [])) (sym k.total_is) (often k.within);
  is_behind = k.is_open;
}

-- a whole group before an expression, a level further out
group_levels : (times total inner : ℕ) (inside repeats : List PatternPart) → IsRepeated times total repeats → IsExpression total inner inside → (levels : ℕ) (rest : List PatternPart) → levels ≡ suc inner → IsExpression times levels rest → IsExpression times levels (Open ∷ (inside ++ Close ∷ (repeats ++ rest)))
group_levels times total inner inside repeats r i levels rest is e =
    subst (λ (l : ℕ). IsExpression times l (Open ∷ (inside ++ Close ∷ (repeats ++ rest)))) (sym is)
    (group r i (subst (λ (l : ℕ). IsExpression times l rest) is e))

outside_level : (n inner levels : ℕ) → suc n + inner ≡ 100 → n + levels ≡ 100 → levels ≡ suc inner
outside_level n inner levels h g = omega arith

open_before : (total times : ℕ) (outer : List ℕ) (parts : List PatternPart) → IsOpen total (times ∷ outer) parts → IsOpen times outer (Open ∷ parts)
unfolding IsOpen
open_before total times outer parts k =
    let front = Open ∷ (k.inside ++ Close ∷ k.repeats) in
    let joined : (rest : List PatternPart) → front ++ rest ≡ Open ∷ (k.inside ++ Close ∷ (k.repeats ++ rest)) =
    λ rest. ap (λ (ps : List PatternPart). Open ∷ ps) (append_assoc k.inside (Close ∷ k.repeats) rest) in
    let put : Prepends times outer front =
    λ levels rest h e. subst (IsExpression times levels) (sym (joined rest)) (group_levels times total k.levels k.inside k.repeats k.is_repeated k.is_inside levels rest (outside_level (length outer) k.levels levels k.deep h) e) in
    subst (IsOpen times outer) (joined k.rest ∙ ap (λ (ps : List PatternPart). Open ∷ ps) (sym k.parts_are))
    (prepend times outer front k.rest put k.is_behind)

opened_before : (waiting : Option ℕ) (times : ℕ) (outer : List ℕ) (parts : List PatternPart) (found : Nest) → IsKnown waiting times outer parts → opened (nest waiting times outer) outer ≡ Some found → IsKnownNest found (Open ∷ parts)
unfolding IsKnown opened
opened_before None times [] parts found k e = cc
opened_before (Some total) times [] parts found k e = cc
opened_before None times (out ∷ outer) parts found k e =
    same_known (nest None out outer) found (Open ∷ parts) (some_is (nest None out outer) found e) (open_before times out outer parts k)
opened_before (Some total) times (out ∷ outer) parts found k e = cc

fixed_before : (waiting : Option ℕ) (times : ℕ) (outer : List ℕ) (parts : List PatternPart) (found : Nest) → IsKnown waiting times outer parts → back_over Fixed (nest waiting times outer) ≡ Some found → IsKnownNest found (Fixed ∷ parts)
unfolding IsKnown back_over
fixed_before None times outer parts found k e =
    same_known (nest None times outer) found (Fixed ∷ parts) (some_is (nest None times outer) found e)
    (prepend times outer (Fixed ∷ []) parts (λ levels rest h e. fixed e) k)
fixed_before (Some total) times outer parts found k e = cc

bar_before : (waiting : Option ℕ) (times : ℕ) (outer : List ℕ) (parts : List PatternPart) (found : Nest) → IsKnown waiting times outer parts → back_over Bar (nest waiting times outer) ≡ Some found → IsKnownNest found (Bar ∷ parts)
unfolding IsKnown back_over
bar_before None times outer parts found k e =
    same_known (nest None times outer) found (Bar ∷ parts) (some_is (nest None times outer) found e)
    (prepend times outer (Bar ∷ []) parts (λ levels rest h e. bar e) k)
bar_before (Some total) times outer parts found k e = cc

closed_before : (waiting : Option ℕ) (times : ℕ) (outer : List ℕ) (parts : List PatternPart) (found : Nest) → IsKnown waiting times outer parts → closed (nest waiting times outer) ≡ Some found → IsKnownNest found (Close ∷ parts)
unfolding IsKnown closed
closed_before waiting times outer parts found k e =
    let a = nest None (unwrap_or waiting times) (times ∷ outer) in
    let c = chosen (nat_lt (length outer) 100) a found e in
    same_known a found (Close ∷ parts) c.found_is (close_before waiting times outer parts c.holds k)

one_before : (part : PatternPart) (behind found : Nest) (parts : List PatternPart) → IsKnownNest behind parts → back_over part behind ≡ Some found → IsKnownNest found (part ∷ parts)
unfolding IsKnown back_over
one_before Atom behind found parts k e =
    same_known (nest None behind.times behind.outer) found (Atom ∷ parts) (some_is (nest None behind.times behind.outer) found e)
    (atom_before behind.waiting behind.times behind.outer parts k)
one_before Fixed behind found parts k e = fixed_before behind.waiting behind.times behind.outer parts found k e
one_before Bar behind found parts k e = bar_before behind.waiting behind.times behind.outer parts found k e
one_before (Repeat most) behind found parts k e = repeat_before behind.waiting behind.times most behind.outer parts found k e
one_before Close behind found parts k e = closed_before behind.waiting behind.times behind.outer parts found k e
one_before Open behind found parts k e = opened_before behind.waiting behind.times behind.outer parts found k e

over_before : (part : PatternPart) (parts : List PatternPart) (before : Option Nest) (found : Nest) → ((behind : Nest) → before ≡ Some behind → IsKnownNest behind parts) → over part before ≡ Some found → IsKnownNest found (part ∷ parts)
over_before part parts None found k e = cc
over_before part parts (Some behind) found k e = one_before part behind found parts (k behind refl) e

stands_before : (parts : List PatternPart) (found : Nest) → before_all parts (Some at_end) ≡ Some found → IsKnownNest found parts
unfolding before_all IsKnown IsOpen
stands_before [] found e = same_known at_end found [] (some_is at_end found e) (refl, empty)
stands_before (part ∷ parts) found e = over_before part parts (before_all parts (Some at_end)) found (stands_before parts) e

pub whole_before : (parts : List PatternPart) (found : Nest) → before_all parts (Some at_end) ≡ Some found → found.waiting ≡ None → found.outer ≡ [] → IsExpression 1 100 parts
unfolding IsKnown IsOpen
whole_before parts found e free none =
    let k : IsKnown None found.times [] parts =
    subst (λ (outer : List ℕ). IsKnown None found.times outer parts) none
    (subst (λ (w : Option ℕ). IsKnown w found.times found.outer parts) free (stands_before parts found e)) in
    subst (λ (t : ℕ). IsExpression t 100 parts) k.0 k.1

-- ---- the walk from the end
none_left : (left : List PatternPart) → length left ≡ 0 → left ≡ []
none_left [] h = refl
none_left (part ∷ left) h = absurd (omega arith)

-- so far the walk has come: what is known at a place before which these are left
abbrev Walked : List PatternPart → List PatternPart → Option Nest → Type 0
Walked all left here = before_all all (Some at_end) ≡ before_all left here

back : (all left before : List PatternPart) (part : PatternPart) (here : Nest) (found : Option Nest) → Walked all left (Some here) → left ≡ before ++ part ∷ [] → back_over part here ≡ found → Walked all before found
unfolding before_all
back all left before part here found e is f =
    e ∙ ap (λ (l : List PatternPart). before_all l (Some here)) is ∙ before_all-append before (part ∷ []) (Some here) ∙ ap (before_all before) f

pub walked : (all left before : List PatternPart) (part : PatternPart) (here new : Nest) (may : Bool) → Walked all left (Some here) → left ≡ before ++ part ∷ [] → MatchBool may (back_over part here ≡ Some new) (back_over part here ≡ None) → may ≡ true → Walked all before (Some new)
walked all left before part here new true e is m t = back all left before part here (Some new) e is m
walked all left before part here new false e is m t = absurd (true≢false (sym t))

before_all-none : (parts : List PatternPart) → before_all parts None ≡ None
unfolding before_all
before_all-none [] = refl
before_all-none (part ∷ parts) = ap (over part) (before_all-none parts)

no_expression : (all before : List PatternPart) → Walked all before None → IsExpression 1 100 all → ⊥
no_expression all before e x =
    let lost : None ≡ Some at_end = sym (before_all-none before) ∙ sym e ∙ known_before all x in cc

pub misplaced : (all left before : List PatternPart) (part : PatternPart) (here new : Nest) (may : Bool) → Walked all left (Some here) → left ≡ before ++ part ∷ [] → MatchBool may (back_over part here ≡ Some new) (back_over part here ≡ None) → may ≡ false → IsExpression 1 100 all → ⊥
misplaced all left before part here new true e is m t = absurd (true≢false t)
misplaced all left before part here new false e is m t = no_expression all before (back all left before part here None e is m)

at_front : (all left : List PatternPart) (here : Nest) → Walked all left (Some here) → length left ≡ 0 → before_all all (Some at_end) ≡ Some here
unfolding before_all
at_front all left here e none = e ∙ ap (λ (l : List PatternPart). before_all l (Some here)) (none_left left none)

pub not_whole : (all left : List PatternPart) (here : Nest) → Walked all left (Some here) → length left ≡ 0 → ((here.waiting ≡ None) × (here.outer ≡ []) → ⊥) → IsExpression 1 100 all → ⊥
not_whole all left here e none rest x =
    let same : here ≡ at_end = some_is here at_end (sym (at_front all left here e none) ∙ known_before all x) in
    rest (ap (λ (n : Nest). n.waiting) same, ap (λ (n : Nest). n.outer) same)

pub is_whole : (all left : List PatternPart) (here : Nest) → Walked all left (Some here) → length left ≡ 0 → (here.waiting ≡ None) × (here.outer ≡ []) → IsExpression 1 100 all
is_whole all left here e none whole = whole_before all here (at_front all left here e none) whole.0 whole.1
