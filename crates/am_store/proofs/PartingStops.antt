-- The calls of a parting, or of a beginning anew, that stopped.
use Rattle.std.proofs.Common.{◌≡◌, ◌≢◌, ◌⊎◌, inl, inr, ⊎_elim, ℕ, zero, suc, ◌==◌, if◌then◌else◌, List, [], ◌∷◌, ◌++◌, length, codes, Option, Some, None, Result, Ok, Err, OnErr, OnOk, refl, sym, ◌∙◌, ap, arith, append-nil, append_assoc}
use Rattle.std.proofs.lemmas.Bool.{cases_eq}
use Rattle.am_store.specs.Calls.{Event}
use Rattle.am_store.specs.Parting.{AreOfParting, FailsToPart, IfLogKept, MayPart, Untried}
use Rattle.am_store.specs.Saves.{HasNoSlash, IsCut, IsDirectoryOf}
use Rattle.am_store.specs.declared.log.StateLog.{StateLog}

-- ---- calls that are made one after the other
pub in_two : (a b c first second : List Event) → b ≡ a ++ first → c ≡ b ++ second → c ≡ a ++ (first ++ second)
in_two a b c first second one other = other ∙ ap (λ (events : List Event). events ++ second) one ∙ append_assoc a first second

-- what is so where a call was refused
pub where_refused : {A E P Q : Type 0} (r : Result A E) → (P → Q) → OnErr r P → OnErr r Q
where_refused (Ok x) leads p = tt
where_refused (Err e) leads p = leads p

pub where_both_refused : {A E P Q R : Type 0} (r : Result A E) → (P → Q → R) → OnErr r P → OnErr r Q → OnErr r R
where_both_refused (Ok x) leads p q = tt
where_both_refused (Err e) leads p q = leads p q

-- ---- each file has a directory
abbrev HasCut : List ℕ → Type 0
HasCut path = (before : List ℕ) × (name : List ℕ) × IsCut path before name

none_more : (b : ℕ) (rest : List ℕ) → b ≢ 47 → HasNoSlash rest → HasNoSlash (b ∷ rest)
none_more b rest unlike none zero inside = unlike
none_more b rest unlike none (suc k) inside = none k (omega (arith, inside))

cut_or_not : (path : List ℕ) → HasNoSlash path ⊎ HasCut path
cut_or_not [] = inl (λ k inside. absurd (omega (arith, inside)))
cut_or_not (b ∷ rest) = ⊎_elim
    (λ none. ⊎_elim
    (λ slash. inr ([], rest, record { parts = ap (λ (n : ℕ). n ∷ rest) slash; last = none }))
    (λ unlike. inl (none_more b rest unlike none))
    (cases_eq b 47))
    (λ it. inr (b ∷ it.0, it.1, record { parts = ap (λ (l : List ℕ). b ∷ l) it.2.parts; last = it.2.last }))
    (cut_or_not rest)

has_directory : (path : List ℕ) → (directory : List ℕ) × IsDirectoryOf path directory
has_directory path = ⊎_elim
    (λ none. (codes ".", inl (none, refl)))
    (λ it. (if length it.0 == 0 then codes "/" else it.0, inr (it.0, it.1, it.2, refl)))
    (cut_or_not path)

-- ---- a parting, whatever comes of it
pub of_part : {A E : Type 0} (r : Result A E) (path : List ℕ) (before after : List Event) (old new : StateLog)
    → OnOk r (MayPart path before after old new) → OnErr r (FailsToPart path before after old new) → AreOfParting path before after
of_part (Ok x) path before after old new (inl parts) stops = inl parts.parted
of_part (Ok x) path before after old new (inr found) stops = inr (inr found)
of_part (Err e) path before after old new parts fails = inr (inl fails.stops)

pub none_parted : (path : List ℕ) (events : List Event) → AreOfParting path events events
none_parted path events =
    let its = has_directory path in
    inr (inl (record { stop = Untried; directory = its.0; standing = its.1; calls = sym (append-nil events) }))

-- ---- nothing is called
pub unparted : (path : List ℕ) (events : List Event) (log : Option StateLog) → IfLogKept (FailsToPart path) events events log log
unparted path events None = (refl, refl)
unparted path events (Some log) =
    let its = has_directory path in
    record { stops = record { stop = Untried; directory = its.0; standing = its.1; calls = sym (append-nil events) }; trust = refl }
