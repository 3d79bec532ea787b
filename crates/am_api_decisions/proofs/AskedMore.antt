-- One alert more that is asked.
use Rattle.std.proofs.Common.{◌≡◌, ℕ, List, [], ◌∷◌, ◌++◌, Bool, length, map, filter, not, refl, sym, ap, subst, ◌∙◌, append_assoc, append-nil, length-append, arith}
use Rattle.std.proofs.lemmas.List.{length-map, map-append, nil_from_length}
use Rattle.std.proofs.lemmas.List.Elements.{filter-append}
use Rattle.am_api_decisions.specs.declared.message.Alert.{Alert}
use Rattle.am_instance.specs.InstanceStates.{InstanceState}
use Rattle.am_api_decisions.specs.Asking.{AreAsked, AskedAlert, Counted, IsAskedOn, IsMutesStep, counted_with, hash_of, is_open_firing, is_open_resolved, is_unmuted, silenced, Silenced}

-- the alerts of those that were asked
abbrev pub alerts_of : List AskedAlert → List Alert
alerts_of asked = map (λ a. a.alert) asked

-- one step more
asked_more : (now : ℕ) (asked : List AskedAlert) (one : AskedAlert) (old mid new : InstanceState) → AreAsked now asked old mid
    → IsMutesStep now one.alert.labels one.ids mid new → AreAsked now (asked ++ one ∷ []) old new
asked_more now [] one old mid new are step = (new, subst (λ (stand : InstanceState). IsMutesStep now one.alert.labels one.ids stand new) are step, refl)
asked_more now (a ∷ asked) one old mid new are step = (are.0, are.1, asked_more now asked one are.0 mid new are.2 step)

-- what is kept of some and of others is kept of all
kept_more : {A : Type 0} (f : AskedAlert → A) (p : AskedAlert → Bool) (before : List A) (asked others : List AskedAlert)
    → (before ++ map f (filter p asked)) ++ map f (filter p others) ≡ before ++ map f (filter p (asked ++ others))
kept_more f p before asked others =
    append_assoc before (map f (filter p asked)) (map f (filter p others))
    ∙ ap (λ kept. before ++ kept) (sym (map-append f (filter p asked) (filter p others)) ∙ ap (λ kept. map f kept) (sym (filter-append p asked others)))

-- a count of these lists
abbrev count_of : List ℕ → List ℕ → List Silenced → Counted
count_of firing resolved muted = record { firing = firing; resolved = resolved; muted = muted }

-- three lists that are equal make one count
same_counts : {a b : List ℕ} {c d : List ℕ} {e f : List Silenced} → a ≡ b → c ≡ d → e ≡ f
    → count_of a c e ≡ count_of b d f
same_counts {a} {b} {c} {d} {e} {f} first second third =
    ap (λ (l : List ℕ). count_of l c e) first ∙ ap (λ (l : List ℕ). count_of b l e) second ∙ ap (λ (l : List Silenced). count_of b d l) third

-- what is counted of some and of others is counted of all
pub counted_more : (before : Counted) (asked others : List AskedAlert) → counted_with (counted_with before asked) others ≡ counted_with before (asked ++ others)
counted_more before asked others =
    same_counts (kept_more hash_of is_open_firing before.firing asked others) (kept_more hash_of is_open_resolved before.resolved asked others)
    (kept_more silenced (λ (a : AskedAlert). not (is_unmuted a)) before.muted asked others)

-- with none it stays
pub counted_none : (counted : Counted) → counted ≡ counted_with counted []
counted_none counted = sym (same_counts (append-nil counted.firing) (append-nil counted.resolved) (append-nil counted.muted))

-- the next alert
pub next_asked : (now : ℕ) (left rest : List Alert) (before mid after : Counted) (old stand new : InstanceState) (asked : List AskedAlert) (one : AskedAlert)
    (others : List Alert) → rest ≡ one.alert ∷ others → IsAskedOn now left before old asked rest mid stand
    → IsMutesStep now one.alert.labels one.ids stand new → after ≡ counted_with mid (one ∷ [])
    → IsAskedOn now left before old (asked ++ one ∷ []) others after new
next_asked now left rest before mid after old stand new asked one others first on step counted = record {
  parts = on.parts ∙ ap (λ (alerts : List Alert). alerts_of asked ++ alerts) first ∙ sym (ap (λ (alerts : List Alert). alerts ++ others) (map-append (λ (a : AskedAlert). a.alert) asked (one ∷ [])) ∙ append_assoc (alerts_of asked) (one.alert ∷ []) others);
  steps = asked_more now asked one old stand new on.steps step;
  counted = counted ∙ ap (λ (c : Counted). counted_with c (one ∷ [])) on.counted ∙ counted_more before asked (one ∷ []);
}

-- none is asked
pub none_asked : (now : ℕ) (left : List Alert) (before : Counted) (stand : InstanceState) → IsAskedOn now left before stand [] left before stand
none_asked now left before stand = record { parts = refl; steps = refl; counted = counted_none before }

-- so many are asked as were left: none is left
pub all_asked : (asked : List AskedAlert) (left others : List Alert) → left ≡ alerts_of asked ++ others → length asked ≡ length left → others ≡ []
all_asked asked left others parts count =
    nil_from_length others (omega (arith, ap length parts, length-append (alerts_of asked) others, length-map asked (λ (a : AskedAlert). a.alert), count))
