-- The first entry by expiry is that of a version with the least expiry, and sweeping drops one after the other.
use Rattle.std.proofs.Common.{◌≡◌, ℕ, ◌<◌, ◌≤◌, ◌+◌, Bool, true, false, cond, List, [], ◌∷◌, ◌++◌, Option, Some, None, refl, sym, ap, ◌∙◌, subst, arith, Contains, length-append}
use Rattle.std.specs.Prelude.{IfNone, length}
use Rattle.std.specs.List.{AllByRecursion, slice_get}
use Rattle.std.proofs.lemmas.Bool.Decides.{nat_tests}
use Rattle.std.proofs.lemmas.List.Elements.{All-contains, All-from_recursion, filter-append}
use Rattle.std.specs.declared.cmp.Ordering.{Ordering}
use Rattle.std.specs.declared.cmp.Ordering.TheVariants.{Less, Equal, Greater}
use Rattle.std.specs.Ordering.{nat_cmp, ordering_then}
use Rattle.std.proofs.lemmas.Cmp.{ranked}
use Rattle.am_version_order.specs.Versions.{Version, is_live}
use Rattle.am_merge.specs.Maps.{IsMap, IsLeastExpiry, swept}
use Rattle.am_merge.specs.Indexes.{filed, Names}
use Rattle.am_merge.specs.Entries.{versions_of, key_slot, expiry_slot, key_entry, expiry_entry, with_slots, by_time, time_cmp}
use Rattle.am_merge.specs.Stores.{IsExpiryIndex, IsKeyIndex, IsWithout}
use Rattle.am_merge.specs.declared.entry.KeyEntry.{KeyEntry}
use Rattle.am_merge.specs.declared.entry.ExpiryEntry.{ExpiryEntry}
use Rattle.am_merge.proofs.Keys.{AreAbove}
use Rattle.am_merge.proofs.Indexes as indexes
use Rattle.am_merge.proofs.Stores.{with_slots_is, some_with_slots}

no_more : {X : Type 0} (xs : List X) → AllByRecursion (λ _. ⊥) xs → xs ≡ []
no_more [] none = refl
no_more (x ∷ xs) none = absurd none.0

first_low : (a b c d : ℕ) → time_cmp (a, b) (c, d) ≡ Less → a ≤ c
first_low a b c d less = by (nat_cmp a c) refl less where
  by : (o : Ordering) → nat_cmp a c ≡ o → ordering_then o (nat_cmp b d) ≡ Less → a ≤ c
  by Less e less = let low : a < c = ranked a c Less (sym e) in omega arith
  by Equal e less = let same : a ≡ c = ranked a c Equal (sym e) in omega arith
  by Greater e less = cc

module _ {K X : Type 0} (seen : X → Version K) (now : ℕ) where
  kept_by : (b : Bool) (v : X) (xs : List X) → b ≡ true → cond b (v ∷ xs) xs ≡ v ∷ xs
  kept_by true v xs e = refl
  kept_by false v xs e = cc

  gone_by : (b : Bool) (v : X) (xs : List X) → b ≡ false → cond b (v ∷ xs) xs ≡ xs
  gone_by true v xs e = cc
  gone_by false v xs e = refl

  -- where all are live, none goes
  pub swept_all : (xs : List X) → AllByRecursion (λ v. is_live now (seen v) ≡ true) xs → swept seen now xs ≡ xs
  swept_all [] live = refl
  swept_all (v ∷ xs) live = kept_by (is_live now (seen v)) v (swept seen now xs) live.0 ∙ ap (λ ys. v ∷ ys) (swept_all xs live.1)

  -- one that isn't live goes anyway
  pub swept_without : (v : X) (old new : List X) → IsWithout v old new → is_live now (seen v) ≡ false → swept seen now new ≡ swept seen now old
  swept_without v old new without expired =
      let test : X → Bool = λ w. is_live now (seen w) in
      ap (swept seen now) without.after
      ∙ filter-append test without.front without.back
      ∙ ap (λ ys. swept seen now without.front ++ ys) (sym (gone_by (test v) v (swept seen now without.back) expired))
      ∙ sym (filter-append test without.front (v ∷ without.back))
      ∙ ap (swept seen now) (sym without.before)

  pub live_from : (v : X) (first : ℕ) → now < first → first ≤ (seen v).expires → is_live now (seen v) ≡ true
  live_from v first before low = let later : now < (seen v).expires = omega arith in grind (arith, nat_tests)

  pub expired_from : (v : X) (first : ℕ) → first ≤ now → first ≡ (seen v).expires → is_live now (seen v) ≡ false
  expired_from v first past same = let over : (seen v).expires ≤ now = omega arith in grind (arith, nat_tests)

module _ {K X : Type 0} (seen : X → Version K) (table : ℕ → Option X) where
  not_later : (y0 : ℕ × X) (rest : List ExpiryEntry) → AllByRecursion (Names expiry_slot (expiry_entry seen) (with_slots table)) rest → AreAbove (by_time seen) time_cmp (by_time seen y0).key (filed expiry_slot (with_slots table) rest) → AllByRecursion (λ e. (seen y0.1).expires ≤ e.expires) rest
  not_later y0 [] sound above = tt
  not_later y0 (e ∷ rest) sound above =
      let parts = subst (AreAbove (by_time seen) time_cmp (by_time seen y0).key) (indexes.listed-more expiry_slot (expiry_entry seen) (λ s y. refl) (with_slots table) e rest sound.0.value sound.0.there) above in
      let own : e.expires ≡ (seen (sound.0.value).1).expires = ap (λ (x : ExpiryEntry). x.expires) sound.0.is in
      let low : (seen y0.1).expires ≤ (seen (sound.0.value).1).expires = first_low (seen y0.1).expires y0.0 (seen (sound.0.value).1).expires sound.0.value.0 parts.0 in
      (omega arith, not_later y0 rest sound.1 parts.1)

  -- the first entry is that of a version that expires first
  pub first_least : (es : List ExpiryEntry) (e : ExpiryEntry) (s : ℕ) (v : X) → IsExpiryIndex seen table es → slice_get es 0 ≡ Some e → table s ≡ Some v → e.expires ≤ (seen v).expires
  first_least [] e s v is first there = cc
  first_least (e0 ∷ rest) e s v is first there =
      let same : e0 ≡ e = cc in
      let sound = is.index.sound in
      let y0 = sound.0.value in
      let order = subst (IsMap (by_time seen) time_cmp) (indexes.listed-more expiry_slot (expiry_entry seen) (λ s y. refl) (with_slots table) e0 rest y0 sound.0.there) is.order in
      let own : e0.expires ≡ (seen y0.1).expires = ap (λ (x : ExpiryEntry). x.expires) sound.0.is in
      let later = not_later y0 rest sound.1 order.0 in
      let all = All-from_recursion (λ (x : ExpiryEntry). (seen y0.1).expires ≤ x.expires) (e0 ∷ rest) (omega arith, later) in
      let low : (seen y0.1).expires ≤ (seen v).expires = All-contains (λ (x : ExpiryEntry). (seen y0.1).expires ≤ x.expires) (e0 ∷ rest) (expiry_entry seen s (s, v)) all (is.index.complete s (s, v) (some_with_slots table s v there)) in
      let moved : e0.expires ≡ e.expires = ap (λ (x : ExpiryEntry). x.expires) same in
      omega arith

  pub first_named : (es : List ExpiryEntry) (e : ExpiryEntry) → IsExpiryIndex seen table es → slice_get es 0 ≡ Some e → (v : X) × (table e.slot ≡ Some v) × (e.expires ≡ (seen v).expires)
  first_named [] e is first = cc
  first_named (e0 ∷ rest) e is first =
      let same : e0 ≡ e = cc in
      let names = subst (Names expiry_slot (expiry_entry seen) (with_slots table)) same is.index.sound.0 in
      (names.value.1, (with_slots_is table e.slot names.value names.there).1, ap (λ (x : ExpiryEntry). x.expires) names.is)

  pub none_first : (es : List ExpiryEntry) (s : ℕ) (v : X) → IsExpiryIndex seen table es → slice_get es 0 ≡ None → table s ≡ Some v → ⊥
  none_first [] s v is first there = let inside = is.index.complete s (s, v) (some_with_slots table s v there) in let low = inside.1 in omega arith
  none_first (e ∷ rest) s v is first there = cc

  module _ (head_of : K → ℕ) (cmp : K → K → Ordering) (es : List KeyEntry) (is : IsKeyIndex seen head_of cmp table es) where
    -- what holds of all that the table has holds of all versions
    pub each_version : (P : X → Type 0) → ((s : ℕ) (v : X) → table s ≡ Some v → P v) → AllByRecursion P (versions_of table es)
    each_version P each = indexes.listed-all key_slot (key_entry seen head_of) (λ s y. refl) table P each es is.index.sound

    pub no_versions : ((s : ℕ) (v : X) → table s ≡ Some v → ⊥) → versions_of table es ≡ []
    no_versions none = no_more (versions_of table es) (each_version (λ _. ⊥) none)

    pub version_inside : (s : ℕ) (v : X) → table s ≡ Some v → Contains (versions_of table es) v
    version_inside s v there =
        let inside = is.index.complete s v there in
        let long = indexes.listed-length key_slot (key_entry seen head_of) (λ s y. refl) table es is.index.sound in
        let low = inside.1 in
        (inside.0, omega arith, indexes.listed-at key_slot (key_entry seen head_of) (λ s y. refl) table es inside.0 (key_entry seen head_of s v) v is.index.sound inside.1 inside.2 there)

    pub least_found : (expiries : List ExpiryEntry) (e : ExpiryEntry) → IsExpiryIndex seen table expiries → slice_get expiries 0 ≡ Some e → IsLeastExpiry seen (versions_of table es) e.expires
    least_found expiries e by_expiry first =
        let named = first_named expiries e by_expiry first in
        record {
          version = named.0;
          held = version_inside e.slot named.0 named.1;
          own = sym named.2;
          least = All-from_recursion (λ v. e.expires ≤ (seen v).expires) (versions_of table es) (each_version (λ v. e.expires ≤ (seen v).expires) (λ s v there. first_least expiries e s v by_expiry first there));
        }

pub without_length : {X : Type 0} (v : X) (old new : List X) → IsWithout v old new → length new + 1 ≡ length old
without_length v old new without =
    let before = ap length without.before ∙ length-append without.front (v ∷ without.back) in
    let after = ap length without.after ∙ length-append without.front without.back in
    omega arith

pub if_none : {A : Type 0} {P : Type 0} (o : Option A) → P → IfNone o P
if_none None p = p
if_none (Some a) p = tt
