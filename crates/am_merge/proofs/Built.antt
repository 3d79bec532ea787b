-- What the indexes are made of that are built at once.
use Rattle.std.proofs.Common.{◌≡◌, ◌≢◌, ℕ, false, List, [], ◌∷◌, Option, Some, None, refl, sym, ap, ◌∙◌, subst, arith, inl, inr, map, filter_map}
use Rattle.std.specs.Prelude.{◌==◌, Contains}
use Rattle.std.specs.List.{IsDistinct, AllByRecursion, cons_option}
use Rattle.std.specs.Option.{option_map}
use Rattle.std.proofs.lemmas.Bool.{ne_eqb}
use Rattle.std.proofs.Math.Dec.{eqb}
use Rattle.std.proofs.lemmas.List.{length-map, get_or-map}
use Rattle.std.specs.declared.cmp.Ordering.{Ordering}
use Rattle.std.specs.declared.cmp.Ordering.TheVariants.{Less}
use Rattle.std.proofs.lemmas.Cmp.{tied_itself}
use Rattle.am_version_order.specs.Versions.{Version}
use Rattle.am_merge.specs.Indexes.{Names, IsIndex, filed}
use Rattle.am_merge.specs.Maps.{IsMap}
use Rattle.am_merge.specs.Entries.{versions_of, key_slot, key_entry}
use Rattle.am_merge.specs.Buckets.{bucket_slot, bucket_entry, bucket_at, number_of}
use Rattle.am_merge.specs.declared.entry.KeyEntry.{KeyEntry}
use Rattle.am_merge.specs.declared.entry.BucketEntry.{BucketEntry}
use Rattle.am_merge.proofs.Keys.{IsKeyOrder, all_weaker}
use Rattle.am_merge.proofs.Indexes.{Contains-head, Contains-tail, Contains-cases, Sound, listed, listed-more, differs-apart}

-- no two of the entries have the same slot
abbrev pub AreApart : {E : Type 0} → (E → ℕ) → List E → Type 0
AreApart slot_of es = IsDistinct (λ e f. slot_of e == slot_of f) es

module _ {E Y : Type 0} (slot_of : E → ℕ) (entry : ℕ → Y → E) (slot_entry : (s : ℕ) (y : Y) → slot_of (entry s y) ≡ s) where
  -- entries in the order of a key of what they name are apart
  module _ {R : Type 0} (seen : Y → Version R) (cmp : R → R → Ordering) (keys : IsKeyOrder cmp) (table : ℕ → Option Y) where
    pub apart-map : (es : List E) → Sound slot_of entry slot_entry table es → IsMap seen cmp (listed slot_of entry slot_entry table es) → AreApart slot_of es
    unfolding IsDistinct
    apart-map [] sound map = tt
    apart-map (e ∷ es) sound map =
        let v = sound.0.value in
        let parts = subst (IsMap seen cmp) (listed-more slot_of entry slot_entry table e es v sound.0.there) map in
        let others = differs-apart slot_of entry slot_entry table (slot_of e) v (λ w. cmp (seen v).key (seen w).key ≡ Less) sound.0.there (λ less. let tie = tied_itself keys.total (seen v).key in cc) es sound.1 parts.0 in
        (all_weaker (λ x. slot_of x ≢ slot_of e) (λ x. eqb (slot_of e) (slot_of x) ≡ false) (λ x differs. ne_eqb (slot_of e) (slot_of x) (λ same. differs (sym same))) es others, apart-map es sound.1 parts.1)

-- ---- what a function gives of each item
module _ {A B : Type 0} (f : A → Option B) where
  also_there : (o : Option B) (y : B) (ys : List B) → Contains ys y → Contains (cons_option o ys) y
  also_there None y ys inside = inside
  also_there (Some z) y ys inside = Contains-tail z y ys inside

  Contains-filter_map : (xs : List A) (x : A) (y : B) → Contains xs x → f x ≡ Some y → Contains (filter_map f xs) y
  Contains-filter_map [] x y inside gives = absurd (omega (arith, inside.1))
  Contains-filter_map (z ∷ zs) x y inside gives = elim (Contains-cases z x zs inside) [
    | inl is ↦ subst (λ o. Contains (cons_option o (filter_map f zs)) y) (sym (ap f is ∙ gives)) (Contains-head y (filter_map f zs))
    | inr rest ↦ also_there (f z) y (filter_map f zs) (Contains-filter_map zs x y rest gives)
  ]

pub Contains-map : {A B : Type 0} (f : A → B) (xs : List A) (x : A) → Contains xs x → Contains (map f xs) (f x)
Contains-map f xs x inside = (inside.0, omega (arith, length-map xs f, inside.1), get_or-map f xs inside.0 x (f x) inside.1 ∙ ap f inside.2)

-- ---- the keys of entries
-- they name the same versions
pub keys_versions : {X : Type 0} (table : ℕ → Option X) (es : List BucketEntry) → versions_of table (map (λ e. e.key) es) ≡ filed bucket_slot table es
keys_versions table [] = refl
keys_versions table (e ∷ es) = ap (cons_option (table e.key.slot)) (keys_versions table es)

module _ {K X : Type 0} (seen : X → Version K) (head_of : K → ℕ) (bucket_of : X → List ℕ) (table : ℕ → Option X) where
  abbrev OfKey : KeyEntry → Type 0
  OfKey = Names key_slot (key_entry seen head_of) table

  abbrev OfBucket : BucketEntry → Type 0
  OfBucket = Names bucket_slot (bucket_entry seen bucket_of head_of) table

  -- ---- entries that are made of those by key
  made_more : (e : KeyEntry) (es : List KeyEntry) (own : OfKey e) → filter_map (bucket_at bucket_of table) (e ∷ es) ≡ bucket_entry seen bucket_of head_of e.slot own.value ∷ filter_map (bucket_at bucket_of table) es
  made_more e es own =
      ap (λ o. cons_option (option_map (λ v. record { number = number_of (bucket_of v); key = e }) o) (filter_map (bucket_at bucket_of table) es)) own.there
      ∙ ap (λ k. record { number = number_of (bucket_of own.value); key = k } ∷ filter_map (bucket_at bucket_of table) es) own.is

  made_sound : (es : List KeyEntry) → AllByRecursion OfKey es → AllByRecursion OfBucket (filter_map (bucket_at bucket_of table) es)
  made_sound [] sound = tt
  made_sound (e ∷ es) sound = subst (AllByRecursion OfBucket) (sym (made_more e es sound.0)) (record { value = sound.0.value; there = sound.0.there; is = refl }, made_sound es sound.1)

  pub made_index : (es : List KeyEntry) → IsIndex key_slot (key_entry seen head_of) table es → IsIndex bucket_slot (bucket_entry seen bucket_of head_of) table (filter_map (bucket_at bucket_of table) es)
  made_index es index =
      record {
        sound = made_sound es index.sound;
        complete = λ s v there.
            Contains-filter_map (bucket_at bucket_of table) es (key_entry seen head_of s v) (bucket_entry seen bucket_of head_of s v) (index.complete s v there)
            (ap (option_map (λ w. record { number = number_of (bucket_of w); key = key_entry seen head_of s v })) there);
      }

  -- and they have these entries by key
  pub made_keys : (es : List KeyEntry) → AllByRecursion OfKey es → map (λ e. e.key) (filter_map (bucket_at bucket_of table) es) ≡ es
  made_keys [] sound = refl
  made_keys (e ∷ es) sound =
      ap (map (λ (x : BucketEntry). x.key)) (made_more e es sound.0)
      ∙ (λ i. sym sound.0.is i ∷ made_keys es sound.1 i)
