-- Versions that are put behind those of their state.
use Rattle.std.proofs.Common.{◌≡◌, ◌+◌, ◌<◌, ◌≤◌, List, [], ◌∷◌, ◌++◌, length, map, ap, refl, sym, ◌∙◌, arith, append-nil, append_assoc, length-append}
use Rattle.std.proofs.lemmas.List.{map-append}
use Rattle.am_instance.specs.Deliveries.{Delivery}
use Rattle.am_instance.specs.Deliveries.Delivery.{OfSilence, OfEntry}
use Rattle.am_cluster.specs.declared.carried.version.AnyVersion.{AnyVersion}
use Rattle.am_cluster.specs.Contents.{delivery_of, silences_in, entries_in}
use Rattle.am_cluster.specs.States.{Sorted}

pub silences_append : (ds es : List Delivery) → silences_in (ds ++ es) ≡ silences_in ds ++ silences_in es
silences_append [] es = refl
silences_append (OfSilence v ∷ ds) es = ap (λ vs. v ∷ vs) (silences_append ds es)
silences_append (OfEntry e ∷ ds) es = silences_append ds es

pub entries_append : (ds es : List Delivery) → entries_in (ds ++ es) ≡ entries_in ds ++ entries_in es
entries_append [] es = refl
entries_append (OfSilence v ∷ ds) es = entries_append ds es
entries_append (OfEntry e ∷ ds) es = ap (λ vs. e ∷ vs) (entries_append ds es)

-- of all, some were put, and the others are left
pub record HasPut (old new : Sorted) (all done left : List AnyVersion) : Type 0 where
  pub parts : all ≡ done ++ left
  pub silences : new.silences ≡ old.silences ++ silences_in (map delivery_of done)
  pub log : new.log ≡ old.log ++ entries_in (map delivery_of done)
  pub room : old.room ≤ new.room + length done

module _ (old mid : Sorted) (all done left rest : List AnyVersion) (v : AnyVersion) (so_far : HasPut old mid all done left) (is : left ≡ v ∷ rest) where
  pub room_left : length all ≤ old.room → 0 < mid.room
  room_left within =
      let parts = ap (λ (xs : List AnyVersion). length xs) so_far.parts in
      let size = length-append done left in
      let some = ap (λ (xs : List AnyVersion). length xs) is in
      omega (arith, within, parts, size, some, so_far.room)

  pub put_more : (new : Sorted) → new.silences ≡ mid.silences ++ silences_in (delivery_of v ∷ []) → new.log ≡ mid.log ++ entries_in (delivery_of v ∷ [])
      → mid.room ≤ new.room + 1 → HasPut old new all (done ++ v ∷ []) rest
  put_more new silences log room =
      let moved : map delivery_of (done ++ v ∷ []) ≡ map delivery_of done ++ delivery_of v ∷ [] = map-append delivery_of done (v ∷ []) in
      record {
        parts = so_far.parts ∙ ap (λ (xs : List AnyVersion). done ++ xs) is ∙ sym (append_assoc done (v ∷ []) rest);
        silences =
            silences ∙ ap (λ vs. vs ++ silences_in (delivery_of v ∷ [])) so_far.silences ∙ append_assoc old.silences (silences_in (map delivery_of done)) (silences_in (delivery_of v ∷ []))
            ∙ ap (λ vs. old.silences ++ vs) (sym (ap silences_in moved ∙ silences_append (map delivery_of done) (delivery_of v ∷ [])));
        log =
            log ∙ ap (λ vs. vs ++ entries_in (delivery_of v ∷ [])) so_far.log ∙ append_assoc old.log (entries_in (map delivery_of done)) (entries_in (delivery_of v ∷ []))
            ∙ ap (λ vs. old.log ++ vs) (sym (ap entries_in moved ∙ entries_append (map delivery_of done) (delivery_of v ∷ [])));
        room = omega (arith, so_far.room, room, length-append done (v ∷ []));
      }

-- none is left
empty : (xs : List AnyVersion) → length xs ≡ 0 → xs ≡ []
empty [] none = refl
empty (x ∷ xs) none = absurd (omega (arith, none))

pub all_put : (old new : Sorted) (all done left : List AnyVersion) → HasPut old new all done left → length left ≡ 0 → done ≡ all
all_put old new all done left so_far none = sym (so_far.parts ∙ ap (λ (xs : List AnyVersion). done ++ xs) (empty left none) ∙ append-nil done)
