-- Calm events keep a map fit, so that it shows what the bare set shows.
use Rattle.std.proofs.Common.{◌≡◌, inl, ⊎_elim, ℕ, ◌<◌, ◌≤◌, Bool, true, false, cond, List, [], ◌∷◌, ◌++◌, Option, Some, None, refl, sym, ap, ◌∙◌, subst, arith, append_assoc, append-nil}
use Rattle.std.proofs.lemmas.Grind.{flat_map-append}
use Rattle.std.proofs.lemmas.List.Elements.{Contains-push_cases, All-contains}
use Rattle.std.specs.List.{flat_map}
use Rattle.std.specs.declared.cmp.Ordering.{Ordering}
use Rattle.std.specs.Ordering.{eq_by_cmp}
use Rattle.am_version_order.specs.Versions.{Version, is_below}
use Rattle.am_merge.specs.Maps.{greater_of, if_live, IsMap, at}
use Rattle.am_merge.specs.Views.{IsViewAt}
use Rattle.am_merge.proofs.Keys.{IsKeyOrder, same_key}
use Rattle.am_merge.proofs.Puts.{greater_of-none}
use Rattle.am_collect.specs.Events.{MapEvent, Events, taken, collections, delivered, collected, last_moment, after, after_all}
use Rattle.am_collect.specs.Events.MapEvent.{Delivered, Collected, Passed}
use Rattle.am_collect.specs.Calm.{IsCalm, IsCalmAt, IsInTime}
use Rattle.am_collect.proofs.Greatest.{greatest, greatest-push, greatest-Some, greatest-best, greatest_in_view, at-greatest}
use Rattle.am_collect.proofs.Fits.{Fits, IsReached, IsUpTo, fits_later, fits_take, fits_collect, fits_view}

-- an event more at the end
module _ {X : Type 0} where
  pub last_moment-append : (from : ℕ) (past events : Events X) → last_moment from (past ++ events) ≡ last_moment (last_moment from past) events
  last_moment-append from [] events = refl
  last_moment-append from (e ∷ past) events = last_moment-append e.1 past events

  taken-push : (start : List X) (past : Events X) (e : MapEvent X × ℕ) → taken start (past ++ e ∷ []) ≡ taken start past ++ delivered e.0
  taken-push start past e =
      ap (λ vs. start ++ vs) (flat_map-append (λ f. delivered f.0) past (e ∷ []) ∙ ap (λ vs. flat_map (λ f. delivered f.0) past ++ vs) (append-nil (delivered e.0)))
      ∙ sym (append_assoc start (flat_map (λ f. delivered f.0) past) (delivered e.0))

  collections-push : (past : Events X) (e : MapEvent X × ℕ) → collections (past ++ e ∷ []) ≡ collections past ++ collected e.0 e.1
  collections-push past e = flat_map-append (λ f. collected f.0 f.1) past (e ∷ []) ∙ ap (λ ms. collections past ++ ms) (append-nil (collected e.0 e.1))

upto_more : (moments : List ℕ) (now : ℕ) → IsUpTo moments now → IsUpTo (moments ++ now ∷ []) now
upto_more moments now upto moment c = ⊎_elim (upto moment) (λ same. omega arith) (Contains-push_cases moments now moment c)

module _ {K X : Type 0} (seen : X → Version K) (cmp : K → K → Ordering) (keys : IsKeyOrder cmp) (key : K) where
  -- what is held of the key, after a bare set was taken and these collections were made
  record IsSound (set : List X) (moments : List ℕ) (last : ℕ) (held : Option X) : Type 0 where
    upto : IsUpTo moments last
    fits : Fits seen held (greatest seen cmp set key) moments last

  sound_later : (set : List X) (moments : List ℕ) (last now : ℕ) (held : Option X) → last ≤ now → IsSound set moments last held → IsSound set moments now held
  sound_later set moments last now held forward sound = record {
    upto = λ moment c. let bound : moment ≤ last = sound.upto moment c in omega arith;
    fits = fits_later seen held (greatest seen cmp set key) moments last now forward sound.fits;
  }

  -- a calm list had no collection that reaches the greatest one's expiry
  unreached : (set : List X) (moments : List ℕ) (now : ℕ) (v g : X) → (seen v).key ≡ key → IsInTime seen set moments (Delivered v) now → greatest seen cmp set key ≡ Some g → now < (seen v).expires → is_below (seen v) (seen g) ≡ true → ¬ IsReached moments (seen g).expires
  unreached set moments now v g of_key calm best live above reached =
      let found = greatest-Some seen cmp keys set key g best in
      let before : reached.by < (seen g).expires = All-contains (λ moment. moment < (seen g).expires) moments reached.by (calm live g (record { best = greatest-best seen cmp keys set key g best; same_key = found.1 ∙ sym of_key; above = above })) reached.among in
      let late = reached.not_before in
      omega arith

  fits_delivery : (set : List X) (moments : List ℕ) (last now : ℕ) (v : X) (held : Option X) (b : Bool) → eq_by_cmp cmp (seen v).key key ≡ b → last ≤ now → IsInTime seen set moments (Delivered v) now → IsSound set moments last held → Fits seen (greater_of seen held (cond b (Some v) None)) (greater_of seen (greatest seen cmp set key) (cond b (Some v) None)) moments now
  fits_delivery set moments last now v held true e forward calm sound =
      fits_take seen held (greatest seen cmp set key) moments last now v forward sound.upto (λ g. unreached set moments now v g (same_key seen cmp keys (seen v).key key e) calm) sound.fits
  fits_delivery set moments last now v held false e forward calm sound =
      rw (greater_of-none seen held, greater_of-none seen (greatest seen cmp set key))
      (fits_later seen held (greatest seen cmp set key) moments last now forward sound.fits)

  -- an event keeps it sound
  sound_event : (set : List X) (moments : List ℕ) (last now : ℕ) (event : MapEvent X) (map : K → Option X) → last ≤ now → IsInTime seen set moments event now → IsSound set moments last (map key) → IsSound (set ++ delivered event) (moments ++ collected event now) now (after seen cmp map event now key)
  sound_event set moments last now (Delivered v) map forward calm sound =
      rw (append-nil moments)
      record {
        upto = (sound_later set moments last now (map key) forward sound).upto;
        fits = rw (greatest-push seen cmp set v key) (fits_delivery set moments last now v (map key) (eq_by_cmp cmp (seen v).key key) refl forward calm sound);
      }
  sound_event set moments last now Collected map forward calm sound =
      rw (append-nil set)
      record {
        upto = upto_more moments now (sound_later set moments last now (map key) forward sound).upto;
        fits = fits_collect seen (map key) (greatest seen cmp set key) moments last now forward sound.upto sound.fits;
      }
  sound_event set moments last now Passed map forward calm sound = rw (append-nil set, append-nil moments) (sound_later set moments last now (map key) forward sound)

  module _ (start : List X) (from : ℕ) where
    abbrev IsSoundAfter : Events X → Option X → Type 0
    IsSoundAfter past held = IsSound (taken start past) (collections past) (last_moment from past) held

    sound_next : (past : Events X) (e : MapEvent X × ℕ) (map : K → Option X) → IsCalmAt seen start from past e.0 e.1 → IsSoundAfter past (map key) → IsSoundAfter (past ++ e ∷ []) (after seen cmp map e.0 e.1 key)
    sound_next past e map calm sound =
        rw (taken-push start past e, collections-push past e, last_moment-append from past (e ∷ []))
        (sound_event (taken start past) (collections past) (last_moment from past) e.1 e.0 map calm.forward calm.in_time sound)

    sound_all : (past rest : Events X) (map : K → Option X) → IsCalm seen start from (past ++ rest) → IsSoundAfter past (map key) → IsSoundAfter (past ++ rest) (after_all seen cmp map rest key)
    sound_all past [] map calm sound = rw (append-nil past) sound
    sound_all past (e ∷ rest) map calm sound =
        let joined : (past ++ e ∷ []) ++ rest ≡ past ++ e ∷ rest = append_assoc past (e ∷ []) rest in
        subst (λ events. IsSoundAfter events (after_all seen cmp (after seen cmp map e.0 e.1) rest key)) joined
        (sound_all (past ++ e ∷ []) rest (after seen cmp map e.0 e.1) (λ before f after is. calm before f after (is ∙ joined)) (sound_next past e map (calm past e rest refl) sound))

    -- calm events show the bare set
    pub calm_shows : (events : Events X) (now : ℕ) → IsMap seen cmp start → IsCalm seen start from events → last_moment from events ≤ now → IsViewAt seen (taken start events) now key (if_live seen now (after_all seen cmp (at seen cmp start) events key))
    calm_shows events now map calm forward =
        let begin : IsSoundAfter [] (at seen cmp start key) = record { upto = λ moment c. (let few = c.1 in omega arith); fits = inl (at-greatest seen cmp keys start key map ∙ ap (λ vs. greatest seen cmp vs key) (sym (append-nil start))) } in
        let sound = sound_all [] events (at seen cmp start) calm begin in
        greatest_in_view seen cmp keys (taken start events) now key _ (fits_view seen (after_all seen cmp (at seen cmp start) events key) (greatest seen cmp (taken start events) key) (collections events) (last_moment from events) now forward sound.upto sound.fits)
