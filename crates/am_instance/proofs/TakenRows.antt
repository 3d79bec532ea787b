-- The versions of a row, taken one after the other.
use Rattle.std.proofs.Common.{◌≡◌, ◌<◌, ℕ, ◌+◌, List, [], ◌∷◌, ◌++◌, length, take, ap, refl, sym, subst, ◌∙◌, append-nil, append_assoc, length-append, arith}
use Rattle.std.specs.Prelude.{Option, None, Result, Ok, Err}
use Rattle.std.proofs.lemmas.List.{map-append}
use Rattle.std.proofs.Math.Seq.{take-append_seam}
use Rattle.std.specs.declared.cmp.Ordering.{Ordering}
use Rattle.am_version_order.specs.Versions.{Version}
use Rattle.am_merge.specs.Maps.{at}
use Rattle.am_collect.specs.Events.{Events, after, after_all}
use Rattle.am_collect.specs.Events.MapEvent.{Delivered}
use Rattle.am_gossip.specs.declared.frame.Frame.{Frame}
use Rattle.am_instance.specs.Deliveries.{before_fault, first_fault}
use Rattle.am_instance.specs.Changes.{changes, only_if, changed, takings, IsStoppedRow}
use Rattle.am_instance.specs.Sendings.{Sent, Sends}
use Rattle.am_instance.proofs.Sent.{sent_then}
use Rattle.std.specs.List.{flat_map}
use Rattle.am_wire.specs.declared.error.WireError.{WireError}

-- what was read without a fault is all that there is
pub all_sound : {A E : Type 0} (items : List (Result A E)) → first_fault items ≡ None → length (before_fault items) ≡ length items
all_sound [] sound = refl
all_sound (Ok x ∷ items) sound = let rest = all_sound items sound in omega (arith, rest)
all_sound (Err e ∷ items) sound = absurd cc

module _ {K X : Type 0} (seen : X → Version K) (cmp : K → K → Ordering) where
  pub after_all_append : (m : K → Option X) (past events : Events X) → after_all seen cmp m (past ++ events) ≡ after_all seen cmp (after_all seen cmp m past) events
  after_all_append m [] events = refl
  after_all_append m (e ∷ past) events = after_all_append (after seen cmp m e.0 e.1) past events

  -- taking some versions, and then others
  pub after_takings : (now : ℕ) (m : K → Option X) (vs ws : List X) →
      after_all seen cmp m (takings now (vs ++ ws)) ≡ after_all seen cmp (after_all seen cmp m (takings now vs)) (takings now ws)
  after_takings now m vs ws = ap (λ es. after_all seen cmp m es) (map-append (λ v. (Delivered v, now)) vs ws) ∙ after_all_append m (takings now vs) (takings now ws)

  pub changed_append : (now : ℕ) (m : K → Option X) (vs ws : List X) →
      changed seen cmp now m (vs ++ ws) ≡ changed seen cmp now m vs ++ changed seen cmp now (after_all seen cmp m (takings now vs)) ws
  changed_append now m [] ws = refl
  changed_append now m (v ∷ vs) ws =
      ap (λ xs. only_if (changes seen now m v) v ++ xs) (changed_append now (after seen cmp m (Delivered v) now) vs ws)
      ∙ sym (append_assoc (only_if (changes seen now m v) v) (changed seen cmp now (after seen cmp m (Delivered v) now) vs) _)

  -- the first versions of a row were taken and counted, and those that changed the map were sent; this is left of the row
  pub record HasTaken (frames_of : X → List (ℕ × Frame)) (now : ℕ) (old vs : List X) (left : List (Result X WireError)) (new : List X) (before count : ℕ) (unsent sent : Sent) : Type 0 where
    pub done : List X
    pub whole : done ++ before_fault left ≡ vs
    pub sound : first_fault left ≡ None
    pub counted : count ≡ before + length done
    pub map : at seen cmp new ≡ after_all seen cmp (at seen cmp old) (takings now done)
    pub sends : Sends (flat_map frames_of (changed seen cmp now (at seen cmp old) done)) unsent sent

  module _ (frames_of : X → List (ℕ × Frame)) (now : ℕ) (old vs : List X) where
    pub begins : (items : List (Result X WireError)) (n : ℕ) (sent : Sent) → vs ≡ before_fault items → first_fault items ≡ None → HasTaken frames_of now old vs items old n n sent sent
    begins items n sent is sound = record { done = []; whole = sym is; sound = sound; counted = omega arith; map = refl; sends = refl }

    pub goes_on : (left rest : List (Result X WireError)) (v : X) (mid new : List X) (before count more : ℕ) (a b c : Sent) →
        HasTaken frames_of now old vs left mid before count a b → left ≡ Ok v ∷ rest →
        ((key : K) → at seen cmp new key ≡ after seen cmp (at seen cmp mid) (Delivered v) now key) → more ≡ count + 1 →
        Sends (flat_map frames_of (only_if (changes seen now (at seen cmp mid) v) v)) b c →
        HasTaken frames_of now old vs rest new before more a c
    goes_on left rest v mid new before count more a b c so_far is after_one one_more sent =
        let done = so_far.done in
        let held : at seen cmp new ≡ after_all seen cmp (at seen cmp mid) (takings now (v ∷ [])) = (λ i key. after_one key i) in
        let size = length-append done (v ∷ []) in
        let counted = so_far.counted in
        record {
          done = done ++ v ∷ [];
          whole = append_assoc done (v ∷ []) (before_fault rest) ∙ ap (λ items. done ++ before_fault items) (sym is) ∙ so_far.whole;
          sound = ap first_fault (sym is) ∙ so_far.sound;
          counted = omega (arith, size, counted, one_more);
          map = held ∙ ap (λ m. after_all seen cmp m (takings now (v ∷ []))) so_far.map ∙ sym (after_takings now (at seen cmp old) done (v ∷ []));
          sends =
              let whole : changed seen cmp now (at seen cmp old) done ++ only_if (changes seen now (at seen cmp mid) v) v ≡ changed seen cmp now (at seen cmp old) (done ++ v ∷ []) =
              ap (λ m. changed seen cmp now (at seen cmp old) done ++ only_if (changes seen now m v) v) so_far.map
              ∙ ap (λ xs. changed seen cmp now (at seen cmp old) done ++ xs) (sym (append-nil _))
              ∙ sym (changed_append now (at seen cmp old) done (v ∷ [])) in
              subst (λ xs. Sends (flat_map frames_of xs) a c) whole
              (sent_then frames_of (changed seen cmp now (at seen cmp old) done) (only_if (changes seen now (at seen cmp mid) v) v) a b c so_far.sends sent);
        }

    pub ends : (left : List (Result X WireError)) (new : List X) (before count : ℕ) (a b : Sent) → HasTaken frames_of now old vs left new before count a b → left ≡ [] →
        (at seen cmp new ≡ after_all seen cmp (at seen cmp old) (takings now vs)) × (count ≡ before + length vs) × Sends (flat_map frames_of (changed seen cmp now (at seen cmp old) vs)) a b
    ends left new before count a b so_far none =
        let all : so_far.done ≡ vs = sym (append-nil so_far.done) ∙ ap (λ items. so_far.done ++ before_fault items) (sym none) ∙ so_far.whole in (
          subst (λ xs. at seen cmp new ≡ after_all seen cmp (at seen cmp old) (takings now xs)) all so_far.map,
          subst (λ xs. count ≡ before + length xs) all so_far.counted,
          subst (λ xs. Sends (flat_map frames_of (changed seen cmp now (at seen cmp old) xs)) a b) all so_far.sends,
        )

    pub stops : (left : List (Result X WireError)) (mid new : List X) (before count stopped : ℕ) (a b : Sent) → HasTaken frames_of now old vs left mid before count a b → 0 < length left →
        new ≡ mid → stopped ≡ count → IsStoppedRow seen cmp now old vs new before stopped
    stops left mid new before count stopped a b so_far more same same_count =
        let done = so_far.done in
        let whole = so_far.whole in
        let size = length-append done (before_fault left) in
        let all = ap (λ (xs : List X). length xs) whole in
        let sound = all_sound left so_far.sound in
        let counted = so_far.counted in
        let first : take (length done) vs ≡ done = ap (λ xs. take (length done) xs) (sym whole) ∙ take-append_seam done (before_fault left) in
        record {
          number = length done;
          within = omega (arith, size, all, sound, more);
          counted = omega (arith, counted, same_count);
          map = λ key. ap (λ (held : List X). at seen cmp held key) same ∙ ap (λ m. m key) (so_far.map ∙ ap (λ xs. after_all seen cmp (at seen cmp old) (takings now xs)) (sym first));
        }
