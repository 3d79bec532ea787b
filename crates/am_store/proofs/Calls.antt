-- A file after one more call.
use Rattle.std.proofs.Common.{◌≡◌, inl, inr, ⊎_elim, ℕ, ◌+◌, ◌≤◌, Bool, true, false, List, ◌∷◌, ◌++◌, length, take, drop, Result, Ok, Err, is_ok, OnOk, IfErr, refl, sym, ◌∙◌, ap, subst, arith, length-append, length-take, length-drop}
use Rattle.std.proofs.lemmas.List.{take_at, drop_at, take_all}
use Rattle.std.proofs.lemmas.List.{append_assoc}
use Rattle.am_store.specs.Device.{Holds, Torn, Cut, Follows, Only, Elapses, HasCause, IsFailed}
use Rattle.am_store.specs.declared.log_error.LogError.{LogError}
use Rattle.am_store.specs.declared.log_error.LogError.TheVariants.{Memory, Failed, Full, Closed}
use Rattle.am_store.specs.Events.{Event, seen_after, may_leave_after, left_since, faults_of, may_stay}

Torn_same : (at n : ℕ) (file : List ℕ) → Torn at n file file
Torn_same at n file = record { before = refl; after = refl; no_shorter = omega arith; no_longer = omega arith }

Torn_written : (at : ℕ) (bytes file : List ℕ) → at ≤ length file → Torn at (length bytes) file (take at file ++ bytes ++ drop (at + length bytes) file)
Torn_written at bytes file within =
    let front = take at file in
    let rest = drop (at + length bytes) file in
    let size : length front ≡ at = omega (arith, length-take at file, within) in
    let both : length (front ++ bytes) ≡ at + length bytes = omega (arith, size, length-append front bytes) in
    record {
      before = ap (take at) (append_assoc front bytes rest) ∙ take_at front (bytes ++ rest) at size;
      after = drop_at (front ++ bytes) rest (at + length bytes) both;
      no_shorter = omega (arith, both, length-append (front ++ bytes) rest, length-drop (at + length bytes) file);
      no_longer = omega (arith, both, length-append (front ++ bytes) rest, length-drop (at + length bytes) file);
    }

Cut_same : (at : ℕ) (file : List ℕ) → at ≤ length file → Cut at file file
Cut_same at file within = record { no_shorter = within; front = take_all (length file) file (omega arith) }

Cut_cut : (at : ℕ) (file : List ℕ) → at ≤ length file → Cut at file (take at file)
Cut_cut at file within =
    let size : length (take at file) ≡ at = omega (arith, length-take at file, within) in
    record { no_shorter = omega (arith, size); front = ap (λ (n : ℕ). take n file) size }

module _ (start : List ℕ) (events : List Event) where
  abbrev seen : List ℕ
  seen = seen_after start events

  abbrev may : List ℕ → Type 0
  may = may_leave_after start events

  pub elapses : (e : Event) → Elapses (length events) (length (e ∷ events)) (left_since start events) (left_since start (e ∷ events)) (may_leave_after start (e ∷ events))
  elapses e = record {
    later = omega arith;
    nothing_else = λ t c le left. ⊎_elim (λ now. inr now) (λ before. inl before.1) left;
    keeps = λ t c le past. inr (le, past);
  }

  pub cause : (call at : ℕ) (bytes : List ℕ) (r : Result (Unit {0}) LogError) → IfErr r IsFailed → HasCause (faults_of events) (faults_of ((call, at, is_ok r, bytes) ∷ events)) r
  cause call at bytes (Ok x) f = omega arith
  cause call at bytes (Err Memory) f = absurd f
  cause call at bytes (Err (Failed e)) f = omega arith
  cause call at bytes (Err Full) f = absurd f
  cause call at bytes (Err Closed) f = absurd f

  -- ---- a write
  pub written : (at : ℕ) (bytes : List ℕ) (r : Result (Unit {0}) LogError) → OnOk r (Holds seen at bytes (seen_after start ((1, at, is_ok r, bytes) ∷ events)))
  written at bytes (Ok x) = refl
  written at bytes (Err e) = tt

  write_seen : (at : ℕ) (bytes : List ℕ) (ok : Bool) → at ≤ length seen → Torn at (length bytes) seen (seen_after start ((1, at, ok, bytes) ∷ events))
  write_seen at bytes true within = Torn_written at bytes seen within
  write_seen at bytes false within = Torn_same at (length bytes) seen

  pub write_crash : (at : ℕ) (bytes : List ℕ) (ok : Bool) → at ≤ length seen → Follows (Torn at (length bytes)) may (may_leave_after start ((1, at, ok, bytes) ∷ events))
  write_crash at bytes ok within c (inl now) = (seen, may_stay start events, subst (Torn at (length bytes) seen) (sym now) (write_seen at bytes ok within))
  write_crash at bytes ok within c (inr left) = left

  -- ---- a cut
  pub is_cut : (at : ℕ) (bytes : List ℕ) (r : Result (Unit {0}) LogError) → OnOk r (seen_after start ((2, at, is_ok r, bytes) ∷ events) ≡ take at seen)
  is_cut at bytes (Ok x) = refl
  is_cut at bytes (Err e) = tt

  cut_seen : (at : ℕ) (bytes : List ℕ) (ok : Bool) → at ≤ length seen → Cut at seen (seen_after start ((2, at, ok, bytes) ∷ events))
  cut_seen at bytes true within = Cut_cut at seen within
  cut_seen at bytes false within = Cut_same at seen within

  pub cut_crash : (at : ℕ) (bytes : List ℕ) (ok : Bool) → at ≤ length seen → Follows (Cut at) may (may_leave_after start ((2, at, ok, bytes) ∷ events))
  cut_crash at bytes ok within c (inl now) = (seen, may_stay start events, subst (Cut at seen) (sym now) (cut_seen at bytes ok within))
  cut_crash at bytes ok within c (inr left) = left

  -- ---- a sync
  pub sync_seen : (at : ℕ) (bytes : List ℕ) (ok : Bool) → seen_after start ((0, at, ok, bytes) ∷ events) ≡ seen
  sync_seen at bytes true = refl
  sync_seen at bytes false = refl

  synced : (at : ℕ) (bytes c : List ℕ) → may_leave_after start ((0, at, true, bytes) ∷ events) c → c ≡ seen
  synced at bytes c (inl now) = now
  synced at bytes c (inr none) = absurd none

  pub durable : (at : ℕ) (bytes : List ℕ) (r : Result (Unit {0}) LogError) → OnOk r (Only seen (may_leave_after start ((0, at, is_ok r, bytes) ∷ events)))
  durable at bytes (Ok x) = synced at bytes
  durable at bytes (Err e) = tt

  pub sync_crash : (at : ℕ) (bytes : List ℕ) (ok : Bool) (c : List ℕ) → may_leave_after start ((0, at, ok, bytes) ∷ events) c → may c
  sync_crash at bytes ok c (inl now) = subst may (sym (now ∙ sync_seen at bytes ok)) (may_stay start events)
  sync_crash at bytes true c (inr none) = absurd none
  sync_crash at bytes false c (inr left) = left
