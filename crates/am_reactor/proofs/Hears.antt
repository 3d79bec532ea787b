-- Pieces that are told read by read.
use Rattle.std.proofs.Common.{◌≡◌, ◌∙◌, ◌+◌, ◌<◌, ap, sym, subst, ℕ, Bool, true, false, List, [], ◌∷◌, ◌++◌, length, take, refl, arith, append-nil, append_assoc, length-append, length-take}
use Rattle.std.proofs.lemmas.Bool.{false≢true}
use Rattle.am_reactor.specs.declared.connection.Connection.{Connection}
use Rattle.am_reactor.specs.declared.reading.ReadResult.{ReadResult}
use Rattle.am_reactor.specs.declared.reading.ReadResult.TheVariants.{Bytes, End, Nothing, Interrupted, Failed}
use Rattle.am_reactor.specs.Deeds.{Deed, Did, ending, feeds, joined, sends}
use Rattle.am_reactor.specs.Deeds.Deed.{Fed, Ended, Sent}
use Rattle.am_reactor.specs.Reading.{EndsWith, FitsPiece, Hears, brought_by, told_of}
use Rattle.am_reactor.specs.Sending.{counted}
use Rattle.am_reactor.specs.Streams.{Arrival, HasEnded, Receives}
use Rattle.am_reactor.proofs.Passing.{receives_none, receives_on}

-- ---- calls one after the other

feeds_more : (pieces : List (List ℕ)) (piece : List ℕ) → feeds (pieces ++ piece ∷ []) ≡ feeds pieces ++ Fed piece ∷ []
feeds_more [] piece = refl
feeds_more (p ∷ ps) piece = ap (λ l. Fed p ∷ l) (feeds_more ps piece)

pub sends_more : (pieces : List (List ℕ)) (piece : List ℕ) → sends (pieces ++ piece ∷ []) ≡ sends pieces ++ Sent piece ∷ []
sends_more [] piece = refl
sends_more (p ∷ ps) piece = ap (λ l. Sent p ∷ l) (sends_more ps piece)

pub joined_more : (pieces : List (List ℕ)) (piece : List ℕ) → joined (pieces ++ piece ∷ []) ≡ joined pieces ++ piece
joined_more [] piece = append-nil piece
joined_more (p ∷ ps) piece = ap (λ l. p ++ l) (joined_more ps piece) ∙ sym (append_assoc p (joined ps) piece)

ending_none : (was is : Bool) → is ≡ false → ending was is ≡ []
ending_none false false e = refl
ending_none true false e = refl
ending_none false true e = absurd (false≢true (sym e))
ending_none true true e = refl

ending_met : (was is : Bool) → was ≡ false → is ≡ true → ending was is ≡ Ended ∷ []
ending_met false false e f = absurd (false≢true f)
ending_met true false e f = absurd (false≢true f)
ending_met false true e f = refl
ending_met true true e f = absurd (false≢true (sym e))

ending_same : (was : Bool) → ending was was ≡ []
ending_same false = refl
ending_same true = refl

module _ {S T : Type 0} (does : S → T → Deed → S → T → Type 0) where
  -- calls, and behind them others
  pub did_on : (xs ys : List Deed) (s : S) (t : T) (m : S) (n : T) (s' : S) (t' : T) → Did does s t xs m n → Did does m n ys s' t' → Did does s t (xs ++ ys) s' t'
  did_on [] ys s t m n s' t' did more = subst (λ x. Did does x t ys s' t') did.0 (subst (λ y. Did does m y ys s' t') did.1 more)
  did_on (x ∷ xs) ys s t m n s' t' did more = (did.0, did.1, did.2, did_on xs ys did.0 did.1 m n s' t' did.3 more)

  -- the same calls
  pub did_same : (xs ys : List Deed) (s : S) (t : T) (s' : S) (t' : T) → xs ≡ ys → Did does s t xs s' t' → Did does s t ys s' t'
  did_same xs ys s t s' t' e did = subst (λ l. Did does s t l s' t') e did

-- ---- reads one after the other

-- whether the end is met in a read
abbrev pub ended_by : ReadResult → Bool
ended_by (Bytes count) = false
ended_by End = true
ended_by Nothing = false
ended_by Interrupted = false
ended_by (Failed kind) = false

pub counted_on : (b n m : ℕ) → counted (counted b n) m ≡ counted b (n + m)
counted_on b n m = omega arith

module _ {S T C : Type 0} (does : S → T → Deed → S → T → Type 0) (arrived : C → Arrival) (gone : C → List ℕ) (room : ℕ) where
  -- nothing was read yet
  pub hears_none : (s : S) (c : Connection T C) → Hears does arrived gone room s c s c
  hears_none s c = record {
    pieces = [];
    did = did_same does [] (ending c.ended c.ended) s c.session s c.session (sym (ending_same c.ended)) (refl, refl);
    came = receives_none (arrived c.stream);
    read = omega arith;
    ended = λ e. (refl, e);
    at_end = λ _ e f. absurd (false≢true (sym e ∙ f));
    unwritten = refl;
    written = refl;
    phase = refl;
  }

  was_open : (s : S) (c : Connection T C) (m : S) (n : Connection T C) → Hears does arrived gone room s c m n → n.ended ≡ false → (was : Bool) → c.ended ≡ was → was ≡ false
  was_open s c m n h goes false e = refl
  was_open s c m n h goes true e = absurd (false≢true (sym goes ∙ (h.ended e).1))

  -- a read that brought these bytes, and an end or none
  hears_piece : (s : S) (c : Connection T C) (m : S) (n : Connection T C) (s' : S) (c' : Connection T C) (pieces : List (List ℕ)) (calls : List Deed)
      → (h : Hears does arrived gone room s c m n) → n.ended ≡ false
      → feeds h.pieces ++ calls ≡ feeds (h.pieces ++ pieces) ++ ending c.ended c'.ended
      → joined (h.pieces ++ pieces) ≡ joined h.pieces ++ joined pieces
      → Did does m n.session calls s' c'.session
      → Receives (arrived n.stream) (arrived c'.stream) (joined pieces)
      → c'.read ≡ counted n.read (length (joined pieces))
      → (0 < room → c'.ended ≡ true → HasEnded (arrived c'.stream))
      → gone c'.stream ≡ gone n.stream → c'.written ≡ n.written → c'.phase ≡ n.phase → Hears does arrived gone room s c s' c'
  hears_piece s c m n s' c' pieces calls h goes shape bytes did came read end unwritten written phase =
      let before = did_same does _ (feeds h.pieces) s c.session m n.session
      (ap (λ l. feeds h.pieces ++ l) (ending_none c.ended n.ended goes) ∙ append-nil (feeds h.pieces)) h.did in
      let was = was_open s c m n h goes c.ended refl in
      let longer : length (joined (h.pieces ++ pieces)) ≡ length (joined h.pieces) + length (joined pieces) = ap length bytes ∙ length-append (joined h.pieces) (joined pieces) in
      record {
        pieces = h.pieces ++ pieces;
        did = did_same does _ _ s c.session s' c'.session shape (did_on does (feeds h.pieces) calls s c.session m n.session s' c'.session before did);
        came = subst (Receives (arrived c.stream) (arrived c'.stream)) (sym bytes) (receives_on (arrived c.stream) (arrived n.stream) (arrived c'.stream) _ _ h.came came);
        read = read ∙ (ap (λ k. counted k (length (joined pieces))) h.read ∙ (counted_on c.read (length (joined h.pieces)) (length (joined pieces)) ∙ ap (counted c.read) (sym longer)));
        ended = λ e. absurd (false≢true (sym was ∙ e));
        at_end = λ r _ f. end r f;
        unwritten = unwritten ∙ h.unwritten;
        written = written ∙ h.written;
        phase = phase ∙ h.phase;
      }

  -- nothing came
  hears_nothing : (s : S) (c : Connection T C) (m : S) (n : Connection T C) (s' : S) (c' : Connection T C) (calls : List Deed)
      → Hears does arrived gone room s c m n → n.ended ≡ false → calls ≡ ending c.ended c'.ended → Did does m n.session calls s' c'.session
      → Receives (arrived n.stream) (arrived c'.stream) [] → c'.read ≡ counted n.read 0
      → (0 < room → c'.ended ≡ true → HasEnded (arrived c'.stream))
      → gone c'.stream ≡ gone n.stream → c'.written ≡ n.written → c'.phase ≡ n.phase → Hears does arrived gone room s c s' c'
  hears_nothing s c m n s' c' calls h goes shape did came read end unwritten written phase =
      hears_piece s c m n s' c' [] calls h goes
      (ap (λ l. feeds h.pieces ++ l) shape ∙ ap (λ l. feeds l ++ ending c.ended c'.ended) (sym (append-nil h.pieces)))
      (ap joined (append-nil h.pieces) ∙ sym (append-nil (joined h.pieces))) did came read end unwritten written phase

  -- one read more
  pub hears_once : (s : S) (c : Connection T C) (m : S) (n : Connection T C) (s' : S) (c' : Connection T C) (piece : List ℕ) (brought : ReadResult)
      → Hears does arrived gone room s c m n → n.ended ≡ false → FitsPiece piece brought → Did does m n.session (told_of piece brought) s' c'.session
      → Receives (arrived n.stream) (arrived c'.stream) (take (brought_by brought) piece) → c'.read ≡ counted n.read (brought_by brought)
      → (0 < room → EndsWith (arrived c'.stream) piece brought) → (0 < room → 0 < length piece)
      → gone c'.stream ≡ gone n.stream → c'.written ≡ n.written → c'.phase ≡ n.phase → c'.ended ≡ ended_by brought
      → Hears does arrived gone room s c s' c'
  hears_once s c m n s' c' piece (Bytes count) h goes fits did came read end wide unwritten written phase ended =
      let shape : feeds h.pieces ++ Fed (take count piece) ∷ [] ≡ feeds (h.pieces ++ take count piece ∷ []) ++ ending c.ended c'.ended =
      sym (feeds_more h.pieces (take count piece)) ∙ sym (ap (λ l. feeds (h.pieces ++ take count piece ∷ []) ++ l) (ending_none c.ended c'.ended ended) ∙ append-nil _) in
      let whole : joined (take count piece ∷ []) ≡ take count piece = append-nil (take count piece) in
      let long : length (joined (take count piece ∷ [])) ≡ count = ap length whole ∙ omega (arith, length-take count piece, fits.1) in
      hears_piece s c m n s' c' (take count piece ∷ []) _ h goes shape
      (joined_more h.pieces (take count piece) ∙ ap (λ l. joined h.pieces ++ l) (sym whole)) did
      (subst (Receives (arrived n.stream) (arrived c'.stream)) (sym whole) came)
      (read ∙ ap (counted n.read) (sym long)) (λ _ f. absurd (false≢true (sym ended ∙ f))) unwritten written phase
  hears_once s c m n s' c' piece End h goes fits did came read end wide unwritten written phase ended =
      hears_nothing s c m n s' c' _ h goes (sym (ending_met c.ended c'.ended (was_open s c m n h goes c.ended refl) ended)) did came read (λ r _. end r refl (wide r)) unwritten written phase
  hears_once s c m n s' c' piece Nothing h goes fits did came read end wide unwritten written phase ended =
      hears_nothing s c m n s' c' _ h goes (sym (ending_none c.ended c'.ended ended)) did came read (λ _ f. absurd (false≢true (sym ended ∙ f))) unwritten written phase
  hears_once s c m n s' c' piece Interrupted h goes fits did came read end wide unwritten written phase ended =
      hears_nothing s c m n s' c' _ h goes (sym (ending_none c.ended c'.ended ended)) did came read (λ _ f. absurd (false≢true (sym ended ∙ f))) unwritten written phase
  hears_once s c m n s' c' piece (Failed kind) h goes fits did came read end wide unwritten written phase ended =
      hears_nothing s c m n s' c' _ h goes (sym (ending_none c.ended c'.ended ended)) did came read (λ _ f. absurd (false≢true (sym ended ∙ f))) unwritten written phase
