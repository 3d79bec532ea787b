-- The messages of a row that were read so far.
use Rattle.std.proofs.Common.{◌≡◌, ℕ, List, [], ◌∷◌, ◌++◌, map, Result, Ok, sym, ap, subst, ◌∙◌, append_assoc}
use Rattle.std.specs.Prelude.{Some}
use Rattle.std.proofs.lemmas.List.{append-nil, map-append}
use Rattle.am_wire.specs.declared.error.WireError.{WireError}
use Rattle.am_wire.specs.Inputs.{messages_of, sound, AreMessages, GivesNext}

-- a message that was read was the first to come
pub gives_ok : {A : Type 0} (coming left : List (Result A WireError)) (given : Result A WireError) (v : A) → GivesNext coming (Some given) left → given ≡ Ok v → coming ≡ Ok v ∷ left
gives_ok coming left given v gives is = subst (λ g. GivesNext coming (Some g) left) is gives

module _ {X : Type 0} (reads : ℕ → List ℕ → Result X WireError) (row : List ℕ) (before : List X) where
  -- some of the messages of the row were read behind others, and these are left
  pub record HasRead (left : List (Result X WireError)) (after : List X) : Type 0 where
    pub versions : List X
    pub parts : messages_of reads row ≡ map sound versions ++ left
    pub behind : after ≡ before ++ versions

  pub reads_none : (items : List (Result X WireError)) → messages_of reads row ≡ items → HasRead items before
  reads_none items all = record { versions = []; parts = all; behind = sym (append-nil before) }

  pub reads_more : (left rest : List (Result X WireError)) (mid new : List X) (v : X) → HasRead left mid → left ≡ Ok v ∷ rest → new ≡ mid ++ v ∷ [] → HasRead rest new
  reads_more left rest mid new v so_far is pushed =
      let versions = so_far.versions in
      record {
        versions = versions ++ v ∷ [];
        parts =
            so_far.parts
            ∙ ap (λ (l : List (Result X WireError)). map sound versions ++ l) is
            ∙ sym (append_assoc (map sound versions) (sound v ∷ []) rest)
            ∙ ap (λ (l : List (Result X WireError)). l ++ rest) (sym (map-append sound versions (v ∷ [])));
        behind = pushed ∙ ap (λ (l : List X). l ++ v ∷ []) so_far.behind ∙ append_assoc before versions (v ∷ []);
      }

  pub reads_all : (left : List (Result X WireError)) (after : List X) → HasRead left after → left ≡ [] → (versions : List X) × AreMessages reads row versions × (after ≡ before ++ versions)
  reads_all left after so_far none =
      let versions = so_far.versions in
      (versions, so_far.parts ∙ ap (λ (l : List (Result X WireError)). map sound versions ++ l) none ∙ append-nil (map sound versions), so_far.behind)
