-- The row of versions that pass a test, version by version, and the tally of them.
use Rattle.std.proofs.Common.{◌≡◌, ℕ, ◌+◌, ◌^◌, ◌<◌, Bool, true, false, List, [], ◌∷◌, ◌++◌, length, Result, Ok, Err, OnErr, refl, sym, ap, subst, ◌∙◌, append-nil, append_assoc, length-append, arith}
use Rattle.std.proofs.lemmas.Grind.{flat_map-append}
use Rattle.am_version_order.specs.Versions.{Version}
use Rattle.am_wire.specs.Writing.{delimited}
use Rattle.am_snapshot.specs.Encodings.{row_encoding}
use Rattle.am_alertmanager.specs.declared.tally.FilterTally.{FilterTally}
use Rattle.am_alertmanager.specs.declared.tally.Withheld.{Withheld}
use Rattle.am_alertmanager.specs.VersionFilters.{IsTallied, Tallies, AreChosen, AreNoted}
use Rattle.am_alertmanager.specs.VersionFilters.AreChosen.{nothing, chosen, left_out}
use Rattle.am_alertmanager.specs.VersionFilters.AreNoted.{nobody, noted}

-- what holds of an error's case where it holds
pub on_err : {T E P : Type 0} (r : Result T E) → P → OnErr r P
on_err (Ok x) p = tt
on_err (Err e) p = p

module _ {X : Type 0} (passes : X → Bool → Type 0) where
  -- one more that passes is chosen, too
  pub chosen_behind : (v : X) (looked some : List X) → passes v true → AreChosen passes looked some → AreChosen passes (looked ++ v ∷ []) (some ++ v ∷ [])
  chosen_behind v _ _ does nothing = chosen does nothing
  chosen_behind v _ _ does (chosen it rest) = chosen it (chosen_behind v _ _ does rest)
  chosen_behind v _ _ does (left_out it rest) = left_out it (chosen_behind v _ _ does rest)

  -- one more that doesn't is left out
  pub left_out_behind : (v : X) (looked some : List X) → passes v false → AreChosen passes looked some → AreChosen passes (looked ++ v ∷ []) some
  left_out_behind v _ _ fails nothing = left_out fails nothing
  left_out_behind v _ _ fails (chosen it rest) = chosen it (left_out_behind v _ _ fails rest)
  left_out_behind v _ _ fails (left_out it rest) = left_out it (left_out_behind v _ _ fails rest)

module _ {X W : Type 0} (withholds : X → List W → List W → Type 0) where
  -- one more is noted, where it is withheld
  noted_behind : (v : X) (looked : List X) (old mid new : List W) → AreNoted withholds looked old mid → withholds v mid new → AreNoted withholds (looked ++ v ∷ []) old new
  noted_behind v _ old _ new nobody notes = noted notes nobody
  noted_behind v _ old mid new (noted first rest) notes = noted first (noted_behind v _ _ mid new rest notes)

module _ {K X : Type 0} (passes : X → Bool → Type 0) (withholds : X → List (Withheld K) → List (Withheld K) → Type 0) where
  tallies_none : (tally : FilterTally K) → Tallies passes withholds [] [] tally tally
  tallies_none tally = record { are = nothing; passed = λ _. omega arith; noted = nobody }

  -- one more that passes is counted
  tallies_chosen : (looked some : List X) (v : X) (old mid new : FilterTally K) → passes v true → withholds v mid.withheld.items new.withheld.items
      → (mid.passed + 1 < 2 ^ 64 → new.passed ≡ mid.passed + 1) → Tallies passes withholds looked some old mid → Tallies passes withholds (looked ++ v ∷ []) (some ++ v ∷ []) old new
  tallies_chosen looked some v old mid new does notes counts so_far = record {
    are = chosen_behind passes v looked some does so_far.are;
    passed = λ room.
        let count : length (some ++ v ∷ []) ≡ length some + 1 = length-append some (v ∷ []) in
        let before : mid.passed ≡ old.passed + length some = so_far.passed (omega (arith, room, count)) in
        let now : new.passed ≡ mid.passed + 1 = counts (omega (arith, room, count, before)) in
        omega (arith, count, before, now);
    noted = noted_behind withholds v looked _ mid.withheld.items new.withheld.items so_far.noted notes;
  }

  -- one more that doesn't is not
  tallies_left_out : (looked some : List X) (v : X) (old mid new : FilterTally K) → passes v false → withholds v mid.withheld.items new.withheld.items
      → new.passed ≡ mid.passed → Tallies passes withholds looked some old mid → Tallies passes withholds (looked ++ v ∷ []) some old new
  tallies_left_out looked some v old mid new fails notes same so_far = record {
    are = left_out_behind passes v looked some fails so_far.are;
    passed = λ room. same ∙ so_far.passed room;
    noted = noted_behind withholds v looked _ mid.withheld.items new.withheld.items so_far.noted notes;
  }

  -- the notes and the count are all that matters
  pub same_tally : (all : List X) (old mid new : FilterTally K) → new.withheld.items ≡ mid.withheld.items → new.passed ≡ mid.passed
      → IsTallied passes withholds all old mid → IsTallied passes withholds all old new
  same_tally all old mid new notes passed it = record {
    looked = it.looked;
    left = it.left;
    parts = it.parts;
    chosen = it.chosen;
    tallies = record {
      are = it.tallies.are;
      passed = λ room. passed ∙ it.tallies.passed room;
      noted = subst (λ items. AreNoted withholds it.looked old.withheld.items items) (sym notes) it.tallies.noted;
    };
  }

  module _ (seen : X → Version K) where
    -- the row is that of the versions that pass, of those before the ones that are left, and the tally counts these
    pub record IsSifting (all left : List X) (row : List ℕ) (old new : FilterTally K) : Type 0 where
      pub looked : List X
      pub parts : all ≡ looked ++ left
      pub some : List X
      pub tallies : Tallies passes withholds looked some old new
      pub text : row ≡ row_encoding seen some

    pub sifting_begins : (all : List X) (tally : FilterTally K) → IsSifting all all [] tally tally
    sifting_begins all tally = record { looked = []; parts = refl; some = []; tallies = tallies_none tally; text = refl }

    one_behind : (looked : List X) (v : X) (left : List X) (all : List X) → all ≡ looked ++ v ∷ left → all ≡ (looked ++ v ∷ []) ++ left
    one_behind looked v left all parts = parts ∙ sym (append_assoc looked (v ∷ []) left)

    -- one that passes stands behind those before it
    pub sifting_takes : (all : List X) (v : X) (left : List X) (row : List ℕ) (old mid new : FilterTally K) → passes v true → withholds v mid.withheld.items new.withheld.items
        → (mid.passed + 1 < 2 ^ 64 → new.passed ≡ mid.passed + 1) → IsSifting all (v ∷ left) row old mid → IsSifting all left (row ++ delimited (seen v).content) old new
    sifting_takes all v left row old mid new does notes counts so_far = record {
      looked = so_far.looked ++ v ∷ [];
      parts = one_behind so_far.looked v left all so_far.parts;
      some = so_far.some ++ v ∷ [];
      tallies = tallies_chosen so_far.looked so_far.some v old mid new does notes counts so_far.tallies;
      text = sym (
          flat_map-append (λ w. delimited (seen w).content) so_far.some (v ∷ [])
          ∙ ap (λ bytes. row_encoding seen so_far.some ++ bytes) (append-nil (delimited (seen v).content))
          ∙ ap (λ bytes. bytes ++ delimited (seen v).content) (sym so_far.text)
          );
    }

    -- one that doesn't is left out
    pub sifting_skips : (all : List X) (v : X) (left : List X) (row : List ℕ) (old mid new : FilterTally K) → passes v false → withholds v mid.withheld.items new.withheld.items
        → new.passed ≡ mid.passed → IsSifting all (v ∷ left) row old mid → IsSifting all left row old new
    sifting_skips all v left row old mid new fails notes same so_far = record {
      looked = so_far.looked ++ v ∷ [];
      parts = one_behind so_far.looked v left all so_far.parts;
      some = so_far.some;
      tallies = tallies_left_out so_far.looked so_far.some v old mid new fails notes same so_far.tallies;
      text = so_far.text;
    }

    -- what was looked at so far is tallied
    pub tallied_so_far : (all left : List X) (row : List ℕ) (old new : FilterTally K) → IsSifting all left row old new → IsTallied passes withholds all old new
    tallied_so_far all left row old new so_far = record { looked = so_far.looked; left = left; parts = so_far.parts; chosen = so_far.some; tallies = so_far.tallies }
