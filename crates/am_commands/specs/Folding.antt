-- The sources that a job folds, and their map.
-- X is the type of versions, and `seen` is what the merge sees of one.
use Rattle.std.specs.Prelude.{◌≡◌, ℕ, List, [], ◌∷◌, Option, None, fold, map}
use Rattle.std.specs.Borrow.{Bor}
use Rattle.std.specs.declared.cmp.Ordering.{Ordering}
use Rattle.am_options.specs.declared.job.FoldJob.{FoldJob}
use Rattle.am_options.specs.declared.source.TheConstants.{STANDARD_INPUT}
use Rattle.am_version_order.specs.Versions.{Version}
use Rattle.am_merge.specs.Maps.{IsMap, at, greater_of}
use Rattle.am_snapshot.specs.Encodings.{row_encoding}
use Rattle.am_report.specs.Sources.{Source}
use Rattle.am_commands.specs.declared.opened.Keys.TheVariants.{Repeated}
use Rattle.am_commands.specs.Opening.{Named, Wanted}

-- a file under its own name
abbrev pub named_file : List ℕ → Named
named_file file = record { name = file; file = file }

-- the files under their own names, or standard input if there is none
abbrev pub files_named : List (Bor (List ℕ)) → List Named
files_named [] = named_file STANDARD_INPUT.now ∷ []
files_named (file ∷ files) = map (λ f. named_file f.now) (file ∷ files)

-- the sources that a job folds
abbrev pub fold_wants : FoldJob → Wanted
fold_wants job = record {
  names = files_named job.files.items;
  has_logs = job.has_logs;
  reading = record { state = job.state; keys = Repeated; most = job.most; unknown = job.unknown };
}

module _ {K X : Type 0} (seen : X → Version K) (cmp : K → K → Ordering) where
  -- the greatest version of the key that a source holds; of those that tie, that of the first source
  abbrev pub greatest_at : K → List (Source X) → Option X
  greatest_at key sources = fold (λ best source. greater_of seen best (at seen cmp source.held key)) None sources

  -- the map has of each key the greatest version that a source holds, and no other
  pub record IsFoldOf (sources : List (Source X)) (held : List X) : Type 0 where
    pub order : IsMap seen cmp held
    pub greatest : (key : K) → at seen cmp held key ≡ greatest_at key sources

  -- the row of that map, in the order of the keys
  abbrev pub IsFoldRow : List (Source X) → List ℕ → Type 0
  IsFoldRow sources row = (held : List X) × IsFoldOf sources held × (row ≡ row_encoding seen held)
