-- The lines of a difference: one for each group of sources that hold the same there, greatest first. X is the type of
-- versions, `seen` is what the merge sees of one, `begins` are the words of a key with which each of its lines
-- begins, `told` are the words of a version, `more` is the text below the line of a version that is compared with
-- the greatest, and `by` says by what one is less than the greatest.
use Rattle.std.specs.Prelude.{◌≡◌, ℕ, List, [], ◌∷◌, ◌++◌, Bool, true, false, Option, Some, None, map, filter, codes, if◌then◌else◌}
use Rattle.std.specs.List.{flat_map, join_with_byte, list_any}
use Rattle.am_version_order.specs.Versions.{Version}
use Rattle.am_report.specs.Sources.{Holding}
use Rattle.am_report.specs.Differences.{Difference, is_same}
use Rattle.am_report.specs.Groups.{greatest_within}
use Rattle.am_report.specs.Words.{listed_word_of}
use Rattle.am_report.specs.Ranked.{ranked}

-- true if there is any difference
abbrev pub is_any : {D : Type 0} → List D → Bool
is_any [] = false
is_any (difference ∷ differences) = true

-- names with commas between them, each as a word of a list
abbrev pub names_word : List (List ℕ) → List ℕ
names_word names = join_with_byte 44 (map listed_word_of names)

-- the words that a name adds to a list: after a comma unless it is the first one
abbrev pub next_name : Bool → List ℕ → List ℕ
next_name is_first name = if is_first then listed_word_of name else 44 ∷ listed_word_of name

module _ {K X : Type 0} (seen : X → Version K) where
  -- the greatest version that is held has this key
  pub record IsKeyOf (holdings : List (Holding X)) (key : K) : Type 0 where
    pub greatest : X
    pub held : greatest_within seen None holdings ≡ Some greatest
    pub own : (seen greatest).key ≡ key

  -- the names of the sources that hold this there, in their order
  abbrev pub holders : Option X → List (Holding X) → List (List ℕ)
  holders here holdings = map (λ holding. holding.name) (filter (λ holding. is_same seen holding.here here) holdings)

  -- KEY missing NAMES, if some hold nothing
  abbrev pub missing_line : (K → List ℕ) → K → List (Holding X) → List ℕ
  missing_line begins key holdings =
      if list_any (λ holding. is_same seen holding.here None) holdings
      then begins key ++ codes " missing " ++ names_word (holders None holdings) ++ codes "\n"
      else []

  -- RELATION NAMES VERSION, behind a space
  unfoldable pub group_words : (X → List ℕ) → List ℕ → List (Holding X) → X → List ℕ
  group_words told relation holdings v =
      codes " " ++ relation ++ codes " " ++ names_word (holders (Some v) holdings) ++ codes " " ++ told v

  module _ (begins : K → List ℕ) (told : X → List ℕ) where
    module _ (more : X → X → List ℕ) where
      -- KEY greatest NAMES VERSION
      abbrev pub greatest_line : K → List (Holding X) → X → List ℕ
      greatest_line key holdings greatest =
          begins key ++ group_words told (codes "greatest") holdings greatest ++ codes "\n" ++ more greatest greatest

      module _ (by : X → X → List ℕ) where
        -- KEY behind NAMES VERSION by WHAT
        abbrev pub behind_line : K → List (Holding X) → X → X → List ℕ
        behind_line key holdings greatest v =
            begins key ++ group_words told (codes "behind") holdings v ++ codes " by " ++ by v greatest ++ codes "\n"
            ++ more v greatest

        -- the lines of all versions that are held, given in their order
        abbrev pub version_lines : K → List (Holding X) → List X → List ℕ
        version_lines key holdings [] = []
        version_lines key holdings (greatest ∷ others) =
            greatest_line key holdings greatest ++ flat_map (behind_line key holdings greatest) others

        -- the lines of a difference
        unfoldable pub difference_lines : Difference K X → List ℕ
        difference_lines difference =
            version_lines difference.key difference.holdings (ranked seen difference.holdings) ++ missing_line begins difference.key difference.holdings

        -- the lines of all differences
        abbrev pub lines_of : List (Difference K X) → List ℕ
        lines_of differences = flat_map difference_lines differences
