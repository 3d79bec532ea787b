-- The entries of a cache.
use Rattle.std.specs.Prelude.{◌≡◌, ℕ, Bool, true, List, All, map}
use Rattle.am_matcher.specs.Sizes.{CompiledPattern, long_steps, size_of}
use Rattle.am_matcher.specs.declared.entries.CacheEntry.{CacheEntry}

-- the patterns of entries
abbrev pub patterns_in : List CacheEntry → List CompiledPattern
patterns_in entries = map (λ e. e.kept) entries

-- the size of an entry's pattern
abbrev pub entry_size : CacheEntry → ℕ
entry_size e = size_of e.kept

-- the steps of a long search for an entry's pattern in a text of this length
abbrev pub entry_steps : ℕ → CacheEntry → ℕ
entry_steps length e = long_steps length e.kept

-- the texts of all marked patterns pass the test
abbrev pub MarkedPass : (List ℕ → Bool) → List CacheEntry → Type 0
MarkedPass test entries = All (λ e. e.is_used ≡ true → test e.kept.text ≡ true) entries
