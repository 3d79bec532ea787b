-- Names of Alertmanagers among the names of members.
use Rattle.std.specs.Prelude.{ℕ, List, [], ◌∷◌, drop, nat_eq, if◌then◌else◌}
use Rattle.std.specs.List.{starts_with}

-- U+10FFFF in UTF-8, the greatest character
abbrev pub behind_all : List ℕ
behind_all = 244 ∷ 143 ∷ 191 ∷ 191 ∷ []

-- a name without that character at its front
abbrev pub shown : List ℕ → List ℕ
shown name = if starts_with nat_eq name behind_all then drop 4 name else name
