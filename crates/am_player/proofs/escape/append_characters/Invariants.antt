use Rattle.std.proofs.Common.{◌≡◌, ◌++◌, string_bytes, take}
use Rattle.std.specs.List.{flat_map}
use Rattle.am_player.specs.Escapes.{spelled}
use Rattle.am_player.proofs.escape.append_characters.Given as goal

abbrev pub invariant-loop-character : goal.invariant-loop-character
invariant-loop-character l =
    string_bytes l.out ≡ string_bytes l.fn.out ++ flat_map spelled (take l.character-index l.characters)
