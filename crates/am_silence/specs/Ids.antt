-- Identifiers of new silences: RFC 9562, version 4.
use Rattle.std.specs.Prelude.{ℕ, List}
use Rattle.std.specs.Int.{w128, to_be_bytes}
use Rattle.uuid.specs.Text.{hyphenated_text, lower}
use Rattle.uuid.specs.Parts.{with_version, with_variant}
use Rattle.uuid.specs.declared.Variant.TheVariants as variants
use Rattle.uuid.specs.declared.Version.TheVariants as versions

-- The text of the identifier made of 128 random bits (section 5.4): the bits as 16 bytes, the highest first, with version and
-- variant set, in lower case and with hyphens.
unfoldable pub id_text : ℕ → List ℕ
id_text bits = hyphenated_text lower (with_version (with_variant (to_be_bytes w128 bits) variants.RFC4122) versions.Random)
