-- Prometheus' text format, version 0.0.4: a HELP line, a TYPE line, and a line for each figure of a name.
use Rattle.std.specs.Prelude.{ℕ, List, [], ◌∷◌, ◌++◌, ◌+◌, ◌==◌, codes, decimal, drop, if◌then◌else◌}
use Rattle.std.specs.List.{flat_map}
use Rattle.am_metrics.specs.MetricTypes.{kind_text}
use Rattle.am_metrics.specs.declared.family.Number.{Number}
use Rattle.am_metrics.specs.declared.family.Number.TheVariants.{Whole, Nanos}
use Rattle.am_metrics.specs.declared.family.MetricLabel.{MetricLabel}
use Rattle.am_metrics.specs.declared.family.Sample.{Sample}
use Rattle.am_metrics.specs.declared.family.Family.{Family}

-- a byte of a HELP line: a backslash as \\, a line feed as \n
abbrev pub help_byte : ℕ → List ℕ
help_byte b = if b == 92 then codes "\\\\" else (if b == 10 then codes "\\n" else b ∷ [])

-- a byte of a label's value: as in a HELP line, and a quote as \"
abbrev pub value_byte : ℕ → List ℕ
value_byte b = if b == 34 then codes "\\\"" else help_byte b

-- a label: its name, and its value in quotes
unfoldable pub label_text : MetricLabel → List ℕ
label_text label = label.name.now ++ (codes "=\"" ++ (flat_map value_byte label.value ++ codes "\""))

-- a label after another
abbrev pub next_label : MetricLabel → List ℕ
next_label label = codes "," ++ label_text label

-- labels in braces, separated by commas, or nothing if there are none
unfoldable pub labels_text : List MetricLabel → List ℕ
labels_text [] = []
labels_text (label ∷ labels) = codes "{" ++ (label_text label ++ (flat_map next_label labels ++ codes "}"))

-- the nine digits of a number of billionths: those of 1,000,000,000 plus that number, without the first
abbrev pub nine_digits : ℕ → List ℕ
nine_digits nanos = drop 1 (decimal (1_000_000_000 + nanos))

-- a number in decimal digits, with nine more after a point if it has billionths
unfoldable pub number_text : Number → List ℕ
number_text (Whole n) = decimal n
number_text (Nanos whole nanos) = decimal whole ++ (codes "." ++ nine_digits nanos)

-- the line of a figure: name, labels and number
unfoldable pub sample_text : List ℕ → Sample → List ℕ
sample_text name s = name ++ (s.suffix.now ++ (labels_text s.labels.items ++ (codes " " ++ (number_text s.number ++ codes "\n"))))

-- the line that describes the figures
unfoldable pub help_line : Family → List ℕ
help_line f = codes "# HELP " ++ (f.name.now ++ (codes " " ++ (flat_map help_byte f.help.now ++ codes "\n")))

-- the line that names the kind of the figures
unfoldable pub type_line : Family → List ℕ
type_line f = codes "# TYPE " ++ (f.name.now ++ (codes " " ++ (kind_text f.kind ++ codes "\n")))

-- the lines of a family
unfoldable pub family_text : Family → List ℕ
family_text f = help_line f ++ (type_line f ++ flat_map (sample_text f.name.now) f.samples.items)

-- The whole text, one family after another.
abbrev pub exposition : List Family → List ℕ
exposition = flat_map family_text
