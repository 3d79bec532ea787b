-- The length of a request's body, by the fields of its head (RFC 9112, section 6; RFC 9110, section 8.6).
use Rattle.std.specs.Prelude.{◌≡◌, ◌≢◌, ℕ, ◌<◌, ◌≤◌, List, [], ◌∷◌, length, All, IsTrue, codes, Result, Ok, Err, ⊤}
use Rattle.std.specs.Char.{is_ascii_digit}
use Rattle.std.specs.Str.Parse.{digits_value}
use Rattle.am_http.specs.Heads.{NamedValue, values_of}
use Rattle.am_http.specs.declared.cause.Cause.{Cause}
use Rattle.am_http.specs.declared.cause.Cause.TheVariants.{TransferEncoding, BadContentLength, BodyTooLarge}
use Rattle.am_http.specs.declared.fields.Named.{Named}
use Rattle.am_http.specs.declared.fields.Named.TheVariants.{Missing, Once, Often}

-- the text is 1 to 18 digits
pub record IsLengthText (text : List ℕ) : Type 0 where
  pub some : 0 < length text
  pub few : length text ≤ 18
  pub digits : All (λ b. IsTrue (is_ascii_digit b)) text

-- the values of `content-length` give this length; the body is empty if there are none
abbrev pub LengthIs : List (List ℕ) → ℕ → Type 0
LengthIs [] n = n ≡ 0
LengthIs (text ∷ []) n = IsLengthText text × (n ≡ digits_value 10 text)
LengthIs (_ ∷ (_ ∷ _)) n = ⊥

-- a value of `content-length` isn't a length, or there are two values
abbrev pub HasBadLength : List (List ℕ) → Type 0
HasBadLength [] = ⊥
HasBadLength (text ∷ []) = ¬ (IsLengthText text)
HasBadLength (_ ∷ (_ ∷ _)) = ⊤

-- the values of the fields that say how a body is encoded
abbrev pub encodings : List NamedValue → List (List ℕ)
encodings fields = values_of (codes "transfer-encoding") fields

-- the values of the fields that say how long a body is
abbrev pub lengths : List NamedValue → List (List ℕ)
lengths fields = values_of (codes "content-length") fields

-- the fields give the length of a body that may be read
pub record NamesLength (fields : List NamedValue) (n : ℕ) : Type 0 where
  pub uncoded : encodings fields ≡ []
  pub named : LengthIs (lengths fields) n
  pub small : n ≤ 1048576

-- the length of the body, or the first fault of the fields
abbrev pub IsBodyLength : List NamedValue → Result ℕ Cause → Type 0
IsBodyLength fields (Ok n) = NamesLength fields n
IsBodyLength fields (Err TransferEncoding) = encodings fields ≢ []
IsBodyLength fields (Err BadContentLength) = (encodings fields ≡ []) × HasBadLength (lengths fields)
IsBodyLength fields (Err BodyTooLarge) = (encodings fields ≡ []) × (n : ℕ) × LengthIs (lengths fields) n × (1048576 < n)
IsBodyLength fields (Err _) = ⊥

-- counts values: none, one, or more
abbrev pub NamedIn : List (List ℕ) → Named → Type 0
NamedIn values Missing = values ≡ []
NamedIn values (Once value) = values ≡ value.now ∷ []
NamedIn values Often = 2 ≤ length values
