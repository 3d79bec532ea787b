use Rattle.std.proofs.Common.{◌≡◌, ◌<◌, ◌^◌, take, All, IsTrue}
use Rattle.std.specs.Char.{is_ascii_digit}
use Rattle.std.specs.Str.Parse.{digits_value}
use Rattle.am_http.proofs.fields.content_length.Given as goal

abbrev pub invariant-loop-byte : goal.invariant-loop-byte
invariant-loop-byte l = record {
  number_is : l.number ≡ digits_value 10 (take l.byte-index l.value);
  digits : All (λ b. IsTrue (is_ascii_digit b)) (take l.byte-index l.value);
  small : l.number < 10 ^ l.byte-index;
}
