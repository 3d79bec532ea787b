-- The head that the parser's offsets give.
use Rattle.std.proofs.Common.{◌≡◌, ℕ, ◌<◌, ◌≤◌, true, List, length, take, drop, map, IsUtf8, ap, arith, length-take, length-append}
use Rattle.std.proofs.lemmas.Bool.Decides.{nat_tests}
use Rattle.std.proofs.lemmas.List.{length-map}
use Rattle.std.proofs.lemmas.List.Elements.{All-weaker}
use Rattle.std.proofs.lemmas.Str.{IsUtf8-from_ascii}
use Rattle.std.proofs.lemmas.Str.Ascii.{IsAscii-from_all}
use Rattle.httparse.specs.Grammar.{RequestHead, IsRequestHead, is_token_byte, print_request}
use Rattle.httparse.specs.Spans.{IsRequestOf, header_bytes, name_and_value, span_bytes}
use Rattle.httparse.specs.declared.spans.HeaderSpan.{HeaderSpan}
use Rattle.httparse.specs.declared.spans.RequestSpans.{RequestSpans}
use Rattle.am_http.specs.Heads.{window, HasHead, fields_of}

-- the head that stands at the front, and what its offsets give
pub record Found (bytes : List ℕ) (fields : List HeaderSpan) (spans : RequestSpans) : Type 0 where
  pub head : RequestHead
  pub has_head : HasHead bytes head
  pub method : span_bytes (window bytes) spans.method ≡ head.method
  pub target : span_bytes (window bytes) spans.path ≡ head.target
  pub len : spans.len ≡ length (print_request head)
  pub fields_are : map (header_bytes (window bytes)) (take spans.headers fields) ≡ fields_of head

pub found : (bytes : List ℕ) (fields : List HeaderSpan) (spans : RequestSpans) → length fields ≡ 64 → IsRequestOf (window bytes) fields spans → Found bytes fields spans
found bytes fields spans room of =
    let h = of.0 in
    let at = of.1 in
    let same = ap length at.fields in
    let rows = length-map (take spans.headers fields) (header_bytes (window bytes)) in
    let all = length-map h.fields name_and_value in
    record {
      head = h;
      has_head = record { rest = drop spans.len (window bytes); reads = at.reads; room = omega (arith, length-take spans.headers fields, room, same, rows, all) };
      method = at.method;
      target = at.path;
      len = at.len;
      fields_are = at.fields;
    }

token_is_ascii : (b : ℕ) → is_token_byte b ≡ true → b < 128
unfolding is_token_byte
token_is_ascii b token = grind (arith, nat_tests)

pub method_is_text : (h : RequestHead) → IsRequestHead h → IsUtf8 h.method
method_is_text h is = IsUtf8-from_ascii _ (IsAscii-from_all _ (All-weaker (λ b. is_token_byte b ≡ true) (λ b. b < 128) token_is_ascii _ is.method.1))

-- a head ends in the window
pub head_small : (bytes : List ℕ) (h : RequestHead) → HasHead bytes h → length (print_request h) ≤ 16384
head_small bytes h has =
    let whole = ap length has.reads.1 in
    omega (arith, whole, length-append (print_request h) has.rest, length-take 16384 bytes)
