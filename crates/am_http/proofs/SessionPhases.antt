-- The bytes that came, from the parts of a head.
use Rattle.std.proofs.Common.{◌≡◌, ℕ, ◌+◌, ◌-◌, ◌<◌, ◌≤◌, List, length, take, drop, map, Result, Ok, Err, IsUtf8, sym, ap, subst, ◌∙◌, arith, length-drop}
use Rattle.httparse.specs.Grammar.{RequestHead, print_request}
use Rattle.httparse.specs.Spans.{IsRequestWithin, IsRequestOf, header_bytes, span_bytes}
use Rattle.httparse.specs.declared.spans.HeaderSpan.{HeaderSpan}
use Rattle.httparse.specs.declared.spans.RequestSpans.{RequestSpans}
use Rattle.am_http.specs.Heads.{window, HasHead, fields_of}
use Rattle.am_http.specs.Bodies.{IsBodyLength}
use Rattle.am_http.specs.Requests.{HasFault, IsOpenBody, IsRequestIn}
use Rattle.am_http.specs.declared.cause.Cause.{Cause}
use Rattle.am_http.specs.declared.cause.Cause.TheVariants.{TransferEncoding, BadContentLength, BodyTooLarge}
use Rattle.am_http.proofs.HeadLemmas.{Found, found, method_is_text}

body_fault : (bytes : List ℕ) (h : RequestHead) → HasHead bytes h → (cause : Cause) → IsBodyLength (fields_of h) (Err cause) → HasFault bytes cause
body_fault bytes h has TransferEncoding fault = (h, has, fault)
body_fault bytes h has BadContentLength fault = (h, has, fault)
body_fault bytes h has BodyTooLarge fault = (h, has, fault)
body_fault bytes h has _ fault = absurd fault

module _ (bytes front : List ℕ) (fields : List HeaderSpan) (spans : RequestSpans) (front_is : front ≡ take 16384 bytes) (room : length fields ≡ 64)
    (whole : IsRequestWithin (window bytes) fields spans × IsRequestOf (window bytes) fields spans) where
  the_head : Found bytes fields spans
  the_head = found bytes fields spans room whole.1

  length_is : (r : Result ℕ Cause) → IsBodyLength (map (header_bytes front) (take spans.headers fields)) r → IsBodyLength (fields_of the_head.head) r
  length_is r is =
      let e : map (header_bytes front) (take spans.headers fields) ≡ fields_of the_head.head =
      ap (λ (b : List ℕ). map (header_bytes b) (take spans.headers fields)) front_is ∙ the_head.fields_are in
      subst (λ fs. IsBodyLength fs r) e is

  pub bad_fields : (cause : Cause) → IsBodyLength (map (header_bytes front) (take spans.headers fields)) (Err cause) → HasFault bytes cause
  bad_fields cause is = body_fault bytes the_head.head the_head.has_head cause (length_is (Err cause) is)

  pub open_body : (count : ℕ) → IsBodyLength (map (header_bytes front) (take spans.headers fields)) (Ok count) → length bytes < spans.len + count → IsOpenBody bytes (spans.len + count)
  open_body count is wanting =
      record { head = the_head.head; has_head = the_head.has_head; count = count; names = length_is (Ok count) is; end_is = ap (λ (n : ℕ). n + count) the_head.len; wanting = wanting }

  pub whole_request : (count : ℕ) (method target : List ℕ) → IsBodyLength (map (header_bytes front) (take spans.headers fields)) (Ok count) → spans.len + count ≤ length bytes
      → method ≡ span_bytes front spans.method → target ≡ span_bytes front spans.path
      → IsRequestIn bytes method target (take (spans.len + count - spans.len) (drop spans.len bytes))
  whole_request count method target is all method_is target_is =
      let less : spans.len + count - spans.len ≡ count = omega arith in
      let left = length-drop (length (print_request the_head.head)) bytes in
      record {
        head = the_head.head;
        has_head = the_head.has_head;
        method_is = method_is ∙ ap (λ (b : List ℕ). span_bytes b spans.method) front_is ∙ the_head.method;
        target_is = target_is ∙ ap (λ (b : List ℕ). span_bytes b spans.path) front_is ∙ the_head.target;
        count = count;
        names = length_is (Ok count) is;
        whole = omega (arith, all, left, the_head.len);
        body_is = ap (λ (n : ℕ). take n (drop spans.len bytes)) less ∙ ap (λ (n : ℕ). take count (drop n bytes)) the_head.len;
      }

pub method_text : (bytes front : List ℕ) (fields : List HeaderSpan) (spans : RequestSpans) → front ≡ take 16384 bytes → length fields ≡ 64
    → IsRequestWithin (window bytes) fields spans × IsRequestOf (window bytes) fields spans → IsUtf8 (span_bytes front spans.method)
method_text bytes front fields spans front_is room whole =
    let f = found bytes fields spans room whole.1 in
    let e : span_bytes front spans.method ≡ f.head.method = ap (λ (b : List ℕ). span_bytes b spans.method) front_is ∙ f.method in
    subst IsUtf8 (sym e) (method_is_text f.head f.has_head.reads.0)
