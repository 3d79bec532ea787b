-- A decision about the front of bytes is one about all of them.
use Rattle.std.proofs.Common.{◌≡◌, ℕ, ◌+◌, ◌-◌, ◌≤◌, true, false, List, [], ◌++◌, length, take, length-append, append_assoc, inl, inr, sym, ap, subst, ◌∙◌, arith}
use Rattle.std.specs.Prelude.{string_bytes}
use Rattle.std.proofs.lemmas.Bool.{cases_lt}
use Rattle.std.proofs.lemmas.List.{append-nil, length-take, take-append-le, drop-append-le}
use Rattle.std.proofs.Math.Seq.{take_all, take-append-add}
use Rattle.httparse.specs.Grammar.{RequestHead, ReadsRequest, NeverHasRequest, print_request}
use Rattle.httparse.specs.Spans.{RequestExceeds}
use Rattle.am_http.specs.Heads.{window, HasHead, HasLargeHead, HasBadHead}
use Rattle.am_http.specs.Requests.{behind, IsRequestIn, HasBodyFault, IsReadOf, IsRefusedFor}
use Rattle.am_http.specs.declared.cause.Cause.{Cause}
use Rattle.am_http.specs.declared.cause.Cause.TheVariants.{HeadTooLarge, BadHead, TransferEncoding, BadContentLength, BodyTooLarge, EndedEarly, NoSuchPath, MethodNotAllowed, BadFilter, BadJson, BadSilence, Memory}
use Rattle.am_http.specs.declared.refusal.Refusal.{Refusal}
use Rattle.am_http.specs.declared.request.Request.{Request}
use Rattle.am_http.specs.declared.request.Read.TheVariants.{Whole, Refused}

-- ---- the window
record Grows (n : ℕ) (bytes later : List ℕ) : Type 0 where
  more : List ℕ
  is : take n (bytes ++ later) ≡ take n bytes ++ more

take-more : (n : ℕ) (bytes later : List ℕ) → Grows n bytes later
take-more n bytes later =
    elim (cases_lt (length bytes) n) [
      | inl lt ↦
          let n_is : n ≡ length bytes + (n - length bytes) = omega (arith, lt) in
          let all : take n bytes ≡ bytes = take_all n bytes (omega (arith, lt)) in
          record {
            more = take (n - length bytes) later;
            is = ap (λ (i : ℕ). take i (bytes ++ later)) n_is ∙ take-append-add bytes later (n - length bytes) ∙ ap (λ (x : List ℕ). x ++ take (n - length bytes) later) (sym all);
          }
      | inr le ↦ record { more = []; is = take-append-le n bytes later le ∙ sym (append-nil (take n bytes)) }
    ]

-- ---- the head
reads_more : (buf more : List ℕ) (h : RequestHead) (rest : List ℕ) → ReadsRequest buf h rest → ReadsRequest (buf ++ more) h (rest ++ more)
reads_more buf more h rest reads = (reads.0, ap (λ (x : List ℕ). x ++ more) reads.1 ∙ append_assoc (print_request h) rest more)

pub head_stays : (bytes later : List ℕ) (h : RequestHead) → HasHead bytes h → HasHead (bytes ++ later) h
head_stays bytes later h has =
    let g = take-more 16384 bytes later in
    record {
      rest = has.rest ++ g.more;
      reads = subst (λ (x : List ℕ). ReadsRequest x h (has.rest ++ g.more)) (sym g.is) (reads_more (window bytes) g.more h has.rest has.reads);
      room = has.room;
    }

head_within : (bytes : List ℕ) (h : RequestHead) → HasHead bytes h → length (print_request h) ≤ length bytes
head_within bytes h has =
    let e : length (window bytes) ≡ length (print_request h) + length has.rest = ap length has.reads.1 ∙ length-append (print_request h) has.rest in
    let le : length (window bytes) ≤ length bytes = rw length-take (omega arith) in
    omega (arith, e, le)

never_stays : (buf more : List ℕ) → NeverHasRequest buf → NeverHasRequest (buf ++ more)
never_stays buf more never = λ others. subst (λ (x : List ℕ). (h : RequestHead) (rest : List ℕ) → ReadsRequest x h rest → ⊥) (sym (append_assoc buf more others)) (never (more ++ others))

bad_stays : (bytes later : List ℕ) → HasBadHead bytes → HasBadHead (bytes ++ later)
bad_stays bytes later bad =
    let g = take-more 16384 bytes later in
    subst NeverHasRequest (sym g.is) (never_stays (window bytes) g.more bad)

exceeds_stays : (buf more : List ℕ) → RequestExceeds 64 buf → RequestExceeds 64 (buf ++ more)
exceeds_stays buf more (front, rest, is, h, reads, many) = (front, rest ++ more, ap (λ (x : List ℕ). x ++ more) is ∙ append_assoc front rest more, h, reads, many)

large_stays : (bytes later : List ℕ) → HasLargeHead bytes → HasLargeHead (bytes ++ later)
large_stays bytes later (inl (le, is_open)) =
    let same : window (bytes ++ later) ≡ window bytes = take-append-le 16384 bytes later le in
    inl (omega (arith, le, length-append bytes later), record { none = rw same is_open.none; may_become = rw same is_open.may_become })
large_stays bytes later (inr exceeds) =
    let g = take-more 16384 bytes later in
    inr (subst (RequestExceeds 64) (sym g.is) (exceeds_stays (window bytes) g.more exceeds))

-- ---- a whole request
pub request_stays : (bytes later method target body : List ℕ) → IsRequestIn bytes method target body → IsRequestIn (bytes ++ later) method target body
request_stays bytes later method target body is =
    let rest : behind is.head (bytes ++ later) ≡ behind is.head bytes ++ later = drop-append-le (length (print_request is.head)) bytes later (head_within bytes is.head is.has_head) in
    record {
      head = is.head;
      has_head = head_stays bytes later is.head is.has_head;
      method_is = is.method_is;
      target_is = is.target_is;
      count = is.count;
      names = is.names;
      whole = (let w = is.whole in rw rest (omega (arith, w, length-append (behind is.head bytes) later)));
      body_is = is.body_is ∙ sym (take-append-le is.count (behind is.head bytes) later is.whole) ∙ ap (take is.count) (sym rest);
    }

-- ---- a fault
body_fault_stays : (bytes later : List ℕ) (cause : Cause) → HasBodyFault bytes cause → HasBodyFault (bytes ++ later) cause
body_fault_stays bytes later cause (h, has, fault) = (h, head_stays bytes later h has, fault)

pub refused_stays : (bytes later : List ℕ) (cause : Cause) → IsRefusedFor bytes false cause → IsRefusedFor (bytes ++ later) false cause
refused_stays bytes later HeadTooLarge is = large_stays bytes later is
refused_stays bytes later BadHead is = bad_stays bytes later is
refused_stays bytes later TransferEncoding is = body_fault_stays bytes later TransferEncoding is
refused_stays bytes later BadContentLength is = body_fault_stays bytes later BadContentLength is
refused_stays bytes later BodyTooLarge is = body_fault_stays bytes later BodyTooLarge is
refused_stays bytes later EndedEarly is = absurd (never is.0)
  where
    never : false ≡ true → ⊥
    never e = cc
refused_stays bytes later Memory (method, target, body, is) = (method, target, body, request_stays bytes later method target body is)
refused_stays bytes later NoSuchPath is = absurd is
refused_stays bytes later (MethodNotAllowed resource) is = absurd is
refused_stays bytes later BadFilter is = absurd is
refused_stays bytes later BadJson is = absurd is
refused_stays bytes later (BadSilence key) is = absurd is

-- ---- what is read
pub whole_stays : (bytes later : List ℕ) (request : Request) → IsReadOf bytes false (Whole request) → IsReadOf (bytes ++ later) false (Whole request)
whole_stays bytes later request is = request_stays bytes later (string_bytes request.method) (string_bytes request.target) request.body.items is

pub refusal_stays : (bytes later : List ℕ) (refusal : Refusal) → IsReadOf bytes false (Refused refusal) → IsReadOf (bytes ++ later) false (Refused refusal)
refusal_stays bytes later refusal (cause, line, is) = (cause, line, refused_stays bytes later cause is)
