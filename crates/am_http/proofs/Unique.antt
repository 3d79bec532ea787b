-- A request stands in bytes in one way only.
use Rattle.std.proofs.Common.{◌≡◌, ◌≢◌, ℕ, ◌≤◌, List, [], ◌∷◌, length, take, ⊎_elim, refl, sym, ap, subst, ◌∙◌, arith, append-nil, length-append, length-take, length-drop}
use Rattle.httparse.specs.Grammar.{RequestHead, print_request}
use Rattle.httparse.proofs.GrammarLemmas.{request_unique}
use Rattle.am_http.specs.Heads.{window, HasHead, fields_of}
use Rattle.am_http.specs.Bodies.{LengthIs, HasBadLength, NamesLength, lengths, encodings}
use Rattle.am_http.specs.Requests.{behind, HasFault, IsOpenBody, IsRequestIn, IsUnfinished}
use Rattle.am_http.specs.declared.cause.Cause.{Cause}
use Rattle.am_http.specs.declared.cause.Cause.TheVariants.{HeadTooLarge, BadHead, TransferEncoding, BadContentLength, BodyTooLarge}

one_length : (values : List (List ℕ)) (n m : ℕ) → LengthIs values n → LengthIs values m → n ≡ m
one_length [] n m a b = a ∙ sym b
one_length (text ∷ []) n m a b = a.1 ∙ sym b.1
one_length (_ ∷ (_ ∷ _)) n m a b = absurd a

no_bad_length : (values : List (List ℕ)) (n : ℕ) → LengthIs values n → ¬ (HasBadLength values)
no_bad_length [] n a bad = bad
no_bad_length (text ∷ []) n a bad = bad a.0
no_bad_length (_ ∷ (_ ∷ _)) n a bad = a

one_head : (bytes : List ℕ) (h k : RequestHead) → HasHead bytes h → HasHead bytes k → h ≡ k
one_head bytes h k a b = (request_unique (window bytes) h k a.rest b.rest a.reads b.reads).0

one_count : (h k : RequestHead) (n m : ℕ) → h ≡ k → NamesLength (fields_of h) n → LengthIs (lengths (fields_of k)) m → n ≡ m
one_count h k n m e a b = one_length (lengths (fields_of h)) n m a.named (subst (λ (x : RequestHead). LengthIs (lengths (fields_of x)) m) (sym e) b)

pub one_request : (bytes method target body other_method other_target other_body : List ℕ)
    → IsRequestIn bytes method target body → IsRequestIn bytes other_method other_target other_body
    → (method ≡ other_method) × (target ≡ other_target) × (body ≡ other_body)
one_request bytes method target body other_method other_target other_body a b =
    let e = one_head bytes a.head b.head a.has_head b.has_head in
    let n = one_count a.head b.head a.count b.count e a.names b.names.named in (
      a.method_is ∙ ap (λ (h : RequestHead). h.method) e ∙ sym b.method_is,
      a.target_is ∙ ap (λ (h : RequestHead). h.target) e ∙ sym b.target_is,
      a.body_is ∙ ap (λ (k : ℕ). take k (behind a.head bytes)) n ∙ ap (λ (h : RequestHead). take b.count (behind h bytes)) e ∙ sym b.body_is,
    )

head_inside : (bytes : List ℕ) (h : RequestHead) → HasHead bytes h → length (print_request h) ≤ length bytes
head_inside bytes h has =
    let whole = ap length has.reads.1 in
    omega (arith, whole, length-append (print_request h) has.rest, length-take 16384 bytes)

not_open : (bytes method target body : List ℕ) (end : ℕ) → IsRequestIn bytes method target body → ¬ (IsOpenBody bytes end)
not_open bytes method target body end a b =
    let e = one_head bytes a.head b.head a.has_head b.has_head in
    let n = one_count a.head b.head a.count b.count e a.names b.names.named in
    let size : length (print_request b.head) ≡ length (print_request a.head) = sym (ap (λ (h : RequestHead). length (print_request h)) e) in
    let inside = head_inside bytes a.head a.has_head in
    let left = length-drop (length (print_request a.head)) bytes in
    omega (arith, n, size, inside, left, a.whole, b.end_is, b.wanting)

pub is_whole : (bytes method target body : List ℕ) → IsRequestIn bytes method target body → ¬ (IsUnfinished bytes)
is_whole bytes method target body a unfinished =
    ⊎_elim (λ head. head.1.none a.head a.has_head.rest a.has_head.reads) (λ open_. not_open bytes method target body open_.0 a open_.1) unfinished

pub is_sound : (bytes method target body : List ℕ) (cause : Cause) → cause ≢ HeadTooLarge → IsRequestIn bytes method target body → ¬ (HasFault bytes cause)
is_sound bytes method target body HeadTooLarge other a fault = other refl
is_sound bytes method target body BadHead other a fault = fault [] a.head a.has_head.rest (a.has_head.reads.0, append-nil (window bytes) ∙ a.has_head.reads.1)
is_sound bytes method target body TransferEncoding other a fault =
    (subst (λ (x : RequestHead). encodings (fields_of x) ≢ []) (sym (one_head bytes a.head fault.0 a.has_head fault.1)) fault.2) a.names.uncoded
is_sound bytes method target body BadContentLength other a fault =
    no_bad_length (lengths (fields_of a.head)) a.count a.names.named
    (subst (λ (x : RequestHead). HasBadLength (lengths (fields_of x))) (sym (one_head bytes a.head fault.0 a.has_head fault.1)) fault.2.1)
is_sound bytes method target body BodyTooLarge other a fault =
    let n = one_count a.head fault.0 a.count fault.2.1 (one_head bytes a.head fault.0 a.has_head fault.1) a.names fault.2.2 in
    omega (arith, n, a.names.small, fault.2.3)
is_sound bytes method target body _ other a fault = fault
