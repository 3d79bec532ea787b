-- The status of a reply, as its head tells it.
use Rattle.std.proofs.Common.{append-nil, Bool, true, false, Result, Ok, Err, IfOk, IfErr, ◌≡◌, ℕ, ◌+◌, ◌/◌, ◌%◌, ◌≤◌, List, [], ◌∷◌, ◌++◌, codes, decimal, get_or, length, take, drop, Option, None, ◌∙◌, refl, sym, ap, subst, arith}
use Rattle.std.proofs.lemmas.Fmt.{decimal_digit, decimal_step}
use Rattle.http.specs.StatusCode.{IsStatusCode, code_digits}
use Rattle.serde_json.specs.Data.{array, string}
use Rattle.serde_json.specs.View.{items_of}
use Rattle.serde_json.specs.Written.{compact_text}
use Rattle.am_silence.specs.declared.error.SilenceError.{SilenceError}
use Rattle.am_silence.specs.declared.error.SilenceError.TheVariants as errors
use Rattle.am_silence_json.specs.Gettables.{posted_data}
use Rattle.am_http.specs.Lines.{RefusalLine, line_seen}
use Rattle.am_http.specs.Replies.{head_bytes}
use Rattle.am_http.specs.declared.refusal.Refusal.{Refusal}
use Rattle.am_instance.specs.InstanceStates.{InstanceState}
use Rattle.am_instance.specs.declared.event.Event.{Event}
use Rattle.am_instance.specs.declared.reply.Outcome.{Outcome}
use Rattle.am_instance.specs.declared.reply.Reply.{Reply}
use Rattle.am_instance.specs.declared.reply.Reply.TheVariants as replies
use Rattle.am_http.specs.declared.request.Request.{Request}
use Rattle.am_gossip.specs.declared.refusals.StepError.{StepError}
use Rattle.am_gossip.specs.declared.refusals.StepError.TheVariants.{MomentBack}
use Rattle.am_api_silences.specs.Answers.{Answered, IsErrorBytes, IsRefusalAnswer, IsRequestAnswer, IsStepAnswer}
use Rattle.am_api_silences.specs.Replies.{HasSomeStatus, HasStatus, IsReplyBytes, Says, bytes_of, good_bytes, line_bytes}
use Rattle.am_api_silences.specs.Table.{clock_line, memory_line, refused_line}
use Rattle.am_api_silences.specs.declared.replies.ResponseBytes.{ResponseBytes}
use Rattle.am_api_silences.specs.declared.replies.ResponseBytes.TheVariants.{Own, Fixed}

-- a code is written as its three digits
decimal-code : (status : ℕ) → IsStatusCode status → decimal status ≡ code_digits status
decimal-code status code =
    let last = decimal_step status (omega (arith, code.0)) (omega (arith, code.1)) in
    let next = decimal_step (status / 10) (omega (arith, code.0)) (omega (arith, code.1)) in
    let first = decimal_digit (status / 10 / 10) (omega (arith, code.1)) in
    let hundreds : status / 10 / 10 ≡ status / 100 = omega arith in
    last ∙ ap (λ (front : List ℕ). front ++ ((48 + status % 10) ∷ [])) (next ∙ ap (λ (front : List ℕ). front ++ ((48 + status / 10 % 10) ∷ [])) first)
    ∙ ap (λ (n : ℕ). (48 + n) ∷ (48 + status / 10 % 10) ∷ (48 + status % 10) ∷ []) hundreds

-- behind the version of HTTP stand three bytes
pub record HasDigits (digits bytes : List ℕ) : Type 0 where
  pub room : 12 ≤ length bytes
  pub digits_are : take 3 (drop 9 bytes) ≡ digits

digits_at : (a b c : ℕ) (tail body : List ℕ) → HasDigits (a ∷ b ∷ c ∷ []) ((codes "HTTP/1.1 " ++ ((a ∷ b ∷ c ∷ []) ++ tail)) ++ body)
digits_at a b c tail body = record { room = omega arith; digits_are = refl }

digits_in : (status : ℕ) (written tail body bytes : List ℕ) → written ≡ code_digits status → bytes ≡ (codes "HTTP/1.1 " ++ (written ++ tail)) ++ body → HasDigits (code_digits status) bytes
digits_in status written tail body bytes is are =
    let P : List ℕ → Type 0 = λ text. HasDigits (code_digits status) text in
    let whole : P ((codes "HTTP/1.1 " ++ (code_digits status ++ tail)) ++ body) = digits_at (48 + status / 100) (48 + status / 10 % 10) (48 + status % 10) tail body in
    subst P (sym are) (subst (λ (text : List ℕ). P ((codes "HTTP/1.1 " ++ (text ++ tail)) ++ body)) (sym is) whole)

-- they are the digits of the status
pub status_digits : (status : ℕ) (bytes : List ℕ) → HasStatus status bytes → HasDigits (code_digits status) bytes
status_digits status bytes has = digits_in status (decimal status) _ has.body bytes (decimal-code status has.code) has.bytes_are

-- two codes with the same digits are one
pub code_digits_injective : (one other : ℕ) → code_digits one ≡ code_digits other → one ≡ other
code_digits_injective one other same =
    let first : 48 + one / 100 ≡ 48 + other / 100 = ap (λ (ds : List ℕ). get_or ds 0 0) same in
    let second : 48 + one / 10 % 10 ≡ 48 + other / 10 % 10 = ap (λ (ds : List ℕ). get_or ds 1 0) same in
    let third : 48 + one % 10 ≡ 48 + other % 10 = ap (λ (ds : List ℕ). get_or ds 2 0) same in
    omega arith

-- ---- each reply has a status

bare_status : (bare : Bool) (status : ℕ) (allow : Option (List ℕ)) (text : List ℕ) → IsStatusCode status
    → HasStatus status (line_bytes (record { status = status; text = text; allow = allow; bare = bare }))
bare_status true status allow text code =
    record { code = code; allow = allow; count = length (compact_text (string text)); body = []; bytes_are = sym (append-nil (head_bytes status allow (length (compact_text (string text))))) }
bare_status false status allow text code =
    record { code = code; allow = allow; count = length (compact_text (string text)); body = compact_text (string text); bytes_are = refl }

-- a line has its own
line_status : (line : RefusalLine) (bytes : List ℕ) → IsStatusCode line.status → bytes ≡ line_bytes line → HasSomeStatus bytes
line_status line bytes code is = subst HasSomeStatus (sym is) (line.status, bare_status line.bare line.status line.allow line.text code)

-- a good reply has 200
good_status : (body bytes : List ℕ) → bytes ≡ good_bytes body → HasSomeStatus bytes
good_status body bytes is =
    subst HasSomeStatus (sym is) (200, record { code = (omega arith, omega arith); allow = None; count = length body; body = body; bytes_are = refl })

refused_code : (error : SilenceError) → IsStatusCode (refused_line error).status
refused_code errors.NotFound = (omega arith, omega arith)
refused_code errors.NoMatcher = (omega arith, omega arith)
refused_code errors.EmptyName = (omega arith, omega arith)
refused_code errors.BadPattern = (omega arith, omega arith)
refused_code errors.AllMatchEmpty = (omega arith, omega arith)
refused_code errors.EndNotAfterStart = (omega arith, omega arith)
refused_code errors.EndInPast = (omega arith, omega arith)
refused_code errors.AlreadyExpired = (omega arith, omega arith)
refused_code (errors.Newer held) = (omega arith, omega arith)
refused_code errors.IdInUse = (omega arith, omega arith)
refused_code errors.TooLarge = (omega arith, omega arith)
refused_code errors.Memory = (omega arith, omega arith)

reply_status : (reply : Reply) (bytes : List ℕ) → IsReplyBytes reply bytes → HasSomeStatus bytes
reply_status (replies.Silences rows) bytes is = good_status (compact_text (array (items_of is.0))) bytes is.2
reply_status (replies.Silence version state) bytes is = good_status (compact_text is.0) bytes is.2
reply_status (replies.Posted id) bytes is = good_status (compact_text (posted_data id)) bytes is
reply_status (replies.Refused error) bytes is = line_status (refused_line error) bytes (refused_code error) is
reply_status _ bytes is = good_status [] bytes is

error_status : (error : StepError) (bytes : List ℕ) → IsErrorBytes error bytes → HasSomeStatus bytes
error_status (MomentBack last) bytes is = line_status clock_line bytes (omega arith, omega arith) is
error_status _ bytes is = line_status memory_line bytes (omega arith, omega arith) is

says_status : (IsMeant : List ℕ → Type 0) → ((bytes : List ℕ) → IsMeant bytes → HasSomeStatus bytes) → (reply : ResponseBytes) → Says IsMeant reply → HasSomeStatus (bytes_of reply)
says_status IsMeant has (Own bytes) says = has bytes.items says
says_status IsMeant has (Fixed bytes) says = line_status memory_line bytes.now (omega arith, omega arith) says

-- so does what a refusal is told
pub refusal_status : (refusal : Refusal) (old : InstanceState) (answered : Answered) (new : InstanceState) → IsRefusalAnswer refusal old answered new → HasSomeStatus (bytes_of answered.reply)
refusal_status refusal old answered new is =
    says_status (λ bytes. bytes ≡ line_bytes (line_seen refusal)) (λ bytes says. line_status (line_seen refusal) bytes refusal.is_status says) answered.reply is.says

step_status : (step : Result Outcome StepError) (reply : ResponseBytes) → IfOk step (λ outcome. Says (IsReplyBytes outcome.reply) reply) → IfErr step (λ error. Says (IsErrorBytes error) reply)
    → HasSomeStatus (bytes_of reply)
step_status (Ok outcome) reply replied refused = says_status (IsReplyBytes outcome.reply) (reply_status outcome.reply) reply replied
step_status (Err error) reply replied refused = says_status (IsErrorBytes error) (error_status error) reply refused

meant_status : (meant : Result Event Refusal) (old : InstanceState) (now : ℕ) (answered : Answered) (new : InstanceState)
    → IfErr meant (λ refusal. IsRefusalAnswer refusal old answered new) → IfOk meant (λ event. IsStepAnswer event old now answered new) → HasSomeStatus (bytes_of answered.reply)
meant_status (Ok event) old now answered new refused stepped = step_status stepped.step answered.reply stepped.replied stepped.refused
meant_status (Err refusal) old now answered new refused stepped = refusal_status refusal old answered new refused

-- and what a request is answered
pub request_status : (old : InstanceState) (request : Request) (bits now : ℕ) (answered : Answered) (new : InstanceState) → IsRequestAnswer old request bits now answered new
    → HasSomeStatus (bytes_of answered.reply)
request_status old request bits now answered new is = meant_status is.meant old now answered new is.refused is.stepped
