-- A connection means the same wherever it is cut.
use Rattle.std.proofs.Common.{◌≡◌, ℕ, ◌+◌, ◌-◌, ◌<◌, List, [], ◌∷◌, ◌++◌, length, take, drop, length-append, length-drop, append_assoc, Option, Some, None, Result, Ok, Err, inl, inr, refl, sym, ap, subst, ◌∙◌, arith}
use Rattle.std.specs.Option.{option_or}
use Rattle.std.specs.List.{flat_map}
use Rattle.std.proofs.lemmas.Bool.{cases_lt}
use Rattle.std.proofs.lemmas.List.{append-nil, take-append-le, drop-append-le}
use Rattle.std.proofs.Math.ListN.{drop_of_length-le}
use Rattle.std.proofs.Math.Seq.{take_all, take-append-add, drop-append-add}
use Rattle.am_gossip.specs.declared.error.FrameError.{FrameError}
use Rattle.am_gossip.specs.declared.frame.Frame.{Frame}
use Rattle.am_gossip.specs.Hellos.{hello_of}
use Rattle.am_gossip.specs.Streams.{Stream, stream_of, ends_with, put_before}
use Rattle.am_gossip.proofs.Greeted.{hello_found, hello_more}
use Rattle.am_gossip.proofs.Streaming.{stream_cut}
use Rattle.am_http.specs.declared.request.Read.{Read}
use Rattle.am_http.specs.declared.request.Read.TheVariants.{More, Whole, Refused}
use Rattle.am_http.specs.declared.session.fault.SessionFault.{SessionFault}
use Rattle.am_http.specs.declared.session.fault.SessionFault.TheVariants.{TooLarge, Frame as InFrame}
use Rattle.am_http.specs.Sessions.{SessionPhase, fresh, InRequest, InGreeting, InFrames, over, Spoken, heard, nothing, asked, and_then, most_bytes, Asks, IsHeard, Hears, IsGreeted, Greets, Says, SaysAll}
use Rattle.am_http.proofs.Decided.{whole_stays, refusal_stays}

-- ---- what is said
abbrev make : List Frame → Option Read → Option SessionFault → Spoken
make frames request fault = record { frames = frames; request = request; fault = fault }

option_or-none : {T : Type 0} (o : Option T) → option_or o None ≡ o
option_or-none None = refl
option_or-none (Some x) = refl

option_or-assoc : {T : Type 0} (o p q : Option T) → option_or (option_or o p) q ≡ option_or o (option_or p q)
option_or-assoc None p q = refl
option_or-assoc (Some x) p q = refl

pub and_then-nothing : (x : Spoken) → and_then x nothing ≡ x
and_then-nothing x =
    ap (λ (f : List Frame). make f (option_or x.request None) (option_or x.fault None)) (append-nil x.frames)
    ∙ ap (λ (r : Option Read). make x.frames r (option_or x.fault None)) (option_or-none x.request)
    ∙ ap (make x.frames x.request) (option_or-none x.fault)

pub and_then-assoc : (x y z : Spoken) → and_then (and_then x y) z ≡ and_then x (and_then y z)
and_then-assoc x y z =
    ap (λ (f : List Frame). make f (option_or (option_or x.request y.request) z.request) (option_or (option_or x.fault y.fault) z.fault)) (append_assoc x.frames y.frames z.frames)
    ∙ ap (λ (r : Option Read). make (x.frames ++ (y.frames ++ z.frames)) r (option_or (option_or x.fault y.fault) z.fault)) (option_or-assoc x.request y.request z.request)
    ∙ ap (make (x.frames ++ (y.frames ++ z.frames)) (option_or x.request (option_or y.request z.request))) (option_or-assoc x.fault y.fault z.fault)

-- what is said where it is over stays
record IsLast (said said' : Spoken) (new new' : SessionPhase) : Type 0 where
  saying : said ≡ said'
  session_phase : new ≡ new'

-- what is behind the end says nothing
last : (name : Option (List ℕ)) (second : List ℕ) (said later end : Spoken) (mid new : SessionPhase) → said ≡ end → mid ≡ over name → Says mid second later new → IsLast (and_then said later) end new (over name)
last name second said later end mid new said_is mid_is says =
    let h : (later ≡ nothing) × (new ≡ over name) = subst (λ (m : SessionPhase). Says m second later new) mid_is says in
    record { saying = ap (and_then said) h.0 ∙ and_then-nothing said ∙ said_is; session_phase = h.1 }

-- ---- frames
-- what was heard before comes first
heard_before : (name : List ℕ) (count : ℕ) (before frames : List Frame) (ending : Result (List ℕ) FrameError) (lost : List ℕ) (said later : Spoken) (new : SessionPhase) → said ≡ heard before None → IsHeard name count frames ending lost later new → IsHeard name count (before ++ frames) ending lost (and_then said later) new
heard_before name count before frames (Ok rest) [] said later new is h = (ap (λ (x : Spoken). and_then x later) is ∙ ap (and_then (heard before None)) h.0, h.1)
heard_before name count before frames (Ok rest) (b ∷ lost) said later new is h = (ap (λ (x : Spoken). and_then x later) is ∙ ap (and_then (heard before None)) h.0, h.1)
heard_before name count before frames (Err e) lost said later new is h = (ap (λ (x : Spoken). and_then x later) is ∙ ap (and_then (heard before None)) h.0, h.1)

-- behind a fault of the stream no more is heard
fault_stays : (name : List ℕ) (count more : ℕ) (frames : List Frame) (e : FrameError) (lost others second : List ℕ) (said later : Spoken) (mid new : SessionPhase) → IsHeard name count frames (Err e) lost said mid → Says mid second later new → IsHeard name more frames (Err e) others (and_then said later) new
fault_stays name count more frames e lost others second said later mid new h says =
    let l = last (Some name) second said later (heard frames (Some (InFrame e))) mid new h.0 h.1 says in
    (l.saying, l.session_phase)

-- nor behind the limit
limit_stays : (name : List ℕ) (count more : ℕ) (frames : List Frame) (ending : Result (List ℕ) FrameError) (lost second : List ℕ) (said later : Spoken) (mid new : SessionPhase) → 0 < length lost → IsHeard name count frames ending lost said mid → Says mid second later new → IsHeard name more frames ending (lost ++ second) (and_then said later) new
limit_stays name count more frames ending [] second said later mid new some h says = absurd (omega (arith, some))
limit_stays name count more frames (Ok rest) (b ∷ lost) second said later mid new some h says =
    let l = last (Some name) second said later (heard frames (Some TooLarge)) mid new h.0 h.1 says in
    (l.saying, l.session_phase)
limit_stays name count more frames (Err e) (b ∷ lost) second said later mid new some h says = fault_stays name count more frames e (b ∷ lost) ((b ∷ lost) ++ second) second said later mid new h says

-- a piece within the limit, and the next
within_cut : (name : List ℕ) (count : ℕ) (rest first second : List ℕ) (said later : Spoken) (mid new : SessionPhase) (ending : Result (List ℕ) FrameError) → (stream_of (rest ++ first)).ending ≡ ending → IsHeard name (count + length first) (stream_of (rest ++ first)).frames ending [] said mid → Says mid second later new
    → (took lost : List ℕ) → took ≡ take (most_bytes - (count + length first)) second → lost ≡ drop (most_bytes - (count + length first)) second
    → IsHeard name (count + length (first ++ took)) (stream_of (rest ++ (first ++ took))).frames (stream_of (rest ++ (first ++ took))).ending lost (and_then said later) new
within_cut name count rest first second said later mid new (Ok waits) is h says took lost took_is lost_is =
    let s : Stream = stream_of (rest ++ first) in
    let room : ℕ = most_bytes - (count + length first) in
    let next : Hears name (count + length first) waits second later new = subst (λ (m : SessionPhase). Says m second later new) h.1 says in
    let next2 : IsHeard name (count + length first + length took) (stream_of (waits ++ took)).frames (stream_of (waits ++ took)).ending (drop room second) later new = subst (λ (t : List ℕ). IsHeard name (count + length first + length t) (stream_of (waits ++ t)).frames (stream_of (waits ++ t)).ending (drop room second) later new) (sym took_is) next in
    let next3 : IsHeard name (count + length first + length took) (stream_of (waits ++ took)).frames (stream_of (waits ++ took)).ending lost later new = subst (λ (x : List ℕ). IsHeard name (count + length first + length took) (stream_of (waits ++ took)).frames (stream_of (waits ++ took)).ending x later new) (sym lost_is) next2 in
    let both : IsHeard name (count + length first + length took) (s.frames ++ (stream_of (waits ++ took)).frames) (stream_of (waits ++ took)).ending lost (and_then said later) new = heard_before name (count + length first + length took) s.frames (stream_of (waits ++ took)).frames (stream_of (waits ++ took)).ending lost said later new h.0 next3 in
    let whole : stream_of (rest ++ (first ++ took)) ≡ put_before s.frames (stream_of (waits ++ took)) =
    ap stream_of (sym (append_assoc rest first took)) ∙ stream_cut 0 (rest ++ first) took (omega arith) ∙ ap (λ (r : Result (List ℕ) FrameError). ends_with s r took) is in
    let counted : count + length first + length took ≡ count + length (first ++ took) = omega (arith, length-append first took) in
    subst (λ (n : ℕ). IsHeard name n (stream_of (rest ++ (first ++ took))).frames (stream_of (rest ++ (first ++ took))).ending lost (and_then said later) new) counted
    (subst (λ (t : Stream). IsHeard name (count + length first + length took) t.frames t.ending lost (and_then said later) new) (sym whole) both)
within_cut name count rest first second said later mid new (Err e) is h says took lost took_is lost_is =
    let s : Stream = stream_of (rest ++ first) in
    let whole : stream_of (rest ++ (first ++ took)) ≡ s =
    ap stream_of (sym (append_assoc rest first took)) ∙ stream_cut 0 (rest ++ first) took (omega arith) ∙ ap (λ (r : Result (List ℕ) FrameError). ends_with s r took) is in
    let same : IsHeard name (count + length (first ++ took)) s.frames (Err e) lost (and_then said later) new = fault_stays name (count + length first) (count + length (first ++ took)) s.frames e [] lost second said later mid new h says in
    let ended : IsHeard name (count + length (first ++ took)) s.frames s.ending lost (and_then said later) new = subst (λ (r : Result (List ℕ) FrameError). IsHeard name (count + length (first ++ took)) s.frames r lost (and_then said later) new) (sym is) same in
    subst (λ (t : Stream). IsHeard name (count + length (first ++ took)) t.frames t.ending lost (and_then said later) new) (sym whole) ended

abbrev HearsTaken : List ℕ → ℕ → List ℕ → List ℕ → List ℕ → Spoken → SessionPhase → Type 0
HearsTaken name count rest took lost said new = IsHeard name (count + length took) (stream_of (rest ++ took)).frames (stream_of (rest ++ took)).ending lost said new

pub hears_cut : (name : List ℕ) (count : ℕ) (rest first second : List ℕ) (said later : Spoken) (mid new : SessionPhase) → Hears name count rest first said mid → Says mid second later new → Hears name count rest (first ++ second) (and_then said later) new
hears_cut name count rest first second said later mid new h says =
    let room : ℕ = most_bytes - count in
    elim (cases_lt room (length first)) [
      | inl lt ↦
          let took : take room (first ++ second) ≡ take room first = take-append-le room first second (omega (arith, lt)) in
          let lost : drop room (first ++ second) ≡ drop room first ++ second = drop-append-le room first second (omega (arith, lt)) in
          let some : 0 < length (drop room first) = omega (arith, lt, length-drop room first) in
          let same : HearsTaken name count rest (take room first) (drop room first ++ second) (and_then said later) new =
          limit_stays name (count + length (take room first)) (count + length (take room first)) (stream_of (rest ++ take room first)).frames (stream_of (rest ++ take room first)).ending (drop room first) second said later mid new some h says in
          subst (λ (t : List ℕ). HearsTaken name count rest t (drop room (first ++ second)) (and_then said later) new) (sym took)
          (subst (λ (x : List ℕ). HearsTaken name count rest (take room first) x (and_then said later) new) (sym lost) same)
      | inr le ↦
          let less : ℕ = most_bytes - (count + length first) in
          let room_is : room ≡ length first + less = omega (arith, le) in
          let took : take room (first ++ second) ≡ first ++ take less second = ap (λ (i : ℕ). take i (first ++ second)) room_is ∙ take-append-add first second less in
          let lost : drop room (first ++ second) ≡ drop less second = ap (λ (i : ℕ). drop i (first ++ second)) room_is ∙ drop-append-add first second less in
          let all : HearsTaken name count rest first (drop room first) said mid = subst (λ (t : List ℕ). HearsTaken name count rest t (drop room first) said mid) (take_all room first le) h in
          let none : HearsTaken name count rest first [] said mid = subst (λ (x : List ℕ). HearsTaken name count rest first x said mid) (drop_of_length-le first le) all in
          let both : HearsTaken name count rest (first ++ take less second) (drop less second) (and_then said later) new =
          within_cut name count rest first second said later mid new (stream_of (rest ++ first)).ending refl none says (take less second) (drop less second) refl refl in
          subst (λ (t : List ℕ). HearsTaken name count rest t (drop room (first ++ second)) (and_then said later) new) (sym took)
          (subst (λ (x : List ℕ). HearsTaken name count rest (first ++ take less second) x (and_then said later) new) (sym lost) both)
    ]

-- ---- a greeting
abbrev Greeting : Type 0
Greeting = Result (Option (List ℕ × ℕ)) FrameError

abbrev found : List ℕ × ℕ → Greeting
found g = Ok (Some g)

abbrev waiting : Greeting
waiting = Ok None

abbrev wrong : FrameError → Greeting
wrong e = Err e

whole_waits : (g : List ℕ × ℕ) → found g ≡ waiting → ⊥
whole_waits g h = cc

fault_waits : (e : FrameError) → wrong e ≡ waiting → ⊥
fault_waits e h = cc

-- what is decided of a greeting stays
greeting_stays : (bytes later : List ℕ) (r : Greeting) → (r ≡ waiting → ⊥) → hello_of bytes ≡ r → hello_of (bytes ++ later) ≡ r
greeting_stays bytes later r other is = elim (hello_more bytes later) [ inl same ↦ same ∙ is | inr waits ↦ absurd (other (sym is ∙ waits)) ]

pub greets_cut : (bytes second : List ℕ) (said later : Spoken) (mid new : SessionPhase) → Greets bytes said mid → Says mid second later new → Greets (bytes ++ second) (and_then said later) new
greets_cut bytes second said later mid new greeted says = by_hello (hello_of bytes) refl greeted
  where
    by_hello : (r : Greeting) → hello_of bytes ≡ r → IsGreeted bytes r said mid → Greets (bytes ++ second) (and_then said later) new
    by_hello (Ok None) is h =
        let next : Greets (bytes ++ second) later new = subst (λ (m : SessionPhase). Says m second later new) h.1 says in
        subst (λ (x : Spoken). Greets (bytes ++ second) (and_then x later) new) (sym h.0) next
    by_hello (Ok (Some g)) is h =
        let stays : hello_of (bytes ++ second) ≡ Ok (Some g) = greeting_stays bytes second (found g) (whole_waits g) is in
        let behind : drop g.1 (bytes ++ second) ≡ drop g.1 bytes ++ second = drop-append-le g.1 bytes second (hello_found bytes g.0 g.1 is).0 in
        let both : Hears g.0 g.1 [] (drop g.1 bytes ++ second) (and_then said later) new = hears_cut g.0 g.1 [] (drop g.1 bytes) second said later mid new h says in
        subst (λ (r : Greeting). IsGreeted (bytes ++ second) r (and_then said later) new) (sym stays)
        (subst (λ (x : List ℕ). Hears g.0 g.1 [] x (and_then said later) new) (sym behind) both)
    by_hello (Err e) is h =
        let stays : hello_of (bytes ++ second) ≡ Err e = greeting_stays bytes second (wrong e) (fault_waits e) is in
        let l = last None second said later (heard [] (Some (InFrame e))) mid new h.0 h.1 says in
        subst (λ (r : Greeting). IsGreeted (bytes ++ second) r (and_then said later) new) (sym stays) (l.saying, l.session_phase)

-- ---- a request
pub asks_cut : (bytes second : List ℕ) (said later : Spoken) (mid new : SessionPhase) → Asks bytes said mid → Says mid second later new → Asks (bytes ++ second) (and_then said later) new
asks_cut bytes second said later mid new (More, read, is) says =
    let next : Asks (bytes ++ second) later new = subst (λ (m : SessionPhase). Says m second later new) is.1 says in
    subst (λ (x : Spoken). Asks (bytes ++ second) (and_then x later) new) (sym is.0) next
asks_cut bytes second said later mid new (Whole request, read, is) says =
    let l = last None second said later (asked (Whole request)) mid new is.0 is.1 says in
    (Whole request, whole_stays bytes second request read, (l.saying, l.session_phase))
asks_cut bytes second said later mid new (Refused refusal, read, is) says =
    let l = last None second said later (asked (Refused refusal)) mid new is.0 is.1 says in
    (Refused refusal, refusal_stays bytes second refusal read, (l.saying, l.session_phase))

-- ---- a connection
pub cut : (old mid new : SessionPhase) (first second : List ℕ) (said later : Spoken) → Says old first said mid → Says mid second later new → Says old (first ++ second) (and_then said later) new
cut fresh mid new [] second said later h says =
    let next : Says fresh second later new = subst (λ (m : SessionPhase). Says m second later new) h.1 says in
    subst (λ (x : Spoken). Says fresh second (and_then x later) new) (sym h.0) next
cut fresh mid new (b ∷ bytes) second said later h says = record {
  peer = λ lt. greets_cut (b ∷ bytes) second said later mid new (h.peer lt) says;
  request = λ le. asks_cut (b ∷ bytes) second said later mid new (h.request le) says;
}
cut (InRequest bytes) mid new first second said later h says =
    subst (λ (x : List ℕ). Asks x (and_then said later) new) (append_assoc bytes first second) (asks_cut (bytes ++ first) second said later mid new h says)
cut (InGreeting bytes) mid new first second said later h says =
    subst (λ (x : List ℕ). Greets x (and_then said later) new) (append_assoc bytes first second) (greets_cut (bytes ++ first) second said later mid new h says)
cut (InFrames name count rest) mid new first second said later h says = hears_cut name count rest first second said later mid new h says
cut (over name) mid new first second said later h says =
    let l = last name second said later nothing mid new h.0 h.1 says in
    (l.saying, l.session_phase)

-- pieces behind bytes that said something
pieces_behind : (before : List ℕ) (pieces : List (List ℕ)) (said later : Spoken) (mid new : SessionPhase) → Says fresh before said mid → SaysAll mid pieces later new → Says fresh (before ++ flat_map (λ piece. piece) pieces) (and_then said later) new
pieces_behind before [] said later mid new h says =
    let same : and_then said later ≡ said = ap (and_then said) says.0 ∙ and_then-nothing said in
    subst (λ (m : SessionPhase). Says fresh (before ++ []) (and_then said later) m) (sym says.1)
    (subst (λ (x : Spoken). Says fresh (before ++ []) x mid) (sym same)
    (subst (λ (bytes : List ℕ). Says fresh bytes said mid) (sym (append-nil before)) h))
pieces_behind before (piece ∷ pieces) said later mid new h (first, between, others, says, rest, is) =
    let joined : Says fresh (before ++ piece) (and_then said first) between = cut fresh mid between before piece said first h says in
    let all : Says fresh ((before ++ piece) ++ flat_map (λ p. p) pieces) (and_then (and_then said first) others) new = pieces_behind (before ++ piece) pieces (and_then said first) others between new joined rest in
    let told : and_then (and_then said first) others ≡ and_then said later = and_then-assoc said first others ∙ ap (and_then said) (sym is) in
    subst (λ (bytes : List ℕ). Says fresh bytes (and_then said later) new) (append_assoc before piece (flat_map (λ p. p) pieces))
    (subst (λ (x : Spoken). Says fresh ((before ++ piece) ++ flat_map (λ p. p) pieces) x new) told all)

pub pieces_join : (pieces : List (List ℕ)) (said : Spoken) (new : SessionPhase) → SaysAll fresh pieces said new → Says fresh (flat_map (λ piece. piece) pieces) said new
pieces_join pieces said new says = pieces_behind [] pieces nothing said fresh new (refl, refl) says
