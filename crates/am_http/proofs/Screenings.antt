-- The fields of a head by which the origin of a request is known.
use Rattle.std.proofs.Common.{◌≡◌, ◌||◌, ℕ, Bool, true, false, List, length, take, map, refl, sym, ap, ◌∙◌, inr}
use Rattle.httparse.specs.Spans.{IsRequestWithin, IsRequestOf, header_bytes, span_bytes}
use Rattle.httparse.specs.declared.spans.HeaderSpan.{HeaderSpan}
use Rattle.httparse.specs.declared.spans.RequestSpans.{RequestSpans}
use Rattle.am_http.specs.Heads.{window, fields_of}
use Rattle.am_http.specs.Hosts.{IsScreened, all_known, is_probe, may_ask}
use Rattle.am_http.specs.Lines.{is_head}
use Rattle.am_http.specs.declared.hosts.Foreign.{Foreign as Kind}
use Rattle.am_http.specs.declared.hosts.Foreign.TheVariants.{Host, Origin}
use Rattle.am_http.specs.declared.hosts.Screened.TheVariants.{Known, Foreign}
use Rattle.am_http.proofs.HeadLemmas.{Found, found}

module _ (bytes front : List ℕ) (fields : List HeaderSpan) (spans : RequestSpans) (front_is : front ≡ take 16384 bytes) (room : length fields ≡ 64)
    (whole : IsRequestWithin (window bytes) fields spans × IsRequestOf (window bytes) fields spans) (names : List (List ℕ)) where
  the_head : Found bytes fields spans
  the_head = found bytes fields spans room whole.1

  known_in : (what : Kind) (r : Bool) → r ≡ all_known what names (map (header_bytes front) (take spans.headers fields))
      → all_known what names (fields_of the_head.head) ≡ r
  known_in what r is =
      sym (is ∙ ap (λ (b : List ℕ). all_known what names (map (header_bytes b) (take spans.headers fields))) front_is
      ∙ ap (all_known what names) the_head.fields_are)

  method_is : (method : List ℕ) → method ≡ span_bytes front spans.method → method ≡ the_head.head.method
  method_is method is = is ∙ ap (λ (b : List ℕ). span_bytes b spans.method) front_is ∙ the_head.method

  target_is : (target : List ℕ) → target ≡ span_bytes front spans.path → target ≡ the_head.head.target
  target_is target is = is ∙ ap (λ (b : List ℕ). span_bytes b spans.path) front_is ∙ the_head.target

  -- whether it may be asked, as read off the bytes
  abbrev pub Asks : List ℕ → Bool → Type 0
  Asks target r = (target ≡ span_bytes front spans.path) × (r ≡ (is_probe target || all_known Host names (map (header_bytes front) (take spans.headers fields))))

  asked_in : (target : List ℕ) (r : Bool) → Asks target r → may_ask names the_head.head ≡ r
  asked_in target r asks =
      sym (asks.1
      ∙ ap (λ (t : List ℕ). is_probe t || all_known Host names (map (header_bytes front) (take spans.headers fields))) (target_is target asks.0)
      ∙ ap (λ (known : Bool). is_probe the_head.head.target || known) (sym (known_in Host _ refl)))

  pub foreign_host : (target : List ℕ) (host : Bool) → host ≡ false → Asks target host
      → (method : List ℕ) (to_head : Bool) → method ≡ span_bytes front spans.method → to_head ≡ is_head method → IsScreened names bytes (Foreign Host to_head)
  foreign_host target host wrong asks method to_head is head_is =
      (the_head.head, the_head.has_head, asked_in target host asks ∙ wrong, head_is ∙ ap is_head (method_is method is))

  pub foreign_origin : (target : List ℕ) (host origin : Bool) → host ≡ true → origin ≡ false
      → Asks target host
      → origin ≡ all_known Origin names (map (header_bytes front) (take spans.headers fields))
      → (method : List ℕ) (to_head : Bool) → method ≡ span_bytes front spans.method → to_head ≡ is_head method → IsScreened names bytes (Foreign Origin to_head)
  foreign_origin target host origin right wrong asks origin_is method to_head is head_is = (
    the_head.head,
    the_head.has_head,
    (asked_in target host asks ∙ right, known_in Origin origin origin_is ∙ wrong),
    head_is ∙ ap is_head (method_is method is),
  )

  pub nothing_foreign : (target : List ℕ) (host origin : Bool) → host ≡ true → origin ≡ true
      → Asks target host
      → origin ≡ all_known Origin names (map (header_bytes front) (take spans.headers fields))
      → IsScreened names bytes Known
  nothing_foreign target host origin right too asks origin_is =
      inr (the_head.head, the_head.has_head, asked_in target host asks ∙ right, known_in Origin origin origin_is ∙ too)
