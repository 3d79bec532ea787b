-- The hosts by which a server is addressed (RFC 9110, section 7.2), and the sites of the pages that ask (RFC 6454, sections 6 and
-- 7).
use Rattle.std.specs.Prelude.{◌≡◌, ◌⊎◌, ◌==◌, ◌||◌, ℕ, ◌+◌, ◌<◌, Bool, true, false, not, List, [], ◌∷◌, length, take, drop, map, codes, Option, None, Some, slice_get, if◌then◌else◌}
use Rattle.std.specs.Borrow.{Bor}
use Rattle.std.specs.List.{take_while, list_all, list_any}
use Rattle.std.specs.Str.{bytes_eq, str_eq_ignore_ascii_case}
use Rattle.httparse.specs.Grammar.{RequestHead}
use Rattle.am_http.specs.declared.hosts.Foreign.{Foreign}
use Rattle.am_http.specs.declared.hosts.Foreign.TheVariants as names_foreign
use Rattle.am_http.specs.declared.hosts.Screened.{Screened}
use Rattle.am_http.specs.declared.hosts.Screened.TheVariants.{Open, Known, Foreign as IsForeign}
use Rattle.am_http.specs.Heads.{HasHead, HasBadHead, HasLargeHead, IsOpenHead, NamedValue, fields_of}
use Rattle.am_http.specs.Lines.{RefusalLine, is_head, line}

-- the texts, regardless of their place in memory
abbrev pub texts : List (Bor (List ℕ)) → List (List ℕ)
texts names = map (λ name. name.now) names

-- the number of bytes before the first `mark`, or of all bytes if there is none
abbrev pub length_before : ℕ → List ℕ → ℕ
length_before mark text = length (take_while (λ b. not (b == mark)) text)

-- the name of a host by its first byte: an IPv6 address is in [ and ] (RFC 3986, section 3.2.2), and any other name ends before
-- the first colon
abbrev pub name_by : Option ℕ → List ℕ → List ℕ
name_by None authority = []
name_by (Some first) authority =
    if first == 91 then take (length_before 93 authority + 1) authority else take (length_before 58 authority) authority

-- the name of a host, without its port
abbrev pub host_name : List ℕ → List ℕ
host_name authority = name_by (slice_get authority 0) authority

-- the bytes behind the first slash
abbrev pub behind_slash : List ℕ → List ℕ
behind_slash text = drop (length_before 47 text + 1) text

-- the host of a page's site, which follows its scheme and two slashes
abbrev pub site_of : List ℕ → List ℕ
site_of origin = behind_slash (behind_slash origin)

-- the name is one of these, in any ASCII case
abbrev pub is_one_of : List ℕ → List (List ℕ) → Bool
is_one_of name names = list_any (λ known. str_eq_ignore_ascii_case name known) names

-- the names that a server always has
abbrev pub own_names : List (List ℕ)
own_names = codes "127.0.0.1" ∷ codes "localhost" ∷ []

-- the host is the server's own, at any port, or has one of these names
abbrev pub is_known : List (List ℕ) → List ℕ → Bool
is_known names authority = is_one_of (host_name authority) own_names || is_one_of (host_name authority) names

-- the field that names a host or an origin
abbrev pub field_of : Foreign → List ℕ
field_of names_foreign.Host = codes "host"
field_of names_foreign.Origin = codes "origin"

-- the value of a field of this kind names nothing foreign
abbrev pub is_fine : Foreign → List (List ℕ) → List ℕ → Bool
is_fine names_foreign.Host names value = is_known names value
is_fine names_foreign.Origin names value = is_known names (site_of value)

-- the field is another one, or names nothing foreign
abbrev pub is_fine_field : Foreign → List (List ℕ) → NamedValue → Bool
is_fine_field what names field = if str_eq_ignore_ascii_case field.0 (field_of what) then is_fine what names field.1 else true

-- no field names anything foreign of this kind
abbrev pub all_known : Foreign → List (List ℕ) → List NamedValue → Bool
all_known what names fields = list_all (is_fine_field what names) fields

-- the target asks whether the server is up, or ready: such a probe names whatever host it was told
abbrev pub is_probe : List ℕ → Bool
is_probe target = bytes_eq target (codes "/-/healthy") || bytes_eq target (codes "/-/ready")

-- no host is foreign, or it makes no difference which host is named
abbrev pub may_ask : List (List ℕ) → RequestHead → Bool
may_ask names head = is_probe head.target || all_known names_foreign.Host names (fields_of head)

-- the answer to a foreign request (RFC 9110, section 15.5.4): its head alone if the request asks for no more
abbrev pub line_of_foreign : Foreign → Bool → RefusalLine
line_of_foreign names_foreign.Host bare = record (line 403 (codes "foreign host")) { bare = bare }
line_of_foreign names_foreign.Origin bare = record (line 403 (codes "foreign origin")) { bare = bare }

-- this is the first foreign name in the fields of a head, hosts before origins (a probe's host is never foreign)
abbrev pub IsFirstForeign : List (List ℕ) → RequestHead → Foreign → Type 0
IsFirstForeign names head names_foreign.Host = may_ask names head ≡ false
IsFirstForeign names head names_foreign.Origin =
    (may_ask names head ≡ true) × (all_known names_foreign.Origin names (fields_of head) ≡ false)

-- The origin of a request, by its bytes so far: its first foreign field, and whether its method is HEAD; or
-- that its head names nothing foreign, or is at fault; or that the head isn't whole.
abbrev pub IsScreened : List (List ℕ) → List ℕ → Screened → Type 0
IsScreened names bytes Open = (length bytes < 16384) × IsOpenHead bytes
IsScreened names bytes Known = (HasLargeHead bytes ⊎ HasBadHead bytes)
    ⊎ ((head : RequestHead) × HasHead bytes head × (may_ask names head ≡ true)
    × (all_known names_foreign.Origin names (fields_of head) ≡ true))
IsScreened names bytes (IsForeign what to_head) =
    (head : RequestHead) × HasHead bytes head × IsFirstForeign names head what × (to_head ≡ is_head head.method)
