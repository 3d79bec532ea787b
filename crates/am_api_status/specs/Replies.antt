-- The bytes of the replies to these calls (RFC 9112, sections 4 to 6).
use Rattle.std.specs.Prelude.{ℕ, Bool, List, [], ◌++◌, length, codes, decimal, if◌then◌else◌}
use Rattle.am_api_status.specs.declared.page.TheConstants.{FIELDS}
use Rattle.am_api_status.specs.declared.replies.BodyFormat.{BodyFormat}
use Rattle.am_api_status.specs.declared.replies.BodyFormat.TheVariants.{Plain, Html, Json, Exposition}

-- the fields that name a body's format: plain text, the page with what a browser is allowed to do, JSON, and Prometheus' text
-- format 0.0.4
abbrev pub fields_of : BodyFormat → List ℕ
fields_of Plain = codes "content-type: text/plain; charset=utf-8\r\n"
fields_of Html = FIELDS.now
fields_of Json = codes "content-type: application/json\r\n"
fields_of Exposition = codes "content-type: text/plain; version=0.0.4; charset=utf-8\r\n"

-- the lines before a body of `count` bytes
abbrev pub head_bytes : BodyFormat → ℕ → List ℕ
head_bytes format count =
    codes "HTTP/1.1 200 OK\r\n" ++ (fields_of format
    ++ (codes "content-length: " ++ (decimal count ++ codes "\r\nconnection: close\r\n\r\n")))

-- the reply 200 with this body, or its head alone
abbrev pub told_bytes : BodyFormat → Bool → List ℕ → List ℕ
told_bytes format is_bare body =
    head_bytes format (length body) ++ (if is_bare then [] else body)
