-- The bytes of a reply (RFC 9112, sections 4 to 6).
use Rattle.std.specs.Prelude.{ℕ, List, [], ◌++◌, length, codes, decimal, unwrap_or, Option, Some, None}
use Rattle.http.specs.StatusCode.{reason_phrase}

-- the field that names the available methods, or nothing
abbrev pub allow_line : Option (List ℕ) → List ℕ
allow_line None = []
allow_line (Some methods) = codes "allow: " ++ (methods ++ codes "\r\n")

-- the lines before a body of `count` bytes
abbrev pub head_bytes : ℕ → Option (List ℕ) → ℕ → List ℕ
head_bytes status allow count =
    codes "HTTP/1.1 " ++ (decimal status ++ (codes " " ++ (unwrap_or (reason_phrase status) []
    ++ (codes "\r\ncontent-type: application/json\r\ncontent-length: " ++ (decimal count ++ (codes "\r\n"
    ++ (allow_line allow ++ codes "connection: close\r\n\r\n")))))))

-- the reply with this body
abbrev pub reply_bytes : ℕ → Option (List ℕ) → List ℕ → List ℕ
reply_bytes status allow body = head_bytes status allow (length body) ++ body
