-- The bodies of replies.
use Rattle.std.proofs.Common.{◌≡◌, ℕ, List, [], Option, codes, ◌++◌, length, refl, ◌∙◌, ap}
use Rattle.json.specs.Print.{escape_byte}
use Rattle.serde_json.specs.Data.{string}
use Rattle.serde_json.specs.Written.{compact_text}
use Rattle.am_http.specs.Replies.{head_bytes, reply_bytes}

-- that there is no memory is a string of JSON as it stands
pub memory_text : compact_text (string (codes "out of memory")) ≡ codes "\"out of memory\""
unfolding escape_byte
memory_text = refl

-- the head of the reply with the body that was written
pub written_bare : (status : ℕ) (allow : Option (List ℕ)) (bytes given body before text : List ℕ)
    → bytes ≡ head_bytes status allow (length given) → given ≡ body → body ≡ before ++ text → before ≡ []
    → bytes ≡ head_bytes status allow (length text)
written_bare status allow bytes given body before text is same with_ empty =
    is ∙ ap (λ (b : List ℕ). head_bytes status allow (length b)) (same ∙ with_ ∙ ap (λ (b : List ℕ). b ++ text) empty)

-- the reply with the body that was written
pub written : (status : ℕ) (allow : Option (List ℕ)) (bytes given body before text : List ℕ)
    → bytes ≡ reply_bytes status allow given → given ≡ body → body ≡ before ++ text → before ≡ [] → bytes ≡ reply_bytes status allow text
written status allow bytes given body before text is same with_ empty =
    is ∙ ap (λ (b : List ℕ). reply_bytes status allow b) (same ∙ with_ ∙ ap (λ (b : List ℕ). b ++ text) empty)
