-- The reply of a server (RFC 9112, section 4), as the bytes that came until it closed its connection.
use Rattle.std.specs.Prelude.{◌≡◌, ◌≢◌, ℕ, ◌<◌, List, length, take, drop}
use Rattle.httparse.specs.Grammar.{ResponseHead, ReadsResponse, print_response, status_code}
use Rattle.am_peers.specs.declared.error.ServerFault.{ServerFault}
use Rattle.am_peers.specs.declared.error.ServerFault.TheVariants.{NoHead, Status}

-- the bytes in which a head has to end
abbrev pub window : List ℕ → List ℕ
window reply = take 16384 reply

-- the head of a response with this status stands at the front, and this body behind it
pub record HasReply (reply : List ℕ) (code : ℕ) (body : List ℕ) : Type 0 where
  pub head : ResponseHead
  pub rest : List ℕ
  pub reads : ReadsResponse (window reply) head rest
  pub status : code ≡ status_code head
  pub behind : body ≡ drop (length (print_response head)) reply

-- no head of at most 64 fields stands at the front
abbrev pub HasNoReply : List ℕ → Type 0
HasNoReply reply = (head : ResponseHead) (rest : List ℕ) → ReadsResponse (window reply) head rest → 64 < length head.fields

-- the reason why a reply has no body that counts
abbrev pub IsRefused : List ℕ → ServerFault → Type 0
IsRefused reply NoHead = HasNoReply reply
IsRefused reply (Status code) = (code ≢ 200) × (body : List ℕ) × HasReply reply code body
IsRefused reply _ = ⊥
