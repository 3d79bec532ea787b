-- Lines that are told.
use Rattle.std.proofs.Common.{◌≡◌, sym, subst}
use Rattle.am_http.specs.Lines.{RefusalLine}
use Rattle.am_api_silences.specs.Replies.{Says, line_bytes}
use Rattle.am_api_silences.specs.declared.replies.ResponseBytes.{ResponseBytes}

-- what is told of a line is told of one that is the same
pub says_line : (line other : RefusalLine) (told reply : ResponseBytes) → line ≡ other → reply ≡ told → Says (λ bytes. bytes ≡ line_bytes line) told
    → Says (λ bytes. bytes ≡ line_bytes other) reply
says_line line other told reply is same says =
    subst (λ (l : RefusalLine). Says (λ bytes. bytes ≡ line_bytes l) reply) is
    (subst (λ (r : ResponseBytes). Says (λ bytes. bytes ≡ line_bytes line) r) (sym same) says)
