-- The text of a reply.
use Rattle.std.proofs.Common.{◌≡◌, ℕ, List, Bor, sym, subst, ◌∙◌, ap}
use Rattle.am_http.specs.Lines.{line_seen}
use Rattle.am_http.specs.declared.refusal.Refusal.{Refusal}
use Rattle.am_gossip.specs.declared.refusals.StepError.{StepError}
use Rattle.am_gossip.specs.declared.refusals.StepError.TheVariants.{MomentBack}
use Rattle.am_api_silences.specs.Answers.{IsErrorBytes}
use Rattle.am_api_silences.specs.Replies.{Says, line_bytes, memory_bytes}
use Rattle.am_api_silences.specs.Table.{clock_line}
use Rattle.am_api_silences.specs.declared.replies.ResponseBytes.{ResponseBytes}
use Rattle.am_api_silences.specs.declared.replies.ResponseBytes.TheVariants.{Own, Fixed}

pub says_weaker : (IsMeant Other : List ℕ → Type 0) → ((bytes : List ℕ) → IsMeant bytes → Other bytes) → (reply : ResponseBytes) → Says IsMeant reply → Says Other reply
says_weaker IsMeant Other weaker (Own bytes) says = weaker bytes.items says
says_weaker IsMeant Other weaker (Fixed bytes) says = says

-- that the clock ran back
pub says_clock : (error : StepError) (last : ℕ) (refusal : Refusal) (told reply : ResponseBytes) → error ≡ MomentBack last → line_seen refusal ≡ clock_line
    → reply ≡ told → Says (λ bytes. bytes ≡ line_bytes (line_seen refusal)) told → Says (IsErrorBytes error) reply
says_clock error last refusal told reply is line same says =
    subst (λ (r : ResponseBytes). Says (IsErrorBytes error) r) (sym same) (
    subst (λ (e : StepError). Says (IsErrorBytes e) told) (sym is) (
    says_weaker (λ bytes. bytes ≡ line_bytes (line_seen refusal)) (IsErrorBytes (MomentBack last)) (λ bytes e. e ∙ ap line_bytes line) told says))

-- that there is no memory
pub says_memory : (IsMeant : List ℕ → Type 0) (fixed : Bor (List ℕ)) (reply : ResponseBytes) → reply ≡ Fixed fixed → fixed.now ≡ memory_bytes → Says IsMeant reply
says_memory IsMeant fixed reply same is = subst (λ (r : ResponseBytes). Says IsMeant r) (sym same) is
