-- The end of a reply in the making.
use Rattle.std.proofs.Common.{◌≡◌, ℕ, List, [], sym, subst, ◌∙◌, ap}
use Rattle.am_silence.specs.Mesh.{Mesh}
use Rattle.am_silence.specs.declared.matcher.Matcher.{Matcher}
use Rattle.am_silence.specs.declared.state.State.{State}
use Rattle.am_silence_json.specs.Listing.{Listed}
use Rattle.am_api_silences.specs.ReplyBuilder.{IsBegun, IsNoMemory, Makes}
use Rattle.am_api_silences.specs.Replies.{IsListReply, Says}
use Rattle.am_api_silences.specs.ListFilters.{passing}
use Rattle.am_api_silences.specs.declared.reply_builder.ReplyBuilder.{ReplyBuilder}
use Rattle.am_api_silences.specs.declared.reply_builder.ReplyBuilder.TheVariants as makings
use Rattle.am_api_silences.specs.declared.replies.ResponseBytes.{ResponseBytes}
use Rattle.am_api_silences.specs.declared.replies.ResponseBytes.TheVariants.{Own, Fixed}
use Rattle.am_api_silences.proofs.Passing.{all_pass}

-- where there is no memory, that is said in place of anything
no_memory_says : (IsMeant : List ℕ → Type 0) (reply : ResponseBytes) → IsNoMemory reply → Says IsMeant reply
no_memory_says IsMeant (Own bytes) none = absurd none
no_memory_says IsMeant (Fixed bytes) none = none

-- a list that is begun says its silences
begun_says : (rows : List (Mesh × State)) (making : ReplyBuilder) → IsBegun rows making → Makes (Says (IsListReply rows)) making
begun_says rows (makings.Whole whole) none = λ reply made. subst (λ (r : ResponseBytes). Says (IsListReply rows) r) (sym made) (no_memory_says (IsListReply rows) whole none)
begun_says rows (makings.Filtering filtered) begun = absurd begun
begun_says rows (makings.List list) begun = λ reply made. subst (λ (l : Listed). Says (IsListReply l.rows) reply) begun made

-- without a filter all of them pass
pub unfiltered_says : (filters : List Matcher) (rows : List (Mesh × State)) (making : ReplyBuilder) → filters ≡ [] → IsBegun rows making → Makes (Says (IsListReply (passing filters rows))) making
unfiltered_says filters rows making none begun =
    let same = ap (λ (fs : List Matcher). passing fs rows) none ∙ all_pass rows in
    subst (λ (shown : List (Mesh × State)). Makes (Says (IsListReply shown)) making) (sym same) (begun_says rows making begun)
