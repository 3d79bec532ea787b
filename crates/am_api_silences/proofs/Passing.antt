-- Silences that pass filters, and the replies that list them.
use Rattle.std.proofs.Common.{◌≡◌, ◌≤◌, ℕ, Bool, true, false, cond, List, [], ◌∷◌, length, refl, sym, ap, subst, arith}
use Rattle.std.specs.Prelude.{map, filter}
use Rattle.std.specs.List.{list_all}
use Rattle.std.specs.Global.{Vec}
use Rattle.std.proofs.lemmas.List.Sums.{length-filter, count_by-le-length}
use Rattle.am_silence.specs.Mesh.{Mesh}
use Rattle.am_silence.specs.declared.matcher.Matcher.{Matcher}
use Rattle.am_silence.specs.declared.state.State.{State}
use Rattle.am_matcher.specs.Matching.{passes}
use Rattle.am_instance.specs.InstanceStates.{silences_in_view}
use Rattle.am_instance.specs.Replies.{silences_shown, with_state}
use Rattle.am_instance.specs.declared.reply.Reply.{Reply}
use Rattle.am_instance.specs.declared.reply.Reply.TheVariants as replies
use Rattle.am_api_silences.specs.Replies.{IsListReply, IsReplyBytes, IsSiftedBytes}
use Rattle.am_api_silences.specs.ListFilters.{passing}

-- without a filter all pass
pub all_pass : (rows : List (Mesh × State)) → passing [] rows ≡ rows
all_pass [] = refl
all_pass (row ∷ rows) = ap (λ (rest : List (Mesh × State)). row ∷ rest) (all_pass rows)

pub few_pass : (filters : List Matcher) (rows : List (Mesh × State)) → length (passing filters rows) ≤ length rows
few_pass filters rows =
    let p : Mesh × State → Bool = λ row. list_all (λ f. passes f row.0.silence) filters in
    subst (λ (n : ℕ). n ≤ length rows) (sym (length-filter p rows)) (count_by-le-length p rows)

-- ---- what a list shows

one_shown : (now : ℕ) (v : Mesh) (b : Bool) (rows : List (Mesh × State)) (view : List Mesh) → rows ≡ map (with_state now) view
    → cond b (with_state now v ∷ rows) rows ≡ map (with_state now) (cond b (v ∷ view) view)
one_shown now v true rows view same = ap (λ (rest : List (Mesh × State)). with_state now v ∷ rest) same
one_shown now v false rows view same = same

view_passing : (now : ℕ) (filters : List Matcher) (view : List Mesh)
    → passing filters (map (with_state now) (filter (λ v. list_all (λ f. passes f v.silence) []) view))
    ≡ map (with_state now) (filter (λ v. list_all (λ f. passes f v.silence) filters) view)
view_passing now filters [] = refl
view_passing now filters (v ∷ view) =
    one_shown now v (list_all (λ f. passes f v.silence) filters) _ _ (view_passing now filters view)

-- what passes of all silences in view is shown by the filters
pub shown_passing : (now : ℕ) (filters : List Matcher) (silences : List Mesh) → passing filters (silences_shown now [] silences) ≡ silences_shown now filters silences
shown_passing now filters silences = view_passing now filters (silences_in_view now silences)

-- the silences of a list that pass, as one that takes no more room
abbrev pub kept : List Matcher → Vec (Mesh × State) → Vec (Mesh × State)
kept filters rows = record {
  ptr = rows.ptr;
  len = length (passing filters rows.items);
  cap = rows.cap;
  alloc = rows.alloc;
  items = passing filters rows.items;
  ok = (refl, omega (arith, few_pass filters rows.items, rows.ok.0, rows.ok.1));
  small = rows.small;
}

-- ---- the bytes of a reply

-- without a filter a reply is as it is
pub none_sifted : (reply : Reply) (bytes : List ℕ) → IsSiftedBytes [] reply bytes → IsReplyBytes reply bytes
none_sifted (replies.Silences rows) bytes is = subst (λ (shown : List (Mesh × State)). IsListReply shown bytes) (all_pass rows.items) is
none_sifted (replies.Silence version state) bytes is = is
none_sifted (replies.Posted id) bytes is = is
none_sifted replies.Deleted bytes is = is
none_sifted (replies.Refused error) bytes is = is
none_sifted (replies.Logged changed) bytes is = is
none_sifted (replies.Decided decision) bytes is = is
none_sifted (replies.Muted mutes) bytes is = is
none_sifted (replies.Shown silences log) bytes is = is
none_sifted replies.Nothing bytes is = is

-- one that is no list is as it is
pub other_sifted : (filters : List Matcher) (reply : Reply) → ((rows : Vec (Mesh × State)) → reply ≡ replies.Silences rows → ⊥) → (bytes : List ℕ) → IsReplyBytes reply bytes
    → IsSiftedBytes filters reply bytes
other_sifted filters (replies.Silences rows) not bytes is = absurd (not rows refl)
other_sifted filters (replies.Silence version state) not bytes is = is
other_sifted filters (replies.Posted id) not bytes is = is
other_sifted filters replies.Deleted not bytes is = is
other_sifted filters (replies.Refused error) not bytes is = is
other_sifted filters (replies.Logged changed) not bytes is = is
other_sifted filters (replies.Decided decision) not bytes is = is
other_sifted filters (replies.Muted mutes) not bytes is = is
other_sifted filters (replies.Shown silences log) not bytes is = is
other_sifted filters replies.Nothing not bytes is = is
