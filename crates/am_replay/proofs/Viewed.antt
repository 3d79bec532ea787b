-- A member shows the view of its maps.
use Rattle.std.proofs.Common.{◌≡◌, ℕ, List, [], ◌∷◌, ◌++◌, true, Option, Some, map, filter, length, refl, ap, ap₂, ◌∙◌}
use Rattle.std.specs.List.{flat_map}
use Rattle.std.proofs.lemmas.List.{length-map}
use Rattle.std.proofs.lemmas.List.Folds.{flat_map-map}
use Rattle.am_silence.specs.Mesh.{Mesh}
use Rattle.am_nflog.specs.Mesh.{Mesh as LogMesh}
use Rattle.am_instance.specs.InstanceStates.{InstanceState, log_in_view, silences_in_view}
use Rattle.am_instance.specs.Replies.{IsReply, silences_shown, with_state}
use Rattle.am_instance.specs.declared.event.Event.TheVariants as events
use Rattle.am_instance.specs.declared.reply.Made.{Made}
use Rattle.am_instance.specs.declared.reply.Reply.{Reply}
use Rattle.am_instance.specs.declared.reply.Reply.TheVariants as replies
use Rattle.am_schedule.specs.declared.step.LineEvent.{LineEvent}
use Rattle.am_report.specs.Views.{entry_line, shown_text, shows_line, silence_line, state_lines, view_text}
use Rattle.am_replay.specs.Texts.{reply_text}

-- a filter that all pass
filter-all : {X : Type 0} (xs : List X) → filter (λ x. true) xs ≡ xs
filter-all [] = refl
filter-all (x ∷ xs) = ap (λ ys. x ∷ ys) (filter-all xs)

-- what is in view, told as it is shown
in_view : (name : Option (List ℕ)) (now : ℕ) (silences : List Mesh) (log : List LogMesh) →
    shown_text name (silences_shown now [] silences) (log_in_view now log) ≡ view_text name now silences log
in_view name now silences log =
    let live = silences_in_view now silences in
    let entries = log_in_view now log in
    ap (λ vs. shown_text name (map (with_state now) vs) entries) (filter-all live)
    ∙ (ap (λ n. shows_line name n (length entries) ++ state_lines name (map (with_state now) live) ++ flat_map (entry_line name) entries)
    (length-map live (with_state now))
    ∙ ap (λ lines. shows_line name (length live) (length entries) ++ lines ++ flat_map (entry_line name) entries)
    (flat_map-map (λ shown. silence_line name shown.0 shown.1) (with_state now) live))

-- the reply to a Show, printed
pub show_text : (stand : InstanceState) (name : List ℕ) (event : LineEvent) (now : ℕ) (reply : Reply) (made : Made) →
    IsReply stand events.Show now reply made → reply_text name event reply ≡ view_text (Some name) now stand.silences stand.log
show_text stand name event now (replies.Shown silences log) made said =
    ap₂ (shown_text (Some name)) said.0.0 said.0.1 ∙ in_view (Some name) now stand.silences stand.log
show_text stand name event now _ made said = absurd said.0
