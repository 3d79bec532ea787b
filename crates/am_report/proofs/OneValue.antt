-- A silence is shown as one value.
use Rattle.std.proofs.Common.{◌≡◌, ℕ, List, ap, ◌∙◌}
use Rattle.serde_json.specs.Data.{Data}
use Rattle.am_silence.specs.Mesh.{Mesh}
use Rattle.am_silence.specs.States.{state_of}
use Rattle.am_silence_json.specs.Gettables.{IsGettable, gettable_data}
use Rattle.am_silence_json.specs.Written.{WritesMoment}
use Rattle.am_report.specs.Texts.{moment_text}
use Rattle.am_report.specs.Json.Values.{silence_data}

pub shown_is : ((moment : ℕ) (text : List ℕ) → WritesMoment moment text → text ≡ moment_text moment)
    → (now : ℕ) (m : Mesh) (d : Data) → IsGettable m.silence (state_of m.silence now) d → d ≡ silence_data now m
unfolding silence_data
shown_is texts now m d shown =
    let state = state_of m.silence now in
    let starts = moment_text m.silence.starts_at in
    let ends = moment_text m.silence.ends_at in
    shown.value
    ∙ ap (λ text. gettable_data m.silence state text shown.ends shown.updated) (texts _ _ shown.starts_at)
    ∙ ap (λ text. gettable_data m.silence state starts text shown.updated) (texts _ _ shown.ends_at)
    ∙ ap (λ text. gettable_data m.silence state starts ends text) (texts _ _ shown.updated_at)
