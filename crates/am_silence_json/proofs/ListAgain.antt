-- A list that was written is read as what is shown of its silences.
use Rattle.std.proofs.Common.{List, map}
use Rattle.std.specs.Prelude.{All}
use Rattle.serde_json.specs.Data.{Data, array}
use Rattle.serde_json.specs.View.{items_of}
use Rattle.serde_json.specs.Written.{compact_text}
use Rattle.am_silence.specs.declared.state.State.{State}
use Rattle.am_silence.specs.Mesh.{Mesh, IsMesh}
use Rattle.am_silence_json.specs.Gettables.{AreGettable}
use Rattle.am_silence_json.specs.Shown.{cut_to_shown}
use Rattle.am_silence_json.specs.Lists.{IsListText, Lists}
use Rattle.am_silence_json.proofs.ShownAgain.{shown_again}
use Rattle.am_silence_json.proofs.GettableTexts.{list_again}
use Rattle.am_silence_json.proofs.GettableBytes.{list_utf8}

pub text_of_list : (rows : List (Mesh × State)) (ds : List Data) → All (λ row. IsMesh row.0) rows → AreGettable rows ds
    → IsListText (compact_text (array (items_of ds))) ds
text_of_list rows ds values h = record { utf8 = list_utf8 rows ds values h; text = list_again rows ds h }

pub written_list : (rows : List (Mesh × State)) (ds : List Data) → All (λ row. IsMesh row.0) rows → AreGettable rows ds
    → Lists (compact_text (array (items_of ds))) (map (λ row. cut_to_shown row.0) rows)
written_list rows ds values h = record { objects = ds; text = text_of_list rows ds values h; shown = shown_again rows ds h }
