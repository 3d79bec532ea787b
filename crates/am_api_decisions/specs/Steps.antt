-- Reading in steps, one after the other: the first fault decides.
use Rattle.std.specs.Prelude.{List, [], ◌∷◌, Result, Ok, Err}
use Rattle.serde_json.specs.Data.{Data, Items, no_items, item}
use Rattle.am_api_decisions.specs.declared.key.MessageKey.{MessageKey}

-- the step that follows one that may fail
infixl 10 ◌>>=◌
abbrev pub ◌>>=◌ : {A B : Type 0} → Result A MessageKey → (A → Result B MessageKey) → Result B MessageKey
(Ok x) >>= f = f x
(Err key) >>= f = Err key

-- each of the items is read, in order
abbrev pub each : {A : Type 0} → (Data → Result A MessageKey) → Items → Result (List A) MessageKey
each read no_items = Ok []
each read (item d ds) = do
  x ← read d
  xs ← each read ds
  Ok (x ∷ xs)
