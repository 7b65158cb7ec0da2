-- What a text reads as, and what stands at a key of an object: a key that is missing or null has no value, and one of another kind is a fault.
use Rattle.std.specs.Prelude.{ℕ, ℤ, List, ◌≡◌, Option, Some, None, option_map, option_and_then, Result, Ok, Err}
use Rattle.serde_json.specs.Data.{Data, null}
use Rattle.serde_json.specs.Find.{get, as_number, as_i64}
use Rattle.serde_json.specs.Read.{read}
use Rattle.serde_json.specs.View.{view}
use Rattle.serde_json.specs.declared.value.Value.{Value}
use Rattle.json_text.specs.declared.read.ReadStop.{ReadStop}
use Rattle.json_text.specs.declared.read.ReadStop.TheVariants as stops

-- the text's value; it is no JSON exactly where it reads as none; want of memory is free
abbrev pub ReadsText : Result Value ReadStop → List ℕ → Type 0
ReadsText (Ok value) text = read text ≡ Some (view value)
ReadsText (Err stops.Text) text = read text ≡ None
ReadsText (Err stops.Memory) text = Unit {0}

abbrev pub null_is_none : Data → Option Data
null_is_none null = None
null_is_none d = Some d

-- the value at a key, where it is there and not null
abbrev pub value_at : List ℕ → Data → Option Data
value_at key d = option_and_then null_is_none (get key d)

-- an integer of 64 bits
abbrev pub as_whole : Data → Option ℤ
as_whole d = option_and_then as_i64 (as_number d)

-- the value as one of its kind; none where it has another
abbrev pub of_kind : {A : Type 0} → (Data → Option A) → Option Data → Option (Option A)
of_kind taken None = Some None
of_kind taken (Some d) = option_map Some (taken d)
