-- Places of values in a text.
use Rattle.std.specs.Prelude.{◌≡◌, ℕ, ◌≤◌, List, [], ◌∷◌, Option, Some, option_and_then, slice_range}
use Rattle.serde_json.specs.Data.{Data, depth}
use Rattle.serde_json.specs.Find.{at, get}
use Rattle.serde_json.specs.Read.{max_depth, read}
use Rattle.explanation_text.specs.declared.places.keys.Span.{Span}
use Rattle.explanation_text.specs.declared.places.keys.Step.{Step}
use Rattle.explanation_text.specs.declared.places.keys.Step.TheVariants.{Key, Item}

-- the value in this one to which a step leads
abbrev pub stepped : Step → Data → Option Data
stepped (Key name) value = get name.now value
stepped (Item index) value = at index value

-- the value in this one to which a path leads
abbrev pub value_on : List Step → Data → Option Data
value_on [] value = Some value
value_on (step ∷ rest) value = option_and_then (value_on rest) (stepped step value)

-- the bytes are JSON of the value, if it nests no deeper than what can be read
abbrev pub IsSpelling : List ℕ → Data → Type 0
IsSpelling bytes value = depth value ≤ max_depth → read bytes ≡ Some value

-- the bytes of the span are JSON of the value to which the path leads, which there is
abbrev pub IsPlaceOf : List ℕ → List Step → Data → Span → Type 0
IsPlaceOf bytes path root span =
    (value : Data) × (value_on path root ≡ Some value)
    × IsSpelling (slice_range bytes span.start span.end) value
