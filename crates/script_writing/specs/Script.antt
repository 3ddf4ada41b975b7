-- A script as it is written.
use Rattle.std.specs.Prelude.{◌≡◌, ℕ, ◌≤◌, ◌++◌, Bool, true, false, List, [], ◌∷◌, map, codes, Some, Ok, IsUtf8, IfSome}
use Rattle.std.specs.List.{AllByRecursion}
use Rattle.json.specs.Tree as tree
use Rattle.serde_json.specs.Data.{Data, array, object, no_members, member, depth}
use Rattle.serde_json.specs.Read.{read, of_json}
use Rattle.serde_json.specs.View.{items_of}
use Rattle.serde_json.specs.Written.{comma_if, compact_text, has_float, outline}
use Rattle.negotiation_inputs.specs.Platform.{PlatformFacts}
use Rattle.record_reading.specs.Reading.{platform_of}
use Rattle.record_laws.specs.Sparse.{platform_written}
use Rattle.script_writing.specs.Call.{WrittenCall, HasNames, call_data, call_text, stated_by}

-- the object of a script
abbrev pub script_data : PlatformFacts → List WrittenCall → Data
script_data platform calls = object (
    member (codes "calls") (array (items_of (map call_data calls)))
    (member (codes "platform") (platform_written platform) no_members))

-- the text of calls, each in a line of its own, with the script's end
abbrev pub calls_text : Bool → List WrittenCall → List ℕ
calls_text later [] = codes "]}\n"
calls_text later (c ∷ cs) = comma_if later ++ (codes "\n" ++ (call_text c ++ calls_text true cs))

-- the text of a script
abbrev pub script_text : PlatformFacts → List WrittenCall → List ℕ
script_text platform calls = codes "{\"platform\":" ++ (compact_text (platform_written platform)
    ++ (codes ",\n\"calls\":[" ++ calls_text false calls))

-- the text so far of a script that is being written, and whether it has a call
pub record Begun : Type 0 where
  pub text : List ℕ
  pub later : Bool

-- a record without a float, which isn't deep
pub record IsPlain (d : Data) : Type 0 where
  pub whole : has_float d ≡ false
  pub shallow : depth d ≤ 100

-- the text of a record is read as the record, also inside of another one
pub record IsSpelled (d : Data) : Type 0 where
  pub numbers : tree.HasNumbers (outline d)
  pub shallow : tree.depth (outline d) ≤ 100
  pub same : of_json (outline d) ≡ Some d

-- so is what a call states
abbrev pub IsCallSpelled : WrittenCall → Type 0
IsCallSpelled c = IfSome (stated_by c.act) IsSpelled

-- a script is begun with this platform and these calls
pub record HasTaken (begun : Begun) (platform : PlatformFacts)
    (calls : List WrittenCall) : Type 0 where
  pub text : (more : List WrittenCall)
      → begun.text ++ calls_text begun.later more ≡ script_text platform (calls ++ more)
  pub spelled : IsSpelled (platform_written platform)
  pub stated : platform_of (platform_written platform) ≡ Ok platform
  pub calls_spelled : AllByRecursion IsCallSpelled calls

-- a text is the script of this platform and these calls, and is read as its object
pub record IsScriptText (platform : PlatformFacts) (calls : List WrittenCall)
    (text : List ℕ) : Type 0 where
  pub is : text ≡ script_text platform calls
  pub utf8 : IsUtf8 text
  pub stated : platform_of (platform_written platform) ≡ Ok platform
  pub spelled : AllByRecursion HasNames calls → read text ≡ Some (script_data platform calls)
