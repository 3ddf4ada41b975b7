-- What some calls and the calls after them stand for.
use Rattle.std.proofs.Common.{◌≡◌, ℕ, ◌+◌, ◌<◌, ◌≤◌, List, [], ◌∷◌, ◌++◌, Some, None, ok_or, Result, Ok, Err, true, false, nat_le, if◌then◌else◌, length, get_or, drop, suc, map, refl, sym, ap, ◌∙◌, append_assoc, append-nil, add-one, drop-cons, arith}
use Rattle.std.proofs.lemmas.Bool.Decides.{nat_tests}
use Rattle.std.proofs.lemmas.List.{drop_all, map-append}
use Rattle.serde_json.specs.Data.{Data, Items, item}
use Rattle.serde_json.specs.View.{view, items_view}
use Rattle.serde_json.specs.declared.value.Value.{Value}
use Rattle.script_reading.specs.declared.fault.ParseFault.{ParseFault}
use Rattle.script_reading.specs.declared.fault.ParseFault.TheVariants.{NoMemory, Refused}
use Rattle.script_reading.specs.declared.fault.ScriptFault.{ScriptFault}
use Rattle.script_reading.specs.declared.fault.ScriptFault.TheVariants.{TooManyCalls}
use Rattle.script_reading.specs.declared.call.Call.{Call}
use Rattle.script_reading.specs.Faults.{Gives}
use Rattle.script_reading.specs.Platform.{platform_said}
use Rattle.negotiation_inputs.specs.Platform.{PlatformFacts}
use Rattle.script_reading.specs.Script.{CallFacts, KnownFacts, ◌>>=◌, few_calls, items_len, parts_of, call_of, calls_from, script_by}
use Rattle.script_reading.specs.Seen.{call_seen}

-- some calls, and then those that were read
abbrev pub with_front : List CallFacts → Result (List CallFacts) ScriptFault → Result (List CallFacts) ScriptFault
with_front front (Ok rest) = Ok (front ++ rest)
with_front front (Err fault) = Err fault

module _ (n : ℕ) (known : KnownFacts) (front : List CallFacts) (d : Data) (ds : Items) where
  -- one call more
  pub with_front-call : (call : CallFacts) (after : KnownFacts) → call_of n known d ≡ Ok (call, after)
      → with_front front (calls_from n known (item d ds)) ≡ with_front (front ++ call ∷ []) (calls_from (n + 1) after ds)
  unfolding calls_from
  with_front-call call after read =
      ap (λ r. with_front front (r >>= λ first. calls_from (n + 1) first.1 ds >>= λ others. Ok (first.0 ∷ others))) read
      ∙ by (calls_from (n + 1) after ds)
    where
      by : (rest : Result (List CallFacts) ScriptFault) → with_front front (rest >>= λ others. Ok (call ∷ others)) ≡ with_front (front ++ call ∷ []) rest
      by (Ok rest) = ap Ok (sym (append_assoc front (call ∷ []) rest))
      by (Err fault) = refl

  -- the first fault
  pub with_front-fault : (fault : ScriptFault) → call_of n known d ≡ Err fault → with_front front (calls_from n known (item d ds)) ≡ Err fault
  unfolding calls_from
  with_front-fault fault read =
      ap (λ r. with_front front (r >>= λ first. calls_from (n + 1) first.1 ds >>= λ others. Ok (first.0 ∷ others))) read

-- the values from one on are that one and those after it
pub items_view-drop : (vs : List Value) (i : ℕ) (v : Value) → i < length vs → v ≡ get_or vs i v
    → items_view (drop i vs) ≡ item (view v) (items_view (drop (i + 1) vs))
items_view-drop vs i v within is =
    ap items_view (drop-cons vs i v within) ∙ ap (λ w. item (view w) (items_view (drop (suc i) vs))) (sym is) ∙ ap (λ k. item (view v) (items_view (drop k vs))) (sym (add-one i))

module _ (vs : List Value) (i : ℕ) (v : Value) (within : i < length vs) (is : v ≡ get_or vs i v) (known : KnownFacts) where
  -- after one more call what all calls stand for is the same
  pub turn : (after : KnownFacts) (calls next : List Call) (call : Call) → next ≡ calls ++ call ∷ [] → call_of (i + 1) known (view v) ≡ Ok (call_seen call, after)
      → with_front (map call_seen next) (calls_from (i + 1 + 1) after (items_view (drop (i + 1) vs)))
      ≡ with_front (map call_seen calls) (calls_from (i + 1) known (items_view (drop i vs)))
  turn after calls next call pushed read =
      let rest = items_view (drop (i + 1) vs) in
      ap (λ (l : List Call). with_front (map call_seen l) (calls_from (i + 1 + 1) after rest)) pushed
      ∙ ap (λ (l : List CallFacts). with_front l (calls_from (i + 1 + 1) after rest)) (map-append call_seen calls (call ∷ []))
      ∙ sym (with_front-call (i + 1) known (map call_seen calls) (view v) rest (call_seen call) after read)
      ∙ ap (λ (ds : Items). with_front (map call_seen calls) (calls_from (i + 1) known ds)) (sym (items_view-drop vs i v within is))

  -- at the first fault all calls give that fault
  pub turn_fault : (front : List CallFacts) (fault : ScriptFault) → call_of (i + 1) known (view v) ≡ Err fault
      → with_front front (calls_from (i + 1) known (items_view (drop i vs))) ≡ Err fault
  turn_fault front fault read =
      ap (λ (ds : Items). with_front front (calls_from (i + 1) known ds)) (items_view-drop vs i v within is)
      ∙ with_front-fault (i + 1) known front (view v) (items_view (drop (i + 1) vs)) fault read

-- after the last call those so far are all
pub turn_end : (vs : List Value) (i n : ℕ) (known : KnownFacts) (front : List CallFacts) → length vs ≤ i
    → with_front front (calls_from n known (items_view (drop i vs))) ≡ Ok front
unfolding calls_from
turn_end vs i n known front past =
    ap (λ (l : List Value). with_front front (calls_from n known (items_view l))) (drop_all i vs past) ∙ ap Ok (append-nil front)

-- a fault that a part gives, given for the whole
pub fault_given : {X Y A B : Type 0} (view : X → A) (view' : Y → B) (fault : ParseFault) (said : Result A ScriptFault) (said' : Result B ScriptFault)
    → ((f : ScriptFault) → said ≡ Err f → said' ≡ Err f) → Gives view (Err fault) said → Gives view' (Err fault) said'
fault_given view view' NoMemory said said' same given = tt
fault_given view view' (Refused f) said said' same given = same f given

pub items_len-items_view : (vs : List Value) → items_len (items_view vs) ≡ length vs
items_len-items_view [] = refl
items_len-items_view (v ∷ vs) = ap (λ n. n + 1) (items_len-items_view vs) ∙ add-one (length vs)

module _ (calls_said : Items → Result (List CallFacts) ScriptFault) (script platform : Data) (calls : List Value) (held : PlatformFacts)
    (parts : parts_of script ≡ Some (platform, items_view calls)) (reads : platform_said platform ≡ Ok held) where
  -- the script of these parts
  script-parts : script_by calls_said script ≡ (ok_or (few_calls (items_view calls)) TooManyCalls >>= λ few. calls_said few >>= λ facts. Ok (record { platform = held; calls = facts }))
  script-parts = rw (parts, reads) refl

  pub script-crowded : 4096 < length calls → script_by calls_said script ≡ Err TooManyCalls
  script-crowded many =
      script-parts
      ∙ ap (λ b. ok_or (if b then Some (items_view calls) else None) TooManyCalls >>= λ few. calls_said few >>= λ facts. Ok (record { platform = held; calls = facts }))
      (let more : nat_le (items_len (items_view calls)) 4096 ≡ false = grind (arith, nat_tests, items_len-items_view calls) in more)

  script-calls : length calls ≤ 4096 → script_by calls_said script ≡ (calls_said (items_view calls) >>= λ facts. Ok (record { platform = held; calls = facts }))
  script-calls few =
      script-parts
      ∙ ap (λ b. ok_or (if b then Some (items_view calls) else None) TooManyCalls >>= λ few. calls_said few >>= λ facts. Ok (record { platform = held; calls = facts }))
      (let more : nat_le (items_len (items_view calls)) 4096 ≡ true = grind (arith, nat_tests, items_len-items_view calls) in more)

  pub script-fault : length calls ≤ 4096 → (fault : ScriptFault) → calls_said (items_view calls) ≡ Err fault → script_by calls_said script ≡ Err fault
  script-fault few fault read =
      script-calls few ∙ ap (λ (r : Result (List CallFacts) ScriptFault). r >>= λ facts. Ok (record { platform = held; calls = facts })) read

  pub script-held : length calls ≤ 4096 → (facts : List CallFacts) → calls_said (items_view calls) ≡ Ok facts
      → script_by calls_said script ≡ Ok (record { platform = held; calls = facts })
  script-held few facts read =
      script-calls few ∙ ap (λ (r : Result (List CallFacts) ScriptFault). r >>= λ facts. Ok (record { platform = held; calls = facts })) read
