-- What the calls that are left stand for after those so far, where on each
-- name one actor alone makes calls.
use Rattle.std.proofs.Common.{◌≡◌, ℕ, ◌+◌, ◌<◌, ◌≤◌, ◌==◌, ◌&&◌, ◌||◌, not, List, [], ◌∷◌, ◌++◌, Result, Ok, Err, Bool, true, false, if◌then◌else◌, length, get_or, drop, map, refl, sym, ap, ◌∙◌}
use Rattle.std.specs.List.{list_any}
use Rattle.std.proofs.lemmas.List.{drop_all, map-append}
use Rattle.serde_json.specs.Data.{Data, Items, item}
use Rattle.serde_json.specs.View.{view, items_view}
use Rattle.serde_json.specs.declared.value.Value.{Value}
use Rattle.script_reading.specs.declared.fault.ScriptFault.{ScriptFault}
use Rattle.script_reading.specs.declared.fault.ScriptFault.TheVariants.{SharedName}
use Rattle.script_reading.specs.declared.call.Call.{Call}
use Rattle.script_reading.specs.Apart.{is_shared, apart_from}
use Rattle.script_reading.specs.Script.{CallFacts, KnownFacts, ◌>>=◌, call_of}
use Rattle.script_reading.specs.Seen.{call_seen}
use Rattle.script_reading.proofs.CallsLemmas.{items_view-drop}

-- whether a name is shared, told of the program's calls
shared_seen : (call : Call) (calls : List Call) → list_any (λ c. (c.place == call.place) && not (c.actor == call.actor)) calls ≡ is_shared (map call_seen calls) (call_seen call)
shared_seen call [] = refl
shared_seen call (c ∷ calls) = ap (λ b. ((c.place == call.place) && not (c.actor == call.actor)) || b) (shared_seen call calls)

-- as it was read of them
abbrev pub Told : List Call → Call → Bool → Type 0
Told calls call shared = shared ≡ list_any (λ c. (c.place == call.place) && not (c.actor == call.actor)) calls

module _ (n : ℕ) (known : KnownFacts) (before : List CallFacts) (d : Data) (ds : Items) where
  abbrev goes_on : Result (CallFacts × KnownFacts) ScriptFault → Result (List CallFacts) ScriptFault
  goes_on r = r >>= λ next. if is_shared before next.0 then Err (SharedName n) else apart_from (n + 1) next.1 (before ++ next.0 ∷ []) ds

  one-fault : (fault : ScriptFault) → call_of n known d ≡ Err fault → apart_from n known before (item d ds) ≡ Err fault
  unfolding apart_from
  one-fault fault read = ap goes_on read

  one-call : (call : CallFacts) (after : KnownFacts) → call_of n known d ≡ Ok (call, after)
      → apart_from n known before (item d ds) ≡ (if is_shared before call then Err (SharedName n) else apart_from (n + 1) after (before ++ call ∷ []) ds)
  unfolding apart_from
  one-call call after read = ap goes_on read

is_told : (calls : List Call) (call : Call) (seen : List Call) (shared : Bool) → Told seen call shared → seen ≡ calls → is_shared (map call_seen calls) (call_seen call) ≡ shared
is_told calls call seen shared told same = sym (told ∙ (shared_seen call seen ∙ ap (λ l. is_shared (map call_seen l) (call_seen call)) same))

module _ (vs : List Value) (i : ℕ) (v : Value) (within : i < length vs) (is : v ≡ get_or vs i v) (known : KnownFacts) where
  -- one call more, on a name that is shared or isn't
  next-call : (before : List CallFacts) (call : CallFacts) (after : KnownFacts) → call_of (i + 1) known (view v) ≡ Ok (call, after)
      → apart_from (i + 1) known before (items_view (drop i vs))
      ≡ (if is_shared before call then Err (SharedName (i + 1)) else apart_from (i + 1 + 1) after (before ++ call ∷ []) (items_view (drop (i + 1) vs)))
  next-call before call after read =
      ap (λ (ds : Items). apart_from (i + 1) known before ds) (items_view-drop vs i v within is)
      ∙ one-call (i + 1) known before (view v) (items_view (drop (i + 1) vs)) call after read

  -- after one more call what all calls stand for is the same
  pub apart_turn : (after : KnownFacts) (calls next : List Call) (call : Call) (seen : List Call) (shared : Bool) → Told seen call shared → seen ≡ calls → shared ≡ false
      → next ≡ calls ++ call ∷ [] → call_of (i + 1) known (view v) ≡ Ok (call_seen call, after)
      → apart_from (i + 1 + 1) after (map call_seen next) (items_view (drop (i + 1) vs)) ≡ apart_from (i + 1) known (map call_seen calls) (items_view (drop i vs))
  apart_turn after calls next call seen shared told same none pushed read =
      let rest = items_view (drop (i + 1) vs) in
      let front = map call_seen calls in
      ap (λ (l : List Call). apart_from (i + 1 + 1) after (map call_seen l) rest) pushed
      ∙ (ap (λ (l : List CallFacts). apart_from (i + 1 + 1) after l rest) (map-append call_seen calls (call ∷ []))
      ∙ sym (next-call front (call_seen call) after read
      ∙ ap (λ b. if b then Err (SharedName (i + 1)) else apart_from (i + 1 + 1) after (front ++ call_seen call ∷ []) rest) (is_told calls call seen shared told same ∙ none)))

  -- at the first fault all calls give that fault
  pub apart_fault : (before : List CallFacts) (fault : ScriptFault) → call_of (i + 1) known (view v) ≡ Err fault → apart_from (i + 1) known before (items_view (drop i vs)) ≡ Err fault
  apart_fault before fault read =
      ap (λ (ds : Items). apart_from (i + 1) known before ds) (items_view-drop vs i v within is) ∙ one-fault (i + 1) known before (view v) (items_view (drop (i + 1) vs)) fault read

  pub apart_shared : (after : KnownFacts) (calls : List Call) (call : Call) (seen : List Call) (shared : Bool) → Told seen call shared → seen ≡ calls → shared ≡ true
      → call_of (i + 1) known (view v) ≡ Ok (call_seen call, after) → apart_from (i + 1) known (map call_seen calls) (items_view (drop i vs)) ≡ Err (SharedName (i + 1))
  apart_shared after calls call seen shared told same some read =
      let rest = items_view (drop (i + 1) vs) in
      let front = map call_seen calls in
      next-call front (call_seen call) after read
      ∙ ap (λ b. if b then Err (SharedName (i + 1)) else apart_from (i + 1 + 1) after (front ++ call_seen call ∷ []) rest) (is_told calls call seen shared told same ∙ some)

-- after the last call those so far are all
pub apart_end : (vs : List Value) (i n : ℕ) (known : KnownFacts) (before : List CallFacts) → length vs ≤ i → apart_from n known before (items_view (drop i vs)) ≡ Ok before
unfolding apart_from
apart_end vs i n known before past = ap (λ (l : List Value). apart_from n known before (items_view l)) (drop_all i vs past)
