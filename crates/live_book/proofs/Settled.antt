-- The part of a history behind which no domain waits.
use Rattle.std.proofs.Common.{◌≡◌, ℕ, zero, suc, ◌≤◌, ◌<◌, ◌⊎◌, inl, inr, List, [], ◌∷◌, length, map, take, drop, Option, Some, None, Bool, true, false, slice_get, refl, sym, ◌∙◌, ap, subst, arith}
use Rattle.std.specs.Prelude.{IfSome, IsSomeAnd, is_some, option_map}
use Rattle.std.specs.List.{AllByRecursion}
use Rattle.std.proofs.lemmas.List.{drop_all, length-map, take_all, take-append-drop}
use Rattle.std.proofs.lemmas.Option.{same_Some, slice_get-map}
use Rattle.book_events.specs.declared.entry.Entry.{Entry}
use Rattle.book_events.specs.declared.entry.Entry.TheVariants as entries
use Rattle.sysmem_alloc.specs.Book.{BookFacts, IsBook}
use Rattle.sysmem_alloc.specs.Entry.{BookEntry, Acted, Decided, deed_with, entry_in}
use Rattle.sysmem_alloc.specs.History.{AreAllowed, after_entry, replay, replay_from}
use Rattle.sysmem_alloc.specs.State.{State, first_state, next_ready}
use Rattle.negotiation_inputs.specs.Platform.{PlatformFacts}
use Rattle.sysmem_tree.specs.ActionKind.{Deed}
use Rattle.sysmem_tree.specs.Node.{NodeFacts}
use Rattle.live_book.specs.Eager.{ArePrompt, IsEager, IsPrompt}
use Rattle.live_book.specs.Snapshot.{IsDecision, IsKeptAction, IsKeptDecision, IsOneCall, IsSettled, IsSettledPart}

-- what is allowed is, as far as it goes
allowed_before : (p : PlatformFacts) (s : State) (es : List BookEntry) (k : ℕ) → AreAllowed p s es → AreAllowed p s (take k es)
allowed_before p s es zero all = tt
allowed_before p s [] (suc k) all = tt
allowed_before p s (e ∷ es) (suc k) all = (all.0, allowed_before p (after_entry s e) es k all.1)

prompt_before : (s : State) (es : List BookEntry) (k : ℕ) → ArePrompt s es → ArePrompt s (take k es)
prompt_before s es zero all = tt
prompt_before s [] (suc k) all = tt
prompt_before s (e ∷ es) (suc k) all = (all.0, prompt_before (after_entry s e) es k all.1)

-- before an action no domain waits
idle_before : (s : State) (es : List BookEntry) (k i : ℕ) (deed : Deed) → ArePrompt s es → slice_get es k ≡ Some (Acted i deed) → next_ready (replay_from s (take k es)) ≡ None
idle_before s [] zero i deed all is = absurd (cc is)
idle_before s [] (suc k) i deed all is = absurd (cc is)
idle_before s (e ∷ es) zero i deed all is = subst (IsPrompt s) (same_Some e (Acted i deed) is) all.0
idle_before s (e ∷ es) (suc k) i deed all is = idle_before (after_entry s e) es k i deed all.1 is

decided_from : (es : List BookEntry) (k : ℕ) → ((j : ℕ) → k ≤ j → IfSome (slice_get es j) IsDecision) → AllByRecursion IsDecision (drop k es)
decided_from [] zero all = tt
decided_from [] (suc k) all = tt
decided_from (e ∷ es) zero all = (all 0 (omega arith), decided_from es 0 (λ j le. all (suc j) (omega arith)))
decided_from (e ∷ es) (suc k) all = decided_from es k (λ j le. all (suc j) (omega (arith, le)))

one_call_from : (es : List BookEntry) (k : ℕ) → ((j : ℕ) → k < j → IfSome (slice_get es j) IsDecision) → IsOneCall (drop k es)
one_call_from [] zero all = tt
one_call_from [] (suc k) all = tt
one_call_from (e ∷ es) zero all = decided_from es 0 (λ j le. all (suc j) (omega arith))
one_call_from (e ∷ es) (suc k) all = one_call_from es k (λ j less. all (suc j) (omega (arith, less)))

kept_decision : (nodes : List NodeFacts) (o : Option Entry) → IfSome o IsKeptDecision → IfSome (option_map (entry_in nodes) o) IsDecision
kept_decision nodes None is = tt
kept_decision nodes (Some (entries.Acted i _)) is = absurd is
kept_decision nodes (Some (entries.Decided r claim)) is = tt

kept_action : (nodes : List NodeFacts) (o : Option Entry) → IsSomeAnd o IsKeptAction → (i : ℕ) × (deed : Deed) × (option_map (entry_in nodes) o ≡ Some (Acted i deed))
kept_action nodes None is = absurd is
kept_action nodes (Some (entries.Acted i _)) is = (i, _, refl)
kept_action nodes (Some (entries.Decided r claim)) is = absurd is

-- what is said of how many entries are kept of a book's history
pub record IsCount (b : BookFacts) (k : ℕ) : Type 0 where
  pub within : k ≤ length b.history
  pub settled : IsSettled b.platform (take k b.history)
  pub one_call : IsOneCall (drop k b.history)
  pub all : next_ready b.state ≡ None → drop k b.history ≡ []

pub as_many : (nodes : List NodeFacts) (raw : List Entry) (es : List BookEntry) → map (entry_in nodes) raw ≡ es → length raw ≡ length es
as_many nodes raw es is = sym (length-map raw (entry_in nodes)) ∙ ap length is

-- a history cut before its last action, where a domain waits
pub cut_count : (b : BookFacts) (nodes : List NodeFacts) (raw : List Entry) (k : ℕ) (waits : Bool) → IsBook b → IsEager b.history → map (entry_in nodes) raw ≡ b.history → waits ≡ is_some (next_ready b.state) → waits ≡ true
    → k ≤ length raw → (k ≡ 0) ⊎ IsSomeAnd (slice_get raw k) IsKeptAction → ((j : ℕ) → k < j → IfSome (slice_get raw j) IsKeptDecision) → IsCount b k
cut_count b nodes raw k waits book eager is tested does within at later = record {
  within = omega (arith, within, as_many nodes raw b.history is);
  settled = record {
    legal = allowed_before b.platform first_state b.history k book.legal;
    eager = prompt_before first_state b.history k eager;
    idle = by at;
  };
  one_call = one_call_from b.history k (λ j less.
      subst (λ o. IfSome o IsDecision) (sym (slice_get-map (entry_in nodes) raw j) ∙ ap (λ xs. slice_get xs j) is) (kept_decision nodes (slice_get raw j) (later j less)));
  all = λ none. absurd (cc (sym does ∙ tested, none));
} where
  by : (k ≡ 0) ⊎ IsSomeAnd (slice_get raw k) IsKeptAction → next_ready (replay (take k b.history)) ≡ None
  by (inl none) = subst (λ j. next_ready (replay (take j b.history)) ≡ None) (sym none) refl
  by (inr some) =
      let (i, deed, acted) = kept_action nodes (slice_get raw k) some in
      idle_before first_state b.history k i deed eager (ap (λ xs. slice_get xs k) (sym is) ∙ (slice_get-map (entry_in nodes) raw k ∙ acted))

none_waits : (o : Option ℕ) → is_some o ≡ false → o ≡ None
none_waits None is = refl
none_waits (Some r) is = absurd (cc is)

-- and whole, where none does
pub whole_count : (b : BookFacts) (nodes : List NodeFacts) (raw : List Entry) (k : ℕ) (waits : Bool) → IsBook b → IsEager b.history → map (entry_in nodes) raw ≡ b.history → waits ≡ is_some (next_ready b.state) → waits ≡ false
    → k ≡ length raw → IsCount b k
whole_count b nodes raw k waits book eager is tested idle many =
    let long : k ≡ length b.history = many ∙ as_many nodes raw b.history is in
    let all : take k b.history ≡ b.history = take_all k b.history (omega (arith, long)) in
    let none : drop k b.history ≡ [] = drop_all k b.history (omega (arith, long)) in
    record {
      within = omega (arith, long);
      settled = subst (IsSettled b.platform) (sym all) (record {
        legal = book.legal;
        eager = eager;
        idle = subst (λ (s : State). next_ready s ≡ None) book.replayed (none_waits (next_ready b.state) (sym tested ∙ idle));
      });
      one_call = subst IsOneCall (sym none) tt;
      all = λ waits. none;
    }

taken : (nodes : List NodeFacts) (raw : List Entry) (k : ℕ) → map (entry_in nodes) (take k raw) ≡ take k (map (entry_in nodes) raw)
taken nodes raw zero = refl
taken nodes [] (suc k) = refl
taken nodes (e ∷ raw) (suc k) = ap (λ es. entry_in nodes e ∷ es) (taken nodes raw k)

-- what is kept is that part of the history
pub is_part : (b : BookFacts) (nodes : List NodeFacts) (raw part copy : List Entry) (k : ℕ) → map (entry_in nodes) raw ≡ b.history → part ≡ take k raw → map (entry_in nodes) copy ≡ map (entry_in nodes) part → IsCount b k
    → IsSettledPart b (map (entry_in nodes) copy)
is_part b nodes raw part copy k is cut same count =
    let kept : map (entry_in nodes) copy ≡ take k b.history = same ∙ (ap (map (entry_in nodes)) cut ∙ (taken nodes raw k ∙ ap (take k) is)) in
    subst (IsSettledPart b) (sym kept) (record {
      later = drop k b.history;
      split = sym (take-append-drop k b.history);
      one_call = count.one_call;
      all = count.all;
      settled = count.settled;
    })
