-- A history that is entered once more, entry by entry.
use Rattle.std.proofs.Common.{◌≡◌, ℕ, zero, suc, ◌+◌, List, [], ◌∷◌, ◌++◌, map, take, slice_get, arith, Some, sym, ◌∙◌, ap, subst}
use Rattle.std.specs.Prelude.{option_map}
use Rattle.std.proofs.lemmas.Option.{same_Some, slice_get-map}
use Rattle.book_events.specs.declared.entry.Entry.{Entry}
use Rattle.live_book.specs.Eager.{ArePrompt, IsEager, IsPrompt}
use Rattle.sysmem_alloc.specs.Book.{BookFacts, IsBook}
use Rattle.sysmem_alloc.specs.Entry.{BookEntry, entry_in}
use Rattle.sysmem_alloc.specs.History.{Allows, AreAllowed, after_entry, replay, replay_from}
use Rattle.sysmem_alloc.specs.State.{State, first_state}
use Rattle.negotiation_inputs.specs.Platform.{PlatformFacts}
use Rattle.sysmem_tree.specs.Domain.{TreeFacts}

allowed_there : (p : PlatformFacts) (s : State) (es : List BookEntry) (k : ℕ) (e : BookEntry) → AreAllowed p s es → slice_get es k ≡ Some e → Allows p (replay_from s (take k es)) e
allowed_there p s [] zero e all is = absurd (cc is)
allowed_there p s [] (suc k) e all is = absurd (cc is)
allowed_there p s (f ∷ es) zero e all is = subst (Allows p s) (same_Some f e is) all.0
allowed_there p s (f ∷ es) (suc k) e all is = allowed_there p (after_entry s f) es k e all.1 is

prompt_there : (s : State) (es : List BookEntry) (k : ℕ) (e : BookEntry) → ArePrompt s es → slice_get es k ≡ Some e → IsPrompt (replay_from s (take k es)) e
prompt_there s [] zero e all is = absurd (cc is)
prompt_there s [] (suc k) e all is = absurd (cc is)
prompt_there s (f ∷ es) zero e all is = subst (IsPrompt s) (same_Some f e is) all.0
prompt_there s (f ∷ es) (suc k) e all is = prompt_there (after_entry s f) es k e all.1 is

-- one more entry that is prompt for what the others lead to
one_more : (s : State) (es : List BookEntry) (e : BookEntry) → ArePrompt s es → IsPrompt (replay_from s es) e → ArePrompt s (es ++ e ∷ [])
one_more s [] e before prompt = (prompt, tt)
one_more s (f ∷ es) e before prompt = (before.0, one_more (after_entry s f) es e before.1 prompt)

taken : (es : List BookEntry) (k : ℕ) (e : BookEntry) → slice_get es k ≡ Some e → take (suc k) es ≡ take k es ++ e ∷ []
taken [] zero e is = absurd (cc is)
taken [] (suc k) e is = absurd (cc is)
taken (f ∷ es) zero e is = ap (λ z. z ∷ []) (same_Some f e is)
taken (f ∷ es) (suc k) e is = ap (λ zs. f ∷ zs) (taken es k e is)

pub taken_more : (es : List BookEntry) (k : ℕ) (e : BookEntry) → slice_get es k ≡ Some e → take (k + 1) es ≡ take k es ++ e ∷ []
taken_more es k e is = let next : k + 1 ≡ suc k = omega arith in ap (λ j. take j es) next ∙ taken es k e is

-- as far as a book is entered once more, promptly
pub record IsSoFar (b c : BookFacts) (k : ℕ) : Type 0 where
  pub platform : c.platform ≡ b.platform
  pub history : c.history ≡ take k b.history
  pub prompt : ArePrompt first_state (take k b.history)

-- an entry as it is kept stands there in the history
pub stands : (t u : TreeFacts) (raw : List Entry) (es : List BookEntry) (k : ℕ) (e : Entry) → u ≡ t → map (entry_in t.nodes) raw ≡ es → slice_get raw k ≡ Some e → slice_get es k ≡ Some (entry_in u.nodes e)
stands t u raw es k e same is at =
    ap (λ xs. slice_get xs k) (sym is)
    ∙ (slice_get-map (entry_in t.nodes) raw k
    ∙ (ap (option_map (entry_in t.nodes)) at
    ∙ ap (λ (x : TreeFacts). Some (entry_in x.nodes e)) (sym same)))

same_state : (b c : BookFacts) (k : ℕ) → IsBook c → IsSoFar b c k → c.state ≡ replay_from first_state (take k b.history)
same_state b c k book far = book.replayed ∙ ap replay far.history

-- the next entry is allowed
pub next_allowed : (b c : BookFacts) (k : ℕ) (e : BookEntry) → IsBook b → IsBook c → IsSoFar b c k → slice_get b.history k ≡ Some e → Allows c.platform c.state e
next_allowed b c k e old book far at =
    subst (λ p. Allows p c.state e) (sym far.platform)
    (subst (λ (s : State). Allows b.platform s e) (sym (same_state b c k book far)) (allowed_there b.platform first_state b.history k e old.legal at))

-- and if it is prompt, the history is as far as that
pub next_prompt : (b c n : BookFacts) (k : ℕ) (e : BookEntry) → IsBook c → IsSoFar b c k → slice_get b.history k ≡ Some e → IsPrompt c.state e → n.platform ≡ c.platform → n.history ≡ c.history ++ e ∷ [] → IsSoFar b n (k + 1)
next_prompt b c n k e book far at prompt platform more = record {
  platform = platform ∙ far.platform;
  history = more ∙ (ap (λ es. es ++ e ∷ []) far.history ∙ sym (taken_more b.history k e at));
  prompt = subst (ArePrompt first_state) (sym (taken_more b.history k e at))
      (one_more first_state (take k b.history) e far.prompt (subst (λ (s : State). IsPrompt s e) (same_state b c k book far) prompt));
}

-- if it isn't, no eager history has it
pub not_eager : (b c : BookFacts) (k : ℕ) (e : BookEntry) → IsBook c → IsSoFar b c k → slice_get b.history k ≡ Some e → IsEager b.history → IsPrompt c.state e
not_eager b c k e book far at eager = subst (λ (s : State). IsPrompt s e) (sym (same_state b c k book far)) (prompt_there first_state b.history k e eager at)

same_book : (b c : BookFacts) → c.platform ≡ b.platform → c.history ≡ b.history → c.state ≡ b.state → c ≡ b
same_book b c platform history state =
    ap (λ p. record { platform = p; history = c.history; state = c.state }) platform
    ∙ (ap (λ es. record { platform = b.platform; history = es; state = c.state }) history
    ∙ ap (λ s. record { platform = b.platform; history = b.history; state = s }) state)

-- all of it entered, it is the same book
pub all_entered : (b c : BookFacts) → IsBook b → IsBook c → c.platform ≡ b.platform → c.history ≡ b.history → c ≡ b
all_entered b c old book platform history = same_book b c platform history (book.replayed ∙ (ap replay history ∙ sym old.replayed))
