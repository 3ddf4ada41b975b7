-- Entries behind a history.
use Rattle.std.proofs.Common.{◌≡◌, ℕ, List, [], ◌∷◌, ◌++◌, Bool, true, false, Option, Some, None, Result, Ok, Err, refl, subst, sym}
use Rattle.std.specs.Prelude.{IfSome, IsTrue, OnErr, OnOk, is_some}
use Rattle.sysmem_alloc.specs.Book.{BookFacts, IsBook, entered}
use Rattle.sysmem_alloc.specs.Decision.{Claimed}
use Rattle.sysmem_alloc.specs.Entry.{BookEntry, Acted, Decided}
use Rattle.sysmem_alloc.specs.History.{after_entry, replay_from}
use Rattle.sysmem_alloc.specs.State.{State, first_state, next_ready}
use Rattle.sysmem_tree.specs.ActionKind.{Deed}
use Rattle.live_book.specs.Eager.{ArePrompt, IsEager, IsPrompt}

-- one more entry is prompt where it is prompt for what the others lead to
pub one_more : (s : State) (es : List BookEntry) (e : BookEntry) → ArePrompt s es → IsPrompt (replay_from s es) e → ArePrompt s (es ++ e ∷ [])
one_more s [] e before prompt = (prompt, tt)
one_more s (f ∷ es) e before prompt = (before.0, one_more (after_entry s f) es e before.1 prompt)

pub none_waits : (o : Option ℕ) → is_some o ≡ false → o ≡ None
none_waits None is = refl
none_waits (Some r) is = absurd (cc is)

-- an action that is entered where no domain waits
pub acted_eagerly : (b : BookFacts) (i : ℕ) (deed : Deed) → IsBook b → IsEager b.history → is_some (next_ready b.state) ≡ false → IsEager (entered b (Acted i deed)).history
acted_eagerly b i deed book eager idle =
    one_more first_state b.history (Acted i deed) eager
    (subst (λ (s : State). next_ready s ≡ None) book.replayed (none_waits (next_ready b.state) idle))

-- a decision that is entered
pub decided_eagerly : (b : BookFacts) (c : Claimed) → IsEager b.history → IsEager (entered b (Decided c)).history
decided_eagerly b c eager = one_more first_state b.history (Decided c) eager tt

-- the same, where it may be that none was
pub entered_eagerly : (did : Bool) (b n : BookFacts) (c : Claimed) → IsEager b.history → (IsTrue did → n ≡ entered b (Decided c)) → (did ≡ false → n ≡ b) → IsEager n.history
entered_eagerly true b n c eager done stays = subst (λ (x : BookFacts). IsEager x.history) (sym (done refl)) (decided_eagerly b c eager)
entered_eagerly false b n c eager done stays = subst (λ (x : BookFacts). IsEager x.history) (sym (stays refl)) eager

-- and where the domain that waits, if one does, is decided for want of memory
pub given_up_eagerly : (o : Option ℕ) (b n : BookFacts) → IsEager b.history → (o ≡ None → n ≡ b) → IfSome o (λ r. n ≡ entered b (Decided (record { domain = r; claim = None }))) → IsEager n.history
given_up_eagerly None b n eager stays done = subst (λ (x : BookFacts). IsEager x.history) (sym (stays refl)) eager
given_up_eagerly (Some r) b n eager stays done = subst (λ (x : BookFacts). IsEager x.history) (sym done) (decided_eagerly b (record { domain = r; claim = None }) eager)

-- and an action, where it may be that it was refused
pub acted_by : {X Y : Type 0} (r : Result X Y) (b n : BookFacts) (i : ℕ) (deed : Deed) → IsBook b → IsEager b.history → is_some (next_ready b.state) ≡ false → OnOk r (n ≡ entered b (Acted i deed)) → OnErr r (n ≡ b)
    → IsEager n.history
acted_by (Ok x) b n i deed book eager idle done stays = subst (λ (x : BookFacts). IsEager x.history) (sym done) (acted_eagerly b i deed book eager idle)
acted_by (Err y) b n i deed book eager idle done stays = subst (λ (x : BookFacts). IsEager x.history) (sym stays) eager
