-- How the calls of a decision end.
use Rattle.std.specs.Prelude.{◌≡◌, ◌⊎◌, true, Option, Some, None, is_some, ℕ}
use Rattle.live_book.specs.declared.object.Object.{Object}
use Rattle.live_book.specs.declared.object.Object.TheVariants.{Collection, Decision}
use Rattle.live_book.specs.Collection.{CollectionFacts, with_book}
use Rattle.live_book.specs.Decision.{DecisionFacts}
use Rattle.live_calls.specs.Behind.{IsNoCollection, IsNoDecision}
use Rattle.sysmem_alloc.specs.Book.{entered}
use Rattle.sysmem_alloc.specs.Entry.{Decided}
use Rattle.sysmem_alloc.specs.Frozen.{FrozenFacts, IsStill, frozen_of}
use Rattle.sysmem_alloc.specs.State.{next_ready}

-- what the domain that is next is decided on comes behind a handle; or none waits, or one does and
-- memory is refused, and then that handle is as it was
pub data Freezes (behind old new : Option Object) : ℕ → Type 0 where
  freezes : (c : CollectionFacts) (f : FrozenFacts) → behind ≡ Some (Collection c)
      → frozen_of c.book ≡ Some f
      → new ≡ Some (Decision (record { frozen = f; claim = None })) → Freezes behind old new 0
  waits_none : (c : CollectionFacts) → behind ≡ Some (Collection c)
      → next_ready c.book.state ≡ None → new ≡ old → Freezes behind old new 6
  freeze_starves : (c : CollectionFacts) → behind ≡ Some (Collection c)
      → is_some (next_ready c.book.state) ≡ true → new ≡ old → Freezes behind old new 4
  freeze_misused : IsNoCollection behind → new ≡ old → Freezes behind old new 2

-- a decision is made of what was frozen; where memory is refused nothing is left of it
pub data Decides (old new : Option Object) : ℕ → Type 0 where
  decides : (d e : DecisionFacts) → old ≡ Some (Decision d) → new ≡ Some (Decision e)
      → e.frozen ≡ d.frozen → is_some e.claim ≡ true → Decides old new 0
  decide_starves : (d : DecisionFacts) → old ≡ Some (Decision d) → new ≡ None → Decides old new 4
  decide_misused : IsNoDecision old → new ≡ None → Decides old new 2

-- the collection after a decision
abbrev pub with_decision : CollectionFacts → DecisionFacts → CollectionFacts
with_decision c d = with_book c
    (entered c.book (Decided (record { domain = d.frozen.domain; claim = d.claim })))

-- a decision that was made is entered in a collection that still has what it was made from; another
-- isn't
pub data Enters (before after decision : Option Object) : ℕ → Type 0 where
  enters : (c : CollectionFacts) (d : DecisionFacts) → before ≡ Some (Collection c)
      → decision ≡ Some (Decision d) → IsStill c.book d.frozen
      → after ≡ Some (Collection (with_decision c d)) → Enters before after decision 0
  stays : (c : CollectionFacts) (d : DecisionFacts) → before ≡ Some (Collection c)
      → decision ≡ Some (Decision d) → (d.claim ≡ None) ⊎ (¬ IsStill c.book d.frozen)
      → after ≡ before → Enters before after decision 6
  enter_misused : IsNoCollection before ⊎ IsNoDecision decision → after ≡ before
      → Enters before after decision 2

-- that memory was refused to the decision of the domain that is next is entered; or none waits, and
-- then nothing has changed
pub data GivesUp (before after : Option Object) : ℕ → Type 0 where
  gives_up : (c : CollectionFacts) (r : ℕ) → before ≡ Some (Collection c)
      → next_ready c.book.state ≡ Some r
      → after ≡ Some (Collection (with_book c
      (entered c.book (Decided (record { domain = r; claim = None })))))
      → GivesUp before after 0
  gives_up_none : (c : CollectionFacts) → before ≡ Some (Collection c)
      → next_ready c.book.state ≡ None → after ≡ before → GivesUp before after 6
  give_up_misused : IsNoCollection before → after ≡ before → GivesUp before after 2
