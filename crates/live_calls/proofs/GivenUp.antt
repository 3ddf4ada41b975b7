-- How it ends that a decision is given up.
use Rattle.std.proofs.Common.{◌≡◌, ℕ, Option, Some, None, true, false, ap, refl}
use Rattle.std.specs.Prelude.{IfSome, is_some}
use Rattle.live_book.specs.declared.object.Object.TheVariants.{Collection}
use Rattle.live_book.specs.Collection.{CollectionFacts, with_book}
use Rattle.live_calls.specs.Deciding.{GivesUp, gives_up, gives_up_none}
use Rattle.sysmem_alloc.specs.Book.{entered}
use Rattle.sysmem_alloc.specs.Entry.{Decided}
use Rattle.sysmem_alloc.specs.State.{next_ready}

pub gave_up_by : (c n : CollectionFacts) (o : Option ℕ) → next_ready c.book.state ≡ o → true ≡ is_some o → IfSome o (λ r. n ≡ with_book c (entered c.book (Decided (record { domain = r; claim = None }))))
    → GivesUp (Some (Collection c)) (Some (Collection n)) 0
gave_up_by c n None is waits done = absurd (cc waits)
gave_up_by c n (Some r) is waits done = gives_up c r refl is (ap (λ x. Some (Collection x)) done)

pub gave_up_none : (c n : CollectionFacts) (o : Option ℕ) → next_ready c.book.state ≡ o → false ≡ is_some o → (o ≡ None → n ≡ c) → GivesUp (Some (Collection c)) (Some (Collection n)) 6
gave_up_none c n None is waits stays = gives_up_none c refl is (ap (λ x. Some (Collection x)) (stays refl))
gave_up_none c n (Some r) is waits stays = absurd (cc waits)
