-- What is frozen of a book, by what came of it.
use Rattle.std.proofs.Common.{◌≡◌, ℕ, Option, Some, None, true, refl}
use Rattle.std.specs.Prelude.{is_some, option_map}
use Rattle.live_book.specs.declared.object.Object.{Object}
use Rattle.live_book.specs.declared.object.Object.TheVariants.{Decision}
use Rattle.live_book.specs.Decision.{DecisionFacts}
use Rattle.sysmem_alloc.specs.Book.{BookFacts}
use Rattle.sysmem_alloc.specs.Frozen.{FrozenFacts, frozen_of}
use Rattle.sysmem_alloc.specs.State.{base_of, next_ready}

-- a decision that isn't made yet
abbrev pub begun : FrozenFacts → Object
begun f = Decision (record { frozen = f; claim = None })

pub frozen_some : (o : Option FrozenFacts) (d : Object) → Some d ≡ option_map begun o → (f : FrozenFacts) × ((o ≡ Some f) × (d ≡ begun f))
frozen_some None d is = absurd (cc is)
frozen_some (Some f) d is = (f, (refl, cc is))

none_next : (b : BookFacts) (n : Option ℕ) → n ≡ next_ready b.state → None ≡ option_map begun (option_map (λ r. record { platform = b.platform; tree = b.state.tree; domain = r; base = base_of b.state r }) n) → n ≡ None
none_next b None at is = refl
none_next b (Some r) at is = absurd (cc is)

-- what is frozen is of a domain that waits
some_next : {A B : Type 0} (n : Option ℕ) (f : ℕ → A) (g : A → B) (d : B) → Some d ≡ option_map g (option_map f n) → is_some n ≡ true
some_next None f g d is = absurd (cc is)
some_next (Some r) f g d is = refl

pub frozen_waits : (b : BookFacts) (d : DecisionFacts) → Some d ≡ option_map (λ f. record { frozen = f; claim = None }) (frozen_of b) → is_some (next_ready b.state) ≡ true
frozen_waits b d is = some_next (next_ready b.state) (λ r. record { platform = b.platform; tree = b.state.tree; domain = r; base = base_of b.state r }) (λ f. record { frozen = f; claim = None }) d is

pub frozen_none : (b : BookFacts) → None ≡ option_map begun (frozen_of b) → next_ready b.state ≡ None
frozen_none b is = none_next b (next_ready b.state) refl is
