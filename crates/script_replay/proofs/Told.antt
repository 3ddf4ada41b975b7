-- What is told of a decision.
use Rattle.std.proofs.Common.{◌≡◌, ℕ, ◌++◌, List, Bool, false, Option, Some, None, get_or, sym, ◌∙◌, ap, subst}
use Rattle.std.specs.Prelude.{IfSome, option_map}
use Rattle.sysmem_alloc.specs.Book.{BookFacts, IsBook}
use Rattle.sysmem_alloc.specs.Laws.{LegalIsSound}
use Rattle.sysmem_alloc.specs.State.{State, base_of}
use Rattle.sysmem_alloc.specs.Decision.{verdict_in}
use Rattle.sysmem_image.specs.declared.size.Corner.{Corner}
use Rattle.sysmem_image.specs.Laws.{NoCorner}
use Rattle.verdict_claims.specs.declared.certificate.Claim.{Claim}
use Rattle.verdict_claims.specs.declared.verdict.Verdict.{Verdict}
use Rattle.verdict_claims.specs.declared.verdict.Verdict.TheVariants.{Chosen, IntersectionEmpty, TooMany, Failed, NoMemory}
use Rattle.verdict_claims.specs.Verdict.{IsOptimalIn}
use Rattle.sysmem_tree.specs.Domain.{TreeFacts, IsSoundTree}
use Rattle.script_replay.specs.Deciding.{CanBeTold}
use Rattle.script_replay.specs.Events.{CanBeShown, EventFacts, IsDecidedBy, decided, failed_events, shows}
use Rattle.script_replay.specs.Marks.{AreMarksOf, failed_at}
use Rattle.script_replay.proofs.Corners.{book_corners, chosen_corner}

-- a verdict that is optimal for a domain of a book can be told
pub can_be_told : NoCorner → (b : BookFacts) (r : ℕ) (v : Verdict) → IsBook b → IsOptimalIn b.platform b.state.tree.nodes r (base_of b.state r) v → CanBeTold v
can_be_told none b r (Chosen chosen) is optimal = chosen_corner none b.platform b.state r chosen (book_corners none b is) optimal
can_be_told none b r IntersectionEmpty is optimal = tt
can_be_told none b r TooMany is optimal = tt
can_be_told none b r Failed is optimal = absurd optimal
can_be_told none b r NoMemory is optimal = absurd optimal

-- what is true of the value of what is there is true of what is there
pub if_unmapped : {X Y : Type 0} (f : X → Y) (P : Y → Type 0) (o : Option X) → IfSome (option_map f o) P → IfSome o (λ x. P (f x))
if_unmapped f P None h = h
if_unmapped f P (Some x) h = h

-- a book's tree is sound
pub sound_of : LegalIsSound → (b : BookFacts) → IsBook b → IsSoundTree b.state.tree
sound_of sound b is = subst (λ (s : State). IsSoundTree s.tree) (sym is.replayed) (sound b.platform b.history is.legal).tree

-- marks of a tree that was lent are marks of the tree
pub marked_of : (t u : TreeFacts) (marks : List Bool) → u ≡ t → ((k : ℕ) → get_or marks k false ≡ failed_at u k) → (k : ℕ) → get_or marks k false ≡ failed_at t k
marked_of t u marks same marked k = marked k ∙ ap (λ (x : TreeFacts). failed_at x k) same

-- and so is what failed in it
pub failed_added : (t u : TreeFacts) (marks : List Bool) (before after : List EventFacts) → u ≡ t → ((old : TreeFacts) → AreMarksOf old u marks → after ≡ before ++ failed_events old u)
    → (old : TreeFacts) → AreMarksOf old t marks → after ≡ before ++ failed_events old t
failed_added t u marks before after same put = subst (λ (x : TreeFacts). (old : TreeFacts) → AreMarksOf old x marks → after ≡ before ++ failed_events old x) same put

-- a decision by a claim, however it is held
pub decided_as : (given held : Option Claim) (k : Corner) → held ≡ given → CanBeShown (verdict_in given) k → IsDecidedBy given (decided held k)
decided_as given held k same shown = subst (λ (x : Option Claim). IsDecidedBy given (decided x k)) (sym same) (shows k shown)
