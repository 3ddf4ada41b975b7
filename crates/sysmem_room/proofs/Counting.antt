-- What an action adds to the history and to the nodes.
use Rattle.std.proofs.Common.{◌≡◌, ℕ, ◌+◌, List, [], ◌∷◌, ◌++◌, length, Option, Ok, refl, sym, ◌∙◌, ap, arith, length-append}
use Rattle.std.specs.Prelude.{if◌then◌else◌}
use Rattle.std.proofs.lemmas.List.{length-map}
use Rattle.sysmem_tree.specs.declared.action.ActionKind.{ActionKind}
use Rattle.sysmem_tree.specs.declared.action.ActionKind.TheVariants as kinds
use Rattle.sysmem_tree.specs.declared.domain.Domain.{Domain}
use Rattle.sysmem_tree.specs.ActionKind.{Deed, kind_of}
use Rattle.sysmem_tree.specs.Domain.{TreeFacts}
use Rattle.sysmem_tree.specs.Table.{makes_root}
use Rattle.sysmem_tree.specs.Tree.{Applied, applied, domains_after, decided}
use Rattle.sysmem_tree.proofs.CallerLemmas.{accepted}
use Rattle.sysmem_alloc.specs.Book.{BookFacts, entered}
use Rattle.sysmem_alloc.specs.Decision.{Claimed, answer_of, choices_of}
use Rattle.sysmem_alloc.specs.Entry.{BookEntry, Decided}
use Rattle.sysmem_alloc.specs.Sound.{roots_of}
use Rattle.sysmem_alloc.proofs.CallerLemmas.{acted_roots, added, decided_roots}
use Rattle.node_limits.proofs.CallerLemmas.{decided_many}
use Rattle.sysmem_room.specs.Counting.{actions_in, weight}

-- one more entry
pub actions_push : (es : List BookEntry) (e : BookEntry) → actions_in (es ++ e ∷ []) ≡ actions_in es + weight e
actions_push [] e = omega arith
actions_push (x ∷ es) e = let h : actions_in (es ++ e ∷ []) ≡ actions_in es + weight e = actions_push es e in omega (arith, h)

decided_domains : (t : TreeFacts) (r : ℕ) (choices : Option (List ℕ)) → length (decided t r choices).domains ≡ length t.domains
decided_domains t r choices = sym (length-map (decided t r choices).domains (λ (d : Domain). d.root)) ∙ (ap length (decided_roots t r choices) ∙ length-map t.domains (λ (d : Domain). d.root))

added_many : (k : ActionKind) (n : ℕ) → length (added k n) ≡ (if makes_root k then 1 else 0)
added_many kinds.Duplicate n = refl
added_many kinds.CreateGroup n = refl
added_many kinds.Bind n = refl
added_many kinds.CreateChild n = refl
added_many kinds.AllChildrenPresent n = refl
added_many kinds.SetConstraints n = refl
added_many kinds.AttachToken n = refl
added_many kinds.Release n = refl
added_many kinds.Close n = refl

-- an accepted action makes a domain exactly where it makes the root of one
pub roots_grow : (t : TreeFacts) (i : ℕ) (deed : Deed) (after : Applied) → applied t i deed ≡ Ok after → length after.tree.domains ≡ length t.domains + (if makes_root (kind_of deed) then 1 else 0)
roots_grow t i deed after is =
    let (n, a) = accepted t i deed after is in
    let both : length (roots_of t ++ added (kind_of deed) (length t.nodes)) ≡ length (roots_of t) + length (added (kind_of deed) (length t.nodes)) = length-append (roots_of t) (added (kind_of deed) (length t.nodes)) in
    let new : length (domains_after t n (kind_of deed)) ≡ length (roots_of t ++ added (kind_of deed) (length t.nodes)) =
    sym (length-map (domains_after t n (kind_of deed)) (λ (d : Domain). d.root)) ∙ ap length (acted_roots t n (kind_of deed)) in
    let old : length (roots_of t) ≡ length t.domains = length-map t.domains (λ (d : Domain). d.root) in
    let many = added_many (kind_of deed) (length t.nodes) in
    sym (ap (λ (u : TreeFacts). length u.domains) a.tree) ∙ omega (arith, new, both, old, many)

-- a decision is no action, and makes neither a node nor a domain
pub decides : (b new : BookFacts) (c : Claimed) → new ≡ entered b (Decided c)
    → (actions_in new.history ≡ actions_in b.history) × (length new.state.tree.nodes ≡ length b.state.tree.nodes) × (length new.state.tree.domains ≡ length b.state.tree.domains)
decides b new c is =
    let push = actions_push b.history (Decided c) in (
      ap (λ (x : BookFacts). actions_in x.history) is ∙ omega (arith, push),
      ap (λ (x : BookFacts). length x.state.tree.nodes) is ∙ decided_many b.state.tree c.domain (choices_of (answer_of c).verdict),
      ap (λ (x : BookFacts). length x.state.tree.domains) is ∙ decided_domains b.state.tree c.domain (choices_of (answer_of c).verdict),
    )
