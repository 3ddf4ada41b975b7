-- See Fitting.antt and Keeping.antt.
use Rattle.std.proofs.Common.{◌≡◌, ◌↔◌, ℕ, IsTrue, List, ◌∙◌, ap, subst, sym}
use Rattle.std.specs.Prelude.{All}
use Rattle.verdict_claims.specs.Members.{members_at}
use Rattle.sysmem_tree.specs.Nodes.{HasNode}
use Rattle.sysmem_alloc.specs.Book.{BookFacts}
use Rattle.sysmem_alloc.specs.State.{next_ready}
use Rattle.sysmem_alloc.proofs.Fitting.{kept_accepted}
use Rattle.sysmem_alloc.proofs.Keeping.{chosen_there}
use Rattle.sysmem_alloc.proofs.book.Book.accepts_same.Goals as goal

pub accept_same-requires-clause-own_there : goal.accept_same-requires-clause-own_there
accept_same-requires-clause-own_there c = subst (All (HasNode c.self.inside.tree.nodes)) (sym (c.deref.ensures.value ∙ c.self.invariant.6)) (chosen_there c.legal_is_sound.ensures c.members_stand_once.ensures _ c.self.invariant.0)

pub returns : goal.returns
returns c =
    let first = ap (λ (b : BookFacts). next_ready b.state) c.self.view_is ∙ c.requires.next in
    let kept = kept_accepted c.self.inside.platform c.self.inside.tree c.self.inside.history.items c.self.inside.waiting.items c.self.inside.were_open c.deref.result.now c.args.domain first (c.deref.ensures.value ∙ c.self.invariant.6) in
    subst (λ (b : BookFacts). IsTrue c.accept_same.result ↔ (members_at b.state.tree.nodes b.state.accepted ≡ members_at c.args.others.now.nodes c.args.accepted.now)) c.self.view_is
    (subst (λ (ns : List ℕ). IsTrue c.accept_same.result ↔ (members_at c.self.inside.tree.nodes ns ≡ members_at c.args.others.now.nodes c.args.accepted.now)) kept c.accept_same.ensures)
