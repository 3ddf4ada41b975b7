-- One domain after the other.
use Rattle.std.proofs.Common.{◌<◌, ◌≤◌, ◌≡◌, ◌++◌, ◌∷◌, [], ℕ, length, sym, ◌∙◌, ap, arith}
use Rattle.std.specs.Prelude.{is_none}
use Rattle.sysmem_alloc.specs.Sound.{roots_of}
use Rattle.sysmem_alloc.specs.State.{verdict_of}
use Rattle.sysmem_alloc.proofs.CallerLemmas.{many_roots}
use Rattle.sysmem_tree.specs.Domain.{TreeFacts}
use Rattle.sysmem_tree.specs.Path.{path_of}
use Rattle.script_replay.specs.Events.{becomes, events_of, pending}
use Rattle.script_replay.proofs.Walking.{all_added, passes_by, adds_one}
use Rattle.script_replay.proofs.report.add_pending.Goals as goal

many : (t u : TreeFacts) (n : ℕ) → t ≡ u → n ≡ length t.domains → n ≡ length (roots_of u)
many t u n same e = e ∙ (ap (λ (x : TreeFacts). length x.domains) same ∙ sym (many_roots u))

pub loop-index-preserved-in_default : goal.loop-index-preserved-in_default
loop-index-preserved-in_default c =
    let all = many _ c.args.book.now.state.tree _ c.tree-tree.ensures c.domain_count-index-end.ensures.number in
    let less : c.loop-index.index < length (roots_of c.args.book.now.state.tree) = omega (arith, c.loop-index-test.true, all) in
    passes_by (λ r. becomes (path_of c.args.book.now.state.tree.nodes r) pending) (λ r. is_none (verdict_of c.args.book.now.state r)) (roots_of c.args.book.now.state.tree) c.loop-index.index _ _ less
    (sym c.pending_at.ensures.domain ∙ c.in_default.is) c.loop-index.invariant

pub loop-index-preserved : goal.loop-index-preserved
loop-index-preserved c =
    let all = many _ c.args.book.now.state.tree _ c.tree-tree.ensures c.domain_count-index-end.ensures.number in
    let less : c.loop-index.index < length (roots_of c.args.book.now.state.tree) = omega (arith, c.loop-index-test.true, all) in
    adds_one (λ r. becomes (path_of c.args.book.now.state.tree.nodes r) pending) (λ r. is_none (verdict_of c.args.book.now.state r)) (roots_of c.args.book.now.state.tree) c.loop-index.index c.in-Some.domain (events_of c.loop-index.events) (events_of c.add_domain.new.self) _ less
    (sym c.pending_at.ensures.domain ∙ c.in-Some.is) (c.in_ok-add_domain.ensures ∙ ap (λ (t : TreeFacts). events_of c.loop-index.events ++ becomes (path_of t.nodes c.in-Some.domain) pending ∷ []) c.tree-tree.ensures) c.loop-index.invariant

pub returns : goal.returns
returns c =
    let all = many _ c.args.book.now.state.tree _ c.tree-tree.ensures c.domain_count-index-end.ensures.number in
    let past : length (roots_of c.args.book.now.state.tree) ≤ c.loop-index.index = omega (arith, c.loop-index-test.false, all) in
    all_added (λ r. becomes (path_of c.args.book.now.state.tree.nodes r) pending) (λ r. is_none (verdict_of c.args.book.now.state r)) (roots_of c.args.book.now.state.tree) c.loop-index.index _ _ past c.loop-index.invariant
