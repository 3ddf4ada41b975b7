-- See Entering.antt.
use Rattle.std.proofs.Common.{◌≡◌, ◌≢◌, ◌==◌, ℕ, false, List, [], ◌∷◌, length, refl, sym, ◌∙◌, ap, subst, arith}
use Rattle.std.proofs.lemmas.Bool.{ne_eqb}
use Rattle.std.specs.Vec.{vec_len}
use Rattle.std.specs.List.{filter_map}
use Rattle.std.specs.Prelude.{IsOk, Ok, Err, Result, OnErr}
use Rattle.sysmem_alloc.specs.Book.{BookFacts, IsBook, entered, kept_book}
use Rattle.sysmem_alloc.specs.Entry.{Acted, decision_in}
use Rattle.sysmem_alloc.specs.State.{chosen_in}
use Rattle.sysmem_tree.specs.ActionKind.{deed_of}
use Rattle.sysmem_tree.specs.Domain.{TreeFacts}
use Rattle.sysmem_tree.specs.Laws.{AreStill}
use Rattle.sysmem_tree.specs.Tree.{applied}
use Rattle.sysmem_alloc.proofs.Entering.{acted_room, acted_shows}
use Rattle.sysmem_alloc.proofs.Keeping.{kept_acted}
use Rattle.sysmem_alloc.proofs.Newly.{still_domain}
use Rattle.sysmem_alloc.proofs.StillThere.{still_by_step, still_now}
use Rattle.sysmem_alloc.proofs.book.Book.apply.Goals as goal

on_err : {A E P : Type 0} (r : Result A E) → P → OnErr r P
on_err (Ok x) p = tt
on_err (Err e) p = p

not_none : (ws : List ℕ) → ws ≢ [] → (length ws == 0) ≡ false
not_none [] n = absurd (n refl)
not_none (w ∷ ws) n = ne_eqb (length (w ∷ ws)) 0 (λ e. omega (arith, e))

pub invariant_of-self : goal.invariant_of-self
invariant_of-self c =
    let same = c.in_err-node.ensures.unchanged in (
      subst (λ t. IsBook (kept_book c.self.inside.platform t c.self.inside.history.items c.self.inside.waiting.items c.self.inside.were_open)) (sym same) c.self.invariant.0,
      c.self.invariant.1,
      c.self.invariant.2,
      c.self.invariant.3,
      c.self.invariant.4,
      c.self.invariant.5,
      subst (λ (t : TreeFacts). c.self.inside.chosen.items ≡ chosen_in t.nodes (filter_map decision_in c.self.inside.history.items)) (sym same) c.self.invariant.6,
    )

pub returns-in_err-node-clause-unchanged : goal.returns-in_err-node-clause-unchanged
returns-in_err-node-clause-unchanged c =
    on_err c.from_residual.result (ap (λ t. kept_book c.self.inside.platform t c.self.inside.history.items c.self.inside.waiting.items c.self.inside.were_open) c.in_err-node.ensures.unchanged ∙ c.self.view_is)

pub add_if_ready-requires-clause-room : goal.add_if_ready-requires-clause-room
add_if_ready-requires-clause-room c =
    let room = acted_room c.legal_is_sound.ensures c.self.inside.platform c.self.inside.tree c.self.inside.history.items c.self.inside.waiting.items c.self.inside.were_open c.args.event.node c.kind-kind.result
    (deed_of c.args.event.action) _ c.can_make_ready-unready.result c.self.invariant.0 c.in_ok-node.ensures.accepted c.kind-kind.ensures c.can_make_ready-unready.ensures.domain in
    omega (arith, room, c.self.invariant.2)

pub add_if_ready-requires-clause-there : goal.add_if_ready-requires-clause-there
add_if_ready-requires-clause-there c =
    still_domain c.self.inside.tree c.args.event.node (deed_of c.args.event.action) _ c.can_make_ready-unready.result c.in_ok-node.ensures.accepted c.can_make_ready-unready.ensures.there

pub invariant_of-self-2 : goal.invariant_of-self-2
invariant_of-self-2 c =
    let len : vec_len c.self.inside.waiting ≡ length c.self.inside.waiting.items = omega (arith, c.self.inside.waiting.ok) in
    let shown = acted_shows c.legal_is_sound.ensures c.forest_stays.ensures c.one_forest.ensures c.self.inside.platform c.self.inside.tree c.self.inside.history.items c.enter_action.new.history.items
    c.self.inside.waiting.items c.add_if_ready.new.waiting.items c.self.inside.were_open c.mark_for_first.new.were_open c.args.event.node c.kind-kind.result (deed_of c.args.event.action) _
    c.can_make_ready-unready.result c.self.invariant.0 c.in_ok-node.ensures.accepted c.kind-kind.ensures c.can_make_ready-unready.ensures.domain c.enter_action.ensures.items c.add_if_ready.ensures.items
    (λ none some. c.mark_for_first.ensures.open (c.is_empty-none_waited.ensures ∙ (ap (λ n. n == 0) len ∙ ap (λ (ws : List ℕ). length ws == 0) none)) (λ e. some (sym c.deref.ensures.value ∙ e))) (λ n. c.mark_for_first.ensures.kept (c.is_empty-none_waited.ensures ∙ (ap (λ n. n == 0) len ∙ not_none _ n))) in
    let kept = kept_acted c.legal_is_sound.ensures c.forest_stays.ensures c.one_forest.ensures c.self.inside.platform c.self.inside.tree c.self.inside.history.items c.enter_action.new.history.items c.self.inside.waiting.items
    c.self.inside.were_open c.args.event.node c.kind-kind.result (deed_of c.args.event.action) _ c.self.inside.chosen.items c.self.invariant.0 c.in_ok-node.ensures.accepted c.enter_action.ensures.items c.self.invariant.6 in
    (shown.book, omega (arith, c.self.invariant.1, c.enter_action.ensures.capacity), omega (arith, c.self.invariant.2, c.add_if_ready.ensures.reserved), c.self.invariant.3, c.self.invariant.4, c.self.invariant.5, kept)

pub returns-clause-entered : goal.returns-clause-entered
returns-clause-entered c =
    let len : vec_len c.self.inside.waiting ≡ length c.self.inside.waiting.items = omega (arith, c.self.inside.waiting.ok) in
    let shown = acted_shows c.legal_is_sound.ensures c.forest_stays.ensures c.one_forest.ensures c.self.inside.platform c.self.inside.tree c.self.inside.history.items c.enter_action.new.history.items
    c.self.inside.waiting.items c.add_if_ready.new.waiting.items c.self.inside.were_open c.mark_for_first.new.were_open c.args.event.node c.kind-kind.result (deed_of c.args.event.action) _
    c.can_make_ready-unready.result c.self.invariant.0 c.in_ok-node.ensures.accepted c.kind-kind.ensures c.can_make_ready-unready.ensures.domain c.enter_action.ensures.items c.add_if_ready.ensures.items
    (λ none some. c.mark_for_first.ensures.open (c.is_empty-none_waited.ensures ∙ (ap (λ n. n == 0) len ∙ ap (λ (ws : List ℕ). length ws == 0) none)) (λ e. some (sym c.deref.ensures.value ∙ e))) (λ n. c.mark_for_first.ensures.kept (c.is_empty-none_waited.ensures ∙ (ap (λ n. n == 0) len ∙ not_none _ n))) in
    shown.is ∙ ap (λ b. entered b (Acted c.args.event.node (deed_of c.args.event.action))) c.self.view_is

pub returns-clause-step : goal.returns-clause-step
returns-clause-step c = record {
  allowed = subst (λ (b : BookFacts). IsOk (applied b.state.tree c.args.event.node (deed_of c.args.event.action))) c.self.view_is (subst IsOk (sym c.in_ok-node.ensures.accepted) refl);
  leads = ap (λ (b : BookFacts). b.state) (returns-clause-entered c);
}

pub returns-clause-still : goal.returns-clause-still
returns-clause-still c = still_by_step c.legal_is_sound.ensures c.one_forest.ensures c.numbers_stay.ensures c.args.self.now (Acted c.args.event.node (deed_of c.args.event.action)) _ (subst IsBook c.self.view_is c.self.invariant.0) (returns-clause-step c)

pub returns-in_err-node-clause-still : goal.returns-in_err-node-clause-still
returns-in_err-node-clause-still c =
    subst (λ (b : BookFacts). AreStill c.args.self.now.state.tree.nodes b.state.tree.nodes)
    (sym (ap (λ t. kept_book c.self.inside.platform t c.self.inside.history.items c.self.inside.waiting.items c.self.inside.were_open) c.in_err-node.ensures.unchanged ∙ c.self.view_is)) (still_now c.args.self.now.state.tree.nodes)
