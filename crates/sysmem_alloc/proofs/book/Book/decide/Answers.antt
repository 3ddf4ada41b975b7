-- See Entering.antt.
use Rattle.std.proofs.Common.{◌≡◌, ◌≤◌, ◌+◌, ◌++◌, ℕ, List, [], ◌∷◌, Option, Some, None, length, drop, refl, sym, ◌∙◌, ap, subst, arith}
use Rattle.std.specs.Arc.{arc_value}
use Rattle.std.specs.List.{remove}
use Rattle.std.specs.Prelude.{IfSome, option_map}
use Rattle.book_events.specs.declared.entry.Entry.TheVariants as entries
use Rattle.sysmem_tree.specs.History.{IsDecidable}
use Rattle.sysmem_tree.specs.Tree.{decided}
use Rattle.sysmem_alloc.specs.Book.{BookFacts, IsBook, entered}
use Rattle.sysmem_alloc.specs.Decision.{Claimed}
use Rattle.sysmem_alloc.specs.Entry.{Decided}
use Rattle.sysmem_alloc.specs.History.{Allows}
use Rattle.sysmem_alloc.specs.Marks.{ready_unmarked}
use Rattle.sysmem_alloc.specs.Sound.{roots_of}
use Rattle.sysmem_alloc.proofs.Entering.{decided_room, decided_shows, may_enter}
use Rattle.sysmem_alloc.proofs.Keeping.{chosen_leads, chosen_room, kept_decided}
use Rattle.sysmem_alloc.proofs.StillThere.{still_by_step}
use Rattle.sysmem_alloc.proofs.book.Book.decide.Goals as goal

if_map : {X Y : Type 0} (f : X → Y) (P : Y → Type 0) (o : Option X) → IfSome o (λ x. P (f x)) → IfSome (option_map f o) P
if_map f P None h = h
if_map f P (Some x) h = h

removed : (xs : List ℕ) → remove xs 0 ≡ drop 1 xs
removed [] = refl
removed (x ∷ xs) = refl

pub add_chosen-requires-clause-chosen : goal.add_chosen-requires-clause-chosen
add_chosen-requires-clause-chosen c =
    let d : Claimed = record { domain = c.args.domain; claim = option_map (λ shared. arc_value shared) c.args.claim } in
    let ok = subst (λ b. Allows b.platform b.state (Decided d)) (sym c.self.view_is) (c.requires.next, if_map (λ shared. arc_value shared) _ c.args.claim c.requires.right) in
    chosen_leads c.legal_is_sound.ensures c.forest_stays.ensures c.one_forest.ensures _ d c.self.invariant.0 ok

pub add_chosen-requires-clause-room : goal.add_chosen-requires-clause-room
add_chosen-requires-clause-room c =
    let d : Claimed = record { domain = c.args.domain; claim = option_map (λ shared. arc_value shared) c.args.claim } in
    let ok = subst (λ b. Allows b.platform b.state (Decided d)) (sym c.self.view_is) (c.requires.next, if_map (λ shared. arc_value shared) _ c.args.claim c.requires.right) in
    let room = chosen_room c.legal_is_sound.ensures c.forest_stays.ensures c.one_forest.ensures _ d c.self.invariant.0 ok c.legal_agrees.ensures c.members_stand_once.ensures in
    let kept = ap length c.self.invariant.6 in
    omega (arith, room, kept, c.self.invariant.5)

pub decide-requires : goal.decide-requires
decide-requires c =
    let d : Claimed = record { domain = c.args.domain; claim = option_map (λ shared. arc_value shared) c.args.claim } in
    let ok = subst (λ b. Allows b.platform b.state (Decided d)) (sym c.self.view_is) (c.requires.next, if_map (λ shared. arc_value shared) _ c.args.claim c.requires.right) in
    subst (IsDecidable c.self.inside.tree c.args.domain) (sym c.choices_of.ensures) (may_enter c.legal_is_sound.ensures c.one_forest.ensures _ d c.self.invariant.0 ok)

pub add_ready-requires : goal.add_ready-requires
add_ready-requires c =
    let d : Claimed = record { domain = c.args.domain; claim = option_map (λ shared. arc_value shared) c.args.claim } in
    let ok = subst (λ b. Allows b.platform b.state (Decided d)) (sym c.self.view_is) (c.requires.next, if_map (λ shared. arc_value shared) _ c.args.claim c.requires.right) in
    let tree = c.decide.ensures ∙ ap (decided c.self.inside.tree c.args.domain) c.choices_of.ensures in
    let room = subst (λ u. length (drop 1 c.self.inside.waiting.items) + length (ready_unmarked u c.ready_domains-were_ready.result 0 (roots_of u)) ≤ 128) (sym tree)
    (decided_room c.legal_is_sound.ensures c.self.inside.platform c.self.inside.tree c.self.inside.history.items c.self.inside.waiting.items c.self.inside.were_open c.ready_domains-were_ready.result d
    c.self.invariant.0 ok c.ready_domains-were_ready.ensures) in
    let long = ap length (c.remove.ensures.items ∙ removed c.self.inside.waiting.items) in
    omega (arith, room, long, c.self.invariant.2, c.remove.ensures.capacity)

pub invariant_of-self : goal.invariant_of-self
invariant_of-self c =
    let d : Claimed = record { domain = c.args.domain; claim = option_map (λ shared. arc_value shared) c.args.claim } in
    let ok = subst (λ b. Allows b.platform b.state (Decided d)) (sym c.self.view_is) (c.requires.next, if_map (λ shared. arc_value shared) _ c.args.claim c.requires.right) in
    let tree = c.decide.ensures ∙ ap (decided c.self.inside.tree c.args.domain) c.choices_of.ensures in
    let grown = c.add_ready.ensures.items
    ∙ ap (λ ys. ys ++ ready_unmarked c.decide.new.self c.ready_domains-were_ready.result 0 (roots_of c.decide.new.self)) (c.remove.ensures.items ∙ removed c.self.inside.waiting.items) in
    let shown = decided_shows c.self.inside.platform c.self.inside.tree c.decide.new.self c.self.inside.history.items c.push_reserved.new.self.items c.self.inside.waiting.items c.add_ready.new.waiting.items
    c.self.inside.were_open c.open_nodes-self-inside.result c.ready_domains-were_ready.result (entries.Decided c.args.domain c.args.claim) d c.self.invariant.0 ok refl (λ nodes. refl) tree
    c.push_reserved.ensures.items c.ready_domains-were_ready.ensures grown c.open_nodes-self-inside.ensures in
    let kept = kept_decided c.legal_is_sound.ensures c.forest_stays.ensures c.one_forest.ensures c.self.inside.platform c.self.inside.tree c.decide.new.self c.self.inside.history.items c.push_reserved.new.self.items
    c.self.inside.waiting.items c.self.inside.were_open (entries.Decided c.args.domain c.args.claim) d c.self.inside.chosen.items c.add_chosen.new.chosen.items c.self.invariant.0 ok refl tree c.push_reserved.ensures.items
    c.self.invariant.6 c.add_chosen.ensures.nodes in (
      shown.book,
      omega (arith, c.self.invariant.1, c.push_reserved.ensures.capacity),
      omega (arith, c.self.invariant.2, c.remove.ensures.capacity, c.add_ready.ensures.reserved),
      c.self.invariant.3,
      c.self.invariant.4,
      omega (arith, c.self.invariant.5, c.add_chosen.ensures.reserved),
      kept,
    )

pub returns-clause-entered : goal.returns-clause-entered
returns-clause-entered c =
    let d : Claimed = record { domain = c.args.domain; claim = option_map (λ shared. arc_value shared) c.args.claim } in
    let ok = subst (λ b. Allows b.platform b.state (Decided d)) (sym c.self.view_is) (c.requires.next, if_map (λ shared. arc_value shared) _ c.args.claim c.requires.right) in
    let tree = c.decide.ensures ∙ ap (decided c.self.inside.tree c.args.domain) c.choices_of.ensures in
    let grown = c.add_ready.ensures.items
    ∙ ap (λ ys. ys ++ ready_unmarked c.decide.new.self c.ready_domains-were_ready.result 0 (roots_of c.decide.new.self)) (c.remove.ensures.items ∙ removed c.self.inside.waiting.items) in
    let shown = decided_shows c.self.inside.platform c.self.inside.tree c.decide.new.self c.self.inside.history.items c.push_reserved.new.self.items c.self.inside.waiting.items c.add_ready.new.waiting.items
    c.self.inside.were_open c.open_nodes-self-inside.result c.ready_domains-were_ready.result (entries.Decided c.args.domain c.args.claim) d c.self.invariant.0 ok refl (λ nodes. refl) tree
    c.push_reserved.ensures.items c.ready_domains-were_ready.ensures grown c.open_nodes-self-inside.ensures in
    shown.is ∙ ap (λ b. entered b (Decided d)) c.self.view_is

pub returns-clause-step : goal.returns-clause-step
returns-clause-step c = record {
  allowed = (c.requires.next, if_map (λ shared. arc_value shared) _ c.args.claim c.requires.right);
  leads = ap (λ (b : BookFacts). b.state) (returns-clause-entered c);
}

pub returns-clause-still : goal.returns-clause-still
returns-clause-still c = still_by_step c.legal_is_sound.ensures c.one_forest.ensures c.numbers_stay.ensures c.args.self.now (Decided (record { domain = c.args.domain; claim = option_map (λ shared. arc_value shared) c.args.claim })) _ (subst IsBook c.self.view_is c.self.invariant.0) (returns-clause-step c)
