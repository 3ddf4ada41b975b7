-- One node of a walk.
use Rattle.std.proofs.Common.{◌≡◌, ℕ, List, ◌∷◌, sym, subst, arith}
use Rattle.sysmem_tree.specs.Nodes.{HasNode}
use Rattle.sysmem_tree.specs.OpenGroups.{HasLeft}
use Rattle.sysmem_tree.proofs.layouts.GroupWalks.{place_there}
use Rattle.sysmem_tree.proofs.layouts.Shares.{ends, walk_within, walks_on}
use Rattle.sysmem_tree.proofs.layout.Layout.next_settled.Goals as goal

pub returns-then-walk-clause-next : goal.returns-then-walk-clause-next
returns-then-walk-clause-next c = λ ns g.
    let none = ends c.args.self.now.places c.args.walk.now.at c.args.walk.now.end ns (omega (arith, c.if-walk.true)) g in
    (none, subst (HasLeft c.args.self.now c.args.walk.now) none g)

pub bounds-self-walk : goal.bounds-self-walk
bounds-self-walk c = let (ns, g) = c.requires in
    let less = walk_within c.args.self.now.places c.args.walk.now.at c.args.walk.now.end ns (omega (arith, c.if-walk.false)) g in omega (arith, less)

pub offset_bounds-self-walk : goal.offset_bounds-self-walk
offset_bounds-self-walk c = let (ns, g) = c.requires in
    let less = walk_within c.args.self.now.places c.args.walk.now.at c.args.walk.now.end ns (omega (arith, c.if-walk.false)) g in omega (arith, less)

pub past-walk-requires : goal.past-walk-requires
past-walk-requires c = let (ns, g) = c.requires in
    let less = walk_within c.args.self.now.places c.args.walk.now.at c.args.walk.now.end ns (omega (arith, c.if-walk.false)) g in omega (arith, less)

pub returns-clause-next : goal.returns-clause-next
returns-clause-next c = λ ns g.
    subst (λ n. (rest : List ℕ) × (ns ≡ n ∷ rest) × HasLeft c.args.self.now (record { at = c.past-walk.result; end = c.args.walk.now.end }) rest) (sym c.from.ensures)
    (walks_on c.args.self.now.places c.args.walk.now.at c.args.walk.now.end _ ns c.past-walk.result (omega (arith, c.if-walk.false)) g c.past-walk.ensures)

pub returns-clause-there : goal.returns-clause-there
returns-clause-there c = λ nodes holds. let (ns, g) = c.requires in
    let less = walk_within c.args.self.now.places c.args.walk.now.at c.args.walk.now.end ns (omega (arith, c.if-walk.false)) g in
    subst (HasNode nodes) (sym c.from.ensures) (place_there c.args.self.now.places c.args.walk.now.at _ _ (omega (arith, less)) (omega arith) holds)
