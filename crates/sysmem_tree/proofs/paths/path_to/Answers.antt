use Rattle.std.proofs.Common.{◌∷◌, [], ℕ, length, Some, refl, sym, ◌∙◌, ap, arith}
use Rattle.std.specs.Prelude.{reverse}
use Rattle.std.proofs.lemmas.List.{reverse-append}
use Rattle.std.proofs.lemmas.Option.{slice_get_read}
use Rattle.sysmem_tree.specs.Path.{led_to}
use Rattle.sysmem_tree.proofs.nodes.Kids.{parent_of}
use Rattle.sysmem_tree.proofs.nodes.Leading.{led_up}
use Rattle.sysmem_tree.proofs.steps.Steps.{path_is}
use Rattle.sysmem_tree.proofs.nodes.Ways.{one_path, root_alone}
use Rattle.sysmem_tree.proofs.paths.path_to.Goals as goal

pub loop-birth-smaller : goal.loop-birth-smaller
loop-birth-smaller c =
    let here = slice_get_read c.args.nodes.now (length c.args.nodes.now) c.loop-birth.number c.index-nodes-number.result refl c.loop-birth.invariant.0 c.index-nodes-number.is in
    parent_of c.args.nodes.now c.requires.tree c.loop-birth.number c.index-nodes-number.result c.in-Some.birth here (sym c.birth.ensures ∙ c.in-Some.is)

pub loop-birth-preserved : goal.loop-birth-preserved
loop-birth-preserved c =
    let here = slice_get_read c.args.nodes.now (length c.args.nodes.now) c.loop-birth.number c.index-nodes-number.result refl c.loop-birth.invariant.0 c.index-nodes-number.is in
    let is = sym c.birth.ensures ∙ c.in-Some.is in
    let older = parent_of c.args.nodes.now c.requires.tree c.loop-birth.number c.index-nodes-number.result c.in-Some.birth here is in
    let turned = ap reverse c.in_ok-push.ensures.items ∙ reverse-append c.loop-birth.path.items (c.in-Some.birth.ordinal ∷ []) in (
      omega (arith, older, c.loop-birth.invariant.0),
      ap (led_to c.args.nodes.now c.in-Some.birth.parent) turned
          ∙ led_up c.args.nodes.now c.loop-birth.number c.index-nodes-number.result c.in-Some.birth (reverse c.loop-birth.path.items) (Some c.args.node) c.requires.tree here is c.loop-birth.invariant.1,
    )

pub returns-clause-leads : goal.returns-clause-leads
returns-clause-leads c =
    let here = slice_get_read c.args.nodes.now (length c.args.nodes.now) c.loop-birth.number c.index-nodes-number.result refl c.loop-birth.invariant.0 c.index-nodes-number.is in
    let root = root_alone c.args.nodes.now c.loop-birth.number c.index-nodes-number.result c.requires.tree here (sym c.birth.ensures ∙ c.in_default.is) in
    ap (led_to c.args.nodes.now 0) c.reverse.ensures.items ∙ (ap (λ (k : ℕ). led_to c.args.nodes.now k (reverse c.loop-birth.path.items)) (sym root) ∙ c.loop-birth.invariant.1)

pub returns-clause-only : goal.returns-clause-only
returns-clause-only c other is = one_path c.args.nodes.now other c.reverse.new.self.items c.args.node c.requires.tree is (returns-clause-leads c)

pub returns-clause-path : goal.returns-clause-path
returns-clause-path c = sym (path_is c.args.nodes.now c.requires.tree c.reverse.new.self.items c.args.node (returns-clause-leads c))
