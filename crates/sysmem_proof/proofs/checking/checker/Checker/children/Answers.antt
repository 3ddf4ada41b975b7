-- What is told of the numbers is true of the shape.
use Rattle.std.proofs.Common.{◌≡◌, Some, length, sym, ◌∙◌, ap, subst, arith}
use Rattle.std.specs.Prelude.{option_map}
use Rattle.sysmem_tree.specs.Selection.{IsPrefix, after}
use Rattle.sysmem_tree.specs.Shape.{Member}
use Rattle.sysmem_tree.specs.Forest.{Forest, choices}
use Rattle.verdict_claims.specs.Matter.{Matter, forest}
use Rattle.verdict_claims.proofs.Rolls.{prefix_numbers}
use Rattle.sysmem_proof.proofs.Ways.{children_told, few_told}
use Rattle.sysmem_proof.proofs.checking.checker.Checker.children.Goals as goal

pub next_group-requires : goal.next_group-requires
next_group-requires c = (
  _,
  c.self.invariant.3,
  prefix_numbers c.self.inside.tree.now.nodes c.self.inside.domain c.args.prefix.now
      (c.choices_leave_one_forest.ensures c.self.inside.tree.now.nodes c.self.inside.domain c.args.prefix.now)
      (subst (λ (x : Matter). IsPrefix (forest x) c.args.prefix.now) (sym c.self.view_is) c.requires),
)

pub returns-in_err-children : goal.returns-in_err-children
returns-in_err-children c = record {
  number = subst (λ (x : Matter). (d : Forest Member) → after (forest x) c.args.prefix.now ≡ Some d → option_map length (choices d) ≡ c.from_residual.result) c.self.view_is
      (λ d leads. children_told c.self.inside.tree.now.nodes c.self.inside.domain c.args.prefix.now
      (c.choices_leave_one_forest.ensures c.self.inside.tree.now.nodes c.self.inside.domain c.args.prefix.now) _ (c.next_group.ensures.group _ c.self.invariant.3) d leads
      ∙ (ap (option_map (λ g. g.1)) c.in_err-children.was ∙ sym c.from_residual.ensures));
}

pub overflow_cast-result : goal.overflow_cast-result
overflow_cast-result c =
    let few = few_told c.self.inside.tree.now.nodes c.self.inside.domain c.args.prefix.now
    (c.choices_leave_one_forest.ensures c.self.inside.tree.now.nodes c.self.inside.domain c.args.prefix.now) _ (c.next_group.ensures.group _ c.self.invariant.3)
    c.few_children.ensures c.recall_sound.ensures.tree (subst (λ (x : Matter). IsPrefix (forest x) c.args.prefix.now) (sym c.self.view_is) c.requires)
    _ _ c.in_ok-children.was in omega (arith, few)

pub returns : goal.returns
returns c = record {
  number = subst (λ (x : Matter). (d : Forest Member) → after (forest x) c.args.prefix.now ≡ Some d → option_map length (choices d) ≡ Some c.in_ok-children.children) c.self.view_is
      (λ d leads. children_told c.self.inside.tree.now.nodes c.self.inside.domain c.args.prefix.now
      (c.choices_leave_one_forest.ensures c.self.inside.tree.now.nodes c.self.inside.domain c.args.prefix.now) _ (c.next_group.ensures.group _ c.self.invariant.3) d leads
      ∙ ap (option_map (λ g. g.1)) c.in_ok-children.was);
}
