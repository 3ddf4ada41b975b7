-- The tree's participants are those that are settled.
use Rattle.std.proofs.Common.{◌≡◌, [], ◌∙◌, ap, sym, subst}
use Rattle.sysmem_tree.specs.Members.{IsChosenIn}
use Rattle.sysmem_tree.specs.Selection.{IsPrefix}
use Rattle.sysmem_tree.specs.Shape.{by_number, forest_of, participants_of}
use Rattle.conflict_finding.specs.Found.{AreSettledAt}
use Rattle.verdict_claims.proofs.Rolls.{prefix_numbers}
use Rattle.conflict_finding.proofs.FoundNodes.{if_ok, settled_found}
use Rattle.conflict_finding.proofs.finder.settled_at.Goals as goal

pub participants_in-requires-clause-domain : goal.participants_in-requires-clause-domain
participants_in-requires-clause-domain c = (
  c.args.domain,
  record {
    there = c.requires.domain;
    lays = c.requires.lays;
    prefix = subst (IsPrefix (forest_of by_number c.args.tree.now.nodes c.args.domain [])) (sym c.choices.ensures)
        (prefix_numbers c.args.tree.now.nodes c.args.domain c.args.prefix.now (c.choices_leave_one_forest.ensures c.args.tree.now.nodes c.args.domain c.args.prefix.now) c.requires.prefix);
  },
)

pub returns : goal.returns
returns c = λ d accepted leads elsewhere once.
    let chosen : IsChosenIn c.args.tree.now.nodes c.args.layout.now c.choices.result.now c.args.domain = record {
      there = c.requires.domain;
      lays = c.requires.lays;
      prefix = subst (IsPrefix (forest_of by_number c.args.tree.now.nodes c.args.domain [])) (sym c.choices.ensures)
          (prefix_numbers c.args.tree.now.nodes c.args.domain c.args.prefix.now (c.choices_leave_one_forest.ensures c.args.tree.now.nodes c.args.domain c.args.prefix.now) c.requires.prefix);
    } in
    if_ok c.participants_in.result (λ found. found.items ≡ participants_of c.args.tree.now.nodes c.args.domain c.choices.result.now) (λ found. AreSettledAt c.args.tree.now.nodes d accepted found.items)
    (λ found is. settled_found c.args.tree.now.nodes c.recall_sound.ensures.tree c.one_path.ensures c.args.domain c.requires.domain (c.one_forest.ensures c.args.tree.now.nodes c.args.domain) c.args.prefix.now
    (c.members_stand_once.ensures c.args.tree.now.nodes c.args.domain c.args.prefix.now c.recall_sound.ensures.tree c.requires.domain) accepted elsewhere once d leads found.items
    (is ∙ ap (participants_of c.args.tree.now.nodes c.args.domain) c.choices.ensures)) (c.participants_in.ensures.nodes c.args.domain chosen)
