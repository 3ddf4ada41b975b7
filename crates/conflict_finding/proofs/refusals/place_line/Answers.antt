-- The place is refused to whom the line names, and to nobody before him.
use Rattle.std.proofs.Common.{◌≡◌, true, Some, sym, subst}
use Rattle.std.proofs.lemmas.List.Elements.{All-contains}
use Rattle.sysmem_memory.specs.PlaceTable.{AllowsPlace, first_refusing, refuses_by}
use Rattle.sysmem_tree.specs.Nodes.{HasNode}
use Rattle.sysmem_tree.specs.Path.{path_of}
use Rattle.verdict_claims.specs.FirstConflict.{IsPlaceLineGiven}
use Rattle.verdict_claims.specs.Members.{members_at}
use Rattle.conflict_finding.proofs.FirstWithout.{first_of_all}
use Rattle.conflict_finding.proofs.FoundConflicts.{one_path}
use Rattle.conflict_finding.proofs.NamedLines.{one_is_refused}
use Rattle.conflict_finding.proofs.refusals.place_line.Goals as goal

pub line_alone-requires-clause-there : goal.line_alone-requires-clause-there
line_alone-requires-clause-there c = All-contains (HasNode c.args.those.now.tree.now.nodes) c.args.those.now.nodes.now c.in-Some.first.node c.args.those.now.there c.in-Some.ensures.there

pub returns-clause-line : goal.returns-clause-line
returns-clause-line c = λ ms stand. subst (IsPlaceLineGiven ms (record { place = c.args.place; heap = c.args.heap.now })) (sym c.in_ok-line.ensures.line) (record {
  refuses = one_is_refused c.args.those.now.tree.now.nodes c.args.those.now.nodes.now ms stand c.args.place c.args.heap.now c.in-Some.first.field c.in-Some.first.node c.in-Some.ensures.there c.in-Some.ensures.refused;
  path = path_of c.args.those.now.tree.now.nodes c.in-Some.first.node;
  alone = one_path c.args.those.now.tree.now.nodes c.in-Some.first.node (λ p. refuses_by c.in-Some.first.field p.memory p.usage c.args.heap.now c.args.place.coherency ≡ true) c.in-Some.ensures.refused;
  first = first_of_all (λ p. AllowsPlace p.memory p.usage c.args.heap.now c.args.place.coherency) (λ p. first_refusing p.memory p.usage c.args.heap.now c.args.place.coherency ≡ Some c.in-Some.first.field)
      (members_at c.args.those.now.tree.now.nodes c.args.those.now.nodes.now) ms (path_of c.args.those.now.tree.now.nodes c.in-Some.first.node) stand c.in-Some.ensures.first;
})
