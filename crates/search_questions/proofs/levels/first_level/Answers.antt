-- Nothing behind what no choice settles.
use Rattle.std.proofs.Common.{[], length, refl, sym, subst, arith}
use Rattle.std.proofs.lemmas.List.Sorted.{IsPermutation-refl}
use Rattle.negotiation_inputs.specs.Platform.{PlatformFacts}
use Rattle.search_questions.specs.Kept.{HasPairs, IsKeptFor}
use Rattle.search_questions.specs.Standing.{numbers}
use Rattle.verdict_claims.specs.Asked.{asked_in}
use Rattle.verdict_claims.specs.Matter.{forest}
use Rattle.search_questions.proofs.AskedMembers.{root_there, same_asked}
use Rattle.search_questions.proofs.Keeping.{have_room}
use Rattle.search_questions.proofs.Shapes.{few_settled}
use Rattle.search_questions.proofs.Taking.{few_asked_of}
use Rattle.search_questions.proofs.Walking.{few_accepted}
use Rattle.sysmem_tree.specs.Forest.{settled}
use Rattle.search_questions.proofs.levels.first_level.Goals as goal

pub add_settled-requires-clause-few : goal.add_settled-requires-clause-few
add_settled-requires-clause-few c =
    let m = c.args.subject.now in
    let d = numbers m in (
      settled d,
      c.settled_first-walk.ensures d c.requires.lays,
      few_settled m.nodes m.domain [] d c.recall.ensures.tree (root_there m.nodes m.domain c.recall.ensures.domain) refl,
    )

pub join_of-requires : goal.join_of-requires
join_of-requires c =
    let m = c.args.subject.now in
    let d = numbers m in
    let few = few_settled m.nodes m.domain [] d c.recall.ensures.tree (root_there m.nodes m.domain c.recall.ensures.domain) refl in
    have_room m.platform m.nodes m.base c.in_ok-none.none c.add_settled.new.part [] (asked_in m.nodes (settled d)) c.in_ok-none.ensures.kept
    (c.add_settled.ensures (settled d) (c.settled_first-walk.ensures d c.requires.lays)) (few_accepted m.platform m.nodes m.domain m.base c.recall.ensures.tree.few c.recall.ensures.base)
    (omega arith) (omega (arith, few, few_asked_of m.nodes (settled d)))

pub returns-clause-level : goal.returns-clause-level
returns-clause-level c =
    let m = c.args.subject.now in
    let d = numbers m in
    let part = c.add_settled.ensures (settled d) (c.settled_first-walk.ensures d c.requires.lays) in
    let asked = asked_in m.nodes (settled d) in
    let joined = c.join_of.ensures [] [] asked c.in_ok-kept.ensures.kept c.in_ok-none.ensures.kept part in
    let has = subst (λ xs. HasPairs c.in_ok-none.none (length xs)) (sym c.pairs.ensures.pairs)
    (subst (λ (p : PlatformFacts). HasPairs c.in_ok-none.none (length p.pairs)) (sym c.platform.ensures) c.in_ok-none.ensures.whole) in
    record {
      left = forest m;
      leads = refl;
      kept = subst (IsKeptFor m c.join_pairs.new.self) (same_asked m.nodes m.domain [] d (forest m) refl refl)
          (c.join_pairs.ensures m asked [] asked (IsPermutation-refl asked) has joined c.in_ok-none.ensures.kept part).0;
      group = c.first_open-group.ensures d c.requires.lays;
    }

pub returns-clause-whole : goal.returns-clause-whole
returns-clause-whole c =
    let m = c.args.subject.now in
    let d = numbers m in
    let part = c.add_settled.ensures (settled d) (c.settled_first-walk.ensures d c.requires.lays) in
    let asked = asked_in m.nodes (settled d) in
    let joined = c.join_of.ensures [] [] asked c.in_ok-kept.ensures.kept c.in_ok-none.ensures.kept part in
    let has = subst (λ xs. HasPairs c.in_ok-none.none (length xs)) (sym c.pairs.ensures.pairs)
    (subst (λ (p : PlatformFacts). HasPairs c.in_ok-none.none (length p.pairs)) (sym c.platform.ensures) c.in_ok-none.ensures.whole) in
    subst (λ (p : PlatformFacts). HasPairs c.join_pairs.new.self (length p.pairs)) c.platform.ensures
    (subst (λ xs. HasPairs c.join_pairs.new.self (length xs)) c.pairs.ensures.pairs
    (c.join_pairs.ensures m asked [] asked (IsPermutation-refl asked) has joined c.in_ok-none.ensures.kept part).1)
