-- The first path is read, and the others are left.
use Rattle.std.proofs.Common.{◌∷◌, ◌++◌, length, sym, ap, ap₂, ◌∙◌, subst, rules}
use Rattle.verdict_claims.specs.PathList.{AreOfPaths, paths_in}
use Rattle.verdict_claims.proofs.PathLists.{first_and_others, has_steps, others}
use Rattle.verdict_claims.proofs.path_list.PathsIterator.next.Goals as goal

pub split_at-requires : goal.split_at-requires
split_at-requires c = has_steps c.in-Some.many.now c.in-Some.behind.now (subst AreOfPaths c.in-Some.ensures.cases.0 c.self.invariant)

pub invariant_of-self-2 : goal.invariant_of-self-2
invariant_of-self-2 c = subst AreOfPaths (sym c.split_at.ensures.back) (others c.in-Some.many.now c.in-Some.behind.now (subst AreOfPaths c.in-Some.ensures.cases.0 c.self.invariant))

pub returns-clause-steps : goal.returns-clause-steps
returns-clause-steps c =
    let step = ap paths_in c.in-Some.ensures.cases.0
    ∙ (first_and_others c.in-Some.many.now c.in-Some.behind.now (subst AreOfPaths c.in-Some.ensures.cases.0 c.self.invariant)
    ∙ ap₂ ◌∷◌ (sym c.split_at.ensures.front) (ap paths_in (sym c.split_at.ensures.back))) in
    sym c.self.view_is ∙ ap (λ ps. ps ++ c.self.inside.shared.now) step

pub returns-clause-goes : goal.returns-clause-goes
returns-clause-goes c =
    let step = ap paths_in c.in-Some.ensures.cases.0
    ∙ (first_and_others c.in-Some.many.now c.in-Some.behind.now (subst AreOfPaths c.in-Some.ensures.cases.0 c.self.invariant)
    ∙ ap₂ ◌∷◌ (sym c.split_at.ensures.front) (ap paths_in (sym c.split_at.ensures.back))) in
    let shorter = ap length (sym c.self.view_is ∙ ap (λ ps. ps ++ c.self.inside.shared.now) step) in search rules
