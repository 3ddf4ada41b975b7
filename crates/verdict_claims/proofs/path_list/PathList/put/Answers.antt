-- One path more.
use Rattle.std.proofs.Common.{◌≡◌, ◌++◌, ◌∷◌, [], append-nil, sym, ap, ◌∙◌, subst, arith}
use Rattle.verdict_claims.specs.PathList.{AreOfPaths, paths_in}
use Rattle.verdict_claims.proofs.PathLists.{added, added_are, none_left, where_ok}
use Rattle.verdict_claims.proofs.path_list.PathList.put.Goals as goal

pub invariant_of-self-else-is_err : goal.invariant_of-self-else-is_err
invariant_of-self-else-is_err c = subst AreOfPaths
    (sym (where_ok _ (sym c.is_err.ensures.value ∙ c.if-is_err.false) c.extend_from_slice.ensures.ok ∙ ap (λ xs. xs ++ c.args.ordinals.now) c.in_ok-push.ensures.ok))
    (added_are c.self.inside.numbers.items c.args.ordinals.now c.self.invariant)

pub returns-clause-ok : goal.returns-clause-ok
returns-clause-ok c =
    let none : c.self.inside.shared.items ≡ [] = none_left c.self.inside.shared.items (omega (arith, c.if-len-gt0.false, c.len.ensures)) in
    ap (λ xs. paths_in xs ++ c.self.inside.shared.items) (where_ok _ (sym c.is_err.ensures.value ∙ c.if-is_err.false) c.extend_from_slice.ensures.ok ∙ ap (λ xs. xs ++ c.args.ordinals.now) c.in_ok-push.ensures.ok)
    ∙ (ap (λ ps. ps ++ c.self.inside.shared.items) (added c.self.inside.numbers.items c.args.ordinals.now c.self.invariant)
    ∙ (ap (λ ss. (paths_in c.self.inside.numbers.items ++ c.args.ordinals.now ∷ []) ++ ss) none
    ∙ (append-nil (paths_in c.self.inside.numbers.items ++ c.args.ordinals.now ∷ [])
    ∙ ap (λ ps. ps ++ c.args.ordinals.now ∷ []) (sym (append-nil (paths_in c.self.inside.numbers.items)) ∙ (ap (λ ss. paths_in c.self.inside.numbers.items ++ ss) (sym none) ∙ c.self.view_is)))))
