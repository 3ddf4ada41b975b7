-- One list of numbers behind another.
use Rattle.std.proofs.Common.{◌≡◌, ◌++◌, append-nil, length, sym, ap, ◌∙◌, subst, arith}
use Rattle.verdict_claims.specs.PathList.{AreOfPaths, paths_in}
use Rattle.verdict_claims.proofs.PathLists.{joined, joined_are, short_alone, none_left}
use Rattle.verdict_claims.proofs.path_list.PathList.join.Goals as goal

pub invariant_of-self-2 : goal.invariant_of-self-2
invariant_of-self-2 c = subst AreOfPaths (sym (c.in_ok-extend_from_slice.ensures.ok ∙ ap (λ xs. c.self.inside.numbers.items ++ xs) c.as_slice.ensures))
    (joined_are c.self.inside.numbers.items c.other.inside.numbers.items c.self.invariant c.other.invariant)

pub returns : goal.returns
returns c =
    let a = c.self.inside.numbers.items in
    let b = c.other.inside.numbers.items in
    let none : length c.self.inside.shared.items ≡ 0 = omega (arith, c.if-len-gt0.false, c.len.ensures) in
    let none_there : length c.other.inside.shared.items ≡ 0 = omega (arith, c.if-len-gt0-2.false, c.len-2.ensures) in
    let mine = short_alone a c.self.inside.shared.items c.args.self.now none c.self.view_is in
    let its = short_alone b c.other.inside.shared.items c.args.other.now none_there c.other.view_is in
    ap (λ xs. paths_in xs ++ c.self.inside.shared.items) (c.in_ok-extend_from_slice.ensures.ok ∙ ap (λ xs. a ++ xs) c.as_slice.ensures)
    ∙ (ap (λ ss. paths_in (a ++ b) ++ ss) (none_left c.self.inside.shared.items none) ∙ (append-nil (paths_in (a ++ b))
    ∙ (joined a b c.self.invariant c.other.invariant ∙ (ap (λ ps. ps ++ paths_in b) mine ∙ ap (λ ps. c.args.self.now ++ ps) its))))
