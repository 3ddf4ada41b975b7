-- The other list has shared paths alone.
use Rattle.std.proofs.Common.{◌≡◌, ◌++◌, [], OnOk, sym, ap, ◌∙◌, subst, arith}
use Rattle.verdict_claims.specs.PathList.{paths_in}
use Rattle.verdict_claims.proofs.PathLists.{none_left}
use Rattle.verdict_claims.proofs.path_list.PathList.join_long.Goals as goal

pub returns : goal.returns
returns c =
    let none : c.other.inside.numbers.items ≡ [] = none_left c.other.inside.numbers.items (omega (arith, c.if-len-gt0.false, c.len.ensures.value)) in
    subst (λ ps. OnOk c.share_all.result (c.share_all.new.self ≡ c.args.self.now ++ ps)) (c.deref.ensures.value ∙ (ap (λ ns. paths_in ns ++ c.other.inside.shared.items) (sym none) ∙ c.other.view_is)) c.share_all.ensures
