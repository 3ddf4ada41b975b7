-- The numbers are those of the paths.
use Rattle.std.proofs.Common.{◌≡◌, ◌+◌, length, nat_le, sym, ap, ◌∙◌, arith}
use Rattle.std.proofs.lemmas.Bool.{lt-leb}
use Rattle.verdict_claims.specs.PathList.{numbers_of}
use Rattle.verdict_claims.proofs.PathLists.{many_numbers, same_test}
use Rattle.verdict_claims.proofs.path_list.PathList.is_small.Goals as goal

pub returns-in-Some : goal.returns-in-Some
returns-in-Some c =
    let all : length (numbers_of c.args.self.now) ≡ length c.self.inside.numbers.items + length (numbers_of c.self.inside.shared.items) =
    ap (λ ps. length (numbers_of ps)) (sym c.self.view_is) ∙ many_numbers c.self.inside.numbers.items c.self.inside.shared.items c.self.invariant in
    let room : length (numbers_of c.self.inside.shared.items) + c.in-Some.left ≡ 4 = ap (λ ss. length (numbers_of ss) + c.in-Some.left) (sym c.deref.ensures.value) ∙ c.in-Some.ensures.left in
    ap (λ k. nat_le k c.in-Some.left) c.len-in-Some.ensures.value ∙ same_test (length c.self.inside.numbers.items) c.in-Some.left _ 4 (length (numbers_of c.self.inside.shared.items)) all room

pub returns-in-None : goal.returns-in-None
returns-in-None c =
    let all : length (numbers_of c.args.self.now) ≡ length c.self.inside.numbers.items + length (numbers_of c.self.inside.shared.items) =
    ap (λ ps. length (numbers_of ps)) (sym c.self.view_is) ∙ many_numbers c.self.inside.numbers.items c.self.inside.shared.items c.self.invariant in
    let shared : length (numbers_of c.deref.result.now) ≡ length (numbers_of c.self.inside.shared.items) = ap (λ ss. length (numbers_of ss)) c.deref.ensures.value in
    sym (lt-leb _ 4 (omega (arith, all, shared, c.in-None.ensures.none)))
