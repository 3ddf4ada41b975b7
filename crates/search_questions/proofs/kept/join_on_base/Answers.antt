-- Joined where both are of a base.
use Rattle.std.proofs.Common.{subst}
use Rattle.search_questions.specs.Kept.{IsKeptFor, IsPartFor}
use Rattle.search_questions.proofs.Keeping.{joined_base}
use Rattle.search_questions.proofs.kept.join_on_base.Goals as goal

pub returns-in-OnBase-part : goal.returns-in-OnBase-part
returns-in-OnBase-part c = λ m others ps qs old keeps is. joined_base c.in-OnBase.above c.in-OnBase-part.part c.join.result c.join.ensures m.platform m.nodes m.base ps qs
    (subst (λ k. IsKeptFor m k ps) c.in-OnBase.is keeps) (subst (λ k. IsPartFor m k qs) c.in-OnBase-part.is is)
