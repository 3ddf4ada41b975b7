-- A level that has more pairs joined has this one.
use Rattle.std.proofs.Common.{arith, ◌+◌, slice_get}
use Rattle.search_questions.specs.declared.levels.Level.{Level}
use Rattle.search_questions.specs.Kept.{HasPairs}
use Rattle.search_questions.proofs.Entering.{some_weaker}
use Rattle.search_questions.proofs.Standing.{fewer_pairs}
use Rattle.search_questions.proofs.asking.join_ahead.Goals as goal

pub returns-clause-stands : goal.returns-clause-stands
returns-clause-stands c m layout cs within few keeps =
    let far = c.min.result in
    let both = c.join_to.ensures.stands m layout cs within (omega (arith, c.min.ensures, few)) keeps in (
      both.0,
      some_weaker (λ (level : Level). HasPairs level.kept far) (λ (level : Level). HasPairs level.kept (c.args.index + 1)) (slice_get c.join_to.new.levels.items c.args.depth)
          (λ level has. fewer_pairs level.kept (c.args.index + 1) far (omega (arith, c.min.ensures, c.saturating_add.ensures, c.requires.within)) has) both.1,
    )
