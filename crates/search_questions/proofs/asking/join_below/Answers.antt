-- The level below stands first in the back part.
use Rattle.std.proofs.Common.{◌≡◌, ◌++◌, sym, ◌∙◌, ap, subst, slice_index_or, length, arith}
use Rattle.search_questions.specs.Asking.{JoinsPairs}
use Rattle.search_questions.specs.declared.levels.Level.{Level}
use Rattle.search_questions.proofs.Entering.{and_there}
use Rattle.search_questions.proofs.Standing.{in_back, in_front, written_back}
use Rattle.search_questions.proofs.asking.join_below.Goals as goal

pub returns-clause-joined : goal.returns-clause-joined
returns-clause-joined c = λ above old above_is old_is.
    let front = c.split_at_mut-above.result.0.now in
    let back = c.split_at_mut-above.result.1.now in
    let whole : front ++ back ≡ c.args.levels.now.items = sym c.split_at_mut-above.ensures.value ∙ c.deref_mut.ensures.value in
    let above_here : c.index-above-depth.result ≡ above = in_front front back c.args.levels.now.items c.args.depth c.index-above-depth.result above whole c.split_at_mut-above.ensures.front_len c.index-above-depth.is above_is in
    let old_here : c.index-below-0.result ≡ old = in_back front back c.args.levels.now.items c.args.depth c.index-below-0.result old whole c.split_at_mut-above.ensures.front_len c.index-below-0.is old_is in
    and_there (λ (level : Level). (level.group ≡ old.group) × (level.slot ≡ old.slot) × JoinsPairs above.kept c.args.part.now c.args.pairs old.kept level.kept) _
    (record { group = (slice_index_or back 0 c.index-below-0.result).group; kept = c.join_pairs.new.self; slot = (slice_index_or back 0 c.index-below-0.result).slot })
    (written_back front back _ c.args.levels.now.len c.args.depth
    (record { group = (slice_index_or back 0 c.index-below-0.result).group; kept = c.join_pairs.new.self; slot = (slice_index_or back 0 c.index-below-0.result).slot })
    c.split_at_mut-above.ensures.front_len (omega (arith, c.requires.there, c.args.levels.now.ok))
    (omega (arith, c.requires.there, c.split_at_mut-above.ensures.back_len, ap length c.deref_mut.ensures.value))) (
      ap (λ (l : Level). l.group) (sym c.index-below-0.is ∙ old_here),
      ap (λ (l : Level). l.slot) (sym c.index-below-0.is ∙ old_here),
      subst (λ (a : Level). JoinsPairs a.kept c.args.part.now c.args.pairs old.kept c.join_pairs.new.self) (sym c.index-above-depth.is ∙ above_here)
          (subst (λ (o : Level). JoinsPairs (slice_index_or front c.args.depth c.index-above-depth.result).kept c.args.part.now c.args.pairs o.kept c.join_pairs.new.self)
          (sym c.index-below-0.is ∙ old_here) c.join_pairs.ensures),
    )
