use Rattle.std.proofs.Common.{arith, inl, inr, ◌++◌, refl}
use Rattle.std.proofs.lemmas.Option.{slice_get-get_or, slice_get_read}
use Rattle.sysmem_merge.proofs.PairLists.{one_joined}
use Rattle.sysmem_merge.proofs.pairs.join_at.Goals as goal

pub returns-then-index-kept : goal.returns-then-index-kept
returns-then-index-kept c pairs low ds es lies was above more =
    absurd (elim c.then-index-kept.either as (λ _. ⊥) [
      | inl past ↦ omega (arith, past, was.many, above.within)
      | inr other ↦ elim other as (λ _. ⊥) [
        | inl past ↦ omega (arith, past, above.many, above.within)
        | inr past ↦ omega (arith, past, more.many, above.within)
      ]
    ])

pub returns : goal.returns
returns c pairs low ds es lies was above more =
    let i = c.args.index in
    let first = slice_get_read c.args.above.now _ i c.index-above-index.result refl (omega arith) c.index-above-index.is in
    let second = slice_get_read c.args.more.now _ i c.index-more-index.result refl (omega arith) c.index-more-index.is in
    one_joined low i pairs (ds ++ es) c.args.kept.now _ c.join_of.new.self (omega (arith, above.within))
    (slice_get-get_or c.args.kept.now i c.index-kept-index.result (omega arith))
    (λ pair others there one. c.join_of.ensures pair others ds es one (above.these i pair c.index-above-index.result lies (omega arith) there first) (more.each i pair c.index-more-index.result there second))
    was
