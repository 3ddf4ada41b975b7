use Rattle.std.proofs.Common.{arith, ℕ, ◌≡◌, ◌≤◌, ◌++◌, false, length, sym, ◌∙◌, subst}
use Rattle.std.proofs.lemmas.List.{map-append}
use Rattle.std.proofs.lemmas.List.Sorted.{IsPermutation-map, IsPermutation-sym}
use Rattle.sysmem_merge.specs.Demands.{offer_demand, offer_demands}
use Rattle.sysmem_merge.specs.Pairs.{ArePairsJoined, ArePairsKept}
use Rattle.sysmem_merge.specs.Sum.{HasNoImage, IsWhole, SumFacts, SumsUp}
use Rattle.sysmem_merge.proofs.Adding.{all_written}
use Rattle.sysmem_merge.proofs.AnyOrder.{joined_in_order}
use Rattle.sysmem_merge.proofs.PairLists.{all_joined, joined_within}
use Rattle.sysmem_merge.proofs.Passed.{none_further, none_more}
use Rattle.sysmem_merge.proofs.Summing.{sums_with}
use Rattle.sysmem_merge.proofs.sum.Sum.join_pairs.Goals as goal

pub returns-clause-sums : goal.returns-clause-sums
returns-clause-sums c platform all ps qs order within was above share =
    let ds = offer_demands ps in
    let es = offer_demands qs in
    let back = IsPermutation-map offer_demand all (ps ++ qs) (IsPermutation-sym (ps ++ qs) all order) in
    let low = c.max-self-inside.result in
    let from = c.min-from.result in
    let old = subst (λ (s : SumFacts). SumsUp s platform all) (sym c.self.view_is) was in
    let first = subst (λ (s : SumFacts). SumsUp s platform ps) (sym c.above.view_is) above in
    let same = sym (c.more.view_is ∙ c.sum-more.ensures) in
    let second = subst (λ (s : SumFacts). SumsUp s platform qs) same share.sums in
    let whole = subst (IsWhole platform) same share.whole in
    let has : c.args.pairs ≤ c.above.inside.joined = subst (λ (s : SumFacts). c.args.pairs ≤ s.joined) (sym c.above.view_is) within in
    let many : c.self.inside.pairs.len ≡ length c.join_pairs.new.kept = omega (arith, c.join_pairs.auto.kept, c.deref_mut.ensures.len) in
    let kept = all_joined c.more.inside.passed c.more.inside.joined platform.pairs es c.more.inside.pairs.items whole.from whole.to second.pairs in
    let before = joined_within c.self.inside.passed c.self.inside.joined low from platform.pairs (ds ++ es) c.self.inside.pairs.items
    (omega (arith, c.min-from.ensures, has, first.pairs.within))
    (λ k high below. (omega (arith, high, c.max-self-inside.ensures), omega (arith, high, below, c.min-from.ensures, c.max.ensures)))
    (rw map-append at (joined_in_order c.self.inside.passed c.self.inside.joined platform.pairs (offer_demands all) (offer_demands (ps ++ qs)) c.self.inside.pairs.items back old.pairs)) in
    let these = joined_within c.above.inside.passed c.above.inside.joined low c.args.pairs platform.pairs ds c.above.inside.pairs.items
    (omega (arith, has, first.pairs.within))
    (λ k high below. (omega (arith, high, c.max-self-inside.ensures), omega (arith, below, has))) first.pairs in
    let joins : ArePairsJoined low c.args.pairs platform.pairs (ds ++ es) c.join_pairs.new.kept = c.join_pairs.ensures platform.pairs low ds es
    (omega (arith, c.min-from.ensures))
    (λ less. omega (arith, less, c.min-from.ensures, c.max.ensures))
    (subst (ArePairsJoined low from platform.pairs (ds ++ es)) (sym c.deref_mut.ensures.value) before)
    (subst (ArePairsJoined low c.args.pairs platform.pairs ds) (sym c.deref.ensures.value) these)
    (subst (ArePairsKept platform.pairs es) (sym c.deref-2.ensures.value) kept) in
    let offered = IsPermutation-map offer_demand (ps ++ qs) all order in
    let together : ArePairsJoined low c.args.pairs platform.pairs (offer_demands all) c.join_pairs.new.kept =
    joined_in_order low c.args.pairs platform.pairs (offer_demands (ps ++ qs)) (offer_demands all) c.join_pairs.new.kept offered (rw map-append joins) in
    let none = subst (λ (n : ℕ). HasNoImage n false platform all) (sym c.max-self-inside.ensures)
    (none_further c.self.inside.passed c.above.inside.passed platform all old.passed
    (none_more c.above.inside.passed platform ps all (record { others = qs; order = order }) first.passed)) in
    rw (all_written c.self.inside.pairs.len c.self.inside.pairs.items c.join_pairs.new.kept many)
    (sums_with _ platform all c.join_pairs.new.kept low c.args.pairs old together none)
