use Rattle.std.proofs.Common.{arith, ◌≡◌, ◌++◌, ◌∷◌, [], length, refl, sym, ap, ◌∙◌, subst}
use Rattle.list_lemmas.proofs.CallerLemmas.{some_front}
use Rattle.sysmem_memory.specs.Wishes.{MemoryWishes}
use Rattle.sysmem_merge.specs.Demands.{counts_asked, place_demands, offer_demand, offer_demands}
use Rattle.sysmem_merge.specs.Pairs.{ArePairsKept}
use Rattle.sysmem_merge.specs.Sum.{IsWhole, SumFacts, SumsUp}
use Rattle.sysmem_merge.proofs.Adding.{all_written, map_push}
use Rattle.sysmem_merge.proofs.PairLists.{all_joined, kept_joined}
use Rattle.sysmem_merge.proofs.Passed.{none_more}
use Rattle.sysmem_merge.proofs.Summing.{found_place, sums_push}
use Rattle.sysmem_merge.proofs.sum.Sum.add.Goals as goal

pub returns-clause-sums : goal.returns-clause-sums
returns-clause-sums c ps whole sums =
    let platform = c.args.platform.now in
    let ds = offer_demands ps in
    let d = offer_demand c.args.asked.now in
    let kept = subst (λ (s : SumFacts). SumsUp s platform ps) (sym c.self.view_is) sums in
    let wishes = c.memory.view_is ∙ c.memory-memory.ensures.memory in
    let low = ap (λ (m : MemoryWishes). m.min_size_bytes) wishes in
    let high = ap (λ (m : MemoryWishes). m.max_size_bytes) wishes in
    let same : d.entries ≡ c.read.new.self = sym c.entries.ensures.entries ∙ sym c.read.ensures in
    let many : c.self.inside.pairs.len ≡ length c.add_to_pairs.new.kept = omega (arith, c.add_to_pairs.auto.kept, c.deref_mut.ensures.len) in
    let all = subst (IsWhole platform) (sym c.self.view_is) whole in
    let before = all_joined c.self.inside.passed c.self.inside.joined platform.pairs ds c.self.inside.pairs.items all.from all.to kept.pairs in
    let added : ArePairsKept platform.pairs (ds ++ d ∷ []) c.add_to_pairs.new.kept =
    subst (λ pairs. ArePairsKept pairs (ds ++ d ∷ []) c.add_to_pairs.new.kept) c.pairs.ensures.pairs
    (c.add_to_pairs.ensures ds d same (subst (λ pairs. ArePairsKept pairs ds c.deref_mut.result.now) (sym c.pairs.ensures.pairs)
    (subst (ArePairsKept platform.pairs ds) (sym c.deref_mut.ensures.value) before))) in
    let left = (rw (c.heaps.ensures.heaps, c.memory-memory.ensures.memory, c.usage.ensures.usage) at c.add-2.ensures) (place_demands ps) kept.places in
    let more = ps ++ c.args.asked.now ∷ [] in
    let place = found_place platform more c.first_place-self-inside.result ((rw c.heaps-2.ensures.heaps at c.first_place-self-inside.ensures.first) (place_demands more) (rw map_push left))
    ((rw c.heaps-2.ensures.heaps at c.first_place-self-inside.ensures.none) (place_demands more) (rw map_push left)) in
    rw (all_written c.self.inside.pairs.len c.self.inside.pairs.items c.add_to_pairs.new.kept many)
    (sums_push _ _ platform ps c.args.asked.now kept
    ((rw c.counts.ensures at c.add.ensures.added) (counts_asked ps) kept.counts)
    left
    place
    (c.add-3.ensures ds d same kept.no_image)
    (kept_joined c.self.inside.passed c.self.inside.joined platform.pairs (ds ++ d ∷ []) c.add_to_pairs.new.kept kept.pairs.within added)
    (none_more c.self.inside.passed platform ps (ps ++ c.args.asked.now ∷ []) (some_front ps (c.args.asked.now ∷ [])) kept.passed)
    (omega (arith, c.max-self-inside.ensures, low)) (omega (arith, c.min-self-inside.ensures, high)) refl)

pub returns-clause-whole : goal.returns-clause-whole
returns-clause-whole c is =
    let all = subst (IsWhole c.args.platform.now) (sym c.self.view_is) is in
    record { from = all.from; to = all.to }
