use Rattle.std.proofs.Common.{arith, ◌≤◌, [], false, refl}
use Rattle.std.proofs.lemmas.List.Elements.{All-nil}
use Rattle.sysmem_memory.specs.Place.{AreDomainsLeft}
use Rattle.sysmem_merge.specs.Demands.{OfferDemand}
use Rattle.sysmem_merge.specs.Pairs.{ArePairsKept}
use Rattle.sysmem_merge.proofs.PairLists.{kept_joined}
use Rattle.sysmem_merge.proofs.Passed.{none_first}
use Rattle.sysmem_merge.proofs.Summing.{found_place}
use Rattle.sysmem_merge.proofs.sum.Sum.new.Goals as goal

pub returns-clause-sums : goal.returns-clause-sums
returns-clause-sums c =
    let platform = c.args.platform.now in
    let left : AreDomainsLeft c.new-memory.result platform.heaps [] = rw c.heaps.ensures.heaps at c.new-memory.ensures in
    let kept : ArePairsKept platform.pairs [] c.in_ok-pairs.pairs.items = rw c.pairs.ensures.pairs at c.in_ok-pairs.ensures in
    record {
      counts = c.new.ensures.stands;
      places = left;
      place = found_place platform [] c.first_place.result ((rw c.heaps-2.ensures.heaps at c.first_place.ensures.first) [] left) ((rw c.heaps-2.ensures.heaps at c.first_place.ensures.none) [] left);
      no_image = c.new-2.ensures;
      pairs = kept_joined 0 _ platform.pairs [] c.in_ok-pairs.pairs.items (omega (arith, kept.many)) kept;
      passed = none_first false platform [];
      sizes = record {
        low = λ n. (λ _. All-nil (λ (d : OfferDemand). d.min_size_bytes ≤ n), λ _. omega arith);
        high = λ n small. (λ _. All-nil (λ (d : OfferDemand). n ≤ d.max_size_bytes), λ _. omega (arith, small));
      };
      many = refl;
    }

pub returns-clause-whole : goal.returns-clause-whole
returns-clause-whole c =
    let platform = c.args.platform.now in
    let kept : ArePairsKept platform.pairs [] c.in_ok-pairs.pairs.items = rw c.pairs.ensures.pairs at c.in_ok-pairs.ensures in
    record { from = refl; to = omega (arith, kept.many) }
