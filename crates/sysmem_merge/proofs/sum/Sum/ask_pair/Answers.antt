use Rattle.std.proofs.Common.{arith, ◌+◌, ◌≡◌, ◌<◌, false, List, Some, slice_get, refl, sym, subst}
use Rattle.std.proofs.lemmas.Option.{slice_get_read}
use Rattle.list_lemmas.proofs.CallerLemmas.{slice_get_some}
use Rattle.sysmem_merge.specs.declared.pair.KeptPair.{KeptPair}
use Rattle.sysmem_merge.specs.Demands.{counts_asked, offer_demands}
use Rattle.sysmem_merge.specs.Sum.{IsPlaced, SumFacts, SumsUp}
use Rattle.sysmem_merge.proofs.PairLists.{joined_within}
use Rattle.sysmem_merge.proofs.Passed.{best_pair, none_as, none_fewer, none_next}
use Rattle.sysmem_merge.proofs.Summing.{no_number, no_place, sums_with}
use Rattle.sysmem_merge.proofs.sum.Sum.ask_pair.Goals as goal
use Rattle.sysmem_merge.proofs.sum.Sum.ask_pair.Goals.{then-not-whole, else-not-whole}

pub returns-clause-best : goal.returns-clause-best
returns-clause-best c ps sums below left =
    let platform = c.args.platform.now in
    let ds = offer_demands ps in
    let i = c.args.index in
    let kept = subst (λ (s : SumFacts). SumsUp s platform ps) (sym c.self.view_is) sums in
    let within : i < c.self.inside.joined = subst (λ (s : SumFacts). i < s.joined) (sym c.self.view_is) below in
    let pair = slice_get_some platform.pairs i (omega (arith, within, kept.pairs.within)) in
    let found = c.in_ok-kept.ensures.lookup in
    let read = subst (λ (ks : List KeptPair). slice_get ks i ≡ Some c.in_ok-kept.kept.now) c.deref.ensures.value
    (slice_get_read c.deref.result.now _ i c.in_ok-kept.kept.now refl found.3.0 found.1) in
    let one = kept.pairs.these i pair.0 c.in_ok-kept.kept.now (omega (arith, c.if-index-self.false)) within pair.1 read in
    rw c.settings_of.ensures (best_pair c.args.whole platform ps i pair.0 c.in_ok-fit.fit c.in_ok-place.place c.in-Ok.count pair.1 left.no_image left.before
    (c.in_ok-fit.ensures.first pair.0 ds pair.1 one kept.sizes)
    (subst (IsPlaced platform ps) (rw c.in_ok-place.is at c.branch-place.ensures) kept.place)
    (c.in-Ok.ensures.cases (counts_asked ps) kept.counts))

pub returns-then-index-self-clause-none : goal.returns-then-index-self-clause-none
returns-then-index-self-clause-none c ps sums below left =
    let platform = c.args.platform.now in
    let kept = subst (λ (s : SumFacts). SumsUp s platform ps) (sym c.self.view_is) sums in
    let passed = none_fewer false platform ps (c.args.index + 1) c.self.inside.passed (omega (arith, c.if-index-self.true)) kept.passed in
    record { both = left.both; no_image = left.no_image; before = none_as c.args.whole platform ps (c.args.index + 1) passed }

pub returns-in_err-fit-clause-none : goal.returns-in_err-fit-clause-none
returns-in_err-fit-clause-none c ps sums below left =
    let platform = c.args.platform.now in
    let ds = offer_demands ps in
    let i = c.args.index in
    let kept = subst (λ (s : SumFacts). SumsUp s platform ps) (sym c.self.view_is) sums in
    let within : i < c.self.inside.joined = subst (λ (s : SumFacts). i < s.joined) (sym c.self.view_is) below in
    let pair = slice_get_some platform.pairs i (omega (arith, within, kept.pairs.within)) in
    let found = c.in_ok-kept.ensures.lookup in
    let read = subst (λ (ks : List KeptPair). slice_get ks i ≡ Some c.in_ok-kept.kept.now) c.deref.ensures.value
    (slice_get_read c.deref.result.now _ i c.in_ok-kept.kept.now refl found.3.0 found.1) in
    let one = kept.pairs.these i pair.0 c.in_ok-kept.kept.now (omega (arith, c.if-index-self.false)) within pair.1 read in
    rw c.from_residual-in_err-fit.ensures (record {
      both = left.both;
      no_image = left.no_image;
      before = none_next c.args.whole platform ps i pair.0 pair.1 left.before (c.in_err-fit.ensures.none pair.0 ds pair.1 one kept.sizes);
    })

pub returns-in_default-clause-none : goal.returns-in_default-clause-none
returns-in_default-clause-none c ps sums below left =
    let platform = c.args.platform.now in
    let kept = subst (λ (s : SumFacts). SumsUp s platform ps) (sym c.self.view_is) sums in
    absurd (no_number platform ps (c.in_default.ensures.none (counts_asked ps) kept.counts) left.both)

pub returns-in_err-place-clause-none : goal.returns-in_err-place-clause-none
returns-in_err-place-clause-none c ps sums below left =
    let platform = c.args.platform.now in
    let kept = subst (λ (s : SumFacts). SumsUp s platform ps) (sym c.self.view_is) sums in
    absurd (no_place platform ps (subst (IsPlaced platform ps) (rw c.in_err-place.is at c.branch-place.ensures) kept.place) left.both)

pub returns-clause-sums : goal.returns-clause-sums
returns-clause-sums c ps sums below left =
    let platform = c.args.platform.now in
    let i = c.args.index in
    let kept = subst (λ (s : SumFacts). SumsUp s platform ps) (sym c.self.view_is) sums in
    elim c.if-not-whole.branch as (λ _. SumsUp c.if-not-whole.self platform ps) [
      | then-not-whole w ↦ rw w.self-is (sums_with _ platform ps c.self.inside.pairs.items i c.self.inside.joined kept
          (joined_within c.self.inside.passed c.self.inside.joined i c.self.inside.joined platform.pairs (offer_demands ps) c.self.inside.pairs.items kept.pairs.within
          (λ k above before. (omega (arith, above, c.if-index-self.false), before)) kept.pairs)
          (rw w.if-not-whole.true at left.before))
      | else-not-whole w ↦ rw w.self-is sums
    ]
