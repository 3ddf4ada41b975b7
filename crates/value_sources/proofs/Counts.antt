-- Sums and greatest numbers of what participants ask of the count.
use Rattle.std.proofs.Common.{◌≡◌, ℕ, ◌+◌, ◌<◌, ◌≤◌, max, arith, List, [], ◌∷◌, ◌++◌, length, get_or, take, sum_by, All, Any, refl, sym, ap, subst, ◌∙◌}
use Rattle.std.proofs.lemmas.List.{take_more}
use Rattle.std.proofs.lemmas.List.Elements.{All-weaker}
use Rattle.std.proofs.lemmas.List.Sums.{sum_by-cons, sum_by_push}
use Rattle.sysmem_counts.proofs.CallerLemmas.{greatest_within, within_greatest}
use Rattle.sysmem_counts.specs.Counts.{greatest, held_together, own_buffers, needed}
use Rattle.value_sources.specs.declared.counting.CountPart.TheVariants.{Camping, Dedicated, Shared, Minimum}
use Rattle.value_sources.specs.declared.participant.NamedParticipant.{NamedParticipant}
use Rattle.value_sources.specs.Sources.{IsNumberOf, counts_of, part_of}

-- a sum with one more
pub sum_more : {X : Type 0} (f : X → ℕ) (xs : List X) (i : ℕ) (x : X) → i < length xs → x ≡ get_or xs i x → sum_by f (take (i + 1) xs) ≡ sum_by f (take i xs) + f x
sum_more f xs i x there is =
    ap (sum_by f) (take_more xs i x there)
    ∙ (sum_by_push f (take i xs) (get_or xs i x) ∙ ap (λ y. sum_by f (take i xs) + f y) (sym is))

-- a number that somebody has isn't above the greatest
below_greatest : (f : NamedParticipant → ℕ) (n : ℕ) (ps : List NamedParticipant) (name : List ℕ) → IsNumberOf f ps name n → n ≤ greatest f ps
below_greatest f n ps name (k, one, below, at, p) =
    omega (arith, p.1, subst (λ y. f y ≤ greatest f ps) at (within_greatest f (greatest f ps) ps (omega arith) k one below))

-- and is the greatest, if nobody has more
pub greatest_is : (f : NamedParticipant → ℕ) (n : ℕ) (ps : List NamedParticipant) (name : List ℕ) → IsNumberOf f ps name n → All (λ one. f one ≤ n) ps → n ≡ greatest f ps
greatest_is f n ps name is all = omega (arith, below_greatest f n ps name is, greatest_within f n ps all)

-- where each has 0, the greatest is 0
pub greatest_none : (f : NamedParticipant → ℕ) (ps : List NamedParticipant) → All (λ one. f one ≡ 0) ps → 0 ≡ greatest f ps
greatest_none f ps all =
    omega (arith, greatest_within f 0 ps (All-weaker (λ one. f one ≡ 0) (λ one. f one ≤ 0) (λ one is. omega (arith, is)) ps all))

-- what each has alone, in two sums
own_is : (ps : List NamedParticipant) → sum_by (part_of Camping) ps + sum_by (part_of Dedicated) ps ≡ sum_by own_buffers (counts_of ps)
own_is [] = refl
own_is (p ∷ ps) = omega (
  arith,
  own_is ps,
  sum_by-cons (part_of Camping) p ps,
  sum_by-cons (part_of Dedicated) p ps,
  sum_by-cons own_buffers p.asked.now.counts (counts_of ps),
)

shared_is : (ps : List NamedParticipant) → greatest (part_of Shared) ps ≡ greatest (λ p. p.min_buffer_count_for_shared_slack) (counts_of ps)
shared_is [] = refl
shared_is (p ∷ ps) = ap (max p.asked.now.counts.min_buffer_count_for_shared_slack) (shared_is ps)

minimum_is : (ps : List NamedParticipant) → greatest (part_of Minimum) ps ≡ greatest (λ p. p.min_buffer_count) (counts_of ps)
minimum_is [] = refl
minimum_is (p ∷ ps) = ap (max p.asked.now.counts.min_buffer_count) (minimum_is ps)

-- what participants hold, by its parts
pub held_is : (ps : List NamedParticipant) → sum_by (part_of Camping) ps + sum_by (part_of Dedicated) ps + greatest (part_of Shared) ps ≡ held_together (counts_of ps)
held_is ps = omega (arith, own_is ps, shared_is ps)

-- what they need, by its parts
pub needed_is : (ps : List NamedParticipant) → max (max (held_together (counts_of ps)) (greatest (part_of Minimum) ps)) 1 ≡ needed (counts_of ps)
needed_is ps = omega (arith, minimum_is ps)
