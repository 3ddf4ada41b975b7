-- Which numbers of buffers suit participants.
use Rattle.std.specs.List.Sorted.{IsPermutation}
use Rattle.std.proofs.lemmas.List.Sorted.{sum_by-IsPermutation}
use Rattle.std.proofs.Common.{sym, ◌↔◌, Any, inl, inr, arith, ℕ, ◌≡◌, ◌≤◌, ◌<◌, ◌+◌, ◌^◌, max, min, List, [], ◌∷◌, ◌++◌, All, refl, ap}
use Rattle.list_lemmas.proofs.CallerLemmas.{All-some, Any-not_All, sum_some}
use Rattle.std.proofs.lemmas.Bool.{cases_lt}
use Rattle.std.proofs.lemmas.List.Elements.{All-push, All-append}
use Rattle.std.proofs.lemmas.List.Sums.{sum_by_push, sum_by-append}
use Rattle.sysmem_counts.specs.Bounds.{IsTallyOf, tally, least as least_of}
use Rattle.sysmem_counts.specs.Counts.{own_buffers, needed, IsCounted, IsLeastCount, HasNoCount, IsCountLine, IsFixedCountLine}
use Rattle.sysmem_counts.specs.Laws.{CountSuitsSome, OneLeastCount, CountLineLeavesNoCount, FixedCountLineHolds, UnsuitedCountHasLine}
use Rattle.sysmem_counts.specs.Tally.{Tally}
use Rattle.sysmem_counts.specs.declared.constraints.CountConstraints.{CountConstraints}
use Rattle.sysmem_counts.specs.declared.field.Field.{Field}
use Rattle.sysmem_counts.specs.declared.field.Field.TheVariants.{MaxBufferCount, BufferCountLimit, MinBufferCount}
use Rattle.sysmem_counts.proofs.Lists.{greatest-push, least-push, greatest-append, least-append, greatest_within, within_greatest, above_least, one_below, one_below_any, greatest_in_order, least_in_order, greatest_some}

-- no number below what is needed suits
pub needed_le : (ps : List CountConstraints) (count : ℕ) → IsCounted ps count → needed ps ≤ count
needed_le ps count c = omega (arith, c.some, c.together, greatest_within (λ p. p.min_buffer_count) count ps c.minimum)

-- what is needed suits, where the maximums and the limit allow it
pub least_needed : (ps : List CountConstraints) → All (λ p. needed ps ≤ p.max_buffer_count) ps → needed ps ≤ 128 → IsLeastCount ps (needed ps)
least_needed ps high small = record {
  counted = record {
    some = omega arith;
    together = omega arith;
    minimum = within_greatest (λ p. p.min_buffer_count) (needed ps) ps (omega arith);
    maximum = high;
    limit = small;
  };
  least = needed_le ps;
}

-- a true line leaves no count
pub line_sound : (field : Field) (ps : List CountConstraints) → IsCountLine field ps → HasNoCount ps
line_sound MaxBufferCount ps line count c =
    Any-not_All (λ p. p.max_buffer_count < needed ps) (λ p. count ≤ p.max_buffer_count) ps
    (λ p low high. omega (arith, low, high, needed_le ps count c)) line c.maximum
line_sound BufferCountLimit ps line count c = omega (arith, line, c.limit, needed_le ps count c)
line_sound _ ps line count c = absurd line

-- a count for all is a count for some
pub counted_some : CountSuitsSome
counted_some some all count among c = record {
  some = c.some;
  together = omega (arith, c.together, sum_some own_buffers some all among, greatest_some (λ p. p.min_buffer_count_for_shared_slack) some all among);
  minimum = All-some (λ p. p.min_buffer_count ≤ count) some all among c.minimum;
  maximum = All-some (λ p. count ≤ p.max_buffer_count) some all among c.maximum;
  limit = c.limit;
}

-- and so a true line of some leaves no count for all
pub line_of_some : CountLineLeavesNoCount
line_of_some field some all among line count c = line_sound field some line count (counted_some some all count among c)

-- a line of a fixed count that is true of participants
fixed_line_sound : (count : ℕ) (field : Field) (ps : List CountConstraints) → IsFixedCountLine count field ps → ¬ IsCounted ps count
fixed_line_sound count MinBufferCount ps line c = omega (arith, line, needed_le ps count c)
fixed_line_sound count MaxBufferCount ps line c =
    Any-not_All (λ p. p.max_buffer_count < count) (λ p. count ≤ p.max_buffer_count) ps (λ p low high. omega (arith, low, high)) line c.maximum
fixed_line_sound count _ ps line c = absurd line

-- and of some of them
pub fixed_line_of_some : FixedCountLineHolds
fixed_line_of_some count field some all among line c = fixed_line_sound count field some line (counted_some some all count among c)

-- a count that is enough, and not above the least maximum and the limit, suits
enough : (count : ℕ) (ps : List CountConstraints) → needed ps ≤ count → All (λ p. count ≤ p.max_buffer_count) ps → count ≤ 128 → IsCounted ps count
enough count ps least most limit = record {
  some = omega (arith, least);
  together = omega (arith, least);
  minimum = within_greatest (λ p. p.min_buffer_count) count ps (omega (arith, least));
  maximum = most;
  limit = limit;
}

-- a count that doesn't suit is below what is needed, or above a maximum
pub unsuited_line : UnsuitedCountHasLine
unsuited_line count ps limit unsuited = elim (cases_lt count (needed ps)) as (λ _. (field : Field) × IsFixedCountLine count field ps) [
  | inl below ↦ (MinBufferCount, below)
  | inr least ↦ elim (cases_lt (least_of (λ p. p.max_buffer_count) ps) count) as (λ _. (field : Field) × IsFixedCountLine count field ps) [
    | inl above ↦ (MaxBufferCount, one_below (λ p. p.max_buffer_count) count ps (omega (arith, limit)) above)
    | inr within ↦ absurd (unsuited (enough count ps (omega (arith, least)) (above_least (λ p. p.max_buffer_count) count ps (omega (arith, within))) limit))
  ]
]

-- what is kept of participants is kept of them in another order
pub tally_in_order : (ps qs : List CountConstraints) → IsPermutation ps qs → tally ps ≡ tally qs
tally_in_order ps qs order = rw (
  sym (sum_by-IsPermutation own_buffers ps qs order),
  greatest_in_order (λ p. p.min_buffer_count_for_shared_slack) ps qs order,
  greatest_in_order (λ p. p.min_buffer_count) ps qs order,
  least_in_order (λ p. p.max_buffer_count) ps qs order,
) refl

-- each of two least counts is at most the other
pub one_least : OneLeastCount
one_least ps a b p q = omega (arith, p.least b q.counted, q.least a p.counted)

-- what is kept, added up, is what is needed
pub needed-tally : (kept : Tally) (ps : List CountConstraints) → IsTallyOf kept ps → max 1 (max (kept.own + kept.shared) kept.minimum) ≡ needed ps
needed-tally kept ps stands = ap (λ t. max 1 (max (t.own + t.shared) t.minimum)) stands.tallied

-- no maximum is below what the least maximum reaches
pub within_maximums : (kept : Tally) (ps : List CountConstraints) (n : ℕ) → IsTallyOf kept ps → n ≤ kept.maximum → All (λ p. n ≤ p.max_buffer_count) ps
within_maximums kept ps n stands within =
    above_least (λ p. p.max_buffer_count) n ps (omega (arith, within, ap (λ t. t.maximum) stands.tallied))

-- above one of the maximums is above the least of them
one_above : (kept : Tally) (ps : List CountConstraints) (n : ℕ) → IsTallyOf kept ps → Any (λ p. p.max_buffer_count < n) ps → kept.maximum < n
one_above kept ps n stands one = elim (cases_lt kept.maximum n) as (λ _. kept.maximum < n) [
  | inl above ↦ above
  | inr not ↦ absurd (Any-not_All (λ p. p.max_buffer_count < n) (λ p. n ≤ p.max_buffer_count) ps (λ p low high. omega (arith, low, high)) one
      (within_maximums kept ps n stands (omega arith)))
]

-- a number of 32 bits is above the least maximum exactly where it is above one of them
pub above_maximum : (kept : Tally) (ps : List CountConstraints) (n : ℕ) → IsTallyOf kept ps → n < 2 ^ 32 → (kept.maximum < n) ↔ Any (λ p. p.max_buffer_count < n) ps
above_maximum kept ps n stands small = (
  λ above. one_below (λ p. p.max_buffer_count) n ps small (omega (arith, above, ap (λ t. t.maximum) stands.tallied)),
  one_above kept ps n stands,
)

-- they need more than the least maximum exactly where they need more than one of their maximums
pub needs_above : (kept : Tally) (ps : List CountConstraints) → IsTallyOf kept ps → (kept.maximum < needed ps) ↔ IsCountLine MaxBufferCount ps
needs_above kept [] stands = (λ above. absurd (omega (arith, above, ap (λ t. t.maximum) stands.tallied)), one_above kept [] 1 stands)
needs_above kept (p ∷ ps) stands = (
  λ above. one_below_any (λ p. p.max_buffer_count) (needed (p ∷ ps)) p ps stands.fits (omega (arith, above, ap (λ t. t.maximum) stands.tallied)),
  one_above kept (p ∷ ps) (needed (p ∷ ps)) stands,
)

-- a number suits participants exactly where it is from what they need
-- to the least maximum and the limit
pub suits_between : (kept : Tally) (ps : List CountConstraints) (count : ℕ) → IsTallyOf kept ps → needed ps ≤ count → count ≤ kept.maximum → count ≤ 128 → IsCounted ps count
suits_between kept ps count stands enough within limit = record {
  some = omega (arith, enough);
  together = omega (arith, enough);
  minimum = within_greatest (λ p. p.min_buffer_count) count ps (omega (arith, enough));
  maximum = within_maximums kept ps count stands within;
  limit = limit;
}

-- what suits participants isn't above the least maximum
pub suits_within : (kept : Tally) (ps : List CountConstraints) (count : ℕ) → IsTallyOf kept ps → IsCounted ps count → count ≤ kept.maximum
suits_within kept ps count stands c = elim (cases_lt kept.maximum count) as (λ _. count ≤ kept.maximum) [
  | inl above ↦ absurd (Any-not_All (λ p. p.max_buffer_count < count) (λ p. count ≤ p.max_buffer_count) ps (λ p low high. omega (arith, low, high))
      ((above_maximum kept ps count stands (omega (arith, c.limit))).0 above) c.maximum)
  | inr not ↦ omega arith
]

-- what is kept after one more participant
abbrev pub tally_with : Tally → CountConstraints → Tally
tally_with kept p = record {
  own = kept.own + own_buffers p;
  shared = max kept.shared p.min_buffer_count_for_shared_slack;
  minimum = max kept.minimum p.min_buffer_count;
  maximum = min kept.maximum p.max_buffer_count;
}

-- it stands for the list with this participant
pub stands_push : (kept : Tally) (ps : List CountConstraints) (p : CountConstraints) → p.max_buffer_count < 2 ^ 32 → IsTallyOf kept ps → IsTallyOf (tally_with kept p) (ps ++ p ∷ [])
stands_push kept ps p small stands = record {
  tallied = rw (
    stands.tallied,
    sum_by_push own_buffers ps p,
    greatest-push (λ q. q.min_buffer_count_for_shared_slack) ps p,
    greatest-push (λ q. q.min_buffer_count) ps p,
    least-push (λ q. q.max_buffer_count) ps p small,
  ) refl;
  fits = All-push (λ q. q.max_buffer_count < 2 ^ 32) ps p stands.fits small;
}

-- what is kept of participants and of more together
abbrev pub tally_both : Tally → Tally → Tally
tally_both kept more = record {
  own = kept.own + more.own;
  shared = max kept.shared more.shared;
  minimum = max kept.minimum more.minimum;
  maximum = min kept.maximum more.maximum;
}

-- it stands for both lists together
pub stands_append : (kept more : Tally) (ps qs : List CountConstraints) → IsTallyOf kept ps → IsTallyOf more qs → IsTallyOf (tally_both kept more) (ps ++ qs)
stands_append kept more ps qs stands others = record {
  tallied = rw (
    stands.tallied,
    others.tallied,
    sum_by-append own_buffers ps qs,
    greatest-append (λ q. q.min_buffer_count_for_shared_slack) ps qs,
    greatest-append (λ q. q.min_buffer_count) ps qs,
    least-append (λ q. q.max_buffer_count) ps qs,
  ) refl;
  fits = All-append (λ q. q.max_buffer_count < 2 ^ 32) ps qs stands.fits others.fits;
}
