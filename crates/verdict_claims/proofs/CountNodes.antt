-- Who has a count field makes a count line true.
use Rattle.std.proofs.Common.{◌≡◌, arith, ℕ, zero, suc, ◌<◌, ◌≤◌, ◌||◌, ◌==◌, ◌⊎◌, inl, inr, not, max, Bool, true, false, List, [], ◌∷◌, length, Some, slice_get, All, Any, refl, sym, ◌∙◌, ap, subst}
use Rattle.std.specs.Prelude.{filter, sum_by}
use Rattle.std.proofs.lemmas.List.Elements.{All-head, All-weaker, All-filter}
use Rattle.std.proofs.lemmas.Option.{same_Some, none-some, slice_get_read}
use Rattle.std.proofs.lemmas.List.Sums.{sum_by-cons}
use Rattle.list_lemmas.proofs.CallerLemmas.{Any-here, Any-later}
use Rattle.sysmem_counts.specs.Bounds.{most_number}
use Rattle.sysmem_counts.specs.Counts.{greatest, own_buffers, needed}
use Rattle.sysmem_counts.specs.declared.constraints.CountConstraints.{CountConstraints}
use Rattle.sysmem_counts.specs.declared.field.Field.TheVariants.{MinBufferCount, MaxBufferCount, BufferCountLimit}
use Rattle.verdict_claims.specs.Finder.{has_count, CountsAreOfSome, FixedCountsAreOfSome}

is_zero : (n m : ℕ) → not (n == m) ≡ false → n ≡ m
is_zero n m e = grind (arith, e)

-- all count fields have their absent values
record IsAbsent (p : CountConstraints) : Type 0 where
  own : own_buffers p ≡ 0
  shared : p.min_buffer_count_for_shared_slack ≡ 0
  minimum : p.min_buffer_count ≡ 0
  maximum : p.max_buffer_count ≡ most_number

all_false : (a b c d e : Bool) → (a || b || c || d || e) ≡ false → (a ≡ false) × (b ≡ false) × (c ≡ false) × (d ≡ false) × (e ≡ false)
all_false true b c d e h = absurd (cc (h))
all_false false true c d e h = absurd (cc (h))
all_false false false true d e h = absurd (cc (h))
all_false false false false true e h = absurd (cc (h))
all_false false false false false true h = absurd (cc (h))
all_false false false false false false h = (refl, refl, refl, refl, refl)

absent : (p : CountConstraints) → has_count p ≡ false → IsAbsent p
absent p e =
    let a = all_false (not (p.min_buffer_count_for_camping == 0)) (not (p.min_buffer_count_for_dedicated_slack == 0)) (not (p.min_buffer_count_for_shared_slack == 0)) (not (p.min_buffer_count == 0)) (not (p.max_buffer_count == most_number)) e in
    record {
      own = omega (arith, is_zero p.min_buffer_count_for_camping 0 a.0, is_zero p.min_buffer_count_for_dedicated_slack 0 a.1);
      shared = is_zero p.min_buffer_count_for_shared_slack 0 a.2;
      minimum = is_zero p.min_buffer_count 0 a.3;
      maximum = is_zero p.max_buffer_count most_number a.4;
    }

-- a filter's two cases
kept : (p : CountConstraints) (ps : List CountConstraints) → has_count p ≡ true → filter has_count (p ∷ ps) ≡ p ∷ filter has_count ps
kept p ps e = rw e refl

dropped : (p : CountConstraints) (ps : List CountConstraints) → has_count p ≡ false → filter has_count (p ∷ ps) ≡ filter has_count ps
dropped p ps e = rw e refl

cases : (b : Bool) → (b ≡ true) ⊎ (b ≡ false)
cases true = inl refl
cases false = inr refl

same_sum : (ps : List CountConstraints) → sum_by own_buffers (filter has_count ps) ≡ sum_by own_buffers ps
same_sum [] = refl
same_sum (p ∷ ps) = elim (cases (has_count p)) as (λ _. sum_by own_buffers (filter has_count (p ∷ ps)) ≡ sum_by own_buffers (p ∷ ps)) [
  | inl yes' ↦ ap (sum_by own_buffers) (kept p ps yes') ∙ omega (arith, sum_by-cons own_buffers p (filter has_count ps), sum_by-cons own_buffers p ps, same_sum ps)
  | inr no' ↦ ap (sum_by own_buffers) (dropped p ps no') ∙ omega (arith, sum_by-cons own_buffers p ps, same_sum ps, (absent p no').own)
]

same_greatest : (f : CountConstraints → ℕ) → ((p : CountConstraints) → IsAbsent p → f p ≡ 0) → (ps : List CountConstraints) → greatest f (filter has_count ps) ≡ greatest f ps
same_greatest f zeros [] = refl
same_greatest f zeros (p ∷ ps) = elim (cases (has_count p)) as (λ _. greatest f (filter has_count (p ∷ ps)) ≡ greatest f (p ∷ ps)) [
  | inl yes' ↦ ap (greatest f) (kept p ps yes') ∙ ap (max (f p)) (same_greatest f zeros ps)
  | inr no' ↦ ap (greatest f) (dropped p ps no') ∙ omega (arith, same_greatest f zeros ps, zeros p (absent p no'))
]

same_needed : (ps : List CountConstraints) → needed (filter has_count ps) ≡ needed ps
same_needed ps = omega (arith, same_sum ps, same_greatest (λ p. p.min_buffer_count_for_shared_slack) (λ p a. a.shared) ps, same_greatest (λ p. p.min_buffer_count) (λ p a. a.minimum) ps)

-- where more is needed than any maximum, whoever has a count field has too low a one
some_have : (ps : List CountConstraints) → 1 < needed ps → All (λ p. p.max_buffer_count < needed ps) ps → Any (λ p. p.max_buffer_count < needed ps) (filter has_count ps)
some_have ps more all = by_list (filter has_count ps) refl where
  by_list : (qs : List CountConstraints) → filter has_count ps ≡ qs → Any (λ p. p.max_buffer_count < needed ps) (filter has_count ps)
  by_list [] is = absurd (omega (arith, more, same_needed ps, ap needed is))
  by_list (q ∷ qs) is = subst (Any (λ p. p.max_buffer_count < needed ps)) (sym is) (Any-here (λ p. p.max_buffer_count < needed ps) q qs
      (All-head (λ p. p.max_buffer_count < needed ps) q qs (subst (All (λ p. p.max_buffer_count < needed ps)) is (All-filter has_count (λ p. p.max_buffer_count < needed ps) ps all))))

-- one that has the property is kept, or has no count field
any_kept : (P : CountConstraints → Type 0) (k : ℕ) (ps : List CountConstraints) (p : CountConstraints) → slice_get ps k ≡ Some p → P p → Any P (filter has_count ps) ⊎ (has_count p ≡ false)
any_kept P k [] p here holds = absurd (none-some p here)
any_kept P zero (q ∷ ps) p here holds = let same : q ≡ p = same_Some q p here in
    elim (cases (has_count q)) as (λ _. Any P (filter has_count (q ∷ ps)) ⊎ (has_count p ≡ false)) [
      | inl yes' ↦ inl (subst (Any P) (sym (kept q ps yes')) (Any-here P q (filter has_count ps) (subst P (sym same) holds)))
      | inr no' ↦ inr (ap has_count (sym same) ∙ no')
    ]
any_kept P (suc k) (q ∷ ps) p here holds = elim (any_kept P k ps p here holds) as (λ _. Any P (filter has_count (q ∷ ps)) ⊎ (has_count p ≡ false)) [
  | inr none ↦ inr none
  | inl any ↦ elim (cases (has_count q)) as (λ _. Any P (filter has_count (q ∷ ps)) ⊎ (has_count p ≡ false)) [
    | inl yes' ↦ inl (subst (Any P) (sym (kept q ps yes')) (Any-later P q (filter has_count ps) any))
    | inr no' ↦ inl (subst (Any P) (sym (dropped q ps no')) any)
  ]
]

pub counts_are_of_some : CountsAreOfSome
counts_are_of_some MaxBufferCount ps small line = subst (λ n. Any (λ p. p.max_buffer_count < n) (filter has_count ps)) (sym (same_needed ps)) found where
  found : Any (λ p. p.max_buffer_count < needed ps) (filter has_count ps)
  found = elim (any_kept (λ p. p.max_buffer_count < needed ps) line.0 ps line.1 (slice_get_read ps (length ps) line.0 line.1 refl line.2 (sym line.3)) line.4)
      as (λ _. Any (λ p. p.max_buffer_count < needed ps) (filter has_count ps)) [
        | inl any ↦ any
        | inr none ↦
            let high : most_number < needed ps = omega (arith, line.4, (absent line.1 none).maximum) in
            some_have ps (omega (arith, high)) (All-weaker (λ p. p.max_buffer_count ≤ most_number) (λ p. p.max_buffer_count < needed ps) (λ p l. omega (arith, l, high)) ps small)
      ]
counts_are_of_some BufferCountLimit ps small line = omega (arith, line, same_needed ps)
counts_are_of_some _ ps small line = absurd line

pub fixed_counts_are_of_some : FixedCountsAreOfSome
fixed_counts_are_of_some count MinBufferCount ps small line = omega (arith, line, same_needed ps)
fixed_counts_are_of_some count MaxBufferCount ps small line =
    elim (any_kept (λ p. p.max_buffer_count < count) line.0 ps line.1 (slice_get_read ps (length ps) line.0 line.1 refl line.2 (sym line.3)) line.4)
    as (λ _. Any (λ p. p.max_buffer_count < count) (filter has_count ps)) [
      | inl any ↦ any
      | inr none ↦ absurd (omega (arith, line.4, (absent line.1 none).maximum, small))
    ]
fixed_counts_are_of_some count _ ps small line = absurd line
