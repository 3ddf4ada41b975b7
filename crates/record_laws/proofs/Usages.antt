-- The families that a record lists are those of the usage, computed for
-- each of the 32 sets of families.
use Rattle.std.proofs.Common.{◌≡◌, ◌≢◌, ◌⊎◌, inl, inr, ℕ, zero, suc, ◌<◌, ◌==◌, ◌&&◌, ◌||◌, Bool, true, false, not, Result, Ok, Err, refl, ap, subst, arith, rules, tests}
use Rattle.std.specs.Int.RustNames.{bit_and}
use Rattle.bitflags.specs.Sets.{find_row}
use Rattle.sysmem_counts.specs.declared.usage.Usage.{Usage}
use Rattle.sysmem_counts.specs.Usage.{usage_bits}
use Rattle.record_reading.specs.declared.fault.Fault.{Fault}
use Rattle.negotiation_inputs.specs.Participant.{IsUsage}
use Rattle.negotiation_inputs.specs.Usage.{is_usage}
use Rattle.record_reading.specs.Reading.Constraints.{usage_of}
use Rattle.record_laws.specs.Records.{usage_record}

abbrev usage_by : ℕ → Usage
usage_by n = record { 0 = n }

abbrev is_read : Result Usage Fault → ℕ → Bool
is_read (Ok u) n = usage_bits u == n
is_read (Err fault) n = false

-- bits that are no usage, or whose record is read as them
abbrev is_right : ℕ → Bool
is_right n = not (is_usage (usage_by n)) || is_read (usage_of (usage_record (usage_by n))) n

abbrev holds_below : (ℕ → Bool) → ℕ → Bool
holds_below p zero = true
holds_below p (suc n) = p n && holds_below p n

all_right : holds_below is_right 32 ≡ true
unfolding find_row
all_right = refl

and_both : (a b : Bool) → (a && b) ≡ true → (a ≡ true) × (b ≡ true)
and_both true b h = (refl, h)
and_both false b h = absurd (cc)

less_or_same : (n k : ℕ) → n < suc k → (n < k) ⊎ (k ≡ n)
less_or_same n zero h = inr (omega arith)
less_or_same zero (suc k) h = inl (omega arith)
less_or_same (suc n) (suc k) h = more (less_or_same n k (omega arith)) where
  more : (n < k) ⊎ (k ≡ n) → (suc n < suc k) ⊎ (suc k ≡ suc n)
  more (inl less) = inl (omega arith)
  more (inr same) = inr (ap suc same)

holds_at : (p : ℕ → Bool) (k n : ℕ) → holds_below p k ≡ true → n < k → p n ≡ true
holds_at p zero n h less = absurd (omega arith)
holds_at p (suc k) n h less = by_place (less_or_same n k less) (holds_at p k n (and_both (p k) (holds_below p k) h).1) where
  by_place : (n < k) ⊎ (k ≡ n) → (n < k → p n ≡ true) → p n ≡ true
  by_place (inl below) earlier = earlier below
  by_place (inr same) earlier = subst (λ m. p m ≡ true) same (and_both (p k) (holds_below p k) h).0

read_is : (r : Result Usage Fault) (n : ℕ) → is_read r n ≡ true → r ≡ Ok (usage_by n)
read_is (Ok u) n h = let same : usage_bits u ≡ n = search (rules, tests) in ap (λ m. Ok (usage_by m)) same
read_is (Err fault) n h = absurd (cc)

right_half : (a b : Bool) → (not a || b) ≡ true → a ≡ true → b ≡ true
right_half true b h is = h
right_half false b h is = absurd (cc)

usage_test : (n m : ℕ) → n ≢ 0 → (m ≡ 1 → n ≡ 1) → (n == 1 || (not (n == 0) && not (m == 1))) ≡ true
usage_test n m some alone = search (rules, tests)

pub usage_stated : (u : Usage) → IsUsage u → usage_of (usage_record u) ≡ Ok u
usage_stated u is =
    read_is (usage_of (usage_record u)) (usage_bits u)
    (right_half (is_usage u) (is_read (usage_of (usage_record u)) (usage_bits u)) (holds_at is_right 32 (usage_bits u) all_right is.families)
    (usage_test (usage_bits u) (bit_and (usage_bits u) 1) is.some is.none_alone))
