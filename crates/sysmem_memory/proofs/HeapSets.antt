-- What the words of sets of heaps have.
use Rattle.std.proofs.Common.{◌≡◌, ◌≢◌, ℕ, zero, suc, ◌*◌, ◌%◌, ◌^◌, ◌<◌, ◌==◌, true, ◌&&◌, ◌||◌, bit_and, bit_or, w64, refl, ◌∙◌, ap, arith, min, max}
use Rattle.std.specs.Int.{bit_at, trailing_zeros}
use Rattle.std.proofs.lemmas.Nat.Bits.{bit_at_and, bit_at_or, bit_at_set_same, bit_at_set_other, bit_at-lt, bit_at-trailing_zeros}
use Rattle.sysmem_memory.specs.declared.heap_set.HeapSet.{HeapSet}
use Rattle.sysmem_memory.specs.HeapSet.{IsLowestHeap}

-- of two bits, the lower one is 1 where both are
both_ones : (x y : ℕ) → x < 2 → y < 2 → (min x y == 1) ≡ (x == 1 && y == 1)
both_ones zero zero p q = refl
both_ones zero (suc zero) p q = refl
both_ones (suc zero) zero p q = refl
both_ones (suc zero) (suc zero) p q = refl
both_ones zero (suc (suc y)) p q = absurd (omega (arith, q))
both_ones (suc zero) (suc (suc y)) p q = absurd (omega (arith, q))
both_ones (suc (suc x)) y p q = absurd (omega (arith, p))

-- and the higher one is 1 where any is
any_one : (x y : ℕ) → x < 2 → y < 2 → (max x y == 1) ≡ (x == 1 || y == 1)
any_one zero zero p q = refl
any_one zero (suc zero) p q = refl
any_one (suc zero) zero p q = refl
any_one (suc zero) (suc zero) p q = refl
any_one zero (suc (suc y)) p q = absurd (omega (arith, q))
any_one (suc zero) (suc (suc y)) p q = absurd (omega (arith, q))
any_one (suc (suc x)) y p q = absurd (omega (arith, p))

-- `a & b` has the bits that both have
pub bits_of_both : (a b k : ℕ) → (bit_at (bit_and a b) k == 1) ≡ (bit_at a k == 1 && bit_at b k == 1)
bits_of_both a b k =
    ap (λ x. x == 1) (bit_at_and a b k) ∙ both_ones (bit_at a k) (bit_at b k) (bit_at-lt a k) (bit_at-lt b k)

-- `a | b` has the bits that any of both has
pub bits_of_either : (a b k : ℕ) → (bit_at (bit_or a b) k == 1) ≡ (bit_at a k == 1 || bit_at b k == 1)
bits_of_either a b k =
    ap (λ x. x == 1) (bit_at_or a b k) ∙ any_one (bit_at a k) (bit_at b k) (bit_at-lt a k) (bit_at-lt b k)

-- `n | 1 << k` has bit k
pub bit_set : (n k : ℕ) → k < 64 → (bit_at (bit_or n (1 * 2 ^ k % 2 ^ 64)) k == 1) ≡ true
bit_set n k within = ap (λ x. x == 1) (bit_at_set_same w64 n k within)

-- and its other bits are those of n
pub other_bits_kept : (n k i : ℕ) → k < 64 → i ≢ k → (bit_at (bit_or n (1 * 2 ^ k % 2 ^ 64)) i == 1) ≡ (bit_at n i == 1)
other_bits_kept n k i within apart = ap (λ x. x == 1) (bit_at_set_other w64 n k within i apart)

-- the lowest bit of a word that isn't 0
pub lowest_bit : (s : HeapSet) → 0 < s.word → s.word < 2 ^ 64 → IsLowestHeap s (trailing_zeros w64 s.word)
lowest_bit s some fits =
    let lowest = bit_at-trailing_zeros w64 s.word some fits in
    record {
      has = ap (λ x. x == 1) lowest.1;
      before = λ k below. ap (λ x. x == 1) (lowest.2 k below);
    }
