-- Sets of colour spaces, bit by bit.
use Rattle.std.proofs.Common.{arith, ℕ, zero, suc, ◌+◌, ◌*◌, ◌≡◌, ◌<◌, ◌==◌, ◌&&◌, ◌||◌, min, max, refl, ap, ◌∙◌}
use Rattle.std.proofs.lemmas.Nat.Bits.{bit_at_and, bit_at_or, bit_at-lt}
use Rattle.std.specs.Int.{bit_at, from_bool}
use Rattle.std.specs.Prelude.{Bool, true, false, bit_and, bit_or, ◌/◌, ◌%◌}
use Rattle.sysmem_formats.specs.declared.colour_space.ColourSpace.{ColourSpace}
use Rattle.sysmem_formats.specs.declared.colour_space.ColourSpace.TheVariants.{Srgb, Rec601Ntsc, Rec601NtscFullRange, Rec601Pal, Rec601PalFullRange, Rec709, Rec2020, Rec2100}
use Rattle.sysmem_image.specs.Colours.{lists}
use Rattle.sysmem_image.specs.declared.colours.ColourSet.{ColourSet}
use Rattle.sysmem_merge.specs.Pairs.{colour_bit}

both_tests : (x y : ℕ) → x < 2 → y < 2 → (min x y == 1) ≡ ((x == 1) && (y == 1))
both_tests zero zero a b = refl
both_tests zero (suc zero) a b = refl
both_tests (suc zero) zero a b = refl
both_tests (suc zero) (suc zero) a b = refl
both_tests (suc (suc x)) y a b = absurd (omega (arith, a))
both_tests x (suc (suc y)) a b = absurd (omega (arith, b))

either_test : (x y : ℕ) → x < 2 → y < 2 → (max x y == 1) ≡ ((x == 1) || (y == 1))
either_test zero zero a b = refl
either_test zero (suc zero) a b = refl
either_test (suc zero) zero a b = refl
either_test (suc zero) (suc zero) a b = refl
either_test (suc (suc x)) y a b = absurd (omega (arith, a))
either_test x (suc (suc y)) a b = absurd (omega (arith, b))

-- a bit that both words have
pub bit_of_both : (a b k : ℕ) → (bit_at (bit_and a b) k == 1) ≡ ((bit_at a k == 1) && (bit_at b k == 1))
bit_of_both a b k = ap (λ x. x == 1) (bit_at_and a b k) ∙ both_tests (bit_at a k) (bit_at b k) (bit_at-lt a k) (bit_at-lt b k)

-- a bit that either word has
pub bit_of_either : (a b k : ℕ) → (bit_at (bit_or a b) k == 1) ≡ ((bit_at a k == 1) || (bit_at b k == 1))
bit_of_either a b k = ap (λ x. x == 1) (bit_at_or a b k) ∙ either_test (bit_at a k) (bit_at b k) (bit_at-lt a k) (bit_at-lt b k)

-- a flag as a number
flag_small : (b : Bool) → from_bool b < 2
flag_small true = omega arith
flag_small false = omega arith

flag_test : (b : Bool) → (from_bool b == 1) ≡ b
flag_test true = refl
flag_test false = refl

-- a number that is a flag, read back
flag_read : (x : ℕ) (l : Bool) (n : ℕ) → x ≡ from_bool l → n ≡ x → (n == 1) ≡ l
flag_read x l n is same = ap (λ z. z == 1) (same ∙ is) ∙ flag_test l

-- a word made of eight flags has each of them as a bit
module _ (set : ColourSet) (a b c d e f g h : ℕ)
    (is_a : a ≡ from_bool (lists set Srgb))
    (is_b : b ≡ from_bool (lists set Rec601Ntsc))
    (is_c : c ≡ from_bool (lists set Rec601NtscFullRange))
    (is_d : d ≡ from_bool (lists set Rec601Pal))
    (is_e : e ≡ from_bool (lists set Rec601PalFullRange))
    (is_f : f ≡ from_bool (lists set Rec709))
    (is_g : g ≡ from_bool (lists set Rec2020))
    (is_h : h ≡ from_bool (lists set Rec2100)) where
  small_a : a < 2
  small_a = omega (arith, is_a, flag_small (lists set Srgb))

  small_b : b < 2
  small_b = omega (arith, is_b, flag_small (lists set Rec601Ntsc))

  small_c : c < 2
  small_c = omega (arith, is_c, flag_small (lists set Rec601NtscFullRange))

  small_d : d < 2
  small_d = omega (arith, is_d, flag_small (lists set Rec601Pal))

  small_e : e < 2
  small_e = omega (arith, is_e, flag_small (lists set Rec601PalFullRange))

  small_f : f < 2
  small_f = omega (arith, is_f, flag_small (lists set Rec709))

  small_g : g < 2
  small_g = omega (arith, is_g, flag_small (lists set Rec2020))

  small_h : h < 2
  small_h = omega (arith, is_h, flag_small (lists set Rec2100))

  pub listed_small : a + 2 * b + 4 * c + 8 * d + 16 * e + 32 * f + 64 * g + 128 * h < 256
  listed_small = omega (arith, small_a, small_b, small_c, small_d, small_e, small_f, small_g, small_h)

  pub listed_bits : (colour : ColourSpace) → (bit_at (a + 2 * b + 4 * c + 8 * d + 16 * e + 32 * f + 64 * g + 128 * h) (colour_bit colour) == 1) ≡ lists set colour
  listed_bits Srgb = flag_read a (lists set Srgb) ((a + 2 * b + 4 * c + 8 * d + 16 * e + 32 * f + 64 * g + 128 * h) / 1 % 2) is_a (omega (arith, small_a))
  listed_bits Rec601Ntsc = flag_read b (lists set Rec601Ntsc) ((a + 2 * b + 4 * c + 8 * d + 16 * e + 32 * f + 64 * g + 128 * h) / 2 % 2) is_b (omega (arith, small_a, small_b))
  listed_bits Rec601NtscFullRange = flag_read c (lists set Rec601NtscFullRange) ((a + 2 * b + 4 * c + 8 * d + 16 * e + 32 * f + 64 * g + 128 * h) / 4 % 2) is_c (omega (arith, small_a, small_b, small_c))
  listed_bits Rec601Pal = flag_read d (lists set Rec601Pal) ((a + 2 * b + 4 * c + 8 * d + 16 * e + 32 * f + 64 * g + 128 * h) / 8 % 2) is_d (omega (arith, small_a, small_b, small_c, small_d))
  listed_bits Rec601PalFullRange = flag_read e (lists set Rec601PalFullRange) ((a + 2 * b + 4 * c + 8 * d + 16 * e + 32 * f + 64 * g + 128 * h) / 16 % 2) is_e (omega (arith, small_a, small_b, small_c, small_d, small_e))
  listed_bits Rec709 = flag_read f (lists set Rec709) ((a + 2 * b + 4 * c + 8 * d + 16 * e + 32 * f + 64 * g + 128 * h) / 32 % 2) is_f (omega (arith, small_a, small_b, small_c, small_d, small_e, small_f))
  listed_bits Rec2020 = flag_read g (lists set Rec2020) ((a + 2 * b + 4 * c + 8 * d + 16 * e + 32 * f + 64 * g + 128 * h) / 64 % 2) is_g (omega (arith, small_a, small_b, small_c, small_d, small_e, small_f, small_g))
  listed_bits Rec2100 = flag_read h (lists set Rec2100) ((a + 2 * b + 4 * c + 8 * d + 16 * e + 32 * f + 64 * g + 128 * h) / 128 % 2) is_h (omega (arith, small_a, small_b, small_c, small_d, small_e, small_f, small_g, small_h))

-- a word of colour spaces with two flags above them
module _ (l f m : ℕ) (small : l < 256) where
  pub named_bits : (c : ColourSpace) → bit_at (l + 256 * f + 512 * m) (colour_bit c) ≡ bit_at l (colour_bit c)
  named_bits Srgb = let is : (l + 256 * f + 512 * m) / 1 % 2 ≡ l / 1 % 2 = omega (arith, small) in is
  named_bits Rec601Ntsc = let is : (l + 256 * f + 512 * m) / 2 % 2 ≡ l / 2 % 2 = omega (arith, small) in is
  named_bits Rec601NtscFullRange = let is : (l + 256 * f + 512 * m) / 4 % 2 ≡ l / 4 % 2 = omega (arith, small) in is
  named_bits Rec601Pal = let is : (l + 256 * f + 512 * m) / 8 % 2 ≡ l / 8 % 2 = omega (arith, small) in is
  named_bits Rec601PalFullRange = let is : (l + 256 * f + 512 * m) / 16 % 2 ≡ l / 16 % 2 = omega (arith, small) in is
  named_bits Rec709 = let is : (l + 256 * f + 512 * m) / 32 % 2 ≡ l / 32 % 2 = omega (arith, small) in is
  named_bits Rec2020 = let is : (l + 256 * f + 512 * m) / 64 % 2 ≡ l / 64 % 2 = omega (arith, small) in is
  named_bits Rec2100 = let is : (l + 256 * f + 512 * m) / 128 % 2 ≡ l / 128 % 2 = omega (arith, small) in is

  pub format_bit : (b : Bool) → f ≡ from_bool b → (bit_at (l + 256 * f + 512 * m) 8 == 1) ≡ b
  format_bit b is = flag_read f b ((l + 256 * f + 512 * m) / 256 % 2) is (omega (arith, small, is, flag_small b))

  pub modifier_bit : (b b' : Bool) → f ≡ from_bool b → m ≡ from_bool b' → (bit_at (l + 256 * f + 512 * m) 9 == 1) ≡ b'
  modifier_bit b b' is is' = flag_read m b' ((l + 256 * f + 512 * m) / 512 % 2) is' (omega (arith, small, is, is', flag_small b, flag_small b'))
