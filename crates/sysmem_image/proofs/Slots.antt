-- The place of an entry for an offer, by the table of first entries.
use Rattle.std.proofs.Common.{arith, ◌≡◌, ◌≢◌, ℕ, ◌+◌, ◌*◌, ◌<◌, ◌≤◌, ◌==◌, ◌||◌, ◌&&◌, not, Bool, true, false, cond, List, [], ◌∷◌, length, Option, Some, None, refl, sym, ap, ◌∙◌, min, slice_get, slice_set, get_or, replicate, Bor, inl, inr, below_more}
use Rattle.std.specs.List.{position_or_len, slice_index}
use Rattle.std.specs.Option.{option_copied}
use Rattle.std.specs.Slice.{IsItemAt}
use Rattle.std.proofs.lemmas.List.Folds.{find_at}
use Rattle.std.proofs.lemmas.List.Sums.{position_or_len_is}
use Rattle.std.proofs.lemmas.Bool.{eq-eqb, cases_lt}
use Rattle.std.proofs.lemmas.Bool.Decides.{nat_tests, eqb_tells}
use Rattle.std.proofs.lemmas.List.{get_or-replicate, get_or-set_same, get_or-set_other}
use Rattle.std.proofs.lemmas.Option.{slice_get-get_or, slice_get_past, slice_get_read, slice_get_within, same_Some}
use Rattle.sysmem_formats.specs.declared.colour_space.ColourSpace.{ColourSpace}
use Rattle.sysmem_formats.specs.declared.modifier.Modifier.{Modifier}
use Rattle.sysmem_formats.specs.declared.modifier.Modifier.TheVariants.{Linear, IntelXTiled, IntelYTiled}
use Rattle.sysmem_formats.specs.declared.offer.Offer.TheVariants.{NoImage, Image}
use Rattle.sysmem_formats.specs.declared.offer.Pair.{Pair}
use Rattle.sysmem_formats.specs.declared.pixel_format.PixelFormat.{PixelFormat}
use Rattle.sysmem_formats.specs.Codes.{format_code, modifier_code}
use Rattle.sysmem_image.specs.declared.entry.Entry.{Entry}
use Rattle.sysmem_image.specs.Entries.{matches, first_match, agrees_format, agrees_modifier}
use Rattle.sysmem_image.specs.Slots.{format_row, modifier_column, slot, has_slot, AreFirst}
use Rattle.sysmem_image.specs.declared.first_matches.TheConstants.{COLUMNS, SLOTS}
use Rattle.sysmem_formats.specs.declared.modifier.TheConstants.{MODIFIERS}

-- the first that passes one of two tests is the first of the firsts
position_or : {X : Type 0} (p q : X → Bool) (xs : List X) → position_or_len (λ x. p x || q x) xs ≡ min (position_or_len p xs) (position_or_len q xs)
position_or p q [] = refl
position_or p q (x ∷ xs) = at (p x) (q x) _ _ _ (position_or p q xs) where
  at : (a b : Bool) (o m n : ℕ) → o ≡ min m n → cond (not (a || b)) (1 + o) 0 ≡ min (cond (not a) (1 + m) 0) (cond (not b) (1 + n) 0)
  at true true o m n h = refl
  at true false o m n h = omega arith
  at false true o m n h = omega arith
  at false false o m n h = omega (arith, h)

-- tests that agree have the same first
position_same : {X : Type 0} (p q : X → Bool) (xs : List X) → ((x : X) → p x ≡ q x) → position_or_len p xs ≡ position_or_len q xs
position_same p q [] same = refl
position_same p q (x ∷ xs) same = ap (λ b. cond (not b) (1 + position_or_len p xs) 0) (same x) ∙ ap (λ n. cond (not (q x)) (1 + n) 0) (position_same p q xs same)

-- the codes of modifiers are small
modifier_below : (modifier : Modifier) → modifier_code modifier < MODIFIERS
modifier_below modifier = elim modifier as (λ m. modifier_code m < MODIFIERS) [
  | Linear ↦ omega arith
  | IntelXTiled ↦ omega arith
  | IntelYTiled ↦ omega arith
]

-- no entry is one for no image
pub none_for_no_image : (es : List Entry) → None ≡ first_match NoImage es
none_for_no_image [] = refl
none_for_no_image (e ∷ es) = none_for_no_image es

-- two places in a table are one where row and column are
same_place : (a b c d : ℕ) → b < COLUMNS → d < COLUMNS → (a * COLUMNS + b == c * COLUMNS + d) ≡ (a == c && b == d)
same_place a b c d first second = grind (arith, nat_tests)

-- numbers that differ aren't one
differ : (a b : ℕ) → a ≢ b → (a == b) ≡ false
differ a b other = grind (arith, nat_tests)

-- two places after the first are one where those before them are
both_after : (m n : ℕ) → (m + 1 == n + 1) ≡ (m == n)
both_after m n = grind (arith, nat_tests)

-- the column of a modifier is one of the table's
column_below : (m : Option Modifier) → modifier_column m < COLUMNS
column_below None = omega arith
column_below (Some m) = omega (arith, modifier_below m)

-- two pairs of names have one slot where both names are the same
same_slot : (f g : Option PixelFormat) (m n : Option Modifier) → (slot f m == slot g n) ≡ (format_row f == format_row g && modifier_column m == modifier_column n)
same_slot f g m n = same_place (format_row f) (modifier_column m) (format_row g) (modifier_column n) (column_below m) (column_below n)

-- an entry matches where it has one of four pairs of names
by_names : (format : PixelFormat) (modifier : Modifier) (f : Option PixelFormat) (m : Option Modifier) → (agrees_format format f && agrees_modifier modifier m)
    ≡ ((slot f m == slot (Some format) (Some modifier) || slot f m == slot (Some format) None) || (slot f m == slot None (Some modifier) || slot f m == slot None None))
by_names format modifier f m =
    rw (same_slot f (Some format) m (Some modifier), same_slot f (Some format) m None, same_slot f None m (Some modifier), same_slot f None m None)
    (by_places f m) where
      by_places : (f : Option PixelFormat) (m : Option Modifier) → (agrees_format format f && agrees_modifier modifier m)
          ≡ (((format_row f == format_code format + 1 && modifier_column m == modifier_code modifier + 1) || (format_row f == format_code format + 1 && modifier_column m == 0))
          || ((format_row f == 0 && modifier_column m == modifier_code modifier + 1) || (format_row f == 0 && modifier_column m == 0)))
      by_places (Some f) (Some m) = grind (arith, nat_tests)
      by_places (Some f) None = grind (arith, nat_tests)
      by_places None (Some m) = grind (arith, nat_tests)
      by_places None None = grind (arith, nat_tests)

-- the least of four places is that of the entry for images of the pair
pub first_of_four : (es : List Entry) (pair : Pair) (colour : ColourSpace) (a b c d : ℕ)
    → a ≡ position_or_len (has_slot (slot (Some pair.format) (Some pair.modifier))) es → b ≡ position_or_len (has_slot (slot (Some pair.format) None)) es
    → c ≡ position_or_len (has_slot (slot None (Some pair.modifier))) es → d ≡ position_or_len (has_slot (slot None None)) es
    → slice_get es (min (min a b) (min c d)) ≡ first_match (Image pair colour) es
first_of_four es pair colour a b c d is_a is_b is_c is_d =
    let p1 : Entry → Bool = has_slot (slot (Some pair.format) (Some pair.modifier)) in
    let p2 : Entry → Bool = has_slot (slot (Some pair.format) None) in
    let p3 : Entry → Bool = has_slot (slot None (Some pair.modifier)) in
    let p4 : Entry → Bool = has_slot (slot None None) in
    let named : position_or_len (λ e. p1 e || p2 e) es ≡ min a b = position_or p1 p2 es ∙ rw (is_a, is_b) refl in
    let any : position_or_len (λ e. p3 e || p4 e) es ≡ min c d = position_or p3 p4 es ∙ rw (is_c, is_d) refl in
    let four : position_or_len (λ e. (p1 e || p2 e) || (p3 e || p4 e)) es ≡ min (min a b) (min c d) = position_or (λ e. p1 e || p2 e) (λ e. p3 e || p4 e) es ∙ rw (named, any) refl in
    let all : position_or_len (matches (Image pair colour)) es ≡ min (min a b) (min c d) =
    position_same (matches (Image pair colour)) (λ e. (p1 e || p2 e) || (p3 e || p4 e)) es (λ e. by_names pair.format pair.modifier e.format e.modifier) ∙ four in
    ap (slice_get es) (sym all) ∙ sym (find_at (matches (Image pair colour)) es)

-- what is lent from a place of a list is what the list has there
pub item_copied : {X : Type 0} (xs : List X) (i : ℕ) (r : Option (Bor X)) → IsItemAt xs i r → slice_get xs i ≡ option_copied r
item_copied xs i None item = slice_get_past xs i item.3
item_copied xs i (Some x) item = slice_get_read xs _ i x.now refl item.3.0 item.1

-- no entry of the first i that stands before place n passes the test, and the one at n does; n is
-- the number of entries where none is known
pub record IsFirstUpTo (es : List Entry) (i : ℕ) (p : Entry → Bool) (n : ℕ) : Type 0 where
  pub within : n ≤ length es
  pub before : (k : ℕ) (e : Entry) → k < i → k < n → slice_get es k ≡ Some e → p e ≡ false
  pub here : (e : Entry) → slice_get es n ≡ Some e → p e ≡ true

-- each slot has the first of the first i entries
abbrev pub AreFirstUpTo : List Entry → ℕ → List ℕ → Type 0
AreFirstUpTo es i first = (s : ℕ) → s < SLOTS → IsFirstUpTo es i (has_slot s) (slice_index first s)

-- before the first entry each slot has the number of entries
pub first_of_none : (es : List Entry) → AreFirstUpTo es 0 (replicate SLOTS (length es))
first_of_none es s below = rw (get_or-replicate SLOTS s (length es) 0 below) (record {
  within = omega arith;
  before = λ k e none. absurd (omega (arith, none));
  here = λ e at. absurd (omega (arith, slice_get_within es (length es) e at));
})

-- an entry of the slot
first_same : (es : List Entry) (i s n : ℕ) (e : Entry) → i < length es → slice_get es i ≡ Some e → s ≡ slot e.format e.modifier
    → IsFirstUpTo es i (has_slot s) n → IsFirstUpTo es (i + 1) (has_slot s) (min n i)
first_same es i s n e within read is old = record {
  within = omega (arith, within);
  before = λ k f below less at. old.before k f (omega (arith, less)) (omega (arith, less)) at;
  here = elim (cases_lt i n) [
    | inl less ↦ let least : min n i ≡ i = omega (arith, less) in
        rw least (λ f at. eq-eqb (slot f.format f.modifier) s (ap (λ g. slot g.format g.modifier) (same_Some f e (sym at ∙ read)) ∙ sym is))
    | inr more ↦ let least : min n i ≡ n = omega (arith, more) in rw least old.here
  ];
}

-- an entry of another slot
first_other : (es : List Entry) (i s n : ℕ) (e : Entry) → slice_get es i ≡ Some e → slot e.format e.modifier ≢ s
    → IsFirstUpTo es i (has_slot s) n → IsFirstUpTo es (i + 1) (has_slot s) n
first_other es i s n e read other old = record {
  within = old.within;
  before = λ k f below. below_more (λ k. (f : Entry) → k < n → slice_get es k ≡ Some f → has_slot s f ≡ false) i (λ k below f. old.before k f below)
      (λ f less at. ap (has_slot s) (same_Some f e (sym at ∙ read)) ∙ differ (slot e.format e.modifier) s other) k below f;
  here = old.here;
}

-- one more entry
pub first_more : (es : List Entry) (i t : ℕ) (first : List ℕ) (e : Entry) → length first ≡ SLOTS → i < length es → slice_get es i ≡ Some e → t < SLOTS → t ≡ slot e.format e.modifier
    → AreFirstUpTo es i first → AreFirstUpTo es (i + 1) (slice_set first t (min (slice_index first t) i))
first_more es i t first e long within read room is old s below = elim (eqb_tells s t) [
  | inl same ↦ rw (same.1, get_or-set_same first t (min (slice_index first t) i) 0 (omega (arith, long, room)))
      (first_same es i t (slice_index first t) e within read is (old t room))
  | inr other ↦ rw (get_or-set_other first t s (min (slice_index first t) i) 0 other.1)
      (first_other es i s (slice_index first s) e read (λ at. other.1 (sym at ∙ sym is)) (old s below))
]

-- the first of all entries
position_up_to : (p : Entry → Bool) (es : List Entry) (i n : ℕ) → length es ≤ i → IsFirstUpTo es i p n → n ≡ position_or_len p es
position_up_to p [] i n all up = omega (arith, up.within)
position_up_to p (x ∷ xs) i n all up =
    sym (position_or_len_is p (x ∷ xs) n x up.within
    (λ k below. up.before k (get_or (x ∷ xs) k x) (omega (arith, below, all, up.within)) below (slice_get-get_or (x ∷ xs) k x (omega (arith, below, up.within))))
    (λ within. up.here (get_or (x ∷ xs) n x) (slice_get-get_or (x ∷ xs) n x within)))

pub first_of_all : (es : List Entry) (i : ℕ) (first : List ℕ) → length es ≤ i → AreFirstUpTo es i first → AreFirst es first
first_of_all es i first all up s below = position_up_to (has_slot s) es i (slice_index first s) all (up s below)
