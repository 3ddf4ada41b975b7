-- Lines for what comes before the first of a list that is one, as they are gone through.
use Rattle.std.proofs.Common.{◌≡◌, ◌≢◌, ◌⊎◌, ◌<◌, ◌≤◌, ℕ, zero, suc, ◌+◌, List, [], ◌∷◌, ◌++◌, Option, Some, None, length, take, get_or, slice_get, inl, inr, refl, sym, ◌∙◌, ap, subst, arith, append_assoc}
use Rattle.std.specs.Prelude.{All, Contains}
use Rattle.std.specs.List.{AllZip}
use Rattle.std.proofs.lemmas.List.Elements.{All-nil, All-cons, All-head, All-tail}
use Rattle.std.proofs.lemmas.Option.{same_Some}
use Rattle.sysmem_formats.specs.declared.colour_space.ColourSpace.{ColourSpace}
use Rattle.sysmem_formats.specs.declared.offer.Offer.{Offer}
use Rattle.sysmem_formats.specs.declared.offer.Pair.{Pair}
use Rattle.sysmem_formats.specs.Offers.{offers}
use Rattle.negotiation_inputs.specs.Platform.{PlatformFacts, offers_of}
use Rattle.sysmem_tree.specs.Shape.{Member}
use Rattle.verdict_claims.specs.declared.no.No.{No}
use Rattle.verdict_claims.specs.declared.no.No.TheVariants.{WrongShape, Missing}
use Rattle.verdict_claims.specs.Certificate.{HoldBefore}
use Rattle.verdict_claims.specs.Fault.{LineFaults, LinesFault}
use Rattle.verdict_claims.specs.Line.{LineFacts}
use Rattle.sysmem_proof.proofs.Asking.{both_have}
use Rattle.sysmem_proof.proofs.LineByLine.{told_all, missing_at, fault_at, too_many, split_at}

-- a list that has x, behind some elements that aren't it
record Ahead {X : Type 0} (xs : List X) (x : X) (k : ℕ) : Type 0 where
  before : List X
  behind : List X
  there : xs ≡ take k xs ++ (before ++ x ∷ behind)
  first : All (λ y. y ≢ x) before

module _ {X : Type 0} (cases : (a b : X) → (a ≡ b) ⊎ (a ≢ b)) (x : X) where
  first_of : (xs : List X) → Contains xs x → Ahead xs x 0
  first_of [] has = absurd (omega (arith, has.1))
  first_of (y ∷ xs) has = by (first_of xs) (cases y x) has where
    by : (Contains xs x → Ahead xs x 0) → (y ≡ x) ⊎ (y ≢ x) → Contains (y ∷ xs) x → Ahead (y ∷ xs) x 0
    by rest (inl same) has = record { before = []; behind = xs; there = ap (λ z. z ∷ xs) same; first = All-nil (λ y. y ≢ x) }
    by rest (inr differ) (zero, less, is) = absurd (differ is)
    by rest (inr differ) (suc k, less, is) =
        let r = rest (k, omega (arith, less), is) in
        record { before = y ∷ r.before; behind = r.behind; there = ap (λ zs. y ∷ zs) r.there; first = All-cons (λ y. y ≢ x) y r.before differ r.first }

  ahead : (xs : List X) (k : ℕ) → Contains xs x → All (λ y. y ≢ x) (take k xs) → Ahead xs x k
  ahead xs zero has none = first_of xs has
  ahead [] (suc k) has none = absurd (omega (arith, has.1))
  ahead (y ∷ xs) (suc k) (zero, less, is) none = absurd (All-head (λ y. y ≢ x) y (take k xs) none is)
  ahead (y ∷ xs) (suc k) (suc j, less, is) none =
      let r = ahead xs k (j, omega (arith, less), is) (All-tail (λ y. y ≢ x) y (take k xs) none) in
      record { before = r.before; behind = r.behind; there = ap (λ zs. y ∷ zs) r.there; first = r.first }

  at_front : (xs zs : List X) (k : ℕ) (z : X) → xs ≡ take k xs ++ z ∷ zs → slice_get xs k ≡ Some z
  at_front [] zs zero z is = absurd (cc (is))
  at_front [] zs (suc k) z is = absurd (cc (is))
  at_front (y ∷ xs) zs zero z is = let same : y ≡ z = cc (is) in ap (λ w. Some w) same
  at_front (y ∷ xs) zs (suc k) z is = at_front xs zs k z (cc (is))

  module _ (xs : List X) (has : Contains xs x) (R : X → LineFacts → Type 0) (ms : List Member) (lines : List LineFacts) (k : ℕ) (none : All (λ y. y ≢ x) (take k xs))
      (told : AllZip R (take k xs) (take k lines)) where
    -- it stands there, and no line is left
    pub held : slice_get xs k ≡ Some x → length lines ≤ k → HoldBefore R xs x lines
    held is over = let (behind, there) = split_at xs k x is in record { before = take k xs; behind = behind; there = there; first = none; each = told_all R (take k xs) lines k over told }

    -- it stands there, and a line is left
    pub over : slice_get xs k ≡ Some x → k < length lines → LinesFault R ms xs x lines WrongShape
    over is less = let (behind, there) = split_at xs k x is in
        record { before = take k xs; behind = behind; there = there; first = none; fault = too_many R (λ y line. LineFaults ms (R y line) line) (take k xs) lines k less told }

    -- another stands there
    another : slice_get xs k ≢ Some x → (y : X) × (more behind : List X) × (slice_get xs k ≡ Some y) × (xs ≡ (take k xs ++ y ∷ more) ++ x ∷ behind) × All (λ y. y ≢ x) (take k xs ++ y ∷ more)
    another other = by (ahead xs k has none).before refl where
      a : Ahead xs x k
      a = ahead xs k has none

      by : (b : List X) → a.before ≡ b → (y : X) × (more behind : List X) × (slice_get xs k ≡ Some y) × (xs ≡ (take k xs ++ y ∷ more) ++ x ∷ behind) × All (λ y. y ≢ x) (take k xs ++ y ∷ more)
      by [] is = absurd (other (at_front xs a.behind k x (a.there ∙ ap (λ zs. take k xs ++ (zs ++ x ∷ a.behind)) is)))
      by (y ∷ more) is = (
        y,
        more,
        a.behind,
        at_front xs (more ++ x ∷ a.behind) k y (a.there ∙ ap (λ zs. take k xs ++ (zs ++ x ∷ a.behind)) is),
        a.there ∙ (ap (λ zs. take k xs ++ (zs ++ x ∷ a.behind)) is ∙ sym (append_assoc (take k xs) (y ∷ more) (x ∷ a.behind))),
        both_have (λ y. y ≢ x) (take k xs) (y ∷ more) none (subst (All (λ y. y ≢ x)) is a.first),
      )

    pub missing : slice_get xs k ≢ Some x → length lines ≤ k → LinesFault R ms xs x lines Missing
    missing other end =
        let (y, more, behind, here, there, first) = another other in
        record { before = take k xs ++ y ∷ more; behind = behind; there = there; first = first; fault = missing_at R (λ y line. LineFaults ms (R y line) line) (take k xs) lines k y more end told }

    pub fails_at : (o : X) (line : LineFacts) (why : No) → slice_get xs k ≡ Some o → slice_get xs k ≢ Some x → k < length lines → line ≡ get_or lines k line → LineFaults ms (R o line) line why
        → LinesFault R ms xs x lines why
    fails_at o line why is other less at fault =
        let (y, more, behind, here, there, first) = another other in
        let same : o ≡ y = same_Some o y (sym is ∙ here) in
        record {
          before = take k xs ++ y ∷ more;
          behind = behind;
          there = there;
          first = first;
          fault = fault_at R (λ y line. LineFaults ms (R y line) line) (take k xs) lines k y line more why less at told (subst (λ z. LineFaults ms (R z line) line why) same fault);
        }

    -- something stands there
    pub inside : slice_get xs k ≡ None → ⊥
    inside is =
        let (y, more, behind, here, there, first) = another (λ e. (let n : ◌≡◌ {A = Option X} None (Some x) = sym is ∙ e in absurd (clash n))) in clash (sym is ∙ here) where
          clash : {z : X} → ◌≡◌ {A = Option X} None (Some z) → ⊥
          clash e = absurd (cc (e))

-- one more that isn't it
pub none_more : {X : Type 0} (xs : List X) (x o : X) (k : ℕ) → slice_get xs k ≡ Some o → slice_get xs k ≢ Some x → All (λ y. y ≢ x) (take k xs) → All (λ y. y ≢ x) (take (k + 1) xs)
none_more [] x o k is other none = absurd (cc (is))
none_more (y ∷ xs) x o zero is other none = All-cons (λ y. y ≢ x) y [] (λ same. other (ap (λ z. Some z) same)) (All-nil (λ y. y ≢ x))
none_more (y ∷ xs) x o (suc k) is other none = let on : suc (k + 1) ≡ suc k + 1 = omega arith in subst (λ n. All (λ y. y ≢ x) (take n (y ∷ xs))) on (All-cons (λ y. y ≢ x) y (take (k + 1) xs) (All-head (λ y. y ≢ x) y (take k xs) none) (none_more xs x o k is other (All-tail (λ y. y ≢ x) y (take k xs) none)))

-- what is read of a platform's parts is its offer
pub offer_read : (platform : PlatformFacts) (pairs : List Pair) (colours : List ColourSpace) (i : ℕ) (o : Option Offer) → pairs ≡ platform.pairs → colours ≡ platform.colours
    → o ≡ slice_get (offers pairs colours) i → slice_get (offers_of platform) i ≡ o
offer_read platform pairs colours i o one two is = sym (is ∙ (ap (λ x. slice_get (offers x colours) i) one ∙ ap (λ x. slice_get (offers platform.pairs x) i) two))
