-- A line for each of the first of a list, and what fails where one
-- is missing, fails or is too many.
use Rattle.std.proofs.Common.{◌≡◌, ◌<◌, ◌≤◌, ℕ, zero, suc, ◌+◌, List, [], ◌∷◌, ◌++◌, Some, length, take, get_or, slice_get, inl, inr, refl, sym, ◌∙◌, ap, subst, arith}
use Rattle.std.specs.List.{AllZip}
use Rattle.std.proofs.lemmas.List.{take_more, take_all}
use Rattle.verdict_claims.specs.declared.no.No.{No}
use Rattle.verdict_claims.specs.declared.no.No.TheVariants.{WrongShape, Missing}
use Rattle.verdict_claims.specs.Fault.{Faults, EachFaults}

zip_push : {X Y : Type 0} (R : X → Y → Type 0) (xs : List X) (ys : List Y) (x : X) (y : Y) → AllZip R xs ys → R x y → AllZip R (xs ++ x ∷ []) (ys ++ y ∷ [])
zip_push R [] [] x y zip r = (r, tt)
zip_push R [] (v ∷ ys) x y zip r = absurd zip
zip_push R (u ∷ us) [] x y zip r = absurd zip
zip_push R (u ∷ us) (v ∷ ys) x y zip r = (zip.0, zip_push R us ys x y zip.1 r)

module _ {X Y : Type 0} (R : X → Y → Type 0) where
  -- one line more
  pub told_more : (xs : List X) (ys : List Y) (at : ℕ) (x : X) (y : Y) → at < length ys → y ≡ get_or ys at y → R x y → AllZip R xs (take at ys) → AllZip R (xs ++ x ∷ []) (take (at + 1) ys)
  told_more xs ys at x y less is r zip =
      subst (AllZip R (xs ++ x ∷ [])) (sym (take_more ys at y less ∙ ap (λ z. take at ys ++ z ∷ []) (sym is))) (zip_push R xs (take at ys) x y zip r)

  pub told_all : (xs : List X) (ys : List Y) (at : ℕ) → length ys ≤ at → AllZip R xs (take at ys) → AllZip R xs ys
  told_all xs ys at over zip = subst (AllZip R xs) (take_all at ys over) zip

  module _ (faults : X → Y → Faults) where
    -- no line is left for x
    pub missing_at : (xs : List X) (ys : List Y) (at : ℕ) (x : X) (more : List X) → length ys ≤ at → AllZip R xs (take at ys) → EachFaults R faults (xs ++ x ∷ more) ys Missing
    missing_at xs ys at x more over zip = by xs ys (told_all xs ys at over zip) where
      by : (xs : List X) (ys : List Y) → AllZip R xs ys → EachFaults R faults (xs ++ x ∷ more) ys Missing
      by [] [] z = refl
      by [] (y ∷ ys) z = absurd z
      by (u ∷ us) [] z = absurd z
      by (u ∷ us) (y ∷ ys) z = inr (z.0, by us ys z.1)

    -- that for x fails
    pub fault_at : (xs : List X) (ys : List Y) (at : ℕ) (x : X) (y : Y) (more : List X) (why : No) → at < length ys → y ≡ get_or ys at y → AllZip R xs (take at ys) → faults x y why
        → EachFaults R faults (xs ++ x ∷ more) ys why
    fault_at [] [] at x y more why less is zip f = absurd (omega (arith, less))
    fault_at [] (v ∷ ys) zero x y more why less is zip f = inl (subst (λ z. faults x z why) is f)
    fault_at [] (v ∷ ys) (suc at) x y more why less is zip f = absurd zip
    fault_at (u ∷ us) [] at x y more why less is zip f = absurd (omega (arith, less))
    fault_at (u ∷ us) (v ∷ ys) zero x y more why less is zip f = absurd zip
    fault_at (u ∷ us) (v ∷ ys) (suc at) x y more why less is zip f = inr (zip.0, fault_at us ys at x y more why (omega (arith, less)) is zip.1 f)

    -- there is a line too many
    pub too_many : (xs : List X) (ys : List Y) (at : ℕ) → at < length ys → AllZip R xs (take at ys) → EachFaults R faults xs ys WrongShape
    too_many [] [] at less zip = absurd (omega (arith, less))
    too_many [] (v ∷ ys) at less zip = refl
    too_many (u ∷ us) [] at less zip = absurd (omega (arith, less))
    too_many (u ∷ us) (v ∷ ys) zero less zip = absurd zip
    too_many (u ∷ us) (v ∷ ys) (suc at) less zip = inr (zip.0, too_many us ys at (omega (arith, less)) zip.1)

-- a list, and a front of it, at one of its elements
pub split_at : {X : Type 0} (xs : List X) (k : ℕ) (x : X) → slice_get xs k ≡ Some x → (behind : List X) × (xs ≡ take k xs ++ x ∷ behind)
split_at [] k x is = absurd (cc (is))
split_at (y ∷ xs) zero x is = let same : y ≡ x = cc (is) in (xs, ap (λ z. z ∷ xs) same)
split_at (y ∷ xs) (suc k) x is = let (behind, e) = split_at xs k x is in (behind, ap (λ zs. y ∷ zs) e)

pub front_split : {X : Type 0} (xs : List X) (k many : ℕ) (x : X) → k < many → slice_get xs k ≡ Some x → (rest : List X) × (take many xs ≡ take k xs ++ x ∷ rest)
front_split [] k many x less is = absurd (cc (is))
front_split (y ∷ xs) k zero x less is = absurd (omega (arith, less))
front_split (y ∷ xs) zero (suc many) x less is = let same : y ≡ x = cc (is) in (take many xs, ap (λ z. z ∷ take many xs) same)
front_split (y ∷ xs) (suc k) (suc many) x less is = let (rest, e) = front_split xs k many x (omega (arith, less)) is in (rest, ap (λ zs. y ∷ zs) e)

-- one element more of a front
pub front_more : {X : Type 0} (xs : List X) (k : ℕ) (x : X) → slice_get xs k ≡ Some x → take (k + 1) xs ≡ take k xs ++ x ∷ []
front_more [] k x is = absurd (cc (is))
front_more (y ∷ xs) zero x is = let same : y ≡ x = cc (is) in ap (λ z. z ∷ []) same
front_more (y ∷ xs) (suc k) x is = let on : suc k + 1 ≡ suc (k + 1) = omega arith in ap (λ n. take n (y ∷ xs)) on ∙ ap (λ zs. y ∷ zs) (front_more xs k x is)
