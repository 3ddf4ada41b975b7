-- Settings fail a participant in some field, or it accepts them.
use Rattle.std.proofs.Common.{◌≡◌, ◌⊎◌, inl, inr, arith, ℕ, true, All, Option, Some, None, IfSome, IsSomeAnd, refl, sym, subst, slice_get}
use Rattle.std.proofs.lemmas.Bool.{cases_lt}
use Rattle.sysmem_counts.specs.declared.field.Field.{Field}
use Rattle.sysmem_counts.specs.declared.field.Field.TheVariants as field
use Rattle.sysmem_image.proofs.CallerLemmas.{keeps_named}
use Rattle.sysmem_image.specs.declared.bounds.ImageBounds.{ImageBounds}
use Rattle.sysmem_image.specs.Bounds.{IsTighter, KeepsField}
use Rattle.sysmem_image.specs.Fields as bound
use Rattle.sysmem_image.specs.Fields.{Bound, Width, Height, Rule, Greatest, Least, Multiple, Keeps, KeepsIn, all_bounds, field_of, rule_of, value}
use Rattle.sysmem_memory.specs.Heap.{HeapFacts}
use Rattle.sysmem_memory.specs.PlaceTable.{refuses_by}
use Rattle.sysmem_merge.specs.declared.settings.Settings.{Settings}
use Rattle.offer_fits.specs.Demands.{offer_demand}
use Rattle.sysmem_merge.specs.Failing.{FailsIn, FailsOn}
use Rattle.offer_fits.specs.Offers.{has_format, has_colour, entry_bounds, Asks}
use Rattle.sysmem_merge.specs.Settings.{CoversOn}
use Rattle.negotiation_inputs.specs.Participant.{Participant}
use Rattle.negotiation_inputs.specs.Platform.{PlatformFacts}
use Rattle.verdict_claims.proofs.Deciding.{Told, told_le, told_divides, told_bool, any_or_all}
use Rattle.verdict_claims.proofs.ReasonOrMet.{refuses_or_allows}

told_keeps : (rule : Rule) (m n : ℕ) → Told (Keeps rule m n)
told_keeps Greatest m n = told_le m n
told_keeps Least m n = told_le n m
told_keeps Multiple m n = told_divides m n

told_kept : (a b : ImageBounds) (f : Bound) → (¬ KeepsIn f a b) ⊎ KeepsIn f a b
told_kept a b f = by (told_keeps (rule_of f) (value f Width b) (value f Width a)) (told_keeps (rule_of f) (value f Height b) (value f Height a)) where
  both : Keeps (rule_of f) (value f Width b) (value f Width a) → Keeps (rule_of f) (value f Height b) (value f Height a) → KeepsIn f a b
  both w h Width = w
  both w h Height = h

  by : Told (Keeps (rule_of f) (value f Width b) (value f Width a)) → Told (Keeps (rule_of f) (value f Height b) (value f Height a)) → (¬ KeepsIn f a b) ⊎ KeepsIn f a b
  by (inl w) (inl h) = inr (both w h)
  by (inl w) (inr fails) = inl (λ keeps. fails (keeps Height))
  by (inr fails) h = inl (λ keeps. fails (keeps Width))

tighter_by : (a b : ImageBounds) → All (λ f. KeepsIn f a b) all_bounds → IsTighter a b
tighter_by a b all bound.MinSize = all 0 bound.MinSize (omega arith)
tighter_by a b all bound.MaxSize = all 1 bound.MinSize (omega arith)
tighter_by a b all bound.SizeAlignment = all 2 bound.MinSize (omega arith)
tighter_by a b all bound.MinBytesPerRow = all 3 bound.MinSize (omega arith)
tighter_by a b all bound.MaxBytesPerRow = all 4 bound.MinSize (omega arith)
tighter_by a b all bound.BytesPerRowDivisor = all 5 bound.MinSize (omega arith)
tighter_by a b all bound.StartOffsetDivisor = all 6 bound.MinSize (omega arith)
tighter_by a b all bound.DisplayRectAlignment = all 7 bound.MinSize (omega arith)
tighter_by a b all bound.RequiredMinSize = all 8 bound.MinSize (omega arith)
tighter_by a b all bound.RequiredMaxSize = all 9 bound.MinSize (omega arith)
tighter_by a b all bound.MaxWidthTimesHeight = all 10 bound.MinSize (omega arith)

module _ (heap : HeapFacts) (s : Settings) (p : Participant) where
  -- where a bound or the place fails, its field does
  abbrev FailsElse : Field → Type 0
  FailsElse f = IsSomeAnd (entry_bounds s.offer (offer_demand p)) (λ b. ¬ KeepsField f s.bounds b) ⊎ (refuses_by f p.memory p.usage heap s.place.coherency ≡ true)

  bound_fails : (f : Bound) → FailsElse (field_of f) → FailsIn (field_of f) heap s p
  bound_fails bound.MinSize fails = fails
  bound_fails bound.MaxSize fails = fails
  bound_fails bound.SizeAlignment fails = fails
  bound_fails bound.MinBytesPerRow fails = fails
  bound_fails bound.MaxBytesPerRow fails = fails
  bound_fails bound.BytesPerRowDivisor fails = fails
  bound_fails bound.StartOffsetDivisor fails = fails
  bound_fails bound.DisplayRectAlignment fails = fails
  bound_fails bound.RequiredMinSize fails = fails
  bound_fails bound.RequiredMaxSize fails = fails
  bound_fails bound.MaxWidthTimesHeight fails = fails

  place_fails : (f : Field) → refuses_by f p.memory p.usage heap s.place.coherency ≡ true → FailsIn f heap s p
  place_fails field.PixelFormat refuses = absurd (cc refuses)
  place_fails field.ColorSpaces refuses = absurd (cc refuses)
  place_fails field.MinSizeBytes refuses = absurd (cc refuses)
  place_fails field.MaxSizeBytes refuses = absurd (cc refuses)
  place_fails f refuses = inr refuses

  bounds_fail_or_ask : ((f : Field) × FailsIn f heap s p) ⊎ Asks s.offer (IsTighter s.bounds) (offer_demand p)
  bounds_fail_or_ask = at (entry_bounds s.offer (offer_demand p)) refl where
    at : (e : Option ImageBounds) → entry_bounds s.offer (offer_demand p) ≡ e → ((f : Field) × FailsIn f heap s p) ⊎ Asks s.offer (IsTighter s.bounds) (offer_demand p)
    at None is = inr (subst (λ o. IfSome o (IsTighter s.bounds)) (sym is) tt)
    at (Some b) is = elim (any_or_all (λ f. ¬ KeepsIn f s.bounds b) (λ f. KeepsIn f s.bounds b) (told_kept s.bounds b) all_bounds)
        as (λ _. ((f : Field) × FailsIn f heap s p) ⊎ Asks s.offer (IsTighter s.bounds) (offer_demand p)) [
          | inl any ↦ inl (
            field_of any.1,
            bound_fails any.1 (inl (subst (λ o. IsSomeAnd o (λ b. ¬ KeepsField (field_of any.1) s.bounds b)) (sym is)
                (λ keeps. any.4 ((keeps_named any.1 s.bounds b).1 keeps)))),
          )
          | inr all ↦ inr (subst (λ o. IfSome o (IsTighter s.bounds)) (sym is) (tighter_by s.bounds b all))
        ]

pub fails_or_covers : (platform : PlatformFacts) (heap : HeapFacts) (s : Settings) (p : Participant) → slice_get platform.heaps s.place.heap ≡ Some heap
    → ((f : Field) × FailsOn f platform s p) ⊎ CoversOn platform s p
fails_or_covers platform heap s p has =
    elim (told_bool (has_format s.offer (offer_demand p))) as (λ _. ((f : Field) × FailsOn f platform s p) ⊎ CoversOn platform s p) [
      | inl fails ↦ inl (field.PixelFormat, record { heap = heap; has = has; fails = fails })
      | inr format ↦ elim (told_bool (has_colour s.offer (offer_demand p))) as (λ _. ((f : Field) × FailsOn f platform s p) ⊎ CoversOn platform s p) [
        | inl fails ↦ inl (field.ColorSpaces, record { heap = heap; has = has; fails = fails })
        | inr colour ↦ elim (bounds_fail_or_ask heap s p) as (λ _. ((f : Field) × FailsOn f platform s p) ⊎ CoversOn platform s p) [
          | inl fails ↦ inl (fails.0, record { heap = heap; has = has; fails = fails.1 })
          | inr bounds ↦ elim (cases_lt s.size_bytes p.memory.min_size_bytes) as (λ _. ((f : Field) × FailsOn f platform s p) ⊎ CoversOn platform s p) [
            | inl fails ↦ inl (field.MinSizeBytes, record { heap = heap; has = has; fails = fails })
            | inr least ↦ elim (cases_lt p.memory.max_size_bytes s.size_bytes) as (λ _. ((f : Field) × FailsOn f platform s p) ⊎ CoversOn platform s p) [
              | inl fails ↦ inl (field.MaxSizeBytes, record { heap = heap; has = has; fails = fails })
              | inr most ↦ elim (refuses_or_allows p.memory p.usage heap s.place.coherency) as (λ _. ((f : Field) × FailsOn f platform s p) ⊎ CoversOn platform s p) [
                | inl refuses ↦ inl (refuses.0, record { heap = heap; has = has; fails = place_fails heap s p refuses.0 refuses.1 })
                | inr allowed ↦ inr (record {
                  heap = heap;
                  has = has;
                  covers = record { fit = record { offer = record { format = format; colour = colour; bounds = bounds }; min_size = least; max_size = most }; place = allowed };
                })
              ]
            ]
          ]
        ]
      ]
    ]
