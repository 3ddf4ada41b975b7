-- How calls end, by whether a text has room.
use Rattle.std.proofs.Common.{◌≡◌, refl, ℕ, ◌<◌, ◌⊎◌, List, length, subst, sym}
use Rattle.flat_negotiation.specs.declared.parts.flat.FlatParticipant.{FlatParticipant}
use Rattle.flat_negotiation.specs.declared.parts.flat.FlatPlatform.{FlatPlatform}
use Rattle.flat_negotiation.specs.declared.flat.FlatRefusal.{FlatRefusal}
use Rattle.flat_negotiation.specs.declared.flat.FlatSettings.{FlatSettings}
use Rattle.flat_negotiation.specs.declared.unsettled.Unsettled.{Unsettled}
use Rattle.flat_negotiation.specs.Refusals.{flat_refusal}
use Rattle.flat_negotiation.specs.Unsettled.{AreUnsettled}
use Rattle.mezulobu.specs.Negotiated.{Negotiates, refuses_them, status_of}
use Rattle.caller_buffers.specs.Filled.{IsFilled}
use Rattle.mezulobu.specs.Ends.{Ends, EndsBoth, handed_out, too_small, both_out, one_too_small}

pub ends_out : (Says : ℕ → List ℕ → Type 0) (before after : List ℕ) (size status : ℕ) (text shown : List ℕ) → Says status text → size ≡ length text → shown ≡ text
    → IsFilled shown before after → Ends Says before after size status
ends_out Says before after size status text shown says long is filled = handed_out status text says long (subst (λ (t : List ℕ). IsFilled t before after) is filled)

pub ends_small : (Says : ℕ → List ℕ → Type 0) (before after : List ℕ) (size status : ℕ) (text shown : List ℕ) → Says status text → size ≡ length text → shown ≡ text
    → length before < length shown → after ≡ before → Ends Says before after size 5
ends_small Says before after size status text shown says long is small kept = too_small status text says long (subst (λ (t : List ℕ). length before < length t) is small) kept

pub ends_both : (Says : ℕ → List ℕ → List ℕ → Type 0) (before after other_before other_after : List ℕ) (size other_size status : ℕ) (text shown other other_shown : List ℕ) → Says status text other
    → size ≡ length text → other_size ≡ length other → shown ≡ text → other_shown ≡ other → IsFilled shown before after → IsFilled other_shown other_before other_after
    → EndsBoth Says before after other_before other_after size other_size status
ends_both Says before after other_before other_after size other_size status text shown other other_shown says long other_long is other_is filled other_filled =
    both_out status text other says long other_long (subst (λ (t : List ℕ). IsFilled t before after) is filled) (subst (λ (t : List ℕ). IsFilled t other_before other_after) other_is other_filled)

pub ends_one_small : (Says : ℕ → List ℕ → List ℕ → Type 0) (before after other_before other_after : List ℕ) (size other_size status : ℕ) (text shown other other_shown : List ℕ) → Says status text other
    → size ≡ length text → other_size ≡ length other → shown ≡ text → other_shown ≡ other → (length before < length shown) ⊎ (length other_before < length other_shown) → after ≡ before → other_after ≡ other_before
    → EndsBoth Says before after other_before other_after size other_size 5
ends_one_small Says before after other_before other_after size other_size status text shown other other_shown says long other_long is other_is small kept other_kept =
    one_too_small status text other says long other_long
    (subst (λ (t : List ℕ). (length before < length text) ⊎ (length other_before < length t)) other_is
    (subst (λ (t : List ℕ). (length before < length t) ⊎ (length other_before < length other_shown)) is small)) kept other_kept

pub ends_unsettled : (platform : FlatPlatform) (participants : List FlatParticipant) (settings : FlatSettings) (refusal why : FlatRefusal) (status : ℕ) (unsettled : Unsettled)
    → AreUnsettled platform participants unsettled → why ≡ flat_refusal refusal.struct_size unsettled → status ≡ status_of unsettled
    → Negotiates platform participants settings settings refusal why status
ends_unsettled platform participants settings refusal why status unsettled are told is =
    subst (λ (n : ℕ). Negotiates platform participants settings settings refusal why n) (sym is) (refuses_them unsettled are told refl)
