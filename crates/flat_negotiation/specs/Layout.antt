-- The bytes of an image, and where its planes lie.
use Rattle.std.specs.Prelude.{◌≡◌, ℕ, ◌^◌, ◌≤◌, ◌⊎◌, List, [], ◌∷◌, Option, Some, None, length, slice_get}
use Rattle.sysmem_formats.specs.declared.offer.Pair.{Pair}
use Rattle.sysmem_formats.specs.Layout.{IsTiledMisfit}
use Rattle.drm_images.specs.declared.plane.Plane.{Plane}
use Rattle.drm_images.specs.Planes.{bytes_of, planes_of}
use Rattle.flat_negotiation.specs.Pairs.{HasCodes}
use Rattle.flat_negotiation.specs.declared.parts.flat.FlatLayout.{FlatLayout}
use Rattle.flat_negotiation.specs.declared.parts.flat.FlatPlane.{FlatPlane}

-- a plane as C has it, or all 0 where there is none
abbrev pub flat_plane : Option Plane → FlatPlane
flat_plane (Some plane) =
    record { offset = plane.offset; rows = plane.rows; pitch = plane.pitch; reserved = 0 }
flat_plane None = record { offset = 0; rows = 0; pitch = 0; reserved = 0 }

-- four of them
abbrev pub flat_planes : List Plane → List FlatPlane
flat_planes ps =
    flat_plane (slice_get ps 0) ∷ flat_plane (slice_get ps 1) ∷ flat_plane (slice_get ps 2)
    ∷ flat_plane (slice_get ps 3) ∷ []

-- the layout of an image of the pair: its bytes, and each of its planes
pub record IsPairLayout (pair : Pair) (pitch height : ℕ) (layout : FlatLayout) : Type 0 where
  pub bytes : layout.bytes ≡ bytes_of pair pitch height
  pub count : layout.count ≡ length (planes_of pair pitch height)
  pub planes : layout.planes ≡ flat_planes (planes_of pair pitch height)

-- the same of a pair with these codes
pub record IsLayout (format modifier pitch height : ℕ) (layout : FlatLayout) : Type 0 where
  pub pair : Pair
  pub codes : HasCodes format modifier pair
  pub is : IsPairLayout pair pitch height layout

-- no pair has these codes, or it is a tiled misfit, or its image has more bytes than 64 bits tell
abbrev pub IsNoLayout : ℕ → ℕ → ℕ → ℕ → Type 0
IsNoLayout format modifier pitch height = (pair : Pair) → HasCodes format modifier pair
    → IsTiledMisfit pair ⊎ (2 ^ 64 ≤ bytes_of pair pitch height)

-- no image
abbrev pub no_layout : FlatLayout
no_layout = record { bytes = 0; count = 0; reserved = 0; planes = flat_planes [] }
