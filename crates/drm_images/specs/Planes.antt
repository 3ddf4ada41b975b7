-- Where the planes of an image lie.
use Rattle.std.specs.Prelude.{ℕ, ◌+◌, ◌*◌, ◌/◌, List, [], ◌∷◌}
use Rattle.sysmem_formats.specs.declared.offer.Pair.{Pair}
use Rattle.sysmem_formats.specs.declared.pixel_format.Sampling.{Sampling}
use Rattle.sysmem_formats.specs.declared.pixel_format.Sampling.TheVariants.{Full, HalfRow}
use Rattle.sysmem_formats.specs.declared.pixel_format.Sampling.TheVariants.{TwoPlanes, ThreePlanes}
use Rattle.sysmem_formats.specs.Formats.{sampling_of}
use Rattle.sysmem_formats.specs.Layout.{plane_bytes, rows_of}
use Rattle.drm_images.specs.declared.plane.Plane.{Plane}

-- the plane that a format has first, or alone
abbrev pub first_plane : ℕ → ℕ → Plane
first_plane pitch rows = record { offset = 0; pitch = pitch; rows = rows }

-- a plane of two colours, which takes turns: half as many rows
abbrev pub paired_plane : ℕ → ℕ → ℕ → Plane
paired_plane offset pitch rows = record { offset = offset; pitch = pitch; rows = rows / 2 }

-- a plane of one colour: half as many rows, of half as many bytes
abbrev pub colour_plane : ℕ → ℕ → ℕ → Plane
colour_plane offset pitch rows = record { offset = offset; pitch = pitch / 2; rows = rows / 2 }

-- two of these, one after the other
abbrev pub two_colours : ℕ → ℕ → ℕ → List Plane
two_colours offset pitch rows =
    colour_plane offset pitch rows ∷ colour_plane (offset + pitch / 2 * (rows / 2)) pitch rows ∷ []

-- the planes of an image whose colours lie so, in the order of DRM, one after the other
abbrev pub planes_in : Sampling → ℕ → ℕ → List Plane
planes_in Full pitch rows = first_plane pitch rows ∷ []
planes_in HalfRow pitch rows = first_plane pitch rows ∷ []
planes_in TwoPlanes pitch rows =
    first_plane pitch rows ∷ paired_plane (pitch * rows) pitch rows ∷ []
planes_in ThreePlanes pitch rows = first_plane pitch rows ∷ two_colours (pitch * rows) pitch rows

-- the planes of an image of rows of so many bytes, its height in pixels
abbrev pub planes_of : Pair → ℕ → ℕ → List Plane
planes_of pair pitch height =
    planes_in (sampling_of pair.format) pitch (rows_of pair.modifier height)

-- the bytes of such an image
abbrev pub bytes_of : Pair → ℕ → ℕ → ℕ
bytes_of pair pitch height = plane_bytes pair.format (pitch * rows_of pair.modifier height)

-- where a plane ends
abbrev pub plane_end : Plane → ℕ
plane_end plane = plane.offset + plane.pitch * plane.rows
