-- The names of fields and limits, and what a record has at a field.
use Rattle.std.specs.Prelude.{ℕ, List, codes}
use Rattle.sysmem_counts.specs.declared.field.Field.{Field}
use Rattle.sysmem_counts.specs.declared.field.Field.TheVariants as field
use Rattle.sysmem_counts.specs.declared.field.Kind.{Kind}
use Rattle.sysmem_counts.specs.declared.field.Kind.TheVariants as kind

-- a field's name in a script
abbrev pub field_name : Field → List ℕ
field_name field.Usage = codes "usage"
field_name field.MinBufferCountForCamping = codes "min_buffer_count_for_camping"
field_name field.MinBufferCountForDedicatedSlack = codes "min_buffer_count_for_dedicated_slack"
field_name field.MinBufferCountForSharedSlack = codes "min_buffer_count_for_shared_slack"
field_name field.MinBufferCount = codes "min_buffer_count"
field_name field.MaxBufferCount = codes "max_buffer_count"
field_name field.BufferMemoryConstraints = codes "buffer_memory_constraints"
field_name field.ImageFormatConstraints = codes "image_format_constraints"
field_name field.MinSizeBytes = codes "min_size_bytes"
field_name field.MaxSizeBytes = codes "max_size_bytes"
field_name field.PhysicallyContiguousRequired = codes "physically_contiguous_required"
field_name field.SecureRequired = codes "secure_required"
field_name field.CpuDomainSupported = codes "cpu_domain_supported"
field_name field.RamDomainSupported = codes "ram_domain_supported"
field_name field.InaccessibleDomainSupported = codes "inaccessible_domain_supported"
field_name field.PermittedHeaps = codes "permitted_heaps"
field_name field.PixelFormat = codes "pixel_format"
field_name field.PixelFormatModifier = codes "pixel_format_modifier"
field_name field.PixelFormatAndModifiers = codes "pixel_format_and_modifiers"
field_name field.ColorSpaces = codes "color_spaces"
field_name field.MinSize = codes "min_size"
field_name field.MaxSize = codes "max_size"
field_name field.SizeAlignment = codes "size_alignment"
field_name field.MinBytesPerRow = codes "min_bytes_per_row"
field_name field.MaxBytesPerRow = codes "max_bytes_per_row"
field_name field.BytesPerRowDivisor = codes "bytes_per_row_divisor"
field_name field.StartOffsetDivisor = codes "start_offset_divisor"
field_name field.DisplayRectAlignment = codes "display_rect_alignment"
field_name field.RequiredMinSize = codes "required_min_size"
field_name field.RequiredMaxSize = codes "required_max_size"
field_name field.MaxWidthTimesHeight = codes "max_width_times_height"
field_name field.RequireBytesPerRowAtPixelBoundary = codes "require_bytes_per_row_at_pixel_boundary"
field_name field.BufferCountLimit = codes "buffer_count_limit"
field_name field.UnnamedPixelFormat = codes "unnamed_pixel_format"
field_name field.UnnamedPixelFormatModifier = codes "unnamed_pixel_format_modifier"
field_name field.UnnamedColorSpace = codes "unnamed_color_space"
field_name field.Heaps = codes "heaps"
field_name field.Pairs = codes "pairs"
field_name field.HeapType = codes "heap_type"
field_name field.Id = codes "id"
field_name field.Contiguous = codes "contiguous"
field_name field.Secure = codes "secure"
field_name field.Domains = codes "domains"

-- what a record has at a field: where it isn't named here, a whole number
abbrev pub kind_of : Field → Kind
kind_of field.PhysicallyContiguousRequired = kind.Flag
kind_of field.SecureRequired = kind.Flag
kind_of field.CpuDomainSupported = kind.Flag
kind_of field.RamDomainSupported = kind.Flag
kind_of field.InaccessibleDomainSupported = kind.Flag
kind_of field.RequireBytesPerRowAtPixelBoundary = kind.Flag
kind_of field.Contiguous = kind.Flag
kind_of field.Secure = kind.Flag
kind_of field.MinSize = kind.Sides
kind_of field.MaxSize = kind.Sides
kind_of field.SizeAlignment = kind.Sides
kind_of field.DisplayRectAlignment = kind.Sides
kind_of field.RequiredMinSize = kind.Sides
kind_of field.RequiredMaxSize = kind.Sides
kind_of field.PixelFormat = kind.Name
kind_of field.PixelFormatModifier = kind.Name
kind_of field.HeapType = kind.Name
kind_of field.Usage = kind.Names
kind_of field.ImageFormatConstraints = kind.Objects
kind_of field.PermittedHeaps = kind.Objects
kind_of field.PixelFormatAndModifiers = kind.Objects
kind_of field.ColorSpaces = kind.Names
kind_of field.Heaps = kind.Objects
kind_of field.Pairs = kind.Objects
kind_of field.Domains = kind.Names
kind_of field.BufferMemoryConstraints = kind.Object
kind_of field.BufferCountLimit = kind.Limit
kind_of field.UnnamedPixelFormat = kind.Limit
kind_of field.UnnamedPixelFormatModifier = kind.Limit
kind_of field.UnnamedColorSpace = kind.Limit
kind_of _ = kind.Number
