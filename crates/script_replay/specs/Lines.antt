-- The lines of a report. Each ends with a newline.
use Rattle.std.specs.Prelude.{◌≡◌, ℕ, ◌++◌, List, [], ◌∷◌, Option, Some, None, OnOk, Result, String}
use Rattle.std.specs.Prelude.{codes, slice_get, string_bytes}
use Rattle.std.specs.declared.alloc.Global.{Global}
use Rattle.std.specs.Fmt.{decimal}
use Rattle.sysmem_memory.specs.Domain.{domain_name}
use Rattle.sysmem_memory.specs.Heap.{HeapFacts}
use Rattle.sysmem_formats.specs.declared.colour_space.ColourSpace.{ColourSpace}
use Rattle.sysmem_formats.specs.declared.offer.Offer.{Offer}
use Rattle.sysmem_formats.specs.declared.offer.Offer.TheVariants.{NoImage, Image}
use Rattle.sysmem_formats.specs.declared.offer.Pair.{Pair}
use Rattle.sysmem_formats.specs.Names.{colour_name, format_name, modifier_name}
use Rattle.sysmem_image.specs.declared.size.Corner.{Corner}
use Rattle.sysmem_merge.specs.declared.settings.Settings.{Settings}
use Rattle.verdict_claims.specs.Chosen.{ChosenFacts}
use Rattle.negotiation_inputs.specs.Platform.{PlatformFacts}
use Rattle.record_reading.specs.Faults.{fault_text}
use Rattle.sysmem_tree.specs.Refusal.{refusal_text}
use Rattle.certificate_text.specs.Paths.{path_text}
use Rattle.script_replay.specs.declared.reply.Reply.{Reply}
use Rattle.script_replay.specs.declared.reply.Reply.TheVariants.{Accepted, Refused, Misread}
use Rattle.script_replay.specs.declared.reply.Reply.TheVariants.{Skipped}
use Rattle.script_reading.specs.Call.{ActFacts, act_name, name_made}
use Rattle.script_reading.specs.Script.{CallFacts}

abbrev pub reply_text : Reply → List ℕ
reply_text Accepted = codes "ok"
reply_text (Refused refusal) = refusal_text refusal
reply_text (Misread fault) = fault_text fault
reply_text Skipped = codes "skipped"

-- a name, if there is one, after a space
abbrev pub spaced : Option (List ℕ) → List ℕ
spaced (Some name) = codes " " ++ name
spaced None = []

-- the name that the call makes, if it makes one, after a space
abbrev pub new_name : ActFacts → List ℕ
new_name act = spaced (name_made act)

-- `7 duplicate root a ok`
abbrev pub call_line : ℕ → CallFacts → Reply → List ℕ
call_line number r reply = decimal number ++ codes " " ++ act_name r.act ++ codes " " ++ r.on
    ++ new_name r.act ++ codes " " ++ reply_text reply ++ codes "\n"

-- `ram#0`, of the heap of a place
abbrev pub heap_text : Option HeapFacts → List ℕ
heap_text (Some h) = h.heap.heap_type ++ codes "#" ++ decimal h.heap.id
heap_text None = []

-- `NV12 LINEAR REC709 `
abbrev pub format_text : Pair → ColourSpace → List ℕ
format_text pair colour = format_name pair.format ++ codes " " ++ modifier_name pair.modifier
    ++ codes " " ++ colour_name colour ++ codes " "

-- `1920x1088 row 1920`: width and height in pixels, the row in bytes
abbrev pub corner_text : Corner → List ℕ
corner_text k =
    decimal k.width ++ codes "x" ++ decimal k.height ++ codes " row " ++ decimal k.bytes_per_row

-- `NV12 LINEAR REC709 1920x1088 row 1920`, of the smallest image, or `none`
abbrev pub image_text : Offer → Corner → List ℕ
image_text NoImage k = codes "none"
image_text (Image pair colour) k = format_text pair colour ++ corner_text k

-- `count 2 size 4096 place ram#0 cpu image `
abbrev pub settings_text : PlatformFacts → Settings → List ℕ
settings_text platform s =
    (codes "count " ++ decimal s.count ++ codes " size " ++ decimal s.size_bytes ++ codes " place ")
    ++ heap_text (slice_get platform.heaps s.place.heap)
    ++ (codes " " ++ domain_name s.place.coherency ++ codes " image ")

-- each number after this mark: `.0.1`
abbrev pub marked : List ℕ → List ℕ → List ℕ
marked mark [] = []
marked mark (n ∷ ns) = (mark ++ decimal n) ++ marked mark ns

-- `0.1`, one choice for each group in effect, or `-` where there is none
abbrev pub selection_text : List ℕ → List ℕ
selection_text [] = codes "-"
selection_text (choice ∷ choices) = decimal choice ++ marked (codes ".") choices

-- `chosen 0.1 count 2 size 4096 place ram#0 cpu image none`
abbrev pub chosen_text : PlatformFacts → ChosenFacts → Corner → List ℕ
chosen_text platform chosen k =
    codes "chosen " ++ selection_text chosen.selection ++ codes " "
    ++ settings_text platform chosen.settings
    ++ image_text chosen.settings.offer k

-- `domain /0/1 empty`: what became of the domain whose root is at this path
abbrev pub domain_line : List ℕ → List ℕ → List ℕ
domain_line path what = codes "domain " ++ path_text path ++ codes " " ++ what ++ codes "\n"

-- where the result is Ok, the line was put after the text
abbrev pub Puts : {T E : Type 0} → Result T E → String Global → String Global → List ℕ → Type 0
Puts result old new line = OnOk result (string_bytes new ≡ string_bytes old ++ line)
