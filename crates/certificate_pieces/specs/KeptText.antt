-- The text that is kept of a line.
use Rattle.std.specs.Prelude.{◌≡◌, ◌⊎◌, ℕ, List, Some, if◌then◌else◌, length, nat_le}
use Rattle.serde_json.specs.Written.{compact_text}
use Rattle.verdict_claims.specs.Line.{LineFacts}
use Rattle.verdict_claims.specs.PathList.{numbers_of}
use Rattle.certificate_text.specs.Told.{paths_data}
use Rattle.certificate_pieces.specs.declared.kept.LineCache.{LineCache}
use Rattle.certificate_pieces.specs.declared.kept.NextLine.{NextLine}

-- the text that is kept of a line with so many paths
abbrev pub kept_text : LineCache → LineFacts → List ℕ
kept_text kept line =
    if nat_le (length (numbers_of line.nodes)) 4 then kept.few.text else kept.many.text

-- where the line of many paths that is kept stands at the earlier place, its paths are this line's
abbrev pub IsKnown : LineCache → LineFacts → NextLine → Type 0
IsKnown kept line known = (at : ℕ) → known.earlier ≡ Some at → kept.place ≡ Some at
    → kept.many.paths ≡ compact_text (paths_data line.nodes)

-- the line of many paths that is kept stands at this place and has this line's paths, or it is the
-- one that was kept
abbrev pub GoesOn : LineCache → LineCache → LineFacts → ℕ → Type 0
GoesOn old new line place = (at : ℕ) → new.place ≡ Some at
    → ((at ≡ place) × (new.many.paths ≡ compact_text (paths_data line.nodes)))
    ⊎ ((old.place ≡ Some at) × (new.many.paths ≡ old.many.paths))
