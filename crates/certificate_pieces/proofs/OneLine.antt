-- One line more in a list that is told.
use Rattle.std.proofs.Common.{arith, inl, inr, ◌≡◌, ◌⊎◌, ◌<◌, ◌≤◌, ◌+◌, ℕ, Bool, true, false, ◌++◌, List, ◌∷◌, All, Contains, IfSome, Option, Some, drop, get_or, length, map, nat_lt, slice_get, sym, subst, ap, ◌∙◌, append_assoc, lt-ltb}
use Rattle.std.specs.Int.{from_bool}
use Rattle.std.proofs.lemmas.List.{drop_more}
use Rattle.std.proofs.lemmas.Option.{same_Some}
use Rattle.serde_json.specs.View.{items_of}
use Rattle.serde_json.specs.Written.{comma_if, compact_text, items_text}
use Rattle.verdict_claims.specs.declared.line.SharedPaths.{SharedPaths}
use Rattle.verdict_claims.specs.Line.{IsAgain, LineFacts, SharePaths}
use Rattle.certificate_text.specs.Told.{line_data, paths_data}
use Rattle.certificate_pieces.specs.declared.kept.LineCache.{LineCache}
use Rattle.certificate_pieces.specs.KeptText.{GoesOn}

-- what was told with a line, and the lines behind it, is what was told and the lines from it on
pub one_line : (lines : List LineFacts) (at : ℕ) (line : LineFacts) (told whole : List ℕ) → at < length lines → line ≡ get_or lines at line
    → told ++ items_text (nat_lt 0 at) (items_of (map line_data (drop at lines))) ≡ whole
    → (told ++ (comma_if (nat_lt 0 at) ++ compact_text (line_data line))) ++ items_text (nat_lt 0 (at + 1)) (items_of (map line_data (drop (at + 1) lines))) ≡ whole
one_line lines at line told whole inside is all =
    let left : drop at lines ≡ line ∷ drop (at + 1) lines = drop_more lines at line inside ∙ ap (λ l. l ∷ drop (at + 1) lines) (sym is) in
    let comma = comma_if (nat_lt 0 at) in
    let text = compact_text (line_data line) in
    let rest = items_text true (items_of (map line_data (drop (at + 1) lines))) in
    ap (λ later. (told ++ (comma ++ text)) ++ items_text later (items_of (map line_data (drop (at + 1) lines)))) (lt-ltb 0 (at + 1) (omega arith))
    ∙ append_assoc told (comma ++ text) rest ∙ ap (λ s. told ++ s) (append_assoc comma text rest)
    ∙ sym (ap (λ ls. told ++ items_text (nat_lt 0 at) (items_of (map line_data ls))) left) ∙ all

-- what holds of a line holds of the next, where this is known to be that once more
pub line_after : (P : LineFacts → Type 0) (lines : List LineFacts) (again : List ℕ) (at : ℕ) (line l : LineFacts) → All (IsAgain lines) again → Contains again (at + 1)
    → slice_get lines at ≡ Some line → slice_get lines (at + 1) ≡ Some l → P line → P l
line_after P lines again at line l all (k, below, is) here there holds =
    let known : IsAgain lines (at + 1) = subst (IsAgain lines) is (all k (at + 1) below) in
    let before : known.before ≡ at = omega (arith, known.next) in
    let first : line ≡ known.line = same_Some line known.line (sym here ∙ sym (ap (slice_get lines) before) ∙ known.first) in
    let same : known.line ≡ l = same_Some known.line l (sym known.same ∙ there) in
    subst P (first ∙ same) holds

-- a place is passed at most
pub one_more : (b : Bool) → from_bool b ≤ 1
one_more true = omega arith
one_more false = omega arith

-- the line that is kept stands in the list, and the text of its paths is kept
abbrev pub KeepsOne : List LineFacts → LineCache → Type 0
KeepsOne lines kept = (at : ℕ) (line : LineFacts) → kept.place ≡ Some at → slice_get lines at ≡ Some line → kept.many.paths ≡ compact_text (paths_data line.nodes)

-- a pair of those with the same paths has this place behind, and this one first
abbrev pub IsPair : List SharedPaths → ℕ → ℕ → Type 0
IsPair shared place earlier = (pair : SharedPaths) × Contains shared pair × (pair.earlier ≡ earlier) × (pair.later ≡ place)

-- so it is the text of a line that has the paths of that one
pub paths_known : (lines : List LineFacts) (shared : List SharedPaths) (kept : LineCache) (earlier : Option ℕ) (at place : ℕ) (line : LineFacts)
    → All (SharePaths lines) shared → IfSome earlier (IsPair shared place) → earlier ≡ Some at → slice_get lines place ≡ Some line → kept.place ≡ Some at → KeepsOne lines kept
    → kept.many.paths ≡ compact_text (paths_data line.nodes)
paths_known lines shared kept earlier at place line all pairs some here there one =
    let (pair, (k, below, is), first, last) = subst (λ o. IfSome o (IsPair shared place)) some pairs in
    let known : SharePaths lines pair = subst (SharePaths lines) is (all k pair below) in
    let same : known.later ≡ line = same_Some known.later line (sym known.second ∙ ap (slice_get lines) last ∙ here) in
    one at known.earlier there (ap (slice_get lines) (sym first) ∙ known.first) ∙ ap (λ ns. compact_text (paths_data ns)) (sym known.same ∙ ap (λ l. l.nodes) same)

one_on : (lines : List LineFacts) (place : ℕ) (line : LineFacts) (old new : LineCache) (at : ℕ) (l : LineFacts) → slice_get lines place ≡ Some line → slice_get lines at ≡ Some l
    → ((at ≡ place) × (new.many.paths ≡ compact_text (paths_data line.nodes))) ⊎ ((old.place ≡ Some at) × (new.many.paths ≡ old.many.paths)) → KeepsOne lines old
    → new.many.paths ≡ compact_text (paths_data l.nodes)
one_on lines place line old new at l here there (inl (is, paths)) one =
    paths ∙ ap (λ m. compact_text (paths_data m.nodes)) (same_Some line l (sym here ∙ ap (slice_get lines) (sym is) ∙ there))
one_on lines place line old new at l here there (inr (before, same)) one = same ∙ one at l before there

-- and a line is kept so behind one that is told
pub goes_on : (lines : List LineFacts) (place : ℕ) (line : LineFacts) (old new : LineCache) → slice_get lines place ≡ Some line → GoesOn old new line place → KeepsOne lines old → KeepsOne lines new
goes_on lines place line old new here on one at l is there = one_on lines place line old new at l here there (on at is) one
