-- Lines that are put one after the other.
use Rattle.std.proofs.Common.{arith, ◌≡◌, ◌<◌, ◌≤◌, ◌+◌, ℕ, suc, Bool, false, ◌++◌, List, ◌∷◌, All, Contains, Option, Some, true, drop, get_or, length, map, nat_lt, slice_get, sym, subst, ap, ◌∙◌, append_assoc, lt-ltb}
use Rattle.std.specs.Int.{from_bool}
use Rattle.std.proofs.lemmas.List.{drop_more}
use Rattle.std.proofs.lemmas.Option.{same_Some}
use Rattle.serde_json.specs.View.{items_of}
use Rattle.serde_json.specs.Written.{comma_if, compact_text, items_text}
use Rattle.verdict_claims.specs.Line.{IsAgain, LineFacts}
use Rattle.certificate_text.specs.Out.{IsKept}
use Rattle.certificate_text.specs.Told.{line_data}
use Rattle.certificate_text.specs.declared.text.WrittenLine.{WrittenLine}

-- what is put with a line, and the lines behind it, is what was put and the lines from it on
pub one_put : (old now new : List ℕ) (lines : List LineFacts) (at : ℕ) (line : LineFacts) → at < length lines → line ≡ get_or lines at line → now ≡ old ++ comma_if (nat_lt 0 at)
    → new ≡ now ++ compact_text (line_data line)
    → new ++ items_text (nat_lt 0 (at + 1)) (items_of (map line_data (drop (at + 1) lines))) ≡ old ++ items_text (nat_lt 0 at) (items_of (map line_data (drop at lines)))
one_put old now new lines at line inside is comma text =
    let left : drop at lines ≡ line ∷ drop (at + 1) lines = drop_more lines at line inside ∙ ap (λ l. l ∷ drop (at + 1) lines) (sym is) in
    let rest = items_text true (items_of (map line_data (drop (at + 1) lines))) in
    ap (λ later. new ++ items_text later (items_of (map line_data (drop (at + 1) lines)))) (lt-ltb 0 (at + 1) (omega arith))
    ∙ ap (λ s. s ++ rest) (text ∙ ap (λ s. s ++ compact_text (line_data line)) comma)
    ∙ append_assoc (old ++ comma_if (nat_lt 0 at)) (compact_text (line_data line)) rest
    ∙ append_assoc old (comma_if (nat_lt 0 at)) (compact_text (line_data line) ++ rest)
    ∙ sym (ap (λ ls. old ++ items_text (nat_lt 0 at) (items_of (map line_data ls))) left)

-- the line before that is kept is this one, where this is that once more
pub kept_again : (lines : List LineFacts) (again : List ℕ) (at : ℕ) (line : LineFacts) (few many : Option WrittenLine) → All (IsAgain lines) again → Contains again at → slice_get lines at ≡ Some line
    → ((k : ℕ) (l : LineFacts) → at ≡ suc k → slice_get lines k ≡ Some l → IsKept few many l) → IsKept few many line
kept_again lines again at line few many all (k, below, is) here last =
    let known : IsAgain lines at = subst (IsAgain lines) is (all k at below) in
    let same : known.line ≡ line = same_Some known.line line (sym known.same ∙ here) in
    last known.before line known.next (known.first ∙ ap (λ l. Some l) same)

-- the line that was put is the one before the next
pub last_kept : (lines : List LineFacts) (at k : ℕ) (line l : LineFacts) (few many : Option WrittenLine) → IsKept few many line → slice_get lines at ≡ Some line → at + 1 ≡ suc k → slice_get lines k ≡ Some l
    → IsKept few many l
last_kept lines at k line l few many is here next there =
    let same : k ≡ at = omega (arith, next) in
    subst (IsKept few many) (same_Some line l (sym here ∙ ap (slice_get lines) (sym same) ∙ there)) is

-- a place is passed at most
pub one_more : (b : Bool) → from_bool b ≤ 1
one_more true = omega arith
one_more false = omega arith
