-- The text of a line.
use Rattle.std.proofs.Common.{◌≡◌, ℕ, ◌++◌, List, [], ◌∷◌, codes, decimal, false, map, Result, OnOk, refl, sym, subst, ap, ◌∙◌, append_assoc}
use Rattle.json.specs.Print.{escape, escape_byte}
use Rattle.serde_json.specs.Data.{Data, object, member, no_members}
use Rattle.serde_json.specs.View.{items_of}
use Rattle.serde_json.specs.Written.{compact_text, items_text}
use Rattle.sysmem_counts.specs.Field.{field_name}
use Rattle.sysmem_counts.specs.declared.field.Field.{Field}
use Rattle.verdict_claims.specs.declared.refutation.Item.TheVariants.{Split}
use Rattle.verdict_claims.specs.Line.{LineFacts}
use Rattle.certificate_text.specs.Told.{item_data, line_data, lines_data, named_data, paths_data}

-- `{"field":"`
abbrev pub line_front : List ℕ
line_front = 123 ∷ 34 ∷ (codes "field" ++ 34 ∷ 58 ∷ 34 ∷ [])

-- `","nodes":`
abbrev pub line_middle : List ℕ
line_middle = 34 ∷ 44 ∷ 34 ∷ (codes "nodes" ++ 34 ∷ 58 ∷ [])

regroup : (o a n b p e : List ℕ) → ((((o ++ a) ++ n) ++ b) ++ p) ++ e ≡ o ++ (a ++ (n ++ (b ++ (p ++ e))))
regroup o a n b p e = simp append_assoc

-- the parts of a line's text, one after the other
pub line_put : (old : List ℕ) (field : Field) (nodes : List (List ℕ)) → escape (field_name field) ≡ field_name field
    → ((((old ++ line_front) ++ field_name field) ++ line_middle) ++ compact_text (paths_data nodes)) ++ 125 ∷ [] ≡ old ++ compact_text (named_data (codes "field") field nodes)
unfolding escape_byte
line_put old field nodes plain =
    let name = field_name field in
    let paths = compact_text (paths_data nodes) in
    let behind : List ℕ = 44 ∷ 34 ∷ (codes "nodes" ++ 34 ∷ 58 ∷ (paths ++ 125 ∷ [])) in
    regroup old line_front name line_middle paths (125 ∷ [])
    ∙ ap (λ s. old ++ (line_front ++ s)) (sym (append_assoc name (34 ∷ []) behind))
    ∙ ap (λ s. old ++ (line_front ++ ((s ++ 34 ∷ []) ++ behind))) (sym plain)

kind_regroup : (o a k b n m p e : List ℕ) → ((((((o ++ a) ++ k) ++ b) ++ n) ++ m) ++ p) ++ e ≡ o ++ (a ++ (k ++ (b ++ (n ++ (m ++ (p ++ e))))))
kind_regroup o a k b n m p e = simp append_assoc

lines_regroup : (o a k b l e : List ℕ) → ((((o ++ a) ++ k) ++ b) ++ l) ++ e ≡ o ++ (a ++ (k ++ (b ++ (l ++ e))))
lines_regroup o a k b l e = simp append_assoc

-- the parts of an object's text with a kind, one after the other
pub named_put : (old kind : List ℕ) (field : Field) (nodes : List (List ℕ)) → escape kind ≡ kind → escape (field_name field) ≡ field_name field
    → ((((((old ++ 123 ∷ 34 ∷ []) ++ kind) ++ 34 ∷ 58 ∷ 34 ∷ []) ++ field_name field) ++ line_middle) ++ compact_text (paths_data nodes)) ++ 125 ∷ [] ≡ old ++ compact_text (named_data kind field nodes)
unfolding escape_byte
named_put old kind field nodes plain_kind plain =
    let name = field_name field in
    let paths = compact_text (paths_data nodes) in
    let behind : List ℕ = 44 ∷ 34 ∷ (codes "nodes" ++ 34 ∷ 58 ∷ (paths ++ 125 ∷ [])) in
    let value : List ℕ = 58 ∷ 34 ∷ ((escape name ++ 34 ∷ []) ++ behind) in
    kind_regroup old (123 ∷ 34 ∷ []) kind (34 ∷ 58 ∷ 34 ∷ []) name line_middle paths (125 ∷ [])
    ∙ ap (λ s. old ++ 123 ∷ 34 ∷ (kind ++ 34 ∷ 58 ∷ 34 ∷ s)) (sym (append_assoc name (34 ∷ []) behind))
    ∙ ap (λ s. old ++ 123 ∷ 34 ∷ (kind ++ 34 ∷ 58 ∷ 34 ∷ ((s ++ 34 ∷ []) ++ behind))) (sym plain)
    ∙ ap (λ s. old ++ 123 ∷ 34 ∷ s) (sym (append_assoc kind (34 ∷ []) value))
    ∙ ap (λ s. old ++ 123 ∷ 34 ∷ ((s ++ 34 ∷ []) ++ value)) (sym plain_kind)

-- the same of lines under a kind
pub lines_put : (old kind : List ℕ) (lines : List LineFacts) → escape kind ≡ kind
    → (((((old ++ 123 ∷ 34 ∷ []) ++ kind) ++ 34 ∷ 58 ∷ 91 ∷ []) ++ items_text false (items_of (map line_data lines))) ++ 125 ∷ [])
    ≡ old ++ compact_text (object (member kind (lines_data lines) no_members))
lines_put old kind lines plain =
    let value : List ℕ = 58 ∷ 91 ∷ (items_text false (items_of (map line_data lines)) ++ 125 ∷ []) in
    lines_regroup old (123 ∷ 34 ∷ []) kind (34 ∷ 58 ∷ 91 ∷ []) (items_text false (items_of (map line_data lines))) (125 ∷ [])
    ∙ ap (λ s. old ++ 123 ∷ 34 ∷ s) (sym (append_assoc kind (34 ∷ []) value))
    ∙ ap (λ s. old ++ 123 ∷ 34 ∷ ((s ++ 34 ∷ []) ++ value)) (sym plain)

-- the same of how many children a group has
pub split_put : (old : List ℕ) (n : ℕ) → ((old ++ 123 ∷ 34 ∷ (codes "split" ++ 34 ∷ 58 ∷ [])) ++ decimal n) ++ 125 ∷ [] ≡ old ++ compact_text (item_data (Split n))
unfolding escape_byte
split_put old n = append_assoc (old ++ 123 ∷ 34 ∷ (codes "split" ++ 34 ∷ 58 ∷ [])) (decimal n) (125 ∷ []) ∙ append_assoc old (123 ∷ 34 ∷ (codes "split" ++ 34 ∷ 58 ∷ [])) (decimal n ++ 125 ∷ [])

-- the kinds of conflicts need no escape
pub count_plain : escape (codes "count") ≡ codes "count"
unfolding escape_byte
count_plain = refl

pub fixed_plain : escape (codes "fixed") ≡ codes "fixed"
unfolding escape_byte
fixed_plain = refl

pub places_plain : escape (codes "places") ≡ codes "places"
unfolding escape_byte
places_plain = refl

pub offers_plain : escape (codes "offers") ≡ codes "offers"
unfolding escape_byte
offers_plain = refl

-- what is put of data is put of the same data
pub told_as : {T E : Type 0} (r : Result T E) (old new : List ℕ) (d e : Data) → d ≡ e → OnOk r (new ≡ old ++ compact_text d) → OnOk r (new ≡ old ++ compact_text e)
told_as r old new d e same h = subst (λ x. OnOk r (new ≡ old ++ compact_text x)) same h
