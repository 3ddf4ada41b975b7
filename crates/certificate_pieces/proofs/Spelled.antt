-- The texts of the parts of a certificate, one after the other.
use Rattle.std.proofs.Common.{◌≡◌, ◌≢◌, ℕ, suc, ◌+◌, ◌/◌, ◌%◌, ◌^◌, ◌<◌, ◌≤◌, Bool, true, ◌++◌, List, [], ◌∷◌, Option, Some, None, Fits, w32, get_or, drop, map, length, codes, decimal, refl, sym, ap, ◌∙◌, arith, append_assoc, length-append}
use Rattle.std.proofs.lemmas.Fmt.{decimal_digit, decimal_step}
use Rattle.std.proofs.lemmas.List.{drop_more}
use Rattle.json.specs.Print.{escape, escape_byte}
use Rattle.serde_json.specs.Data.{member, no_members, string}
use Rattle.serde_json.specs.View.{items_of}
use Rattle.serde_json.specs.Written.{comma_if, compact_text, items_text, members_text}
use Rattle.negotiation_inputs.specs.Platform.{PlatformFacts}
use Rattle.sysmem_counts.specs.declared.field.Field.{Field}
use Rattle.sysmem_counts.specs.Field.{field_name}
use Rattle.verdict_claims.specs.declared.certificate.Claim.{Claim}
use Rattle.verdict_claims.specs.declared.certificate.Proof.{Proof}
use Rattle.verdict_claims.specs.declared.certificate.Proof.TheVariants as proves
use Rattle.verdict_claims.specs.declared.conflict.Conflict.TheVariants.{Fixed, Offers, Places}
use Rattle.verdict_claims.specs.declared.refutation.Item.TheVariants.{Split}
use Rattle.verdict_claims.specs.declared.verdict.Verdict.{Verdict}
use Rattle.verdict_claims.specs.Line.{LineFacts}
use Rattle.certificate_text.specs.Certificate.{certificate_text}
use Rattle.certificate_text.specs.Paths.{path_text, steps_text}
use Rattle.certificate_text.specs.Told.{claim_data, conflict_data, decision_data, earlier_data, item_data, lines_data, list_data, named_data, path_data, paths_data, verdict_members, verdict_name}
use Rattle.certificate_text.proofs.CallerLemmas.{field_plain, fixed_plain, line_middle, named_put, path_plain, split_put}
use Rattle.certificate_pieces.specs.Texts.{bare_data, head_text, joined, line_front, named_front, proof_of, proof_text, verdict_of}

-- ---- paths

pub root_told : (path : List ℕ) → length path ≡ 0 → 34 ∷ 47 ∷ 34 ∷ [] ≡ compact_text (path_data path)
unfolding escape_byte
root_told [] e = refl
root_told (n ∷ path) e = absurd (omega arith)

pub path_told : (path : List ℕ) → length path ≢ 0 → ((k : ℕ) → Fits w32 (get_or path k 0)) → 34 ∷ (steps_text path ++ 34 ∷ []) ≡ compact_text (path_data path)
path_told [] e fits = absurd (e refl)
path_told (n ∷ path) e fits = ap (λ s. 34 ∷ (s ++ 34 ∷ [])) (sym (path_plain (n ∷ path) fits))

-- one of two steps, with a digit each
pub short_told : (path : List ℕ) (a b : ℕ) → length path ≡ 2 → a ≡ get_or path 0 0 → b ≡ get_or path 1 0 → get_or path 0 0 < 10 → get_or path 1 0 < 10 → ((k : ℕ) → Fits w32 (get_or path k 0))
    → 34 ∷ 47 ∷ (48 + a) ∷ 47 ∷ (48 + b) ∷ 34 ∷ [] ≡ compact_text (path_data path)
short_told [] a b many is_a is_b one other fits = absurd (omega (arith, many))
short_told (x ∷ []) a b many is_a is_b one other fits = absurd (omega (arith, many))
short_told (x ∷ y ∷ []) a b many is_a is_b one other fits =
    ap (λ n. 34 ∷ 47 ∷ (48 + n) ∷ 47 ∷ (48 + b) ∷ 34 ∷ []) is_a ∙ ap (λ n. 34 ∷ 47 ∷ (48 + x) ∷ 47 ∷ (48 + n) ∷ 34 ∷ []) is_b
    ∙ ap (λ s. 34 ∷ (((codes "/" ++ s) ++ ((codes "/" ++ (48 + y) ∷ []) ++ [])) ++ 34 ∷ [])) (sym (decimal_digit x one))
    ∙ ap (λ s. 34 ∷ (((codes "/" ++ decimal x) ++ ((codes "/" ++ s) ++ [])) ++ 34 ∷ [])) (sym (decimal_digit y other))
    ∙ ap (λ s. 34 ∷ (s ++ 34 ∷ [])) (sym (path_plain (x ∷ y ∷ []) fits))
short_told (x ∷ y ∷ z ∷ path) a b many is_a is_b one other fits = absurd (omega (arith, many))

-- one step more
pub step_told : (path : List ℕ) (i n : ℕ) (told : List ℕ) → i < length path → n ≡ get_or path i 0 → told ++ steps_text (drop i path) ≡ steps_text path
    → (told ++ 47 ∷ decimal n) ++ steps_text (drop (i + 1) path) ≡ steps_text path
step_told path i n told inside is whole =
    append_assoc told (47 ∷ decimal n) (steps_text (drop (i + 1) path))
    ∙ sym (ap (λ l. told ++ steps_text l) (drop_more path i 0 inside ∙ ap (λ m. m ∷ drop (i + 1) path) (sym is))) ∙ whole

-- one path more
pub one_path : (path : List ℕ) (old rest : List (List ℕ)) (later : Bool) (told whole : List ℕ) → old ≡ path ∷ rest → told ++ items_text later (items_of (map path_data old)) ≡ whole
    → (told ++ (comma_if later ++ compact_text (path_data path))) ++ items_text true (items_of (map path_data rest)) ≡ whole
one_path path old rest later told whole is all =
    let behind = items_text true (items_of (map path_data rest)) in
    append_assoc told (comma_if later ++ compact_text (path_data path)) behind ∙ ap (λ s. told ++ s) (append_assoc (comma_if later) (compact_text (path_data path)) behind)
    ∙ sym (ap (λ l. told ++ items_text later (items_of (map path_data l))) is) ∙ all

-- one part more
pub one_part : {A : Type 0} (text : A → List ℕ) (parts : List A) (i : ℕ) (part : A) (later : Bool) (told whole : List ℕ) → i < length parts → part ≡ get_or parts i part
    → told ++ joined later (map text (drop i parts)) ≡ whole → (told ++ (comma_if later ++ text part)) ++ joined true (map text (drop (i + 1) parts)) ≡ whole
one_part text parts i part later told whole inside is all =
    let behind = joined true (map text (drop (i + 1) parts)) in
    append_assoc told (comma_if later ++ text part) behind ∙ ap (λ s. told ++ s) (append_assoc (comma_if later) (text part) behind)
    ∙ sym (ap (λ l. told ++ joined later (map text l)) (drop_more parts i part inside ∙ ap (λ x. x ∷ drop (i + 1) parts) (sym is))) ∙ all

-- a number of two digits
pub two_digits : (n : ℕ) → 10 ≤ n → n < 100 → (48 + n / 10) ∷ (48 + n % 10) ∷ [] ≡ decimal n
two_digits n long short =
    let small : n < 2 ^ 64 = omega arith in
    let one : n / 10 < 10 = omega arith in
    sym (decimal_step n long small ∙ ap (λ ds. ds ++ (48 + n % 10) ∷ []) (decimal_digit (n / 10) one))

-- ---- lines and conflicts

regroup : (a k b n m p e : List ℕ) → (a ++ (k ++ b)) ++ (n ++ (m ++ (p ++ e))) ≡ (((((([] ++ a) ++ k) ++ b) ++ n) ++ m) ++ p) ++ e
regroup a k b n m p e = simp append_assoc

pub field_kind_plain : escape (codes "field") ≡ codes "field"
unfolding escape_byte
field_kind_plain = refl

-- an object with a field under a kind, and with paths
pub named_told : (kind : List ℕ) (field : Field) (nodes : List (List ℕ)) → escape kind ≡ kind
    → named_front kind ++ (field_name field ++ (line_middle ++ (compact_text (paths_data nodes) ++ 125 ∷ []))) ≡ compact_text (named_data kind field nodes)
named_told kind field nodes plain =
    regroup (123 ∷ 34 ∷ []) kind (34 ∷ 58 ∷ 34 ∷ []) (field_name field) line_middle (compact_text (paths_data nodes)) (125 ∷ [])
    ∙ named_put [] kind field nodes plain (field_plain field)

-- a line of a list
pub front_told : (field : Field) (nodes : List (List ℕ)) → line_front field ++ (compact_text (paths_data nodes) ++ 125 ∷ []) ≡ compact_text (named_data (codes "field") field nodes)
front_told field nodes =
    let rest = compact_text (paths_data nodes) ++ 125 ∷ [] in
    append_assoc (named_front (codes "field")) (field_name field ++ line_middle) rest ∙ ap (λ s. named_front (codes "field") ++ s) (append_assoc (field_name field) line_middle rest)
    ∙ named_told (codes "field") field nodes field_kind_plain

pub fixed_told : (field : Field) (node : List ℕ)
    → codes "{\"fixed\":\"" ++ (field_name field ++ (codes "\",\"nodes\":[" ++ (compact_text (path_data node) ++ codes "]}"))) ≡ compact_text (conflict_data (Fixed field node))
fixed_told field node =
    ap (λ s. named_front (codes "fixed") ++ (field_name field ++ (line_middle ++ (91 ∷ s)))) (sym (append_assoc (compact_text (path_data node)) (93 ∷ []) (125 ∷ [])))
    ∙ named_told (codes "fixed") field (node ∷ []) fixed_plain

pub split_told : (n : ℕ) → codes "{\"split\":" ++ (decimal n ++ 125 ∷ []) ≡ compact_text (item_data (Split n))
split_told n = sym (append_assoc (codes "{\"split\":") (decimal n) (125 ∷ [])) ∙ split_put [] n

pub places_told : (lines : List LineFacts) → codes "{\"places\":" ++ (compact_text (lines_data lines) ++ 125 ∷ []) ≡ compact_text (conflict_data (Places lines))
unfolding escape_byte
places_told lines = refl

pub offers_told : (lines : List LineFacts) → codes "{\"offers\":" ++ (compact_text (lines_data lines) ++ 125 ∷ []) ≡ compact_text (conflict_data (Offers lines))
unfolding escape_byte
offers_told lines = refl

-- ---- decisions

-- what stands behind the proof of a decision
abbrev pub tail_text : PlatformFacts → Verdict → List ℕ
tail_text platform verdict = members_text true (verdict_members platform verdict (member (codes "verdict") (string (verdict_name verdict)) no_members))

-- a decision: its head, its proof and what stands behind that
pub claim_told : (platform : PlatformFacts) (path : List ℕ) (verdict : Verdict) (proof : Proof)
    → head_text path ++ (proof_text proof ++ tail_text platform verdict) ≡ compact_text (claim_data platform path verdict proof)
unfolding escape_byte
claim_told platform path verdict (proves.Choice certificate) =
    let tail = tail_text platform verdict in
    let earlier = compact_text (list_data earlier_data certificate.earlier) in
    let offers = compact_text (lines_data certificate.offers) in
    ap (λ s. head_text path ++ (codes ",\"earlier\":" ++ s)) (append_assoc earlier _ tail ∙ ap (λ s. earlier ++ (codes ",\"offers\":" ++ s)) (append_assoc offers _ tail))
claim_told platform path verdict (proves.Empty items) = refl
claim_told platform path verdict proves.Nothing = refl

pub decision_told : (platform : PlatformFacts) (path : List ℕ) (claim : Option Claim)
    → head_text path ++ (proof_text (proof_of claim) ++ tail_text platform (verdict_of claim)) ≡ compact_text (decision_data platform path claim)
decision_told platform path (Some claim) = claim_told platform path claim.verdict claim.proof
decision_told platform path None = claim_told platform path (verdict_of None) proves.Nothing

-- a certificate with one decision, which has no proof
pub bare_told : (platform : PlatformFacts) (path : List ℕ) (claim : Option Claim)
    → certificate_text (bare_data platform path (verdict_of claim) ∷ []) ≡ 91 ∷ (head_text path ++ (tail_text platform (verdict_of claim) ++ 93 ∷ 10 ∷ []))
bare_told platform path claim =
    let tail = tail_text platform (verdict_of claim) in
    ap (λ s. 91 ∷ s) (append_assoc (compact_text (bare_data platform path (verdict_of claim))) (93 ∷ []) (10 ∷ [])
    ∙ ap (λ s. s ++ 93 ∷ 10 ∷ []) (sym (claim_told platform path (verdict_of claim) proves.Nothing)) ∙ append_assoc (head_text path) tail (93 ∷ 10 ∷ []))

-- its head, the proof that is kept and its tail
pub decision_put : (platform : PlatformFacts) (path : List ℕ) (claim again : Option Claim) (head tail : List ℕ) → head ≡ head_text path → again ≡ claim → tail ≡ tail_text platform (verdict_of claim)
    → head ++ (proof_text (proof_of again) ++ tail) ≡ compact_text (decision_data platform path claim)
decision_put platform path claim again head tail a b c =
    ap (λ s. s ++ (proof_text (proof_of again) ++ tail)) a ∙ ap (λ x. head_text path ++ (proof_text (proof_of x) ++ tail)) b ∙ ap (λ s. head_text path ++ (proof_text (proof_of claim) ++ s)) c
    ∙ decision_told platform path claim

pub head_put : (path : List ℕ) → ((k : ℕ) → Fits w32 (get_or path k 0)) → (codes "{\"domain\":\"" ++ path_text path) ++ 34 ∷ [] ≡ head_text path
head_put path fits = append_assoc (codes "{\"domain\":\"") (path_text path) (34 ∷ []) ∙ ap (λ s. codes "{\"domain\":\"" ++ (s ++ 34 ∷ [])) (sym (path_plain path fits))

-- the text of a certificate with one decision is longer than its head
pub head_within : (text head tail : List ℕ) → text ≡ 91 ∷ (head ++ (tail ++ 93 ∷ 10 ∷ [])) → length head + 3 ≤ length text
head_within text head tail is =
    let long : length text ≡ suc (length (head ++ (tail ++ 93 ∷ 10 ∷ []))) = ap length is in
    omega (arith, length-append head (tail ++ 93 ∷ 10 ∷ []), length-append tail (93 ∷ 10 ∷ []))
