-- What an object of a certificate says: a path and a claim, or nothing where a name, a
-- kind, a key or a range is wrong.
use Rattle.std.specs.Prelude.{ℕ, ◌-◌, ◌^◌, List, [], ◌∷◌, Bool, Option, Some, None, length, codes}
use Rattle.std.specs.Prelude.{bytes_eq, nat_le, is_some, option_map, if◌then◌else◌}
use Rattle.serde_json.specs.Data.{Data}
use Rattle.serde_json.specs.Find.{get, as_str}
use Rattle.sysmem_counts.specs.declared.field.Field.{Field}
use Rattle.negotiation_inputs.specs.Platform.{PlatformFacts}
use Rattle.sysmem_tree.specs.declared.tree.TheConstants.{MOST_NODES}
use Rattle.verdict_claims.specs.declared.certificate.Claim.{Claim}
use Rattle.verdict_claims.specs.declared.certificate.Proof.TheVariants as proves
use Rattle.verdict_claims.specs.declared.conflict.Conflict.{Conflict}
use Rattle.verdict_claims.specs.declared.conflict.Conflict.TheVariants.{Count, Places, Offers}
use Rattle.verdict_claims.specs.declared.conflict.Conflict.TheVariants.{Fixed}
use Rattle.verdict_claims.specs.declared.refutation.Item.{Item}
use Rattle.verdict_claims.specs.declared.refutation.Item.TheVariants.{Split, Leaf}
use Rattle.verdict_claims.specs.declared.verdict.Verdict.{Verdict}
use Rattle.verdict_claims.specs.declared.verdict.Verdict.TheVariants as verdicts
use Rattle.verdict_claims.specs.CertificateFacts.{CertificateFacts}
use Rattle.verdict_claims.specs.Line.{LineFacts}
use Rattle.certificate_text.specs.Fields.{field_named}
use Rattle.certificate_text.specs.Paths.{path_said}
use Rattle.certificate_text.specs.Reading.{◌>>=◌, is_object_of, number_to}
use Rattle.certificate_text.specs.Reading.{list_said, at_key, named_at}
use Rattle.certificate_text.specs.SettingsSaid.{settings_said}

-- ---- lines and conflicts

-- a text that is a path
abbrev pub node_said : Data → Option (List ℕ)
node_said d = as_str d >>= path_said

-- an object that has a field under a kind, and the paths of nodes
abbrev pub named_said : List ℕ → Data → Option LineFacts
named_said kind d = do
  _ ← is_object_of 2 d
  field ← named_at kind field_named d
  nodes ← at_key (codes "nodes") (list_said node_said) d
  Some (record { field = field; nodes = nodes })

abbrev pub line_said : Data → Option LineFacts
line_said d = named_said (codes "field") d

-- an object that has lines alone, under a kind
abbrev pub lines_said : List ℕ → Data → Option (List LineFacts)
lines_said kind d = do
  _ ← is_object_of 1 d
  at_key kind (list_said line_said) d

-- a field of one node
abbrev pub fixed_by : Field → List (List ℕ) → Option Conflict
fixed_by field (node ∷ []) = Some (Fixed field node)
fixed_by field _ = None

abbrev pub has_key : List ℕ → Data → Bool
has_key key d = is_some (get key d)

abbrev pub conflict_said : Data → Option Conflict
conflict_said d =
    if has_key (codes "count") d then option_map Count (named_said (codes "count") d)
    else if has_key (codes "fixed") d
    then (named_said (codes "fixed") d >>= λ line. fixed_by line.field line.nodes)
    else if has_key (codes "places") d then option_map Places (lines_said (codes "places") d)
    else option_map Offers (lines_said (codes "offers") d)

-- ---- refutations and certificates

abbrev pub split_said : Data → Option Item
split_said d = do
  _ ← is_object_of 1 d
  children ← at_key (codes "split") (number_to (2 ^ 64 - 1)) d
  Some (Split children)

abbrev pub item_said : Data → Option Item
item_said d = if has_key (codes "split") d then split_said d else option_map Leaf (conflict_said d)

abbrev pub refutation_said : Data → Option (List Item)
refutation_said d = list_said item_said d

-- the refutations of a group's earlier choices
abbrev pub earlier_said : Data → Option (List (List Item))
earlier_said d = list_said refutation_said d

abbrev pub certificate_said : Data → Option CertificateFacts
certificate_said d = do
  earlier ← at_key (codes "earlier") (list_said earlier_said) d
  offers ← at_key (codes "offers") (list_said line_said) d
  places ← at_key (codes "places") (list_said line_said) d
  Some (record { earlier = earlier; offers = offers; places = places })

-- ---- claims

-- no domain has more choices than 128
abbrev pub unless_many : List ℕ → Option (List ℕ)
unless_many choices = if nat_le (length choices) MOST_NODES then Some choices else None

-- a choice is one of at most 256 children
abbrev pub selection_said : Data → Option (List ℕ)
selection_said d = list_said (number_to 255) d >>= unless_many

abbrev pub chosen_said : PlatformFacts → Data → Option Claim
chosen_said platform d = do
  _ ← is_object_of 7 d
  certificate ← certificate_said d
  selection ← at_key (codes "selection") selection_said d
  settings ← at_key (codes "settings") (settings_said platform) d
  Some (record {
    verdict = verdicts.Chosen (record { selection = selection; settings = settings });
    proof = proves.Choice certificate;
  })

abbrev pub empty_said : Data → Option Claim
empty_said d = do
  _ ← is_object_of 3 d
  refutation ← at_key (codes "refutation") refutation_said d
  Some (record { verdict = verdicts.IntersectionEmpty; proof = proves.Empty refutation })

-- a verdict that needs no proof
abbrev pub bare_said : Verdict → Data → Option Claim
bare_said verdict d = do
  _ ← is_object_of 2 d
  Some (record { verdict = verdict; proof = proves.Nothing })

-- the claim with a verdict of this name
abbrev pub claim_by : PlatformFacts → List ℕ → Data → Option Claim
claim_by platform name d =
    if bytes_eq name (codes "chosen") then chosen_said platform d
    else if bytes_eq name (codes "empty") then empty_said d
    else if bytes_eq name (codes "too_many") then bare_said verdicts.TooMany d
    else if bytes_eq name (codes "no_memory") then bare_said verdicts.NoMemory d
    else None

-- the claim that an object makes, and the path of the domain that it is about
abbrev pub claim_said : PlatformFacts → Data → Option (List ℕ × Claim)
claim_said platform d = do
  path ← at_key (codes "domain") node_said d
  name ← at_key (codes "verdict") as_str d
  claim ← claim_by platform name d
  Some (path, claim)
