-- What a walk over a layout has yet to give, and what one choice more settles.
use Rattle.std.proofs.Common.{◌≡◌, ◌≢◌, ◌≤◌, ℕ, ◌+◌, List, [], ◌∷◌, ◌++◌, Option, Some, length, sym, ◌∙◌, ap, subst, arith, append_assoc}
use Rattle.std.specs.Prelude.{MatchOption}
use Rattle.std.proofs.lemmas.List.{append-nil}
use Rattle.verdict_claims.specs.Base.{BaseFacts, IsGivenBase}
use Rattle.negotiation_inputs.specs.Platform.{PlatformFacts}
use Rattle.sysmem_tree.specs.Node.{NodeFacts}
use Rattle.sysmem_tree.specs.declared.layout.Layout.{Layout}
use Rattle.sysmem_tree.specs.declared.open_groups.SettledNodes.{SettledNodes}
use Rattle.sysmem_tree.specs.OpenGroups.{HasLeft}
use Rattle.sysmem_tree.proofs.CallerLemmas.{few_different, named_there}

-- what is left of a walk after so many steps, beside what was taken
pub record IsTaken (layout : Layout) (old now : List ℕ) (walk : SettledNodes) (steps : ℕ) (ns : List ℕ) : Type 0 where
  pub rest : List ℕ
  pub same : old ++ ns ≡ now ++ rest
  pub left : HasLeft layout walk rest
  pub few : steps + length rest ≤ 128

pub take_one : (layout : Layout) (old now : List ℕ) (walk walk' : SettledNodes) (o : Option ℕ) (node steps : ℕ) (ns : List ℕ) → IsTaken layout old now walk steps ns
    → ((rest : List ℕ) → HasLeft layout walk rest → MatchOption o ((rest ≡ []) × (walk'.at ≡ walk'.end)) (λ node. (more : List ℕ) × (rest ≡ node ∷ more) × HasLeft layout walk' more)) → o ≡ Some node
    → IsTaken layout old (now ++ node ∷ []) walk' (steps + 1) ns
take_one layout old now walk walk' o node steps ns t next one =
    let (more, is, left) = subst (λ x. MatchOption x ((t.rest ≡ []) × (walk'.at ≡ walk'.end)) (λ node. (more : List ℕ) × (t.rest ≡ node ∷ more) × HasLeft layout walk' more)) one (next t.rest t.left) in
    let long = ap length is in
    record {
      rest = more;
      same = t.same ∙ (ap (λ xs. now ++ xs) is ∙ sym (append_assoc now (node ∷ []) more));
      left = left;
      few = omega (arith, long, t.few);
    }

pub took_all : (layout : Layout) (old now : List ℕ) (walk : SettledNodes) (steps : ℕ) (ns : List ℕ) → IsTaken layout old now walk steps ns → 128 ≤ steps → now ≡ old ++ ns
took_all layout old now walk steps ns t over = by t.rest t.same t.few where
  by : (rest : List ℕ) → old ++ ns ≡ now ++ rest → steps + length rest ≤ 128 → now ≡ old ++ ns
  by [] same few = sym (append-nil now) ∙ sym same
  by (x ∷ rest) same few = absurd (omega (arith, few, over))

-- at most 128 nodes were accepted before
pub few_accepted : (platform : PlatformFacts) (nodes : List NodeFacts) (domain : ℕ) (base : Option BaseFacts) → length nodes ≤ 128 → IsGivenBase platform nodes domain base
    → (b : BaseFacts) → base ≡ Some b → length b.accepted ≤ 128
few_accepted platform nodes domain base few given b some =
    let is = (subst (IsGivenBase platform nodes domain) some given).1 in
    let less = few_different b.accepted (length nodes) is.once (named_there nodes (λ n. n.domain ≢ domain) b.accepted is.elsewhere) in omega (arith, less, few)
