-- How many places and offers a platform has, and whom the lines of a conflict name.
use Rattle.std.proofs.Common.{◌≡◌, ◌<◌, ◌≤◌, ℕ, zero, suc, ◌+◌, Bool, true, false, List, [], ◌∷◌, ◌++◌, Some, inl, inr, length, take, get_or, sym, ◌∙◌, ap, subst, arith}
use Rattle.std.specs.Prelude.{All, Any, MatchResult, Ok, Err, Result}
use Rattle.std.proofs.lemmas.List.{take_more, take_all}
use Rattle.sysmem_counts.specs.declared.field.Field.{Field}
use Rattle.sysmem_memory.specs.Heap.{HeapFacts}
use Rattle.sysmem_memory.specs.Listed.{put_if, places_from, places_of}
use Rattle.sysmem_merge.specs.declared.settings.Settings.{Settings}
use Rattle.sysmem_merge.specs.Failing.{FailsOn}
use Rattle.negotiation_inputs.specs.Platform.{PlatformFacts, offers_of}
use Rattle.sysmem_tree.specs.Forest.{Forest, settled}
use Rattle.sysmem_tree.specs.Shape.{Member}
use Rattle.verdict_claims.specs.declared.conflict.Conflict.TheVariants.{Places, Offers, Fixed}
use Rattle.verdict_claims.specs.declared.no.No.{No}
use Rattle.verdict_claims.specs.declared.no.No.TheVariants.{WrongNode, NoConflict}
use Rattle.verdict_claims.specs.Base.{Terms}
use Rattle.verdict_claims.specs.Conflict.{IsFixedConflict}
use Rattle.sysmem_proof.specs.EachLine.{one_if, many_in}
use Rattle.verdict_claims.specs.Fault.{AreNamed, ConflictFaults, Fails, First, LineFaults}
use Rattle.verdict_claims.specs.Line.{LineFacts}
use Rattle.verdict_claims.specs.Naming.{IsTrueOf}
use Rattle.verdict_claims.proofs.OnRoll.{all_push}

long_put : {X : Type 0} (t : Bool) (x : X) (xs : List X) → length (put_if t x xs) ≡ one_if t + length xs
long_put true x xs = omega arith
long_put false x xs = omega arith

-- the places of a heap are before those of the others
places_first : (i : ℕ) (h : HeapFacts) (hs : List HeapFacts) → length (places_from i (h ∷ hs)) ≡ many_in h.domains + length (places_from (i + 1) hs)
places_first i h hs =
    let a = long_put h.domains.cpu _ _ in
    let b = long_put h.domains.ram _ _ in
    let c = long_put h.domains.inaccessible _ (places_from (i + 1) hs) in
    a ∙ (ap (λ n. one_if h.domains.cpu + n) (b ∙ ap (λ n. one_if h.domains.ram + n) c) ∙ omega arith)

places_push : (i : ℕ) (hs : List HeapFacts) (h : HeapFacts) → length (places_from i (hs ++ h ∷ [])) ≡ length (places_from i hs) + many_in h.domains
places_push i [] h = let a = places_first i h [] in omega (arith, a)
places_push i (x ∷ hs) h =
    let a = places_first i x (hs ++ h ∷ []) in
    let b = places_first i x hs in
    let c = places_push (i + 1) hs h in omega (arith, a, b, c)

-- one heap more
pub places_more : (hs : List HeapFacts) (k : ℕ) (h : HeapFacts) (many : ℕ) → k < length hs → h ≡ get_or hs k h → many ≡ many_in h.domains
    → length (places_of (take k hs)) + many ≡ length (places_of (take (k + 1) hs))
places_more hs k h many less is told =
    ap (λ n. length (places_of (take k hs)) + n) told
    ∙ (sym (places_push 0 (take k hs) h) ∙ ap (λ xs. length (places_of xs)) (ap (λ x. take k hs ++ x ∷ []) is ∙ sym (take_more hs k h less)))

pub places_whole : (hs : List HeapFacts) (k : ℕ) → length hs ≤ k → length (places_of (take k hs)) ≡ length (places_of hs)
places_whole hs k over = ap (λ xs. length (places_of xs)) (take_all k hs over)

-- one line more of which all have a property, and one that hasn't it
pub all_more : {X : Type 0} (P : X → Type 0) (xs : List X) (k : ℕ) (x : X) → k < length xs → x ≡ get_or xs k x → All P (take k xs) → P x → All P (take (k + 1) xs)
all_more P xs k x less is all p = subst (All P) (ap (λ y. take k xs ++ y ∷ []) is ∙ sym (take_more xs k x less)) (all_push P (take k xs) x all p)

pub one_lacks : {X : Type 0} (P : X → Type 0) (xs : List X) (k : ℕ) (x : X) → k < length xs → x ≡ get_or xs k x → ¬ (P x) → ¬ (All P xs)
one_lacks P xs k x less is lacks all = lacks (subst P (sym is) (all k x less))

pub all_whole : {X : Type 0} (P : X → Type 0) (xs : List X) (k : ℕ) → length xs ≤ k → All P (take k xs) → All P xs
all_whole P xs k over all = subst (All P) (take_all k xs over) all

-- a single line is all lines
pub one_all : {X : Type 0} (P : X → Type 0) (x : X) → P x → All P (x ∷ [])
one_all P x p zero d less = p
one_all P x p (suc k) d less = absurd (omega (arith, less))

-- what is told of a field in which settings fail a participant
abbrev Told : {A : Type 0} → PlatformFacts → Field → List ℕ → List Member → Settings → Result A No → Type 0
Told platform field node ms s result = MatchResult result (λ _. IsTrueOf ms (node ∷ []) (λ ps. Any (FailsOn field platform s) ps))
    (LineFaults ms (IsTrueOf ms (node ∷ []) (λ ps. Any (FailsOn field platform s) ps)) (record { field = field; nodes = node ∷ [] }))

-- is told of the conflict
pub fixed_told : {A : Type 0} (platform : PlatformFacts) (ms : List Member) (s : Settings) (field : Field) (node : List ℕ) (result : Result A No)
    → MatchResult result (λ _. IsTrueOf ms (node ∷ []) (λ ps. Any (FailsOn field platform s) ps))
    (LineFaults ms (IsTrueOf ms (node ∷ []) (λ ps. Any (FailsOn field platform s) ps)) (record { field = field; nodes = node ∷ [] }))
    → (terms : Terms) (d : Forest Member) → terms.settings ≡ s → ms ≡ settled d
    → MatchResult result (λ _. IsFixedConflict platform terms d (Fixed field node)) (ConflictFaults platform (Some terms) d (Fixed field node))
fixed_told {A} platform ms s field node result told terms d same one =
    by result (subst (λ t. Told {A = A} platform field node (settled d) t result) (sym same) (subst (λ xs. Told {A = A} platform field node xs s result) one told)) where
      by : (r : Result A No) → Told platform field node (settled d) terms.settings r → MatchResult r (λ _. IsFixedConflict platform terms d (Fixed field node)) (ConflictFaults platform (Some terms) d (Fixed field node))
      by (Ok x) h = h
      by (Err why) (inl f) = inr (tt, inl ((λ all. f.0 (all 0 (record { field = field; nodes = node ∷ [] }) (omega arith))), f.1))
      by (Err why) (inr f) = inr (tt, inr (one_all (λ line. AreNamed (settled d) line.nodes) (record { field = field; nodes = node ∷ [] }) f.0, f.1))

-- lines that can't be a conflict of an attached domain
abbrev Misplaced : List Member → List LineFacts → No → Type 0
Misplaced ms lines why = First (All (λ line. AreNamed ms line.nodes) lines) (Fails (All (λ line. AreNamed ms line.nodes) lines) WrongNode) (Fails ⊥ NoConflict) why

pub places_told : (platform : PlatformFacts) (ms : List Member) (given lines : List LineFacts) (heaps : List HeapFacts) (many : ℕ) (why : No) → given ≡ lines → heaps ≡ platform.heaps
    → many ≡ length (places_of heaps) → length given ≡ many → Misplaced ms given why → (terms : Terms) (d : Forest Member) → ms ≡ settled d → ConflictFaults platform (Some terms) d (Places lines) why
places_told platform ms given lines heaps many why same one counted long told terms d is =
    inr (ap length (sym same) ∙ (long ∙ (counted ∙ ap (λ hs. length (places_of hs)) one)), subst (λ xs. Misplaced xs lines why) is (subst (λ ls. Misplaced ms ls why) same told))

pub offers_told : (platform : PlatformFacts) (ms : List Member) (given lines : List LineFacts) (why : No) → given ≡ lines
    → length given ≡ length (offers_of platform) → Misplaced ms given why → (terms : Terms) (d : Forest Member) → ms ≡ settled d → ConflictFaults platform (Some terms) d (Offers lines) why
offers_told platform ms given lines why same long told terms d is =
    inr (ap length (sym same) ∙ long, subst (λ xs. Misplaced xs lines why) is (subst (λ ls. Misplaced ms ls why) same told))

-- what all lines have, one of them has
pub at_line : {X : Type 0} (P : X → Type 0) (xs : List X) (k : ℕ) (x : X) → k < length xs → x ≡ get_or xs k x → All P xs → P x
at_line P xs k x less is all = subst P (sym is) (all k x less)

-- what stands at a place is one
pub same_there : {X : Type 0} (xs : List X) (k : ℕ) (x y : X) → k < length xs → x ≡ get_or xs k x → y ≡ get_or xs k y → x ≡ y
same_there [] k x y less one two = absurd (omega (arith, less))
same_there (z ∷ xs) zero x y less one two = one ∙ sym two
same_there (z ∷ xs) (suc k) x y less one two = same_there xs k x y (omega (arith, less)) one two
