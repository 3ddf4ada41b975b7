-- One object more that is taken as a decision, and what a certificate's objects have answered.
use Rattle.std.proofs.Common.{◌≡◌, ℕ, zero, suc, ◌+◌, ◌<◌, ◌≤◌, ◌++◌, List, [], ◌∷◌, length, map, take, drop, Bool, false, Option, Some, None, slice_get, inr, sym, ◌∙◌, ap, subst, refl, arith}
use Rattle.std.proofs.lemmas.List.{map-append, length-map, take-append-drop, at_drop_all}
use Rattle.std.specs.Prelude.{IsSomeAnd, option_map}
use Rattle.std.specs.List.{AllZip}
use Rattle.serde_json.specs.Data.{Data}
use Rattle.serde_json.specs.View.{view}
use Rattle.serde_json.specs.declared.value.Value.{Value}
use Rattle.certificate_text.specs.Said.{claim_said}
use Rattle.sysmem_alloc.specs.Claims.{IsRightClaim}
use Rattle.sysmem_alloc.specs.State.{State as BookState, base_of}
use Rattle.sysmem_alloc.proofs.CallerLemmas.{true_has_proof, true_is_right}
use Rattle.verdict_claims.specs.Base.{BaseFacts, terms_of}
use Rattle.verdict_claims.specs.Fault.{VerdictFaults}
use Rattle.sysmem_tree.specs.Domain.{TreeFacts}
use Rattle.sysmem_tree.specs.Shape.{shape_of}
use Rattle.verdict_claims.specs.declared.certificate.Claim.{Claim}
use Rattle.negotiation_inputs.specs.Platform.{PlatformFacts}
use Rattle.sysmem_tree.specs.Path.{path_of}
use Rattle.script_reading.specs.Script.{CallFacts}
use Rattle.script_check.specs.Checked.{Answers, AreTaken, ClaimFails, FailsNext, IsOf, NextFails, SaidFails, TakesClaim, accepts, has_more, objects_to, too_many}
use Rattle.script_check.specs.declared.checked_file.CheckAnswer.TheVariants as answers
use Rattle.script_replay.specs.declared.decider.Objection.{Objection}
use Rattle.script_replay.specs.Report.{Certified, IsReported}
use Rattle.script_replay.specs.Stop.{IfObjects, IsStopped}
use Rattle.script_replay.specs.declared.decider.Stop.{Stop}
use Rattle.script_replay.specs.declared.decider.Stop.TheVariants.{Refused}
use Rattle.script_replay.proofs.CallerLemmas.{goes_platform}
use Rattle.verdict_claims.specs.declared.no.No.{No}
use Rattle.verdict_claims.specs.declared.no.No.TheVariants.{WrongShape}

-- one more of both
pub zip_more : {V X Y : Type 0} (R : X → Y → Type 0) (f : V → X) (vs : List V) (k : ℕ) (v : V) (ys : List Y) (y : Y) → slice_get vs k ≡ Some v → R (f v) y
    → AllZip R (map f (take k vs)) ys → AllZip R (map f (take (suc k) vs)) (ys ++ y ∷ [])
zip_more R f [] k v ys y here one all = absurd (cc)
zip_more R f (x ∷ vs) zero v [] y here one all = let same : x ≡ v = cc in (subst (λ z. R (f z) y) (sym same) one, tt)
zip_more R f (x ∷ vs) zero v (b ∷ ys) y here one all = absurd all
zip_more R f (x ∷ vs) (suc k) v [] y here one all = absurd all
zip_more R f (x ∷ vs) (suc k) v (b ∷ ys) y here one all = (all.0, zip_more R f vs k v ys y here one all.1)

taken_at : (platform : PlatformFacts) (old : List Value) (k : ℕ) (b : BookState) (r : ℕ) (claim : Claim) (o : Option Value) → slice_get old k ≡ o
    → IsSomeAnd o (λ object. TakesClaim platform b r (view object) claim) → (cs : List Certified) → AllZip (IsOf platform) (map view (take k old)) cs
    → AllZip (IsOf platform) (map view (take (suc k) old)) (cs ++ (path_of b.tree.nodes r, Some claim) ∷ [])
taken_at platform old k b r claim None here takes cs all = absurd takes
taken_at platform old k b r claim (Some object) here takes cs all =
    zip_more (IsOf platform) view old k object cs (path_of b.tree.nodes r, Some claim) here
    (record { claim = claim; says = takes.says; taken = refl; proved = true_has_proof platform b.tree.nodes r (base_of b r) claim takes.true_of }) all

-- the claim of the next object is taken
pub takes_one : (platform : PlatformFacts) (old new : List Value) (k j : ℕ) (b : BookState) (r : ℕ) (claim : Claim) → IsSomeAnd (slice_get old k) (λ object. TakesClaim platform b r (view object) claim)
    → j ≡ k + 1 → new ≡ old → (cs : List Certified) → AllZip (IsOf platform) (map view (take k old)) cs
    → AllZip (IsOf platform) (map view (take j new)) (cs ++ (path_of b.tree.nodes r, Some claim) ∷ [])
takes_one platform old new k j b r claim takes more same cs all =
    let next : suc k ≡ j = omega (arith, more) in
    subst (λ n. AllZip (IsOf platform) (map view (take n new)) (cs ++ (path_of b.tree.nodes r, Some claim) ∷ [])) next
    (subst (λ vs. AllZip (IsOf platform) (map view (take (suc k) vs)) (cs ++ (path_of b.tree.nodes r, Some claim) ∷ [])) (sym same)
    (taken_at platform old k b r claim (slice_get old k) refl takes cs all))

-- it is right
pub right_taken : (platform : PlatformFacts) (b : BookState) (r : ℕ) (claim : Claim) (o : Option Value) → IsSomeAnd o (λ object. TakesClaim platform b r (view object) claim)
    → IsRightClaim platform b.tree.nodes r (base_of b r) claim
right_taken platform b r claim None takes = absurd takes
right_taken platform b r claim (Some object) takes = true_is_right platform b.tree.nodes r (base_of b r) claim takes.true_of

-- where none is taken, the objects that were taken stay so
pub takes_none : (platform : PlatformFacts) (old new : List Value) (k j : ℕ) → j ≡ k → new ≡ old → (cs : List Certified) → AllZip (IsOf platform) (map view (take k old)) cs
    → AllZip (IsOf platform) (map view (take j new)) cs
takes_none platform old new k j same objects cs all = rw (same, objects) all

-- ---- what is left

there_left : (vs : List Value) (k : ℕ) (v : Value) → slice_get vs k ≡ Some v → map view (drop k vs) ≡ view v ∷ map view (drop (suc k) vs)
there_left [] k v here = absurd (cc)
there_left (x ∷ vs) zero v here = let same : x ≡ v = cc in ap (λ z. view z ∷ map view vs) same
there_left (x ∷ vs) (suc k) v here = there_left vs k v here

none_left : (vs : List Value) (k : ℕ) → length vs ≤ k → map view (drop k vs) ≡ []
none_left vs k past = at_drop_all (map view) vs k past

-- the next object fails, or it is missing
pub fails_there : (platform : PlatformFacts) (b : BookState) (r : ℕ) (vs : List Value) (k : ℕ) (v : Value) (o : Objection) (why : No) → slice_get vs k ≡ Some v → o.path ≡ path_of b.tree.nodes r
    → why ≡ o.no → ClaimFails platform b r (view v) why → FailsNext (map view (drop k vs)) platform b r o
fails_there platform b r vs k v o why here path same fails = record {
  path = path;
  no = subst (λ left. NextFails platform b r left o.no) (sym (there_left vs k v here)) (subst (ClaimFails platform b r (view v)) same fails);
}

pub fails_missing : (platform : PlatformFacts) (b : BookState) (r : ℕ) (vs : List Value) (k : ℕ) (o : Objection) → length vs ≤ k → o.path ≡ path_of b.tree.nodes r → o.no ≡ WrongShape
    → FailsNext (map view (drop k vs)) platform b r o
fails_missing platform b r vs k o here path why = record {
  path = path;
  no = subst (λ left. NextFails platform b r left o.no) (sym (none_left vs k here)) why;
}

pub objects_as : (stop : Stop) (o : Objection) (P : Objection → Type 0) → stop ≡ Refused o → P o → IfObjects stop P
objects_as stop o P is h = subst (λ s. IfObjects s P) (sym is) h

pub some_and : {X : Type 0} (o : Option X) (x : X) (P : X → Type 0) → o ≡ Some x → P x → IsSomeAnd o P
some_and o x P is h = subst (λ z. IsSomeAnd z P) (sym is) h

-- ---- a claim

-- what an object says
pub said_as : (p q : PlatformFacts) (d : Data) (read : List ℕ × Claim) (here : List ℕ) → q ≡ p → claim_said q d ≡ Some read → read.0 ≡ here → claim_said p d ≡ Some (here, read.1)
said_as p q d read here same said path =
    let first : claim_said p d ≡ Some read = subst (λ x. claim_said x d ≡ Some read) same said in
    first ∙ ap (λ (ts : List ℕ). let c : List ℕ × Claim = (ts, read.1) in Some c) path

-- its claim fails
pub claim_fails : (p q : PlatformFacts) (b : BookState) (t : TreeFacts) (r : ℕ) (d : Data) (read : List ℕ × Claim) (base : Option BaseFacts) (why : No) → q ≡ p → t ≡ b.tree → base ≡ base_of b r
    → claim_said q d ≡ Some read → read.0 ≡ path_of b.tree.nodes r → VerdictFaults q (option_map (terms_of t.nodes) base) (shape_of t.nodes r) read.1.verdict read.1.proof why
    → ClaimFails p b r d why
claim_fails p q b t r d read base why same_p same_t same_base said path faults =
    let first = subst (λ x. VerdictFaults x (option_map (terms_of t.nodes) base) (shape_of t.nodes r) read.1.verdict read.1.proof why) same_p faults in
    let second = subst (λ (x : TreeFacts). VerdictFaults p (option_map (terms_of x.nodes) base) (shape_of x.nodes r) read.1.verdict read.1.proof why) same_t first in
    let third = subst (λ x. VerdictFaults p (option_map (terms_of b.tree.nodes) x) (shape_of b.tree.nodes r) read.1.verdict read.1.proof why) same_base second in
    let says : claim_said p d ≡ Some read = subst (λ x. claim_said x d ≡ Some read) same_p said in
    subst (λ o. SaidFails p b r o why) (sym says) (inr (path, third))

-- ---- all objects

split_at : (vs : List Value) (k : ℕ) → map view vs ≡ map view (take k vs) ++ map view (drop k vs)
split_at vs k = ap (map view) (sym (take-append-drop k vs)) ∙ map-append view (take k vs) (drop k vs)

long_as : (vs ws : List Value) → map view vs ≡ map view ws → length vs ≡ length ws
long_as vs ws same = sym (length-map vs view) ∙ (ap length same ∙ length-map ws view)

take_all : {X : Type 0} (xs : List X) (k : ℕ) → length xs ≤ k → take k xs ≡ xs
take_all [] zero more = refl
take_all [] (suc k) more = refl
take_all (x ∷ xs) zero more = absurd (omega (arith, more))
take_all (x ∷ xs) (suc k) more = ap (λ ys. x ∷ ys) (take_all xs k (omega (arith, more)))

head_left : (vs : List Value) (k : ℕ) → k < length vs → (object : Data) × (left : List Data) × (map view (drop k vs) ≡ object ∷ left)
head_left [] k less = absurd (omega (arith, less))
head_left (x ∷ vs) zero less = (view x, map view vs, refl)
head_left (x ∷ vs) (suc k) less = head_left vs k (omega (arith, less))

module _ (platform : PlatformFacts) (rs : List CallFacts) (objects now : List Value) (k : ℕ) (same : map view now ≡ map view objects) (text : List ℕ) where
  abbrev Said : Bool → Type 0
  Said starved = IsReported platform rs (AllZip (IsOf platform) (map view (take k now))) text starved

  taken : (starved : Bool) → starved ≡ false → Said starved → AreTaken platform rs (map view (take k now))
  taken starved fed said = record { text = text; report = subst Said fed said }

  -- all were taken
  pub all_accepted : (starved : Bool) → starved ≡ false → Said starved → length objects ≤ k → Answers platform rs (map view objects) answers.Yes
  all_accepted starved fed said all =
      let whole : map view (take k now) ≡ map view objects = ap (map view) (take_all now k (omega (arith, long_as now objects same, all))) ∙ same in
      accepts (subst (AreTaken platform rs) whole (taken starved fed said))

  -- there are more
  pub more_left : (starved : Bool) → starved ≡ false → Said starved → k < length objects → Answers platform rs (map view objects) too_many
  more_left starved fed said less =
      let (one, left, head) = head_left now k (omega (arith, long_as now objects same, less)) in
      has_more (map view (take k now)) left one (sym same ∙ (split_at now k ∙ ap (λ ds. map view (take k now) ++ ds) head)) (taken starved fed said)

-- the next one fails
pub stopped_at : (platform : PlatformFacts) (rs : List CallFacts) (objects first now : List Value) (j k : ℕ) (o n : Objection) → n ≡ o → first ≡ objects → j ≡ 0 → map view now ≡ map view objects
    → IsStopped platform rs (AllZip (IsOf platform) (map view (take j first))) (AllZip (IsOf platform) (map view (take k now)))
    (λ p b r objection. FailsNext (map view (drop k now)) p b r objection) n
    → Answers platform rs (map view objects) (answers.No o)
stopped_at platform rs objects first now j k o n this is none same stopped =
    let none_taken : AllZip (IsOf platform) (map view (take j first)) [] = rw none tt in
    subst (λ z. Answers platform rs (map view objects) (answers.No z)) this (objects_to n (record {
      made = stopped.stops.made;
      rest = stopped.stops.left;
      in_order = stopped.stops.split;
      taken = map view (take k now);
      left = map view (drop k now);
      split = sym same ∙ split_at now k;
      lines = stopped.stops.lines;
      decisions = stopped.stops.decisions;
      last = stopped.last;
      goes = stopped.stops.goes;
      are_of = stopped.stops.gave [] none_taken;
      fed = stopped.fed;
      domain = stopped.stops.domain;
      next = stopped.stops.next;
      fails = subst (λ p. FailsNext (map view (drop k now)) p stopped.last.book stopped.stops.domain n) (goes_platform 1 _ _ _ _ _ stopped.stops.goes) stopped.stops.object;
    }))
