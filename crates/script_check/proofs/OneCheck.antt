-- A certificate has one answer for a script.
use Rattle.std.proofs.Common.{◌≡◌, ℕ, ◌+◌, ◌++◌, List, [], ◌∷◌, length, false, Option, Some, None, Ok, inl, inr, refl, sym, ◌∙◌, ap, subst, append-nil}
use Rattle.std.proofs.lemmas.Option.{same_Some}
use Rattle.std.specs.Prelude.{IfSome, option_map}
use Rattle.std.specs.List.{AllZip}
use Rattle.certificate_text.specs.Said.{claim_said}
use Rattle.serde_json.specs.Data.{Data}
use Rattle.serde_json.specs.Find.{as_array}
use Rattle.serde_json.specs.View.{items_of}
use Rattle.script_reading.specs.Script.{CallFacts, ScriptFacts, script_of}
use Rattle.sysmem_alloc.specs.Claims.{HasProof, IsRightClaim}
use Rattle.sysmem_alloc.specs.Decision.{Claimed, answer_of}
use Rattle.sysmem_alloc.specs.Entry.{Decided}
use Rattle.sysmem_alloc.specs.History.{Allows}
use Rattle.sysmem_alloc.specs.State.{State as BookState, base_of, next_ready}
use Rattle.sysmem_alloc.proofs.CallerLemmas.{proved_is_true}
use Rattle.verdict_claims.specs.Base.{terms_of}
use Rattle.verdict_claims.specs.Claim.{IsTrueClaim}
use Rattle.verdict_claims.specs.Fault.{VerdictFaults}
use Rattle.verdict_claims.specs.Laws.{FaultsAreFirst, TestsAreExact}
use Rattle.verdict_claims.specs.declared.certificate.Claim.{Claim}
use Rattle.verdict_claims.specs.declared.no.No.{No}
use Rattle.negotiation_inputs.specs.Platform.{PlatformFacts}
use Rattle.sysmem_tree.specs.Path.{path_of}
use Rattle.sysmem_tree.specs.Shape.{shape_of}
use Rattle.script_replay.specs.Answer.{Replies}
use Rattle.script_check.specs.Checked.{Answers, ClaimFails, FailsNext, IsOf, NextFails, SaidFails, accepts, has_more, objects_to, too_many}
use Rattle.script_check.specs.CheckedFile.{AnswersIn, IsListOf, IsScriptOf, answer_text}
use Rattle.script_check.specs.Laws.{OneCheck}
use Rattle.script_replay.specs.Report.{Certified, Goes, calls, certified, with_decision, decides, stays}
use Rattle.script_replay.specs.State.{RunState, first_run_state, node_named}
use Rattle.script_check.specs.declared.checked_file.CheckAnswer.{CheckAnswer}
use Rattle.script_check.specs.declared.checked_file.CheckAnswer.TheVariants as answers
use Rattle.script_replay.specs.declared.decider.Objection.{Objection}
use Rattle.script_replay.specs.declared.reply.Reply.{Reply}
use Rattle.script_check.proofs.AnswerLemmas.{one_value}
use Rattle.script_replay.proofs.CallerLemmas.{answer_for, is_answer, replies_platform, unstarved_before}

-- where the calls and the objects end: all are there, an one is left, or the next one fails
data Ends (platform : PlatformFacts) (rest : List CallFacts) (left : List Data) (t : RunState) : CheckAnswer → Type 0 where
  all : next_ready t.book ≡ None → rest ≡ [] → left ≡ [] → Ends platform rest left t answers.Yes
  more : (one : Data) (others : List Data) → next_ready t.book ≡ None → rest ≡ [] → left ≡ one ∷ others → Ends platform rest left t too_many
  fails : (r : ℕ) (o : Objection) → next_ready t.book ≡ Some r → FailsNext left platform t.book r o → Ends platform rest left t (answers.No o)

-- calls and decisions from a state to such an end
record Way (platform : PlatformFacts) (number : ℕ) (s : RunState) (rs : List CallFacts) (objects : List Data) (a : CheckAnswer) : Type 0 where
  made : List CallFacts
  rest : List CallFacts
  in_order : rs ≡ made ++ rest
  taken : List Data
  left : List Data
  split : objects ≡ taken ++ left
  lines : List ℕ
  decisions : List Certified
  last : RunState
  goes : Goes number s made lines decisions last
  are_of : AllZip (IsOf platform) taken decisions
  fed : last.starved ≡ false
  ends : Ends platform rest left last a

way_of : (platform : PlatformFacts) (rs : List CallFacts) (objects : List Data) (a : CheckAnswer) → Answers platform rs objects a → Way platform 1 (first_run_state platform) rs objects a
way_of platform rs objects _ (accepts taken) = record {
  made = rs;
  rest = [];
  in_order = sym (append-nil rs);
  taken = objects;
  left = [];
  split = sym (append-nil objects);
  lines = taken.report.report.lines;
  decisions = taken.report.decisions;
  last = taken.report.report.last;
  goes = taken.report.report.goes;
  are_of = taken.report.gave;
  fed = sym taken.report.report.memory;
  ends = all taken.report.report.done refl refl;
}
way_of platform rs objects _ (objects_to o h) = record {
  made = h.made;
  rest = h.rest;
  in_order = h.in_order;
  taken = h.taken;
  left = h.left;
  split = h.split;
  lines = h.lines;
  decisions = h.decisions;
  last = h.last;
  goes = h.goes;
  are_of = h.are_of;
  fed = h.fed;
  ends = fails h.domain o h.next h.fails;
}
way_of platform rs objects _ (has_more first left one split taken) = record {
  made = rs;
  rest = [];
  in_order = sym (append-nil rs);
  taken = first;
  left = one ∷ left;
  split = split;
  lines = taken.report.report.lines;
  decisions = taken.report.decisions;
  last = taken.report.report.last;
  goes = taken.report.report.goes;
  are_of = taken.report.gave;
  fed = sym taken.report.report.memory;
  ends = more one left taken.report.report.done refl refl;
}

no_next : (b : BookState) (r : ℕ) → next_ready b ≡ None → next_ready b ≡ Some r → ⊥
no_next b r none some = absurd (cc)

no_rest : {X : Type 0} (x : X) (xs ys : List X) → ys ≡ [] → ys ≡ x ∷ xs → ⊥
no_rest x xs ys none some = absurd (cc)

heads : {X : Type 0} (x y : X) (xs ys : List X) → x ∷ xs ≡ y ∷ ys → x ≡ y
heads x y xs ys e = cc

tails : {X : Type 0} (x y : X) (xs ys : List X) → x ∷ xs ≡ y ∷ ys → xs ≡ ys
tails x y xs ys e = cc

same_objection : (a b : Objection) → a.no ≡ b.no → a.path ≡ b.path → a ≡ b
same_objection a b number path =
    let first : a ≡ record { no = b.no; path = a.path } = ap (λ (n : No). let o : Objection = record { no = n; path = a.path } in o) number in
    first ∙ ap (λ (p : List ℕ). let o : Objection = record { no = b.no; path = p } in o) path

module _ (exact : TestsAreExact) (law : FaultsAreFirst) (platform : PlatformFacts) where
  -- what fails first of an one is one test
  one_fault : (b : BookState) (r : ℕ) (said : Option (List ℕ × Claim)) (x y : No) → SaidFails platform b r said x → SaidFails platform b r said y → x ≡ y
  one_fault b r None x y e f = e ∙ sym f
  one_fault b r (Some c) x y (inl e) (inl f) = e.1 ∙ sym f.1
  one_fault b r (Some c) x y (inl e) (inr f) = absurd (e.0 f.0)
  one_fault b r (Some c) x y (inr e) (inl f) = absurd (f.0 e.0)
  one_fault b r (Some c) x y (inr e) (inr f) =
      (law platform (option_map (terms_of b.tree.nodes) (base_of b r)) (shape_of b.tree.nodes r)).one_of_verdict c.1.verdict c.1.proof x y e.1 f.1

  one_next : (left : List Data) (b : BookState) (r : ℕ) (x y : No) → NextFails platform b r left x → NextFails platform b r left y → x ≡ y
  one_next [] b r x y e f = e ∙ sym f
  one_next (d ∷ left) b r x y e f = one_fault b r (claim_said platform d) x y e f

  -- what is true doesn't fail
  true_said : (b : BookState) (r : ℕ) (claim : Claim) (said : Option (List ℕ × Claim)) (why : No) → said ≡ Some (path_of b.tree.nodes r, claim)
      → IsTrueClaim platform b.tree.nodes r (base_of b r) claim → SaidFails platform b r said why → ⊥
  true_said b r claim None why e is h = absurd (cc)
  true_said b r claim (Some c) why e is (inl h) = h.0 (let same : c ≡ (path_of b.tree.nodes r, claim) = same_Some c _ e in ap (λ p. p.0) same)
  true_said b r claim (Some c) why e is (inr h) =
      let same : c.1 ≡ claim = ap (λ p. p.1) (same_Some c (path_of b.tree.nodes r, claim) e) in
      let passes = ((exact platform (option_map (terms_of b.tree.nodes) (base_of b r)) (shape_of b.tree.nodes r)).verdict claim.verdict claim.proof).1 (is.optimal, is.proved) in
      let faults = subst (λ (c : Claim). VerdictFaults platform (option_map (terms_of b.tree.nodes) (base_of b r)) (shape_of b.tree.nodes r) c.verdict c.proof why) same h.1 in
      (law platform (option_map (terms_of b.tree.nodes) (base_of b r)) (shape_of b.tree.nodes r)).verdict claim.verdict claim.proof why faults passes

  true_claim : (s : RunState) (c : Claimed) (claim : Claim) → s.platform ≡ platform → Allows s.platform s.book (Decided c) → c.claim ≡ Some claim → HasProof claim
      → IsTrueClaim platform s.book.tree.nodes c.domain (base_of s.book c.domain) claim
  true_claim s c claim same allowed is has =
      let there : IsRightClaim s.platform s.book.tree.nodes c.domain (base_of s.book c.domain) claim =
      subst (λ o. IfSome o (IsRightClaim s.platform s.book.tree.nodes c.domain (base_of s.book c.domain))) is allowed.1 in
      proved_is_true platform s.book.tree.nodes c.domain (base_of s.book c.domain) claim (subst (λ p. IsRightClaim p s.book.tree.nodes c.domain (base_of s.book c.domain) claim) same there) has

  -- an one that was taken doesn't fail
  not_both : (s : RunState) (c : Claimed) (one : Data) (left : List Data) (r : ℕ) (o : Objection) → s.platform ≡ platform → Allows s.platform s.book (Decided c)
      → IsOf platform one (certified s c) → next_ready s.book ≡ Some r → FailsNext (one ∷ left) platform s.book r o → ⊥
  not_both s c one left r o same allowed of next h =
      let own : r ≡ c.domain = same_Some r c.domain (sym next ∙ allowed.0) in
      let no : ClaimFails platform s.book c.domain one o.no = subst (λ k. ClaimFails platform s.book k one o.no) own h.no in
      true_said s.book c.domain of.claim (claim_said platform one) o.no of.says (true_claim s c of.claim same allowed of.taken of.proved) no

  -- a state at which there is an end isn't gone on from
  no_call_on : (s : RunState) (r : CallFacts) (rs rest : List CallFacts) (left : List Data) (a : CheckAnswer) → next_ready s.book ≡ None → rest ≡ r ∷ rs → Ends platform rest left s a → ⊥
  no_call_on s r rs rest left _ idle some (all next none empty) = no_rest r rs rest none some
  no_call_on s r rs rest left _ idle some (more one others next none empty) = no_rest r rs rest none some
  no_call_on s r rs rest left _ idle some (fails k o next h) = no_next s.book k idle next

  no_decision_on : (s : RunState) (c : Claimed) (rest : List CallFacts) (left held kept : List Data) (cs : List Certified) (a : CheckAnswer) → s.platform ≡ platform
      → Allows s.platform s.book (Decided c) → AllZip (IsOf platform) held (certified s c ∷ cs) → left ≡ held ++ kept → Ends platform rest left s a → ⊥
  no_decision_on s c rest left [] kept cs a same allowed zip split ends = absurd zip
  no_decision_on s c rest left (x ∷ held) kept cs _ same allowed zip split (all next none empty) = no_next s.book c.domain next allowed.0
  no_decision_on s c rest left (x ∷ held) kept cs _ same allowed zip split (more one others next none empty) = no_next s.book c.domain next allowed.0
  no_decision_on s c rest left (x ∷ held) kept cs _ same allowed zip split (fails r o next h) =
      not_both s c x (held ++ kept) r o same allowed zip.0 next (subst (λ l. FailsNext l platform s.book r o) split h)

  -- at one state there is one end
  one_end : (s : RunState) (rest other : List CallFacts) (left kept : List Data) (a b : CheckAnswer) → rest ≡ other → left ≡ kept → Ends platform rest left s a → Ends platform other kept s b → a ≡ b
  one_end s rest other left kept _ _ e f (all next none empty) (all next' none' empty') = refl
  one_end s rest other left kept _ _ e f (all next none empty) (more one others next' none' empty') = absurd (no_rest one others kept (sym f ∙ empty) empty')
  one_end s rest other left kept _ _ e f (all next none empty) (fails r o next' h) = absurd (no_next s.book r next next')
  one_end s rest other left kept _ _ e f (more one others next none empty) (all next' none' empty') = absurd (no_rest one others left (f ∙ empty') empty)
  one_end s rest other left kept _ _ e f (more one others next none empty) (more one' others' next' none' empty') = refl
  one_end s rest other left kept _ _ e f (more one others next none empty) (fails r o next' h) = absurd (no_next s.book r next next')
  one_end s rest other left kept _ _ e f (fails r o next h) (all next' none' empty') = absurd (no_next s.book r next' next)
  one_end s rest other left kept _ _ e f (fails r o next h) (more one others next' none' empty') = absurd (no_next s.book r next' next)
  one_end s rest other left kept _ _ e f (fails r o next h) (fails k q next' h') =
      let own : k ≡ r = same_Some k r (sym next' ∙ next) in
      let there : FailsNext left platform s.book r q = subst (λ l. FailsNext l platform s.book r q) (sym f) (subst (λ j. FailsNext kept platform s.book j q) own h') in
      ap answers.No (same_objection o q (one_next left s.book r o.no q.no h.no there.no) (h.path ∙ sym there.path))

  -- the claims that one one makes are one
  one_claim : (one : Data) (s : RunState) (c e : Claimed) → c.domain ≡ e.domain → IsOf platform one (certified s c) → IsOf platform one (certified s e) → c ≡ e
  one_claim one s c e own of of' =
      let said : of.claim ≡ of'.claim = ap (λ p. p.1) (same_Some _ _ (sym of.says ∙ of'.says)) in
      let claim : c.claim ≡ e.claim = of.taken ∙ (ap Some said ∙ sym of'.taken) in
      let first : c ≡ record { domain = e.domain; claim = c.claim } = ap (λ (r : ℕ). let z : Claimed = record { domain = r; claim = c.claim } in z) own in
      first ∙ ap (λ (v : Option Claim). let z : Claimed = record { domain = e.domain; claim = v } in z) claim

  one_answer : (number : ℕ) (s t u : RunState) (made rest many other : List CallFacts) (xs ys : List ℕ) (cs ds : List Certified) (taken left held kept : List Data) (a b : CheckAnswer)
      → Goes number s made xs cs t → Goes number s many ys ds u → s.platform ≡ platform → made ++ rest ≡ many ++ other → taken ++ left ≡ held ++ kept
      → AllZip (IsOf platform) taken cs → AllZip (IsOf platform) held ds → t.starved ≡ false → u.starved ≡ false
      → Ends platform rest left t a → Ends platform other kept u b → a ≡ b
  one_answer _ _ _ _ _ rest _ other _ _ _ _ [] left [] kept a b (stays number s) (stays _ _) same e f zip zap p q x y = one_end s rest other left kept a b e f x y
  one_answer _ _ _ _ _ rest _ other _ _ _ _ (o ∷ taken) left held kept a b (stays number s) _ same e f zip zap p q x y = absurd zip
  one_answer _ _ _ _ _ rest _ other _ _ _ _ taken left (o ∷ held) kept a b _ (stays number s) same e f zip zap p q x y = absurd zap
  one_answer _ _ _ _ _ rest _ other _ _ _ _ [] left held kept a b (stays number s) (calls _ _ mid u r rs reply text ds idle replied on) same e f zip zap p q x y =
      absurd (no_call_on s r (rs ++ other) rest left a idle e x)
  one_answer _ _ _ _ _ rest _ other _ _ _ _ [] left held kept a b (stays number s) (decides _ _ u c rs what text ds allowed said on) same e f zip zap p q x y =
      absurd (no_decision_on s c rest left held kept ds a same allowed zap f x)
  one_answer _ _ _ _ _ rest _ other _ _ _ _ taken left [] kept a b (calls number s mid t r rs reply text cs idle replied on) (stays _ _) same e f zip zap p q x y =
      absurd (no_call_on s r (rs ++ rest) other kept b idle (sym e) y)
  one_answer _ _ _ _ _ rest _ other _ _ _ _ taken left [] kept a b (decides number s t c rs what text cs allowed said on) (stays _ _) same e f zip zap p q x y =
      absurd (no_decision_on s c other kept taken left cs b same allowed zip (sym f) y)
  one_answer _ _ _ _ _ rest _ other _ _ _ _ taken left held kept a b (calls number s mid t r rs reply text cs idle replied on) (decides _ _ u c qs what text' ds allowed said on') same e f zip zap p q x y =
      absurd (no_next s.book c.domain idle allowed.0)
  one_answer _ _ _ _ _ rest _ other _ _ _ _ taken left held kept a b (decides number s t c rs what text cs allowed said on) (calls _ _ mid u r qs reply text' ds idle replied on') same e f zip zap p q x y =
      absurd (no_next s.book c.domain idle allowed.0)
  one_answer _ _ _ _ _ rest _ other _ _ _ _ taken left held kept a b (calls number s mid t r rs reply text cs idle replied on) (calls _ _ mid' u r' qs reply' text' ds idle' replied' on') same e f zip zap p q x y =
      let call : r' ≡ r = sym (heads r r' (rs ++ rest) (qs ++ other) e) in
      let after : rs ++ rest ≡ qs ++ other = tails r r' (rs ++ rest) (qs ++ other) e in
      let first : (reply, mid) ≡ answer_for s r (node_named s r) = is_answer s r reply mid replied (unstarved_before (number + 1) mid t rs text cs on p) in
      let there : Replies s r reply' mid' = subst (λ k. Replies s k reply' mid') call replied' in
      let second : (reply', mid') ≡ answer_for s r (node_named s r) = is_answer s r reply' mid' there (unstarved_before (number + 1) mid' u qs text' ds on' q) in
      let same_mid : mid' ≡ mid = ap (λ (p : Reply × RunState). p.1) (second ∙ sym first) in
      one_answer (number + 1) mid t u rs rest qs other text text' cs ds taken left held kept a b on (subst (λ (m : RunState). Goes (number + 1) m qs text' ds u) same_mid on')
      (replies_platform s mid r reply replied ∙ same) after f zip zap p q x y
  one_answer _ _ _ _ _ rest _ other _ _ _ _ [] left held kept a b (decides number s t c rs what text cs allowed said on) (decides _ _ u c' qs what' text' ds allowed' said' on') same e f zip zap p q x y = absurd zip
  one_answer _ _ _ _ _ rest _ other _ _ _ _ (o ∷ taken) left [] kept a b (decides number s t c rs what text cs allowed said on) (decides _ _ u c' qs what' text' ds allowed' said' on') same e f zip zap p q x y = absurd zap
  one_answer _ _ _ _ _ rest _ other _ _ _ _ (o ∷ taken) left (o' ∷ held) kept a b (decides number s t c rs what text cs allowed said on) (decides _ _ u c' qs what' text' ds allowed' said' on') same e f zip zap p q x y =
      let one : o' ≡ o = sym (heads o o' (taken ++ left) (held ++ kept) f) in
      let own : c.domain ≡ c'.domain = same_Some c.domain c'.domain (sym allowed.0 ∙ allowed'.0) in
      let of' : IsOf platform o (certified s c') = subst (λ d. IsOf platform d (certified s c')) one zap.0 in
      let claimed : c' ≡ c = sym (one_claim o s c c' own zip.0 of') in
      one_answer number (with_decision s (answer_of c)) t u rs rest qs other text text' cs ds taken left held kept a b on
      (subst (λ (z : Claimed). Goes number (with_decision s (answer_of z)) qs text' ds u) claimed on') same e (tails o o' (taken ++ left) (held ++ kept) f) zip.1 zap.1 p q x y

  one_way : (rs : List CallFacts) (objects : List Data) (a b : CheckAnswer) → Answers platform rs objects a → Answers platform rs objects b → a ≡ b
  one_way rs objects a b x y =
      let v = way_of platform rs objects a x in
      let w = way_of platform rs objects b y in
      one_answer 1 (first_run_state platform) v.last w.last v.made v.rest w.made w.rest v.lines w.lines v.decisions w.decisions v.taken v.left w.taken w.left a b v.goes w.goes refl
      (sym v.in_order ∙ w.in_order) (sym v.split ∙ w.split) v.are_of w.are_of v.fed w.fed v.ends w.ends

-- ---- of bytes

same_items : (xs ys : List Data) → items_of xs ≡ items_of ys → xs ≡ ys
same_items [] [] e = refl
same_items [] (y ∷ ys) e = absurd (cc)
same_items (x ∷ xs) [] e = absurd (cc)
same_items (x ∷ xs) (y ∷ ys) e =
    let head : x ≡ y = cc in
    let rest : items_of xs ≡ items_of ys = cc in
    ap (λ z. z ∷ xs) head ∙ ap (λ zs. y ∷ zs) (same_items xs ys rest)

one_list : (bytes : List ℕ) (xs ys : List Data) → IsListOf bytes xs → IsListOf bytes ys → xs ≡ ys
one_list bytes xs ys a b =
    let value = one_value bytes a.value b.value a.spells.json b.spells.json in
    let both : Some (items_of xs) ≡ Some (items_of ys) = sym a.list ∙ (ap as_array (sym value) ∙ b.list) in
    same_items xs ys (same_Some (items_of xs) (items_of ys) both)

one_script : (input : List ℕ) (s t : ScriptFacts) → IsScriptOf input s → IsScriptOf input t → s ≡ t
one_script input s t a b =
    let value = one_value input a.value b.value a.spells.json b.spells.json in
    let both : Ok s ≡ Ok t = sym a.says ∙ (ap script_of (sym value) ∙ b.says) in
    (cc)

pub one_check : TestsAreExact → FaultsAreFirst → OneCheck
one_check exact law input certificate a b s t x y =
    let script = one_script input x.script y.script x.reads y.reads in
    let other : AnswersIn x.script certificate b t = subst (λ z. AnswersIn z certificate b t) (sym script) y.holds in
    let objects = one_list certificate x.holds.objects other.objects x.holds.lists other.lists in
    let there : Answers x.script.platform x.script.calls x.holds.objects b = subst (λ ds. Answers x.script.platform x.script.calls ds b) (sym objects) other.holds in
    let same : a ≡ b = one_way exact law x.script.platform x.script.calls x.holds.objects a b x.holds.holds there in
    (same, x.holds.says ∙ (ap (λ (z : CheckAnswer). answer_text z (length x.holds.objects)) same ∙ (ap (λ ds. answer_text b (length ds)) objects ∙ sym other.says)))
