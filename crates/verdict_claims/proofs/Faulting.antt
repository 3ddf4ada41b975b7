-- What fails a test doesn't pass, and the first test that fails is one.
use Rattle.std.proofs.Common.{◌≡◌, ◌≢◌, inl, inr, arith, ℕ, suc, true, is_none, List, [], ◌∷◌, ◌++◌, length, take, Option, Some, None, IsSomeAnd, All, Contains, slice_get, refl, sym, ◌∙◌, ap, subst}
use Rattle.std.specs.Prelude.{MatchOption}
use Rattle.std.specs.List.{AllZip}
use Rattle.std.proofs.lemmas.List.Elements.{All-nil, All-cons, All-head, All-tail, Contains-append_right}
use Rattle.std.proofs.lemmas.Option.{same_Some}
use Rattle.sysmem_memory.proofs.CallerLemmas.{listed_is_place}
use Rattle.sysmem_memory.specs.Listed.{HeapPlace, places_of}
use Rattle.sysmem_formats.specs.declared.offer.Offer.{Offer}
use Rattle.sysmem_merge.specs.declared.settings.Settings.{Settings}
use Rattle.negotiation_inputs.specs.Platform.{PlatformFacts, offers_of}
use Rattle.sysmem_tree.specs.Forest.{Forest, choices, settled}
use Rattle.sysmem_tree.specs.Selection.{IsSelection}
use Rattle.sysmem_tree.specs.Shape.{Member}
use Rattle.verdict_claims.specs.declared.no.No.{No}
use Rattle.verdict_claims.specs.declared.no.No.TheVariants.{WrongShape, NotMet, NotLeast}
use Rattle.verdict_claims.specs.Base.{Terms}
use Rattle.verdict_claims.specs.declared.refutation.Item.{Item}
use Rattle.verdict_claims.specs.declared.refutation.Item.TheVariants.{Split, Leaf}
use Rattle.verdict_claims.specs.CertificateFacts.{CertificateFacts}
use Rattle.verdict_claims.specs.declared.certificate.Proof.{Proof}
use Rattle.verdict_claims.specs.declared.certificate.Proof.TheVariants as proves
use Rattle.verdict_claims.specs.declared.verdict.Verdict.{Verdict}
use Rattle.verdict_claims.specs.declared.verdict.Verdict.TheVariants as verdicts
use Rattle.verdict_claims.specs.Certificate.{Refutes, RefutesEarlier, HoldBefore, RefusePlacesBefore, RefuseBeforeFor}
use Rattle.verdict_claims.specs.Check.{IsLeastAt, IsLeastFor, ChoicePasses, RefutationPasses, VerdictPasses}
use Rattle.verdict_claims.specs.Members.{participants}
use Rattle.verdict_claims.specs.Line.{LineFacts}
use Rattle.verdict_claims.specs.declared.conflict.Conflict.{Conflict}
use Rattle.verdict_claims.specs.declared.conflict.Conflict.TheVariants.{Count, Places, Offers, Fixed}
use Rattle.verdict_claims.specs.Conflict.{RefusesPlace, RefusesOffer, IsConflictFor}
use Rattle.verdict_claims.specs.Fault.{Faults, First, Fails, AreNamed, LineFaults, lines_of, HasEachLine, namable, ConflictFaults, RefutationFaults, EachFaults, EarlierFaults, LinesFault, PlacesFault, LinesFaults, HasFittingLines, SettingsFaults, MembersFault, IsSelected, AreFew, ChoiceFaults, EmptyFaults, VerdictFaults}
use Rattle.verdict_claims.specs.Laws.{FaultsAreFirst}
use Rattle.verdict_claims.specs.Verdict.{MeetsFor}

-- no fault where the tests hold; and no two faults
abbrev Sound : Type 0 → Faults → Type 0
Sound Holds faults = (why : No) → faults why → ¬ Holds

abbrev One : Faults → Type 0
One faults = (a b : No) → faults a → faults b → a ≡ b

-- faults that are both
record AreFirst (Holds : Type 0) (faults : Faults) : Type 0 where
  sound : Sound Holds faults
  one : One faults

fails_first : (Holds : Type 0) (number : No) → AreFirst Holds (Fails Holds number)
fails_first Holds number = record { sound = λ why f holds. f.0 holds; one = λ a b f g. f.1 ∙ sym g.1 }

-- of a test before others
in_turn : (Holds Others : Type 0) (faults others : Faults) → AreFirst Holds faults → AreFirst Others others → AreFirst (Holds × Others) (First Holds faults others)
in_turn Holds Others faults others x y = record {
  sound = λ why f both. elim f as (λ _. ⊥) [ inl here ↦ x.sound why here both.0 | inr later ↦ y.sound why later.1 both.1 ];
  one = λ a b f g. by a b f g;
} where
  by : (a b : No) → First Holds faults others a → First Holds faults others b → a ≡ b
  by a b (inl f) (inl g) = x.one a b f g
  by a b (inl f) (inr g) = absurd (x.sound a f g.0)
  by a b (inr f) (inl g) = absurd (x.sound b g f.0)
  by a b (inr f) (inr g) = y.one a b f.1 g.1

-- what follows from tests
weaker : (P Q : Type 0) (faults : Faults) → (Q → P) → AreFirst P faults → AreFirst Q faults
weaker P Q faults from x = record { sound = λ why f q. x.sound why f (from q); one = x.one }

line_first : (ms : List Member) (P : Type 0) (line : LineFacts) → (P → AreNamed ms line.nodes) → AreFirst P (LineFaults ms P line)
line_first ms P line named = weaker (AreNamed ms line.nodes × P) P (LineFaults ms P line) (λ p. (named p, p))
    (in_turn (AreNamed ms line.nodes) P (Fails (AreNamed ms line.nodes) _) (Fails P _) (fails_first (AreNamed ms line.nodes) _) (fails_first P _))

-- lines one for each
zip_long : {X Y : Type 0} (R : X → Y → Type 0) (xs : List X) (ys : List Y) → AllZip R xs ys → length ys ≡ length xs
zip_long R [] [] zip = refl
zip_long R [] (y ∷ ys) zip = absurd zip
zip_long R (x ∷ xs) [] zip = absurd zip
zip_long R (x ∷ xs) (y ∷ ys) zip = ap suc (zip_long R xs ys zip.1)

zip_all : {X Y : Type 0} (R : X → Y → Type 0) (P : Y → Type 0) → ((x : X) (y : Y) → R x y → P y) → (xs : List X) (ys : List Y) → AllZip R xs ys → All P ys
zip_all R P step [] [] zip = All-nil P
zip_all R P step [] (y ∷ ys) zip = absurd zip
zip_all R P step (x ∷ xs) [] zip = absurd zip
zip_all R P step (x ∷ xs) (y ∷ ys) zip = All-cons P y ys (step x y zip.0) (zip_all R P step xs ys zip.1)

-- something for each
each_first : {X Y : Type 0} (R : X → Y → Type 0) (faults : X → Y → Faults) → ((x : X) (y : Y) → AreFirst (R x y) (faults x y)) → (xs : List X) (ys : List Y) → AreFirst (AllZip R xs ys) (EachFaults R faults xs ys)
each_first R faults one [] [] = record { sound = λ why f r. f; one = λ a b f g. absurd f }
each_first R faults one [] (y ∷ ys) = record { sound = λ why f r. r; one = λ a b f g. f ∙ sym g }
each_first R faults one (x ∷ xs) [] = record { sound = λ why f r. r; one = λ a b f g. f ∙ sym g }
each_first R faults one (x ∷ xs) (y ∷ ys) = in_turn (R x y) (AllZip R xs ys) (faults x y) (EachFaults R faults xs ys) (one x y) (each_first R faults one xs ys)

-- a conflict has the lines that it should have, and they name participants
module _ (platform : PlatformFacts) where
  each_line : (terms : Option Terms) (d : Forest Member) (c : Conflict) → IsConflictFor platform terms d c → HasEachLine platform c
  each_line terms d (Count line) is = tt
  each_line terms d (Fixed field node) is = tt
  each_line None d (Places lines) is = zip_long (RefusesPlace (settled d)) (places_of platform.heaps) lines is
  each_line None d (Offers lines) is = zip_long (RefusesOffer (is_none (choices d)) (settled d)) (offers_of platform) lines is
  each_line (Some terms) d (Places lines) is = absurd is
  each_line (Some terms) d (Offers lines) is = absurd is

  all_named : (terms : Option Terms) (d : Forest Member) (c : Conflict) → IsConflictFor platform terms d c → All (λ line. AreNamed (namable terms (settled d) c) line.nodes) (lines_of c)
  all_named None d (Count line) is = All-cons (λ l. AreNamed (settled d) l.nodes) line [] (is.0, is.1) (All-nil (λ l. AreNamed (settled d) l.nodes))
  all_named (Some terms) d (Count line) is = All-cons (λ l. AreNamed (terms.accepted ++ settled d) l.nodes) line [] (is.0, is.1) (All-nil (λ l. AreNamed (terms.accepted ++ settled d) l.nodes))
  all_named None d (Fixed field node) is = absurd is
  all_named (Some terms) d (Fixed field node) is = All-cons (λ l. AreNamed (settled d) l.nodes) (record { field = field; nodes = node ∷ [] }) [] (is.0, is.1) (All-nil (λ l. AreNamed (settled d) l.nodes))
  all_named None d (Places lines) is = zip_all (RefusesPlace (settled d)) (λ l. AreNamed (settled d) l.nodes) (λ (x : HeapPlace) (y : LineFacts) (r : RefusesPlace (settled d) x y). (r.0, r.1)) (places_of platform.heaps) lines is
  all_named None d (Offers lines) is = zip_all (RefusesOffer (is_none (choices d)) (settled d)) (λ l. AreNamed (settled d) l.nodes)
      (λ (x : Offer) (y : LineFacts) (r : RefusesOffer (is_none (choices d)) (settled d) x y). (r.0, r.1)) (offers_of platform) lines is
  all_named (Some terms) d (Places lines) is = absurd is
  all_named (Some terms) d (Offers lines) is = absurd is

  conflict_first : (terms : Option Terms) (d : Forest Member) (c : Conflict) → AreFirst (IsConflictFor platform terms d c) (ConflictFaults platform terms d c)
  conflict_first terms d c =
      let Named : Type 0 = All (λ line. AreNamed (namable terms (settled d) c) line.nodes) (lines_of c) in
      weaker (HasEachLine platform c × (Named × IsConflictFor platform terms d c)) (IsConflictFor platform terms d c) (ConflictFaults platform terms d c)
      (λ is. (each_line terms d c is, (all_named terms d c is, is)))
      (in_turn (HasEachLine platform c) (Named × IsConflictFor platform terms d c) (Fails (HasEachLine platform c) _) (First Named (Fails Named _) (Fails (IsConflictFor platform terms d c) _))
      (fails_first (HasEachLine platform c) _)
      (in_turn Named (IsConflictFor platform terms d c) (Fails Named _) (Fails (IsConflictFor platform terms d c) _) (fails_first Named _) (fails_first (IsConflictFor platform terms d c) _)))

  -- refutations
  module _ (terms : Option Terms) where
    abbrev L : Forest Member → Conflict → Type 0
    L = IsConflictFor platform terms

    one_number : (number : No) → One (λ why. why ≡ number)
    one_number number a b f g = f ∙ sym g

    split_first : (n : ℕ) (items : List Item) (ds : List (Forest Member)) (o : Option (List (Forest Member)))
        → ((es : List (Forest Member)) → AreFirst (Refutes L items es) (RefutationFaults platform terms items es))
        → AreFirst (IsSomeAnd o (λ es. (length es ≡ n) × Refutes L items (es ++ ds)))
        (λ why. MatchOption o (why ≡ WrongShape) (λ es. First (length es ≡ n) (Fails (length es ≡ n) WrongShape) (RefutationFaults platform terms items (es ++ ds)) why))
    split_first n items ds None more = record { sound = λ why f r. r; one = one_number WrongShape }
    split_first n items ds (Some es) more =
        in_turn (length es ≡ n) (Refutes L items (es ++ ds)) (Fails (length es ≡ n) WrongShape) (RefutationFaults platform terms items (es ++ ds)) (fails_first (length es ≡ n) WrongShape) (more (es ++ ds))

    refutation_first : (items : List Item) (ds : List (Forest Member)) → AreFirst (Refutes L items ds) (RefutationFaults platform terms items ds)
    refutation_first [] [] = record { sound = λ why f r. f; one = λ a b f g. absurd f }
    refutation_first [] (d ∷ ds) = record { sound = λ why f r. r; one = one_number _ }
    refutation_first (Leaf c ∷ items) [] = record { sound = λ why f r. r; one = one_number _ }
    refutation_first (Split n ∷ items) [] = record { sound = λ why f r. r; one = one_number _ }
    refutation_first (Leaf c ∷ items) (d ∷ ds) =
        in_turn (L d c) (Refutes L items ds) (ConflictFaults platform terms d c) (RefutationFaults platform terms items ds) (conflict_first terms d c) (refutation_first items ds)
    refutation_first (Split n ∷ items) (d ∷ ds) = split_first n items ds (choices d) (refutation_first items)

-- what stands before the first x is one list
head_of : {X : Type 0} {a b : X} {as' bs : List X} → (a ∷ as') ≡ (b ∷ bs) → a ≡ b
head_of e = cc (e)

tail_of : {X : Type 0} {a b : X} {as' bs : List X} → (a ∷ as') ≡ (b ∷ bs) → as' ≡ bs
tail_of e = cc (e)

same_front : {X : Type 0} (x : X) (xs ys us vs : List X) → xs ++ x ∷ us ≡ ys ++ x ∷ vs → All (λ y. y ≢ x) xs → All (λ y. y ≢ x) ys → xs ≡ ys
same_front x [] [] us vs e a b = refl
same_front x [] (y ∷ ys) us vs e a b = absurd (All-head (λ y. y ≢ x) y ys b (sym (head_of e)))
same_front x (z ∷ xs) [] us vs e a b = absurd (All-head (λ y. y ≢ x) z xs a (head_of e))
same_front x (z ∷ xs) (y ∷ ys) us vs e a b =
    ap (λ k. k ∷ xs) (head_of e) ∙ ap (λ ks. y ∷ ks) (same_front x xs ys us vs (tail_of e) (All-tail (λ y. y ≢ x) z xs a) (All-tail (λ y. y ≢ x) y ys b))

-- lines for what comes before
before_first : {X : Type 0} (R : X → LineFacts → Type 0) (ms : List Member) → ((y : X) (line : LineFacts) → R y line → AreNamed ms line.nodes)
    → (before : List X) (lines : List LineFacts) → AreFirst (AllZip R before lines) (EachFaults R (λ y line. LineFaults ms (R y line) line) before lines)
before_first R ms named before lines = each_first R (λ y line. LineFaults ms (R y line) line) (λ y line. line_first ms (R y line) line (named y line)) before lines

lines_first : {X : Type 0} (R : X → LineFacts → Type 0) (ms : List Member) → ((y : X) (line : LineFacts) → R y line → AreNamed ms line.nodes)
    → (xs : List X) (x : X) (lines : List LineFacts) → AreFirst (HoldBefore R xs x lines) (LinesFault R ms xs x lines)
lines_first R ms named xs x lines = record {
  sound = λ why f h. (before_first R ms named f.before lines).sound why f.fault
      (subst (λ b. AllZip R b lines) (same_front x h.before f.before h.behind f.behind (sym h.there ∙ f.there) h.first f.first) h.each);
  one = λ a b f g. (before_first R ms named f.before lines).one a b f.fault
      (subst (λ l. EachFaults R (λ y line. LineFaults ms (R y line) line) l lines b) (same_front x g.before f.before g.behind f.behind (sym g.there ∙ f.there) g.first f.first) g.fault);
}

module _ (platform : PlatformFacts) where
  -- a listed place has one heap
  same_at : (p q : HeapPlace) → p.place ≡ q.place → Contains (places_of platform.heaps) p → Contains (places_of platform.heaps) q → p ≡ q
  same_at p q place a b =
      let one = (listed_is_place platform.heaps p.place p.heap).1 a in
      let two = (listed_is_place platform.heaps q.place q.heap).1 b in
      let heap : p.heap ≡ q.heap = same_Some p.heap q.heap (sym one.heap ∙ (ap (λ x. slice_get platform.heaps x.heap) place ∙ two.heap)) in
      ap (λ x. record { place = x; heap = p.heap }) place ∙ ap (λ h. record { place = q.place; heap = h }) heap

  is_there : (before behind : List HeapPlace) (p : HeapPlace) → places_of platform.heaps ≡ before ++ p ∷ behind → Contains (places_of platform.heaps) p
  is_there before behind p there = subst (λ xs. Contains xs p) (sym there) (Contains-append_right before (p ∷ behind) p (0, omega arith, refl))

  places_first : (ms : List Member) (s : Settings) (lines : List LineFacts) → AreFirst (RefusePlacesBefore platform ms s lines) (PlacesFault platform ms s lines)
  places_first ms s lines = record {
    sound = λ why f h.
        let at : h.at ≡ f.at = same_at h.at f.at (h.same ∙ sym f.same) (is_there h.each.before h.each.behind h.at h.each.there) (is_there f.each.before f.each.behind f.at f.each.there) in
        (all f.at).sound why f.each (subst (λ p. HoldBefore (RefusesPlace ms) (places_of platform.heaps) p lines) at h.each);
    one = λ a b f g.
        let at : g.at ≡ f.at = same_at g.at f.at (g.same ∙ sym f.same) (is_there g.each.before g.each.behind g.at g.each.there) (is_there f.each.before f.each.behind f.at f.each.there) in
        (all f.at).one a b f.each (subst (λ p. LinesFault (RefusesPlace ms) ms (places_of platform.heaps) p lines b) at g.each);
  } where
    all : (p : HeapPlace) → AreFirst (HoldBefore (RefusesPlace ms) (places_of platform.heaps) p lines) (LinesFault (RefusesPlace ms) ms (places_of platform.heaps) p lines)
    all p = lines_first (RefusesPlace ms) ms (λ (y : HeapPlace) (line : LineFacts) (r : RefusesPlace ms y line). (r.0, r.1)) (places_of platform.heaps) p lines

  -- what is earlier, group by group
  module _ (terms : Option Terms) where
    abbrev Refuted : Forest Member → List Item → Type 0
    Refuted e items = Refutes (IsConflictFor platform terms) items (e ∷ [])

    abbrev EarlierIn : ℕ → List ℕ → List (List Item) → List (List (List Item)) → List (Forest Member) → Type 0
    EarlierIn c cs rs rss es = AllZip Refuted (take c es) rs × IsSomeAnd (slice_get es c) (λ e. RefutesEarlier (IsConflictFor platform terms) e cs rss)

    child_first : (cs : List ℕ) (rss : List (List (List Item))) (o : Option (Forest Member))
        → ((e : Forest Member) → AreFirst (RefutesEarlier (IsConflictFor platform terms) e cs rss) (EarlierFaults platform terms e cs rss))
        → AreFirst (IsSomeAnd o (λ e. RefutesEarlier (IsConflictFor platform terms) e cs rss)) (λ why. MatchOption o ⊥ (λ e. EarlierFaults platform terms e cs rss why))
    child_first cs rss None inner = record { sound = λ why f r. f; one = λ a b f g. absurd f }
    child_first cs rss (Some e) inner = inner e

    group_first : (c : ℕ) (cs : List ℕ) (rs : List (List Item)) (rss : List (List (List Item))) (o : Option (List (Forest Member)))
        → ((e : Forest Member) → AreFirst (RefutesEarlier (IsConflictFor platform terms) e cs rss) (EarlierFaults platform terms e cs rss))
        → AreFirst (IsSomeAnd o (EarlierIn c cs rs rss)) (λ why. MatchOption o ⊥ (λ es. First (AllZip Refuted (take c es) rs)
        (EachFaults Refuted (λ e items. RefutationFaults platform terms items (e ∷ [])) (take c es) rs)
        (λ why. MatchOption (slice_get es c) ⊥ (λ e. EarlierFaults platform terms e cs rss why)) why))
    group_first c cs rs rss None inner = record { sound = λ why f r. f; one = λ a b f g. absurd f }
    group_first c cs rs rss (Some es) inner = in_turn (AllZip Refuted (take c es) rs) (IsSomeAnd (slice_get es c) (λ e. RefutesEarlier (IsConflictFor platform terms) e cs rss))
        (EachFaults Refuted (λ e items. RefutationFaults platform terms items (e ∷ [])) (take c es) rs) (λ why. MatchOption (slice_get es c) ⊥ (λ e. EarlierFaults platform terms e cs rss why))
        (each_first Refuted (λ e items. RefutationFaults platform terms items (e ∷ [])) (λ e items. refutation_first platform terms items (e ∷ [])) (take c es) rs)
        (child_first cs rss (slice_get es c) inner)

    earlier_first : (cs : List ℕ) (rss : List (List (List Item))) (d : Forest Member) → AreFirst (RefutesEarlier (IsConflictFor platform terms) d cs rss) (EarlierFaults platform terms d cs rss)
    earlier_first [] [] d = record { sound = λ why f r. f; one = λ a b f g. absurd f }
    earlier_first [] (rs ∷ rss) d = record { sound = λ why f r. r; one = λ a b f g. f ∙ sym g }
    earlier_first (c ∷ cs) [] d = record { sound = λ why f r. r; one = λ a b f g. f ∙ sym g }
    earlier_first (c ∷ cs) (rs ∷ rss) d = group_first c cs rs rss (choices d) (earlier_first cs rss)

  -- the lines of a choice
  abbrev Lines : Option Terms → List Member → Settings → CertificateFacts → Type 0
  Lines None ms s c = HoldBefore (RefusesOffer true ms) (offers_of platform) s.offer c.offers × RefusePlacesBefore platform ms s c.places
  Lines (Some terms) ms s c = Unit {0}

  all_lines_first : (terms : Option Terms) (ms : List Member) (s : Settings) (c : CertificateFacts) → AreFirst (Lines terms ms s c) (LinesFaults platform terms ms s c)
  all_lines_first None ms s c = in_turn (HoldBefore (RefusesOffer true ms) (offers_of platform) s.offer c.offers) (RefusePlacesBefore platform ms s c.places)
      (LinesFault (RefusesOffer true ms) ms (offers_of platform) s.offer c.offers) (PlacesFault platform ms s c.places)
      (lines_first (RefusesOffer true ms) ms (λ (y : Offer) (line : LineFacts) (r : RefusesOffer true ms y line). (r.0, r.1)) (offers_of platform) s.offer c.offers)
      (places_first ms s c.places)
  all_lines_first (Some terms) ms s c = record { sound = λ why f r. f; one = λ a b f g. absurd f }

  lines_before : (terms : Option Terms) (ms : List Member) (s : Settings) (c : CertificateFacts) → RefuseBeforeFor platform terms ms s c → Lines terms ms s c × HasFittingLines terms c
  lines_before None ms s c before = ((before.offers, before.places), tt)
  lines_before (Some terms) ms s c before = (tt, before)

  -- the settings
  abbrev Fits : Option Terms → List Member → Settings → Type 0 → Type 0
  Fits None ms s Others = MeetsFor platform None ms s × (IsLeastAt platform (participants ms) s × Others)
  Fits (Some terms) ms s Others = MeetsFor platform (Some terms) ms s × Others

  settings_first : (terms : Option Terms) (ms : List Member) (s : Settings) (Others : Type 0) (others : Faults) → AreFirst Others others
      → AreFirst (Fits terms ms s Others) (SettingsFaults platform terms ms s others)
  settings_first None ms s Others others x =
      let Met : Type 0 = MeetsFor platform None ms s in
      let Least : Type 0 = IsLeastAt platform (participants ms) s in
      in_turn Met (Least × Others) (Fails Met NotMet) (First Least (Fails Least NotLeast) others) (fails_first Met NotMet)
      (in_turn Least Others (Fails Least NotLeast) others (fails_first Least NotLeast) x)
  settings_first (Some terms) ms s Others others x =
      in_turn (MeetsFor platform (Some terms) ms s) Others (Fails (MeetsFor platform (Some terms) ms s) NotMet) others (fails_first (MeetsFor platform (Some terms) ms s) NotMet) x

  fits : (terms : Option Terms) (ms : List Member) (s : Settings) (Others : Type 0) → IsLeastFor platform terms ms s → Others → Fits terms ms s Others
  fits None ms s Others least others = (least.meets, (least, others))
  fits (Some terms) ms s Others least others = (least, others)

  -- the members of a selection
  abbrev OnMembers : Forest Member → List ℕ → (List Member → Type 0) → Type 0
  OnMembers d selection H = (e : Forest Member) × IsSelection d selection e × H (settled e)

  members_first : (d : Forest Member) (selection : List ℕ) (H : List Member → Type 0) (faults : List Member → Faults) → ((ms : List Member) → AreFirst (H ms) (faults ms))
      → AreFirst (OnMembers d selection H) (MembersFault d selection faults)
  members_first d selection H faults all = record {
    sound = λ why f h. (all (settled f.members)).sound why f.fault (subst (λ e. H (settled e)) (same_Some h.0 f.members (sym h.1.leads ∙ f.selects.leads)) h.2);
    one = λ a b f g. (all (settled f.members)).one a b f.fault (subst (λ e. faults (settled e) b) (same_Some g.members f.members (sym g.selects.leads ∙ f.selects.leads)) g.fault);
  }

  -- a choice
  module _ (terms : Option Terms) (d : Forest Member) (selection : List ℕ) (s : Settings) (c : CertificateFacts) where
    abbrev Behind : List Member → Type 0
    Behind ms = RefutesEarlier (IsConflictFor platform terms) d selection c.earlier × Lines terms ms s c

    abbrev behind_faults : List Member → Faults
    behind_faults ms = First (RefutesEarlier (IsConflictFor platform terms) d selection c.earlier) (EarlierFaults platform terms d selection c.earlier) (LinesFaults platform terms ms s c)

    behind_first : (ms : List Member) → AreFirst (Behind ms) (behind_faults ms)
    behind_first ms = in_turn (RefutesEarlier (IsConflictFor platform terms) d selection c.earlier) (Lines terms ms s c)
        (EarlierFaults platform terms d selection c.earlier) (LinesFaults platform terms ms s c) (earlier_first terms selection c.earlier d) (all_lines_first terms ms s c)

    abbrev Settled : List Member → Type 0
    Settled ms = Fits terms ms s (Behind ms)

    abbrev settled_faults : List Member → Faults
    settled_faults ms = SettingsFaults platform terms ms s (behind_faults ms)

    abbrev Chosen : Type 0
    Chosen = AreFew d × (IsSelected d selection × (HasFittingLines terms c × OnMembers d selection Settled))

    choice_first : AreFirst Chosen (ChoiceFaults platform terms d selection s c)
    choice_first =
        in_turn (AreFew d) (IsSelected d selection × (HasFittingLines terms c × OnMembers d selection Settled)) (Fails (AreFew d) WrongShape)
        (First (IsSelected d selection) (Fails (IsSelected d selection) WrongShape)
        (First (HasFittingLines terms c) (Fails (HasFittingLines terms c) WrongShape) (MembersFault d selection settled_faults)))
        (fails_first (AreFew d) WrongShape)
        (in_turn (IsSelected d selection) (HasFittingLines terms c × OnMembers d selection Settled) (Fails (IsSelected d selection) WrongShape)
        (First (HasFittingLines terms c) (Fails (HasFittingLines terms c) WrongShape) (MembersFault d selection settled_faults))
        (fails_first (IsSelected d selection) WrongShape)
        (in_turn (HasFittingLines terms c) (OnMembers d selection Settled) (Fails (HasFittingLines terms c) WrongShape) (MembersFault d selection settled_faults)
        (fails_first (HasFittingLines terms c) WrongShape)
        (members_first d selection Settled settled_faults (λ ms. settings_first terms ms s (Behind ms) (behind_faults ms) (behind_first ms)))))

    chosen : ChoicePasses platform terms d selection s c → Chosen
    chosen p =
        let e : Forest Member = p.1.members in
        let same : p.2.members ≡ e = same_Some p.2.members e (sym p.2.selects.leads ∙ p.1.selects.leads) in
        let before : RefuseBeforeFor platform terms (settled e) s c = subst (λ x. RefuseBeforeFor platform terms (settled x) s c) same p.2.before in
        let lines = lines_before terms (settled e) s c before in
        (p.0, ((e, p.1.selects), (lines.1, (e, p.1.selects, fits terms (settled e) s (Behind (settled e)) p.1.least (p.2.earlier, lines.0)))))

  empty_first : (terms : Option Terms) (d : Forest Member) (items : List Item) → AreFirst (RefutationPasses platform terms d items) (EmptyFaults platform terms d items)
  empty_first terms d items = in_turn (AreFew d) (Refutes (IsConflictFor platform terms) items (d ∷ [])) (Fails (AreFew d) WrongShape) (RefutationFaults platform terms items (d ∷ []))
      (fails_first (AreFew d) WrongShape) (refutation_first platform terms items (d ∷ []))

  -- each kind of verdict fails by its own kind of proof
  verdict_sound : (terms : Option Terms) (d : Forest Member) (v : Verdict) (proof : Proof) (why : No) → VerdictFaults platform terms d v proof why → ¬ (VerdictPasses platform terms d v proof)
  verdict_sound terms d (verdicts.Chosen v) (proves.Choice c) why f p = (choice_first terms d v.selection v.settings c).sound why f (chosen terms d v.selection v.settings c p)
  verdict_sound terms d verdicts.IntersectionEmpty (proves.Empty items) why f p = (empty_first terms d items).sound why f p
  verdict_sound terms d verdicts.TooMany proves.Nothing why f p = f.0 p
  verdict_sound terms d v proof why f p = absurd p

  verdict_one : (terms : Option Terms) (d : Forest Member) (v : Verdict) (proof : Proof) (a b : No) → VerdictFaults platform terms d v proof a → VerdictFaults platform terms d v proof b → a ≡ b
  verdict_one terms d (verdicts.Chosen v) (proves.Choice c) a b f g = (choice_first terms d v.selection v.settings c).one a b f g
  verdict_one terms d verdicts.IntersectionEmpty (proves.Empty items) a b f g = (empty_first terms d items).one a b f g
  verdict_one terms d verdicts.TooMany proves.Nothing a b f g = f.1 ∙ sym g.1
  verdict_one terms d v proof a b f g = f ∙ sym g

pub faults_are_first : FaultsAreFirst
faults_are_first platform terms d = record {
  choice = λ selection s c why f p. (choice_first platform terms d selection s c).sound why f (chosen platform terms d selection s c p);
  one_of_choice = λ selection s c a b f g. (choice_first platform terms d selection s c).one a b f g;
  empty = λ items why f p. (empty_first platform terms d items).sound why f p;
  one_of_empty = λ items a b f g. (empty_first platform terms d items).one a b f g;
  verdict = λ v proof why f p. verdict_sound platform terms d v proof why f p;
  one_of_verdict = λ v proof a b f g. verdict_one platform terms d v proof a b f g;
}
