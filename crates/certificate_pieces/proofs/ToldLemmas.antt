-- What was told, after more is told.
use Rattle.std.proofs.Common.{◌≡◌, ◌≢◌, ℕ, ◌++◌, List, [], Bool, true, false, Option, Some, None, Result, Ok, Err, take, drop, length, refl, sym, ap, ◌∙◌, subst, append_assoc, append-nil}
use Rattle.std.specs.Prelude.{OnOk, OnErr, is_err, IsTrue, not}
use Rattle.std.specs.Io.KnownBytes.{Appends}
use Rattle.std.proofs.lemmas.List.{take-append-drop}
use Rattle.std.proofs.Math.Seq.{take-append_seam}
use Rattle.byte_transfer.specs.Transfer.{WritesFront}
use Rattle.certificate_pieces.specs.declared.piece.Piece.{Piece}
use Rattle.certificate_pieces.specs.Telling.{SinkFacts, HasTold, Tells, IsEmpty, Takes, WritesAll}

-- known bytes grow by one text, and then by another
pub both_appended : (u v w : Option (List ℕ)) (a b : List ℕ) → Appends u v a → Appends v w b → Appends u w (a ++ b)
both_appended None v w a b x y = tt
both_appended (Some xs) None w a b x y = absurd x
both_appended (Some xs) (Some ys) None a b x y = y
both_appended (Some xs) (Some ys) (Some zs) a b x y = y ∙ ap (λ (t : List ℕ). t ++ b) x ∙ append_assoc xs a b

-- a front that is written, of a text that begins so
front_of : (u v : Option (List ℕ)) (front rest text : List ℕ) → front ++ rest ≡ text → Appends u v front → WritesFront u v text
front_of u v front rest text parts written = record {
  count = length front;
  written = subst (Appends u v) (sym (take-append_seam front rest) ∙ ap (take (length front)) parts) written;
}

-- a prefix of a text is one of a longer text
front_longer : (u v : Option (List ℕ)) (text more : List ℕ) → WritesFront u v text → WritesFront u v (text ++ more)
front_longer u v text more w =
    front_of u v (take w.count text) (drop w.count text ++ more) (text ++ more)
    (sym (append_assoc (take w.count text) (drop w.count text) more) ∙ ap (λ (s : List ℕ). s ++ more) (take-append-drop w.count text)) w.written

module _ (c : Option (List ℕ)) (f : ℕ) (p : Piece) where
  -- nothing
  pub told_none : Tells c f p c f p []
  told_none = record { tells = λ start before held. subst (HasTold start c f p) (sym (append-nil before)) held }

  -- whatever is told to a sink that has failed
  pub told_failed : p.is_failed ≡ true → (text : List ℕ) → Tells c f p c f p text
  told_failed e text = record {
    tells = λ start before held. record {
      waits = λ n. absurd (cc (e, n));
      ended = λ y. (let was = held.ended y in record { front = front_longer start.contents c before text was.front; failed = was.failed });
    };
  }

  -- bytes for which there was none
  pub told_full : (taken : Bool) (q : Piece) (bytes : List ℕ) → taken ≡ false → p.is_failed ≡ false → Takes taken p q bytes → Tells c f p c f q []
  told_full taken q bytes full works takes = record {
    tells = λ start before held. (let was = held.waits works in record {
      waits = λ n. record {
        written = was.written;
        appended = was.appended;
        whole = ap (λ (s : List ℕ). was.written ++ s) (takes.full full) ∙ was.whole ∙ sym (append-nil before);
        worked = was.worked;
      };
      ended = λ y. absurd (cc (y, takes.same, works));
    });
  }

-- one text, and then another
pub told_then : {c c₁ c₂ : Option (List ℕ)} {f f₁ f₂ : ℕ} {p p₁ p₂ : Piece} {s t : List ℕ} → Tells c f p c₁ f₁ p₁ s → Tells c₁ f₁ p₁ c₂ f₂ p₂ t → Tells c f p c₂ f₂ p₂ (s ++ t)
told_then {c = c} {c₁ = c₁} {c₂ = c₂} {f = f} {f₁ = f₁} {f₂ = f₂} {p = p} {p₁ = p₁} {p₂ = p₂} {s = s} {t = t} a b = record {
  tells = λ start before held. subst (HasTold start c₂ f₂ p₂) (append_assoc before s t) (b.tells start (before ++ s) (a.tells start before held));
}

-- the same text
pub told_as : {c c₁ : Option (List ℕ)} {f f₁ : ℕ} {p p₁ : Piece} {s t : List ℕ} → s ≡ t → Tells c f p c₁ f₁ p₁ s → Tells c f p c₁ f₁ p₁ t
told_as {c = c} {c₁ = c₁} {f = f} {f₁ = f₁} {p = p} {p₁ = p₁} e a = subst (Tells c f p c₁ f₁ p₁) e a

-- bytes are written, with which a text is told
module _ (c d : Option (List ℕ)) (f g : ℕ) (p q : Piece) (bytes text : List ℕ) (works : p.is_failed ≡ false)
    (parts : p.waiting.items ++ text ≡ bytes ++ q.waiting.items) where
  told_wrote : q.is_failed ≡ false → Appends c d bytes → g ≡ f → Tells c f p d g q text
  told_wrote now appended same = record {
    tells = λ start before held. (let was = held.waits works in record {
      waits = λ n. record {
        written = was.written ++ bytes;
        appended = both_appended start.contents c d was.written bytes was.appended appended;
        whole = append_assoc was.written bytes q.waiting.items ∙ ap (λ (s : List ℕ). was.written ++ s) (sym parts) ∙ sym (append_assoc was.written p.waiting.items text) ∙ ap (λ (s : List ℕ). s ++ text) was.whole;
        worked = same ∙ was.worked;
      };
      ended = λ y. absurd (cc (y, now));
    });
  }

  told_front : q.is_failed ≡ true → WritesFront c d bytes → g ≢ f → Tells c f p d g q text
  told_front now w other = record {
    tells = λ start before held. (let was = held.waits works in record {
      waits = λ n. absurd (cc (n, now));
      ended = λ y. record {
        front = front_of start.contents d (was.written ++ take w.count bytes) (drop w.count bytes ++ q.waiting.items) (before ++ text)
            (append_assoc was.written (take w.count bytes) _ ∙ ap (λ (s : List ℕ). was.written ++ s) (sym (append_assoc (take w.count bytes) (drop w.count bytes) q.waiting.items) ∙ ap (λ (s : List ℕ). s ++ q.waiting.items) (take-append-drop w.count bytes) ∙ sym parts)
            ∙ sym (append_assoc was.written p.waiting.items text) ∙ ap (λ (s : List ℕ). s ++ text) was.whole)
            (both_appended start.contents c d was.written (take w.count bytes) was.appended w.written);
        failed = λ e. other (e ∙ sym was.worked);
      };
    });
  }

  pub told_write : {E : Type 0} (r : Result (Unit {0}) E) → q.is_failed ≡ is_err r → OnOk r (Appends c d bytes) → OnErr r (WritesFront c d bytes) → OnOk r (g ≡ f) → OnErr r (g ≢ f) → Tells c f p d g q text
  told_write (Ok u) is written front worked failed = told_wrote is written worked
  told_write (Err e) is written front worked failed = told_front is front failed

-- a known or unknown text and nothing
appends_none : (c : Option (List ℕ)) → Appends c c []
appends_none None = tt
appends_none (Some xs) = sym (append-nil xs)

-- where nothing waits, nothing was told
pub told_start : (c : Option (List ℕ)) (f : ℕ) (p : Piece) → IsEmpty p → HasTold (record { contents = c; failures = f }) c f p []
told_start c f p empty = record {
  waits = λ n. record { written = []; appended = appends_none c; whole = empty.none; worked = refl };
  ended = λ y. absurd (cc (y, empty.working));
}

-- all that was told is written, or the sink has failed
module _ {E : Type 0} (start : SinkFacts) (c : Option (List ℕ)) (f : ℕ) (p : Piece) (text : List ℕ) (told : HasTold start c f p text) where
  pub wrote_all : p.is_failed ≡ false → p.waiting.items ≡ [] → WritesAll {E = E} (Ok tt) start c f text
  wrote_all works none =
      let was = told.waits works in
      let all : was.written ≡ text = sym (append-nil was.written) ∙ ap (λ (s : List ℕ). was.written ++ s) (sym none) ∙ was.whole in
      record { written = subst (Appends start.contents c) all was.appended; front = tt; worked = was.worked; failed = tt }

  pub wrote_front : p.is_failed ≡ true → (e : E) → WritesAll (Err e) start c f text
  wrote_front failed e = let was = told.ended failed in record { written = tt; front = was.front; worked = tt; failed = was.failed }

-- a text is told to a sink that takes nothing, and has found room
pub told_whole : (f g : ℕ) (p q : Piece) (text : List ℕ) → IsEmpty p → Tells (Some []) f p (Some []) g q text → q.is_failed ≡ false → q.waiting.items ≡ text
told_whole f g p q text empty told works =
    let now = (told.tells (record { contents = Some []; failures = f }) [] (told_start (Some []) f p empty)).waits works in
    ap (λ (s : List ℕ). s ++ q.waiting.items) now.appended ∙ now.whole

-- what hasn't failed
pub works_so : (b : Bool) → IsTrue (not b) → b ≡ false
works_so true e = absurd (cc e)
works_so false e = refl
