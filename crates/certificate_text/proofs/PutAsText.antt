-- What the writer shows, and what a token or a list that is put as text does to it.
use Rattle.std.proofs.Common.{◌≡◌, ℕ, Bool, true, false, List, [], ◌∷◌, ◌++◌, Result, Ok, Err, OnOk, OnErr, fold, map, sym, ap, ap₂, ◌∙◌, arith, append_assoc}
use Rattle.json.specs.Json as json
use Rattle.json.specs.Lex.{tokens}
use Rattle.json.specs.Print.{print, print_from, separator, ends, ends_value, token_text, ArePrintable, IsPrintable}
use Rattle.json.specs.Token.{Token, begin_array, end_array}
use Rattle.json.specs.Tree.{json_tokens, items_tokens, HasNumbers, ItemsHaveNumbers}
use Rattle.json.proofs.Printed.Tokens.{tokens-print, print_from_push, print_from-append, ends_push, ArePrintable-push}
use Rattle.json.proofs.Printed.Trees.{ArePrintable-json_tokens}
use Rattle.serde_json.specs.Data.{Items, array}
use Rattle.serde_json.specs.View.{items_of}
use Rattle.serde_json.specs.Written.{outline, items_outline, items_text}
use Rattle.serde_json.proofs.Texts.{print-outline}
use Rattle.verdict_claims.specs.declared.conflict.Conflict.{Conflict}
use Rattle.verdict_claims.specs.declared.conflict.Conflict.TheVariants.{Count, Places, Offers, Fixed}
use Rattle.verdict_claims.specs.Line.{LineFacts}
use Rattle.certificate_text.specs.Certificate.{tokens_of}
use Rattle.certificate_text.specs.Puts.{Adds}
use Rattle.json.specs.Written.{Written, Writes}
use Rattle.certificate_text.specs.Out.{out_view, IsOut}
use Rattle.certificate_text.specs.Told.{conflict_data, line_data, lines_data, path_data, paths_data}
use Rattle.certificate_text.specs.declared.json_writer.Writer.TheInside.{Inside}

pub shows_printed : (w : Inside) (h : IsOut w) → (out_view w).tokens ≡ h.printed
shows_printed w h = ap tokens h.text ∙ tokens-print h.printed h.printable

-- ---- one more token

-- a text that goes on with a token is the print of one token more
goes_on : (done : List ℕ) (bs ts : List Token) (t : Token) → done ++ print bs ≡ print ts → ends_value bs ≡ ends_value ts → done ++ print (bs ++ t ∷ []) ≡ print (ts ++ t ∷ [])
goes_on done bs ts t text place =
    let more : List ℕ = separator (ends_value bs) t ++ token_text t in
    ap (λ s. done ++ s) (print_from_push false bs t) ∙ sym (append_assoc done (print bs) more) ∙ ap (λ s. s ++ more) text
    ∙ ap (λ b. print ts ++ (separator b t ++ token_text t)) place ∙ sym (print_from_push false ts t)

module _ (w v : Inside) (h : IsOut w) (t : Token) (printable : IsPrintable t) (done : v.done.items ≡ w.done.items) (before : v.behind.before ≡ w.behind.before)
    (behind : v.behind.tokens ≡ w.behind.tokens ++ t ∷ []) where
  pub pushed : IsOut v
  pushed = record {
    before = before ∙ h.before;
    printed = h.printed ++ t ∷ [];
    printable = ArePrintable-push h.printed t h.printable printable;
    text = ap₂ (λ d ts. d ++ print ts) done behind ∙ goes_on w.done.items w.behind.tokens h.printed t h.text h.place;
    place = ap ends_value behind ∙ ends_push false w.behind.tokens t ∙ sym (ends_push false h.printed t);
  }

  pub pushed_tokens : (out_view v).tokens ≡ (out_view w).tokens ++ t ∷ []
  unfolding pushed
  pushed_tokens = shows_printed v pushed ∙ ap (λ l. l ++ t ∷ []) (sym (shows_printed w h))

-- a token that the writer after the text was given
module _ {E : Type 0} (r : Result (Unit {0}) E) (w v : Inside) (h : IsOut w) (t : Token) (printable : IsPrintable t) (done : v.done.items ≡ w.done.items) where
  pub given : Writes r w.behind v.behind t → IsOut v
  given writes = by r writes.ok writes.err where
    by : (q : Result (Unit {0}) E) → OnOk q (v.behind.tokens ≡ w.behind.tokens ++ t ∷ []) → OnErr q (v.behind.tokens ≡ w.behind.tokens) → IsOut v
    by (Ok u) ok err = pushed w v h t printable done writes.room.0 ok
    by (Err e) ok err = record {
      before = writes.room.0 ∙ h.before;
      printed = h.printed;
      printable = h.printable;
      text = ap₂ (λ d ts. d ++ print ts) done err ∙ h.text;
      place = ap ends_value err ∙ h.place;
    }

  pub written : (self : Written) → out_view w ≡ self → Writes r w.behind v.behind t → Writes r self (out_view v) t
  written self is writes = by r writes.ok writes.err where
    by : (q : Result (Unit {0}) E) → OnOk q (v.behind.tokens ≡ w.behind.tokens ++ t ∷ []) → OnErr q (v.behind.tokens ≡ w.behind.tokens) → Writes q self (out_view v) t
    by (Ok u) ok err = record {
      ok = pushed_tokens w v h t printable done writes.room.0 ok ∙ ap (λ s. s.tokens ++ t ∷ []) is;
      err = tt;
      room = (ap (λ s. s.before) is, (let none : self.spare ≡ 0 = sym (ap (λ s. s.spare) is) in omega arith));
    }
    by (Err e) ok err = record {
      ok = tt;
      err = ap₂ (λ d ts. tokens (d ++ print ts)) done err ∙ ap (λ s. s.tokens) is;
      room = (ap (λ s. s.before) is, (let none : self.spare ≡ 0 = sym (ap (λ s. s.spare) is) in (omega arith, omega arith)));
    }

-- ---- nothing, and the whole

-- nothing is written
module _ (w : Inside) (done : w.done.items ≡ []) (before : w.behind.before ≡ []) (behind : w.behind.tokens ≡ []) where
  pub empty : IsOut w
  unfolding print_from ArePrintable
  empty = record { before = before; printed = []; printable = tt; text = ap₂ (λ d ts. d ++ print ts) done behind; place = ap ends_value behind }

  pub empty_tokens : (out_view w).tokens ≡ []
  unfolding empty
  empty_tokens = shows_printed w empty

-- the whole text
pub whole_text : (w : Inside) (h : IsOut w) (self : Written) → out_view w ≡ self → w.done.items ++ (w.behind.before ++ print w.behind.tokens) ≡ self.before ++ print self.tokens
whole_text w h self is =
    ap (λ b. w.done.items ++ (b ++ print w.behind.tokens)) h.before ∙ h.text ∙ ap print (sym (shows_printed w h)) ∙ ap (λ s. s.before ++ print s.tokens) is

-- ---- a list that is put as text

-- its items' text, with its bracket, is what is printed of them
items_printed : (ds : Items) → print_from false (items_tokens (items_outline ds)) ≡ items_text false ds
unfolding print_from
items_printed ds = let whole = print-outline (array ds) in cc whole

-- a list ends a value, whatever stands before it
ends_list : (c : Bool) (ts : List Token) (js : json.Items) → fold (λ _ u. ends u) c (ts ++ items_tokens js) ≡ true
ends_list c ts json.no_items = ends_push c ts end_array
ends_list c ts (json.item j js) = ap (fold (λ _ u. ends u) c) (sym (append_assoc ts (json_tokens j) (items_tokens js))) ∙ ends_list c (ts ++ json_tokens j) js

printable_append : (ts us : List Token) → ArePrintable ts → ArePrintable us → ArePrintable (ts ++ us)
unfolding ArePrintable
printable_append [] us h k = k
printable_append (t ∷ ts) us h k = (h.0, printable_append ts us h.1 k)

-- the text so far, with the list, is printed of the tokens so far with those of the list
list_goes_on : (done : List ℕ) (bs ts : List Token) (ds : Items) → done ++ print bs ≡ print ts → ends_value bs ≡ ends_value ts
    → (done ++ print (bs ++ begin_array ∷ [])) ++ items_text false ds ≡ print (ts ++ tokens_of (array ds))
unfolding print_from
list_goes_on done bs ts ds text place =
    let front : done ++ print (bs ++ begin_array ∷ []) ≡ print ts ++ (separator (ends_value ts) begin_array ++ 91 ∷ []) = goes_on done bs ts begin_array text place ∙ print_from_push false ts begin_array in
    ap (λ s. s ++ items_text false ds) front
    ∙ append_assoc (print ts) (separator (ends_value ts) begin_array ++ 91 ∷ []) (items_text false ds)
    ∙ ap (λ s. print ts ++ s) (append_assoc (separator (ends_value ts) begin_array) (91 ∷ []) (items_text false ds))
    ∙ ap (λ s. print ts ++ (separator (ends_value ts) begin_array ++ 91 ∷ s)) (sym (items_printed ds))
    ∙ sym (print_from-append false ts (tokens_of (array ds)))

-- what stands before a list that is put as text, and what stands when
-- its text and its bracket are put
module _ (w v : Inside) (h : IsOut w) (ds : Items) (numbers : HasNumbers (outline (array ds)))
    (text : v.done.items ++ 93 ∷ [] ≡ (w.done.items ++ print (w.behind.tokens ++ begin_array ∷ [])) ++ items_text false ds)
    (before : v.behind.before ≡ []) (behind : v.behind.tokens ≡ end_array ∷ []) where
  pub listed : IsOut v
  unfolding print_from
  listed = record {
    before = before;
    printed = h.printed ++ tokens_of (array ds);
    printable = printable_append h.printed (tokens_of (array ds)) h.printable (ArePrintable-json_tokens (outline (array ds)) numbers);
    text = ap (λ ts. v.done.items ++ print ts) behind ∙ text ∙ list_goes_on w.done.items w.behind.tokens h.printed ds h.text h.place;
    place = ap ends_value behind ∙ sym (ap (fold (λ _ u. ends u) false) (sym (append_assoc h.printed (begin_array ∷ []) (items_tokens (items_outline ds)))) ∙ ends_list false (h.printed ++ begin_array ∷ []) (items_outline ds));
  }

  pub listed_tokens : (out_view v).tokens ≡ (out_view w).tokens ++ tokens_of (array ds)
  unfolding listed
  listed_tokens = shows_printed v listed ∙ ap (λ l. l ++ tokens_of (array ds)) (sym (shows_printed w h))

  pub list_added : (self : Written) → out_view w ≡ self → Adds self (out_view v) (tokens_of (array ds))
  list_added self is = record { tokens = listed_tokens ∙ ap (λ s. s.tokens ++ tokens_of (array ds)) is; before = ap (λ s. s.before) is }

-- ---- lists of paths and of lines, and conflicts, have no numbers

paths_plain : (paths : List (List ℕ)) → ItemsHaveNumbers (items_outline (items_of (map path_data paths)))
paths_plain [] = tt
paths_plain (path ∷ paths) = (tt, paths_plain paths)

pub paths_have : (paths : List (List ℕ)) → HasNumbers (outline (paths_data paths))
paths_have paths = paths_plain paths

lines_plain : (lines : List LineFacts) → ItemsHaveNumbers (items_outline (items_of (map line_data lines)))
lines_plain [] = tt
lines_plain (line ∷ lines) = ((tt, (paths_have line.nodes, tt)), lines_plain lines)

pub lines_have : (lines : List LineFacts) → HasNumbers (outline (lines_data lines))
lines_have lines = lines_plain lines

-- nor has a conflict
pub conflict_has : (conflict : Conflict) → HasNumbers (outline (conflict_data conflict))
conflict_has (Count line) = (tt, (paths_have line.nodes, tt))
conflict_has (Fixed field node) = (tt, (paths_have (node ∷ []), tt))
conflict_has (Places lines) = (lines_have lines, tt)
conflict_has (Offers lines) = (lines_have lines, tt)
