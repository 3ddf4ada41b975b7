-- Tokens that were printed with gaps, and a newline behind them, are read as those tokens.
use Rattle.std.proofs.Common.{◌≡◌, ℕ, Bool, true, false, cond, ◌&&◌, List, [], ◌∷◌, ◌++◌, map, fold, refl, sym, ap, ap₂, ◌∙◌, subst, append_assoc, append-nil, inl, inr}
use Rattle.json.specs.Token.{Token, begin_object, end_object, begin_array, end_array, key, string, number, boolean, null, bad}
use Rattle.json.specs.Word.{ends_word, word}
use Rattle.json.specs.Lex.{Lexeme, token, comma, colon, string_token, lex, between, fresh, punctuate, tokens}
use Rattle.json.specs.Print.{escape, quoted, token_text, begins, ends, separator, print_from, print, IsPrintable, ArePrintable}
use Rattle.json.specs.Spaced.{IsGap, AreGaps, print_spaced}
use Rattle.json.proofs.Printed.Strings.{content-escape, lex-escape}
use Rattle.json.proofs.Printed.Numbers.{lex-number, in_word-ended}
use Rattle.json.proofs.Printed.Tokens.{tokens-print_spaced}

-- a token, and the gap before it
abbrev pub Piece : Type 0
Piece = List ℕ × Token

abbrev pub tokens_in : List Piece → List Token
tokens_in ps = map (λ p. p.1) ps

-- the lexemes of a token
abbrev lexemes_of : Token → List Lexeme
lexemes_of begin_object = token begin_object ∷ []
lexemes_of end_object = token end_object ∷ []
lexemes_of begin_array = token begin_array ∷ []
lexemes_of end_array = token end_array ∷ []
lexemes_of (key s) = token (string s) ∷ colon ∷ []
lexemes_of (string s) = token (string s) ∷ []
lexemes_of (number s) = token (number s) ∷ []
lexemes_of (boolean b) = token (boolean b) ∷ []
lexemes_of null = token null ∷ []
lexemes_of bad = []

-- of pieces after a value, or not
abbrev all_lexemes : Bool → List Piece → List Lexeme
all_lexemes later [] = []
all_lexemes later (p ∷ ps) = cond (later && begins p.1) (comma ∷ []) [] ++ (lexemes_of p.1 ++ all_lexemes (ends p.1) ps)

gap_ends : (g r : List ℕ) → IsGap g → ends_word r ≡ true → ends_word (g ++ r) ≡ true
gap_ends [] r h e = e
gap_ends (x ∷ g) r (inl is, h) e = rw is
gap_ends (x ∷ g) r (inr is, h) e = rw is

-- after a value stands a comma, a gap, a closing bracket or what is after all
value_ends : (ps : List Piece) (r : List ℕ) → AreGaps ps → ends_word r ≡ true → ends_word (print_spaced true ps ++ r) ≡ true
unfolding print_spaced
value_ends [] r h ended = ended
value_ends ((g, begin_object) ∷ ps) r h ended = refl
value_ends ((g, end_object) ∷ ps) r h ended = ap ends_word (append_assoc g (125 ∷ print_spaced true ps) r) ∙ gap_ends g (125 ∷ (print_spaced true ps ++ r)) h.0 refl
value_ends ((g, begin_array) ∷ ps) r h ended = refl
value_ends ((g, end_array) ∷ ps) r h ended = ap ends_word (append_assoc g (93 ∷ print_spaced true ps) r) ∙ gap_ends g (93 ∷ (print_spaced true ps ++ r)) h.0 refl
value_ends ((g, key s) ∷ ps) r h ended = refl
value_ends ((g, string s) ∷ ps) r h ended = refl
value_ends ((g, number s) ∷ ps) r h ended = refl
value_ends ((g, boolean b) ∷ ps) r h ended = refl
value_ends ((g, null) ∷ ps) r h ended = refl
value_ends ((g, bad) ∷ ps) r h ended = refl

lex_quoted : (s r : List ℕ) → lex between (quoted s ++ r) ≡ token (string s) ∷ lex between r
unfolding lex
lex_quoted s r =
    let e = append_assoc (escape s) (34 ∷ []) r in
    ap (λ l. lex between (34 ∷ l)) e ∙ ap₂ (λ o l. token (string_token o) ∷ l) (content-escape s r) (lex-escape s r)

lex_token : (t : Token) (r : List ℕ) → IsPrintable t → (ends t ≡ true → ends_word r ≡ true) → lex between (token_text t ++ r) ≡ lexemes_of t ++ lex between r
unfolding lex word
lex_token begin_object r h ended = refl
lex_token end_object r h ended = refl
lex_token begin_array r h ended = refl
lex_token end_array r h ended = refl
lex_token (key s) r h ended = ap (lex between) (append_assoc (quoted s) (58 ∷ []) r) ∙ lex_quoted s (58 ∷ r)
lex_token (string s) r h ended = lex_quoted s r
lex_token (number s) r h ended = lex-number s r h (ended refl)
lex_token (boolean true) r h ended = ap₂ (λ b l. token (cond b (boolean true) bad) ∷ l) (ended refl) (in_word-ended r (ended refl))
lex_token (boolean false) r h ended = ap₂ (λ b l. token (cond b (boolean false) bad) ∷ l) (ended refl) (in_word-ended r (ended refl))
lex_token null r h ended = ap₂ (λ b l. token (cond b null bad) ∷ l) (ended refl) (in_word-ended r (ended refl))
lex_token bad r h ended = absurd h

lex_comma : (b : Bool) (r : List ℕ) → lex between (cond b (44 ∷ []) [] ++ r) ≡ cond b (comma ∷ []) [] ++ lex between r
unfolding lex
lex_comma true r = refl
lex_comma false r = refl

lex_gap : (g r : List ℕ) → IsGap g → lex between (g ++ r) ≡ lex between r
unfolding lex
lex_gap [] r h = refl
lex_gap (x ∷ g) r (inl e, h) = rw e (lex_gap g r h)
lex_gap (x ∷ g) r (inr e, h) = rw e (lex_gap g r h)

regroup : {A : Type 0} (a g t b r : List A) → (a ++ (g ++ (t ++ b))) ++ r ≡ a ++ (g ++ (t ++ (b ++ r)))
regroup a g t b r = simp append_assoc

regroup_lexemes : {A : Type 0} (a t b r : List A) → a ++ (t ++ (b ++ r)) ≡ (a ++ (t ++ b)) ++ r
regroup_lexemes a t b r = simp append_assoc

-- what is printed, with something after it
lex_behind : (later : Bool) (ps : List Piece) (r : List ℕ) → AreGaps ps → ArePrintable (tokens_in ps) → ends_word r ≡ true → lex between (print_spaced later ps ++ r) ≡ all_lexemes later ps ++ lex between r
unfolding lex print_spaced ArePrintable
lex_behind later [] r gaps h ended = refl
lex_behind later (p ∷ ps) r gaps h ended =
    let t = p.1 in
    let rest = print_spaced (ends t) ps ++ r in
    let first = cond (later && begins t) (comma ∷ []) [] in
    ap (lex between) (regroup (separator later t) p.0 (token_text t) (print_spaced (ends t) ps) r)
    ∙ lex_comma (later && begins t) (p.0 ++ (token_text t ++ rest))
    ∙ ap (λ l. first ++ l) (lex_gap p.0 (token_text t ++ rest) gaps.0
    ∙ lex_token t rest h.0 (λ e. ap (λ b. ends_word (print_spaced b ps ++ r)) e ∙ value_ends ps r gaps.1 ended)
    ∙ ap (λ l. lexemes_of t ++ l) (lex_behind (ends t) ps r gaps.1 h.1 ended))
    ∙ regroup_lexemes first (lexemes_of t) (all_lexemes (ends t) ps) (lex between r)

same_lexemes : (ps : List Piece) → AreGaps ps → ArePrintable (tokens_in ps) → lex between (print_spaced false ps ++ 10 ∷ []) ≡ lex between (print_spaced false ps)
unfolding lex
same_lexemes ps gaps h = lex_behind false ps (10 ∷ []) gaps h refl ∙ sym (lex_behind false ps [] gaps h refl) ∙ ap (lex between) (append-nil (print_spaced false ps))

pub tokens_line : (ps : List Piece) → AreGaps ps → ArePrintable (tokens_in ps) → tokens (print_spaced false ps ++ 10 ∷ []) ≡ tokens_in ps
tokens_line ps gaps h = ap (punctuate fresh) (same_lexemes ps gaps h) ∙ tokens-print_spaced ps gaps h

-- ---- tokens without gaps

abbrev pub plain : List Token → List Piece
plain ts = map (λ t. ([], t)) ts

pub tokens_in_plain : (ts : List Token) → tokens_in (plain ts) ≡ ts
tokens_in_plain [] = refl
tokens_in_plain (t ∷ ts) = ap (λ l. t ∷ l) (tokens_in_plain ts)

pub tokens_in_both : (ps qs : List Piece) → tokens_in (ps ++ qs) ≡ tokens_in ps ++ tokens_in qs
tokens_in_both [] qs = refl
tokens_in_both (p ∷ ps) qs = ap (λ l. p.1 ∷ l) (tokens_in_both ps qs)

pub gaps_of_plain : (ts : List Token) → AreGaps (plain ts)
gaps_of_plain [] = tt
gaps_of_plain (t ∷ ts) = (tt, gaps_of_plain ts)

pub gaps_of_both : (ps qs : List Piece) → AreGaps ps → AreGaps qs → AreGaps (ps ++ qs)
gaps_of_both [] qs g h = h
gaps_of_both (p ∷ ps) qs g h = (g.0, gaps_of_both ps qs g.1 h)

pub spaced_plain : (later : Bool) (ts : List Token) → print_spaced later (plain ts) ≡ print_from later ts
unfolding print_spaced print_from
spaced_plain later [] = refl
spaced_plain later (t ∷ ts) = ap (λ l. separator later t ++ (token_text t ++ l)) (spaced_plain (ends t) ts)

-- they are read as those tokens, with a newline behind them too
pub plain_line : (ts : List Token) → ArePrintable ts → tokens (print ts ++ 10 ∷ []) ≡ ts
plain_line ts h =
    ap (λ s. tokens (s ++ 10 ∷ [])) (sym (spaced_plain false ts))
    ∙ tokens_line (plain ts) (gaps_of_plain ts) (subst ArePrintable (sym (tokens_in_plain ts)) h) ∙ tokens_in_plain ts

-- whether tokens after others leave a value just ended
abbrev pub ends_after : Bool → List Token → Bool
ends_after later ts = fold (λ _ t. ends t) later ts

pub print_plain : (later : Bool) (ts : List Token) (ps : List Piece) → print_spaced later (plain ts ++ ps) ≡ print_from later ts ++ print_spaced (ends_after later ts) ps
unfolding print_spaced print_from
print_plain later [] ps = refl
print_plain later (t ∷ ts) ps =
    ap (λ l. separator later t ++ (token_text t ++ l)) (print_plain (ends t) ts ps)
    ∙ regroup_lexemes (separator later t) (token_text t) (print_from (ends t) ts) (print_spaced (ends_after (ends t) ts) ps)
