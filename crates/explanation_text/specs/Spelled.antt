-- Words as HTML spells them, within and without quotes.
use Rattle.std.specs.Prelude.{◌≡◌, ◌==◌, ◌||◌, ◌++◌, ℕ, Bool, List, [], ◌∷◌, codes, encode_utf8, if◌then◌else◌}
use Rattle.std.specs.Str.{NoCharPasses}

-- a character: & < > " and ' by their names
abbrev pub spelling : ℕ → List ℕ
spelling c = if c == 38 then codes "&amp;" else (if c == 60 then codes "&lt;"
    else (if c == 62 then codes "&gt;" else (if c == 34 then codes "&quot;"
    else (if c == 39 then codes "&#39;" else encode_utf8 c))))

-- characters, each in turn
abbrev pub spelled : List ℕ → List ℕ
spelled [] = []
spelled (c ∷ cs) = spelling c ++ spelled cs

-- HTML takes a character for markup, or for the end of a quote: < > " and '
abbrev pub is_markup : ℕ → Bool
is_markup c = c == 60 || (c == 62 || (c == 34 || c == 39))

-- a page has grown by some words, in which nothing is markup and each & begins a name
pub record Says (before after : List ℕ) : Type 0 where
  pub said : List ℕ
  pub grown : after ≡ before ++ spelled said
  pub inert : NoCharPasses is_markup (spelled said)
