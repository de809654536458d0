-- The line in which SECTIONS lists a section.
use Rattle.std.specs.Prelude.{ℕ, ◌&&◌, Bool, false, List, [], ◌∷◌, Option, Some, None, option_map, if◌then◌else◌}
use Rattle.std.specs.Str.{bytes_eq}
use Rattle.c25_meaning_linking.specs.declared.command_token.Sign.TheVariants as sign
use Rattle.c25_meaning_linking.specs.declared.command_token.Keyword.TheVariants as keyword
use Rattle.c25_meaning_linking.specs.declared.command_token.Want.TheVariants as want
use Rattle.c25_meaning_linking.specs.CommandTokens.{Token, tokens, line_at}
use Rattle.c25_meaning_linking.specs.CommandGrammar.{begins, passes}

-- the tokens after the first SECTIONS that a brace follows; without the brace the word may be the attributes of a
-- range
abbrev pub after_sections : List Token → List Token
after_sections [] = []
after_sections (t ∷ ts) = if passes (want.Keyword keyword.Sections) t.kind && begins (want.Sign sign.OpenBrace) ts then ts else after_sections ts

-- whether the first token is this name, and the second a colon
abbrev pub lists : List ℕ → List Token → Bool
lists name [] = false
lists name (t ∷ ts) = passes want.Name t.kind && bytes_eq t.text name && begins (want.Sign sign.Colon) ts

-- where the first of these tokens begins that is this name directly before a colon; those from a MEMORY on do
-- not count, whose colons follow names of ranges
abbrev pub listed_at : List ℕ → List Token → Option ℕ
listed_at name [] = None
listed_at name (t ∷ ts) =
    if passes (want.Keyword keyword.Memory) t.kind then None
    else (if lists name (t ∷ ts) then Some t.place
    else listed_at name ts)

-- the line of a text in which SECTIONS lists the section of this name, if it does; the text need not be a command
abbrev pub section_line : (text name : List ℕ) → Option ℕ
section_line text name = option_map (line_at text) (listed_at name (after_sections (tokens text)))
