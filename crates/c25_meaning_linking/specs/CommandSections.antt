-- SECTIONS { name : [{ } or { *(name) }] [> T or load = T or load > T] [PAGE n] [,] [run = number [,]] ... }
-- (SPRU018, linker description, the SECTIONS directive, in part; where each fault is reported is this
-- project's own).
use Rattle.std.specs.Prelude.{ℕ, Bool, not, List, [], ◌∷◌, ◌++◌, drop, Option, Some, None, Result, Ok, if◌then◌else◌}
use Rattle.std.specs.List.{list_any}
use Rattle.std.specs.Str.{bytes_eq}
use Rattle.c25_meaning_linking.specs.declared.command_token.Sign.TheVariants as sign
use Rattle.c25_meaning_linking.specs.declared.command_token.Keyword.TheVariants as keyword
use Rattle.c25_meaning_linking.specs.declared.command_token.Want.TheVariants as want
use Rattle.c25_meaning_linking.specs.declared.command_fault.CommandFault.TheVariants.{Syntax, Twice}
use Rattle.c25_meaning_common.specs.declared.placed.Placed.{Placed}
use Rattle.c25_meaning_linking.specs.declared.command_fault.CommandFault.{CommandFault}
use Rattle.c25_meaning_linking.specs.CommandTokens.{Token}
use Rattle.c25_meaning_linking.specs.CommandGrammar.{Reading, fault_if, begins, wanted, past, up_to, number_at, page_number_at}
use Rattle.c25_meaning_common.specs.Results.{◌>>=◌}
use Rattle.c25_meaning_linking.specs.Command.{TargetData, Anywhere, InRange, At, PlacingData}

-- `*(name)` with the section's own name, or nothing: the tokens after it
unfoldable pub input_at : List ℕ → List Token → Result (List Token) (Placed ℕ CommandFault)
input_at name ts = if begins (want.Sign sign.Star) ts then (do
  paren ← wanted (want.Sign sign.OpenParenthesis) (drop 1 ts)
  word ← wanted want.Name paren.1
  same ← fault_if (not (bytes_eq word.0.text name)) Syntax paren.1
  close ← wanted (want.Sign sign.CloseParenthesis) word.1
  Ok close.1) else Ok ts

-- braces with what stands in them, or nothing: the tokens after them
unfoldable pub contents_at : List ℕ → List Token → Result (List Token) (Placed ℕ CommandFault)
contents_at name ts = if begins (want.Sign sign.OpenBrace) ts then (do
  inner ← input_at name (drop 1 ts)
  close ← wanted (want.Sign sign.CloseBrace) inner
  Ok close.1) else Ok ts

-- T: a range's name or an address
unfoldable pub place_at : List Token → Reading TargetData
place_at ts = if begins want.Name ts then (do
  name ← wanted want.Name ts
  Ok (InRange name.0.text, name.1)) else (do
    n ← number_at ts
    Ok (At n.0, n.1))

-- `> T`, `load = T` or `load > T`, or nothing
unfoldable pub target_at : List Token → Reading TargetData
target_at ts =
    if begins (want.Sign sign.Greater) ts then place_at (drop 1 ts)
    else (if begins (want.Keyword keyword.Load) ts then (do
      sign ← wanted want.LoadSign (drop 1 ts)
      place_at sign.1) else Ok (Anywhere, ts))

-- `PAGE n`, or nothing
unfoldable pub section_page_at : List Token → Reading (Option ℕ)
section_page_at ts = if begins (want.Keyword keyword.Page) ts then (do
  n ← page_number_at (drop 1 ts)
  Ok (Some n.0, n.1)) else Ok (None, ts)

-- `run = number` and perhaps a comma, or nothing
unfoldable pub run_at : List Token → Reading (Option ℕ)
run_at ts = if begins (want.Keyword keyword.Run) ts then (do
  equals ← wanted (want.Sign sign.Equals) (drop 1 ts)
  n ← number_at equals.1
  Ok (Some n.0, past (want.Sign sign.Comma) n.1)) else Ok (None, ts)

-- what SECTIONS says of a section after its colon
unfoldable pub placing_at : List ℕ → List Token → Reading PlacingData
placing_at name ts = do
  after ← contents_at name ts
  target ← target_at after
  page ← section_page_at target.1
  run ← run_at (past (want.Sign sign.Comma) page.1)
  Ok (record { name = name; target = target.0; page = page.0; run = run.0 }, run.1)

-- whether a section has this name
abbrev pub is_placing : List ℕ → PlacingData → Bool
is_placing name p = bytes_eq p.name name

-- one more section
unfoldable pub more_placings : List PlacingData → List Token → Reading (List PlacingData)
more_placings before ts = do
  name ← wanted want.Name ts
  fresh ← fault_if (list_any (is_placing name.0.text) before) Twice ts
  colon ← wanted (want.Sign sign.Colon) name.1
  placing ← placing_at name.0.text colon.1
  Ok (before ++ placing.0 ∷ [], placing.1)

-- the sections between the braces
unfoldable pub sections_at : List Token → Reading (List PlacingData)
sections_at ts = do
  brace ← wanted (want.Sign sign.OpenBrace) ts
  up_to (want.Sign sign.CloseBrace) more_placings [] brace.1
