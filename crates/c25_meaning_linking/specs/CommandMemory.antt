-- MEMORY { [PAGE n :] NAME [(attributes)] : origin = number [,] length = number ... } (SPRU018, linker
-- description, the MEMORY directive; that attributes have no effect, and where each fault is reported, are
-- this project's own).
use Rattle.std.specs.Prelude.{ℕ, ◌+◌, ◌==◌, ◌||◌, ◌&&◌, Bool, List, [], ◌∷◌, ◌++◌, drop, Result, Ok, nat_lt, if◌then◌else◌}
use Rattle.std.specs.List.{list_any}
use Rattle.std.specs.Str.{bytes_eq}
use Rattle.c25_meaning_linking.specs.declared.command_token.Sign.TheVariants as sign
use Rattle.c25_meaning_linking.specs.declared.command_token.Keyword.TheVariants as keyword
use Rattle.c25_meaning_linking.specs.declared.command_token.Want.TheVariants as want
use Rattle.c25_meaning_linking.specs.declared.command_fault.CommandFault.TheVariants.{RangeOverlap, RangeSize, Twice}
use Rattle.c25_meaning_common.specs.declared.placed.Placed.{Placed}
use Rattle.c25_meaning_linking.specs.declared.command_fault.CommandFault.{CommandFault}
use Rattle.c25_meaning_linking.specs.CommandTokens.{Token}
use Rattle.c25_meaning_linking.specs.CommandGrammar.{Reading, fault_if, begins, wanted, past, up_to, number_at, page_number_at, setting_at}
use Rattle.c25_meaning_common.specs.Results.{◌>>=◌}
use Rattle.c25_meaning_linking.specs.Command.{RangeData}

-- `PAGE n :`, the page of the ranges from here on, or else the page so far
unfoldable pub page_at : ℕ → List Token → Reading ℕ
page_at page ts = if begins (want.Keyword keyword.Page) ts then (do
  n ← page_number_at (drop 1 ts)
  colon ← wanted (want.Sign sign.Colon) n.1
  Ok (n.0, colon.1)) else Ok (page, ts)

-- one attribute in parentheses, or nothing: the tokens after it
unfoldable pub attributes_at : List Token → Result (List Token) (Placed ℕ CommandFault)
attributes_at ts = if begins (want.Sign sign.OpenParenthesis) ts then (do
  word ← wanted want.AnyWord (drop 1 ts)
  close ← wanted (want.Sign sign.CloseParenthesis) word.1
  Ok close.1) else Ok ts

-- whether a range has this page and name
abbrev pub is_range : ℕ → List ℕ → RangeData → Bool
is_range page name r = r.page == page && bytes_eq r.name name

-- whether a range shares a word with one of this page, origin and size
abbrev pub overlaps : ℕ → ℕ → ℕ → RangeData → Bool
overlaps page origin size r = r.page == page && nat_lt origin (r.origin + r.size) && nat_lt r.origin (origin + size)

-- the origin and the length of a range, after its colon; RangeSize and RangeOverlap are reported at the
-- length
unfoldable pub extent_at : ℕ → List RangeData → List Token → Reading (ℕ × ℕ)
extent_at page before ts = do
  start ← setting_at keyword.Origin ts
  origin ← number_at start
  count ← setting_at keyword.Length (past (want.Sign sign.Comma) origin.1)
  size ← number_at count
  fits ← fault_if (size.0 == 0 || nat_lt 65536 (origin.0 + size.0)) RangeSize count
  apart ← fault_if (list_any (overlaps page origin.0 size.0) before) RangeOverlap count
  Ok ((origin.0, size.0), size.1)

-- one more range of this page
unfoldable pub range_at : ℕ → List RangeData → List Token → Reading RangeData
range_at page before ts = do
  name ← wanted want.Name ts
  fresh ← fault_if (list_any (is_range page name.0.text) before) Twice ts
  after ← attributes_at name.1
  colon ← wanted (want.Sign sign.Colon) after
  extent ← extent_at page before colon.1
  Ok (record { page = page; name = name.0.text; origin = extent.0.0; size = extent.0.1 }, extent.1)

-- the page named last, 0 before any is named, and the ranges so far
abbrev pub Ranges : Type 0
Ranges = ℕ × List RangeData

-- one more range, perhaps with a page before it
unfoldable pub more_ranges : Ranges → List Token → Reading Ranges
more_ranges s ts = do
  page ← page_at s.0 ts
  range ← range_at page.0 s.1 page.1
  Ok ((page.0, s.1 ++ range.0 ∷ []), range.1)

-- the ranges between the braces
unfoldable pub memory_at : List Token → Reading (List RangeData)
memory_at ts = do
  brace ← wanted (want.Sign sign.OpenBrace) ts
  ranges ← up_to (want.Sign sign.CloseBrace) more_ranges (0, []) brace.1
  Ok (ranges.0.1, ranges.1)
