-- The style of old sources: the one that is asked for, or the one that their directives show.
use Rattle.std.specs.Prelude.{ℕ, List, [], ◌∷◌, Option, Some, None}
use Rattle.std.specs.Option.{option_map, option_or}
use Rattle.c25_move_lines.specs.declared.style.Style.{Style}
use Rattle.c25_move_lines.specs.declared.style.Style.TheVariants.{Early, Coff}
use Rattle.c25_move_style.specs.Shown.{first_showing}
use Rattle.c25_move_files.specs.Files.{Old}
use Rattle.c25_move_files.specs.declared.style.Place.{Place}

-- a line of a file
pub record OldLine : Type 0 where
  pub file : List ℕ
  pub line : ℕ

abbrev pub line_of : Place → OldLine
line_of place = record { file = place.file.now; line = place.line }

-- this line of a file, if there is one
abbrev pub line_in : (file : List ℕ) → Option ℕ → Option OldLine
line_in file line = option_map (λ n. record { file = file; line = n }) line

-- the first line of files that shows a style
unfoldable pub first_shown : Style → List Old → Option OldLine
first_shown style [] = None
first_shown style (f ∷ fs) = option_or (line_in f.name (first_showing style f.text)) (first_shown style fs)

-- the style of files with these first lines of each style: that of the COFF assembler where no line shows the early one, and
-- none where there are lines of both
abbrev pub style_by : (early coff : Option OldLine) → Option Style
style_by (Some early) (Some coff) = None
style_by (Some early) None = Some Early
style_by None coff = Some Coff

-- the style that files show
abbrev pub style_shown : List Old → Option Style
style_shown files = style_by (first_shown Early files) (first_shown Coff files)

-- the style of sources
abbrev pub style_of : (asked : Option Style) → List Old → Option Style
style_of (Some style) files = Some style
style_of None files = style_shown files
