-- What is read of old sources.
use Rattle.std.specs.Prelude.{◌≡◌, ℕ, if◌then◌else◌, List, codes, map, take, Option, Some, None, bytes_eq}
use Rattle.std.specs.FinMap as finite
use Rattle.std.specs.List.{All}
use Rattle.std.specs.Option.{option_and_then}
use Rattle.std.specs.Ordering.{nat_cmp}
use Rattle.c25_disk.specs.Held.{Held, IsAllOf}
use Rattle.c25_hex.specs.Hex.{SpellsWords}
use Rattle.c25_move.specs.declared.code_page.CodePage.{CodePage}
use Rattle.c25_move.specs.declared.code_page.CodePage.TheVariants.{Cp437, Latin1}
use Rattle.c25_move_lines.specs.declared.style.Style.{Style}
use Rattle.c25_move_lines.specs.declared.style.Style.TheVariants.{Early, Coff}
use Rattle.c25_move_files.specs.Files.{IsRead, old_of}
use Rattle.c25_move_files.specs.Styles.{style_of}
use Rattle.c25_move_files.specs.declared.gathered.Gathered.{Gathered}
use Rattle.c25_move_files.specs.declared.gathered.OldSources.{OldSources}

-- the style of this name
abbrev pub style_named : List ℕ → Option Style
style_named name = if bytes_eq name (codes "1987") then Some Early else (if bytes_eq name (codes "spru018") then Some Coff else None)

-- the style that the argument of `--style` names, if it is given
abbrev pub style_asked : Option (List ℕ) → Option Style
style_asked word = option_and_then style_named word

-- the code page of this name
abbrev pub code_page_named : List ℕ → Option CodePage
code_page_named name = if bytes_eq name (codes "cp437") then Some Cp437 else (if bytes_eq name (codes "latin1") then Some Latin1 else None)

-- the code page that the argument of `--from` names; code page 437 where it is not given
abbrev pub code_page_asked : Option (List ℕ) → Option CodePage
code_page_asked None = Some Cp437
code_page_asked (Some word) = code_page_named word

-- the old files of sources: these, and after them others, all of them read by the code page that is asked for; their style is that
-- of the sources
pub record AreOldFiles (held : Held) (asked : OldSources) (g : Gathered) : Type 0 where
  pub named : take g.sources (map (λ f. (old_of f).name) g.files.items) ≡ map (λ n. n.now) asked.names.now
  pub paged : g.code_page ≡ asked.code_page
  pub read : All (λ f. IsRead held asked.code_page (old_of f)) g.files.items
  pub styled : (s : Style) → asked.style ≡ Some s → g.style ≡ s
  pub shown : style_of asked.style (take g.sources (map old_of g.files.items)) ≡ Some g.style

-- words by their addresses
abbrev pub Words : Type 0
Words = finite.FinMap nat_cmp ℕ

-- the words that the hex text of this name spells
abbrev pub IsOldProgram : Held → (name : List ℕ) → Words → Type 0
IsOldProgram held name old = (text : List ℕ) × IsAllOf (held name) text × SpellsWords text old
