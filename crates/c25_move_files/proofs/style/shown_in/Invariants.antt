-- the first lines so far, or else those of the files that are left, are those of all
use Rattle.std.proofs.Common.{◌≡◌, drop, map}
use Rattle.std.specs.Option.{option_map, option_or}
use Rattle.c25_move_lines.specs.declared.style.Style.TheVariants.{Early, Coff}
use Rattle.c25_move_files.specs.Files.{old_of}
use Rattle.c25_move_files.specs.Styles.{first_shown, line_of}
use Rattle.c25_move_files.proofs.style.shown_in.Given as goal

abbrev pub invariant-loop-source : goal.invariant-loop-source
invariant-loop-source l =
    (option_or (option_map line_of l.shown.early) (first_shown Early (map old_of (drop l.source-index l.sources))) ≡ first_shown Early (map old_of l.sources))
    × (option_or (option_map line_of l.shown.coff) (first_shown Coff (map old_of (drop l.source-index l.sources))) ≡ first_shown Coff (map old_of l.sources))
