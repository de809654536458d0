use Rattle.std.proofs.Common.{◌++◌, ◌∙◌, ℕ, List, ap, map, refl, string_bytes, subst, sym}
use Rattle.c25_move_files.specs.Files.{contents, moved_of}
use Rattle.c25_move_files.specs.Notes.{noted, rows}
use Rattle.c25_move_files.specs.declared.moved.MovedFile.{MovedFile}
use Rattle.c25_move_files.specs.declared.new.NewFile.{NewFile}
use Rattle.c25_moving.specs.Making.{ComparesMade}
use Rattle.c25_moving.proofs.making.made_with.Goals as goal

pub returns : goal.returns
returns c =
    let lines = rows c.args.reporting.quiet (map noted c.args.notes.now) in
    let command = c.as_str.ensures.value ∙ sym (c.in_ok-command.ensures.ok ∙ c.as_str-3.ensures.value) in
    record {
      counted = refl;
      files = c.in_ok-files.ensures ∙ ap (λ (ms : List MovedFile). map contents (map moved_of ms)) c.as_slice.ensures.value;
      comparison = c.in_ok-comparison.comparison;
      report =
          c.in_ok-report.ensures ∙ ap (λ (h : List ℕ). (h ++ lines) ++ c.as_str-2.result.now) c.as_str-heading.ensures.value
          ∙ ap (λ (t : List ℕ). (string_bytes c.args.gathered.now.heading ++ lines) ++ t) c.as_str-2.ensures.value;
      is_left = c.is_left-is_left.ensures;
      compared =
          subst (λ (t : List ℕ). ComparesMade c.in_ok-files.files.items c.args.gathered.now.sources t c.args.reporting.old c.in_ok-comparison.comparison) command
          (subst (λ (fs : List NewFile). ComparesMade fs c.args.gathered.now.sources c.as_str.result.now c.args.reporting.old c.in_ok-comparison.comparison) c.as_slice-2.ensures.value c.in_ok-comparison.ensures);
    }
