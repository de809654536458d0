use Rattle.std.proofs.Common.{List, sym, subst}
use Rattle.std.specs.Option.{option_map}
use Rattle.c25_meaning_image.specs.declared.mark.Mark.{Mark}
use Rattle.c25_meaning_linking.specs.Linking.{HasMarks, HasRunMarks}
use Rattle.c25_meaning_linking.specs.MapText.{IsPrinted}
use Rattle.c25_link.specs.Layout.{places_in}
use Rattle.c25_link.specs.Link.{IsImageAt}
use Rattle.c25_link.proofs.linking.linked_image.Goals as goal

pub program_run_marks-requires : goal.program_run_marks-requires
program_run_marks-requires c =
    record { laid = c.requires.laid; marks = subst (HasMarks c.args.layout.now.modules.now (places_in c.args.layout.now)) (sym c.deref.ensures.value) c.in_ok-marks.ensures }

pub new-requires : goal.new-requires
new-requires c = record { printed = subst IsPrinted (sym c.in_ok-described.ensures) c.requires.printed; lines = c.in_ok-lines.ensures.ascend }

pub returns : goal.returns
returns c =
    subst (IsImageAt c.args.layout.now.modules.now (places_in c.args.layout.now) (option_map (λ name. name.now) c.args.entry)) (sym c.new.ensures)
    (record {
      fields = sym c.in-None.ensures;
      program = c.in_ok-pages.ensures.program;
      store = c.in_ok-pages.ensures.store;
      marks = c.in_ok-marks.ensures;
      run_marks = subst (λ (ms : List Mark). HasRunMarks c.args.layout.now.modules.now (places_in c.args.layout.now) ms c.in_ok-run_marks.run_marks.items) c.deref.ensures.value c.in_ok-run_marks.ensures;
      lines = c.in_ok-lines.ensures;
      described = c.in_ok-described.ensures;
    })
