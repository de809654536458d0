-- The texts that are made of an image that is run, and why there are none.
use Rattle.std.proofs.Common.{◌≡◌, ◌∙◌, ap, inl, inr, subst, sym, ℕ, Bool, false, List, [], ◌∷◌, Bor, Option, string_bytes}
use Rattle.std.specs.Prelude.{None, Result, Ok, Err}
use Rattle.c25_disk.specs.Held.{Held}
use Rattle.c25_image_source.specs.Asked.{first_file, run_asked}
use Rattle.c25_image_source.specs.Made.{AreNames, MakesSource, command_name, source_name}
use Rattle.c25_image_source.specs.declared.asked.ImageAsked.{ImageAsked}
use Rattle.c25_image_source.specs.declared.fault.SourceFault.{SourceFault}
use Rattle.c25_image_source.specs.declared.made.MadeNames.{MadeNames}
use Rattle.c25_image_source.specs.declared.made.MadeSource.{MadeSource}
use Rattle.c25_image_source.specs.declared.mistake.Mistake.{Mistake}
use Rattle.c25_inputs.specs.Files.{SourceNames, plain_names}
use Rattle.c25_meaning_common.specs.declared.failure.Failure.{Failure}
use Rattle.c25_options.specs.Task.{text_of}
use Rattle.c25_report.specs.declared.ending.Ending.{Ending}
use Rattle.c25_report.specs.declared.ending.Report.{Report}
use Rattle.c25_source_notes.specs.declared.notes.SourceNotes.{SourceNotes}
use Rattle.c25_tasks.specs.ImageRuns.{AreTextsOf, MakesTexts, MakesUnder, TellsFailed, TellsNone, files_of}
use Rattle.c25_tasks.specs.Images.{TellsFailure, made_files}
use Rattle.c25_tasks.specs.Reading.{AreNotesUnder}
use Rattle.c25_tasks.specs.Tells.{IsMisuse}
use Rattle.c25_tasks.specs.declared.image_texts.ImageTexts.{ImageTexts}

-- a failure that is reported with the notes of the first file
pub tells_failed : (held : Held) (given : SourceNames) (notes : SourceNotes) (explain : Bool) (asked : ImageAsked) (file : Bor (List ℕ)) (failed : Failure SourceFault) (e : Ending) (note : List ℕ)
    → given ≡ plain_names [] → file ≡ first_file asked.files → AreNotesUnder (record { explain = explain; all = false }) None given (file.now ∷ []) notes
    → TellsFailure held notes (text_of asked.hints) failed e note → TellsFailed held explain asked failed e note
tells_failed held given notes explain asked file failed e note plain first noting tells =
    let of_plain = subst (λ (s : SourceNames). AreNotesUnder (record { explain = explain; all = false }) None s (file.now ∷ []) notes) plain noting in
    (notes, subst (λ (f : Bor (List ℕ)). AreNotesUnder (record { explain = explain; all = false }) None (plain_names []) (f.now ∷ []) notes) first of_plain, tells)

module _ (held : Held) (explain : Bool) (asked : ImageAsked) (names : MadeNames) (are : AreNames asked.base.now names) (answer : Result MadeSource (Failure SourceFault)) (makes : MakesSource held asked (string_bytes names.source) answer) where
  -- what an image is made to, by the name that its base gives
  made_under : MakesSource held asked (source_name asked.base.now) answer
  made_under = subst (λ (s : List ℕ). MakesSource held asked s answer) are.source makes

  -- an image has texts
  pub texts_made : (made : MadeSource) (result : Result ImageTexts Report) → answer ≡ Ok made → MakesUnder names made.source result → MakesTexts held explain (Ok asked) result
  texts_made made (Ok texts) is (same, files) = record {
    source = ap (λ (n : MadeNames). string_bytes n.source) same ∙ are.source;
    command = ap (λ (n : MadeNames). string_bytes n.command) same ∙ are.command;
    made = made;
    makes = subst (λ (r : Result MadeSource (Failure SourceFault)). MakesSource held asked (source_name asked.base.now) r) is made_under;
    files = files ∙ ap (λ (s : List ℕ). made_files s (string_bytes names.command) made.source) are.source ∙ ap (λ (s : List ℕ). made_files (source_name asked.base.now) s made.source) are.command;
  }
  texts_made made (Err report) is short = inl short

  -- an image has no source
  pub texts_refused : (failed : Failure SourceFault) (e : Ending) (note : List ℕ) → answer ≡ Err failed → TellsFailed held explain asked failed e note → TellsNone held explain (Ok asked) e note
  texts_refused failed e note is tells = inr (failed, subst (λ (r : Result MadeSource (Failure SourceFault)). MakesSource held asked (source_name asked.base.now) r) is made_under, tells)

-- what is made by what a command line asks for
pub texts_by : (held : Held) (explain : Bool) (meant answer given : Result ImageAsked Mistake) (result : Result ImageTexts Report) → answer ≡ meant → answer ≡ given → MakesTexts held explain given result → MakesTexts held explain meant result
texts_by held explain meant answer given result are is makes =
    let of_answer = subst (λ (r : Result ImageAsked Mistake). MakesTexts held explain r result) (sym is) makes in
    subst (λ (r : Result ImageAsked Mistake). MakesTexts held explain r result) are of_answer

-- a misuse that is reported
pub misuse_told : (line : List ℕ) (e told : Ending) (note : List ℕ) → told ≡ e → note ≡ [] → IsMisuse line e → IsMisuse line told × (note ≡ [])
misuse_told line e told note same none misuse = (subst (λ (x : Ending). IsMisuse line x) (sym same) misuse, none)
