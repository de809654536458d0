-- Lines that are reported, and the sources and the notes of tasks.
use Rattle.std.proofs.Common.{◌≡◌, ◌∙◌, ap, inl, refl, sym, subst, ℕ, List, [], Bor, Option, string_bytes}
use Rattle.std.specs.Prelude.{String}
use Rattle.std.specs.declared.alloc.Global.{Global}
use Rattle.c25_chain.specs.FaultText.{fault_text}
use Rattle.c25_chain.specs.Refusal.{Fault}
use Rattle.c25_chain.specs.declared.fault.ChainFault.{ChainFault}
use Rattle.c25_disk.specs.Held.{Held}
use Rattle.c25_disk.specs.Refusals.{Refuses}
use Rattle.c25_tasks.proofs.AnyReason.{source_note_weaker}
use Rattle.c25_meaning_common.specs.declared.failure.Failure.TheVariants as failure
use Rattle.c25_report.specs.declared.ending.Ending.{Ending}
use Rattle.c25_report.specs.declared.ending.Ending.TheVariants as ending
use Rattle.c25_report.specs.declared.ending.Report.{Report}
use Rattle.c25_options.specs.Task.{texts_of}
use Rattle.c25_fronts.specs.Folders.{Opens, in_folders}
use Rattle.c25_inputs.specs.Files.{SourceNames}
use Rattle.c25_options.specs.declared.task.SourceOptions.{SourceOptions}
use Rattle.c25_source_notes.specs.Notes.{IsSourceNote}
use Rattle.c25_tasks.specs.Reading.{Noting, read_by, sources_under}
use Rattle.c25_tasks.specs.Tells.{IsLineOf, IsMisuse, IsReportOf}
use Rattle.c25_source_notes.specs.declared.notes.SourceNotes.{SourceNotes}

pub reports_line : (refuses : Refuses) (held : Held) (notes : SourceNotes) (fault : Fault) (f : ChainFault (String Global)) (line : String Global) (note : List ℕ)
    → fault ≡ failure.Fault f → string_bytes line ≡ fault_text fault → IsSourceNote refuses held notes f note → IsReportOf held notes fault (ending.Faulty line) note
reports_line refuses held notes fault f line note is text noted =
    let of_f : string_bytes line ≡ fault_text (failure.Fault f) = text ∙ ap (λ (x : Fault). fault_text x) is in
    subst (λ (x : Fault). IsReportOf held notes x (ending.Faulty line) note) (sym is) (inl ((line, refl, of_f), source_note_weaker refuses held notes f note noted))

-- a line that is reported without a note
pub line_reported : (text : List ℕ) (e : Ending) (report : Report) → report.ending ≡ e → string_bytes report.note ≡ [] → IsLineOf text e → IsLineOf text report.ending × (string_bytes report.note ≡ [])
line_reported text e report same none line = (subst (λ (x : Ending). IsLineOf text x) (sym same) line, none)

-- a misuse that is reported without a note
pub misuse_reported : (text : List ℕ) (e : Ending) (report : Report) → report.ending ≡ e → IsMisuse text e → IsMisuse text report.ending
misuse_reported text e report same misuse = subst (λ (x : Ending). IsMisuse text x) (sym same) misuse

-- ---- sources and notes

-- sources with the symbols in front of them and their folders, seen through what they are lent as
abbrev pub named_sources : (names definitions folders : List (List ℕ)) → SourceNames
named_sources names definitions folders = record { names = names; definitions = definitions; folders = folders }

pub sources_seen : (names definitions folders sources : List (Bor (List ℕ))) (reading : SourceOptions) → names ≡ sources → definitions ≡ reading.definitions.items → folders ≡ reading.folders.items
    → named_sources (texts_of names) (texts_of definitions) (texts_of folders) ≡ sources_under sources reading
sources_seen names definitions folders sources reading named defined found = λ i. named_sources (texts_of (named i)) (texts_of (defined i)) (texts_of (found i))

-- a disk as it is read for sources, seen through what they are lent as
pub read_seen : (names sources folders : List (Bor (List ℕ))) (beside : List (Option (List ℕ))) (reading : SourceOptions) (opens : Opens) (held : Held) → names ≡ sources → folders ≡ reading.folders.items
    → in_folders (texts_of names) beside (texts_of folders) opens held ≡ read_by (texts_of sources) beside reading opens held
read_seen names sources folders beside reading opens held named found = λ i. in_folders (texts_of (named i)) beside (texts_of (found i)) opens held

-- what is done with notes, where sources and the disk are seen through what they are lent as
pub noted : (Asked : SourceNames → SourceNotes → Type 0) (Doing : Held → SourceNames → SourceNotes → Type 0) (given meant : SourceNames) (read whole : Held) (notes : SourceNotes)
    → given ≡ meant → read ≡ whole → Asked given notes → Doing read given notes → Noting (Asked meant) (Doing whole meant)
noted Asked Doing given meant read whole notes same of_read asked done =
    let of_sources = subst (λ (s : SourceNames). Doing read s notes) same done in
    (notes, subst (λ (s : SourceNames). Asked s notes) same asked, subst (λ (h : Held). Doing h meant notes) of_read of_sources)
