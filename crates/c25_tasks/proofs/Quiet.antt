-- What stays as it is, and files that are written or cannot be.
use Rattle.std.proofs.Common.{◌≡◌, ◌∙◌, Bool, true, false, ap, inl, inr, refl, sym, subst, ℕ, List, append-nil, map, Option, None, Some}
use Rattle.std.specs.Io.KnownBytes.{Keeps}
use Rattle.std.specs.Prelude.{String, ◌==◌, length}
use Rattle.std.specs.String.{string_bytes}
use Rattle.std.specs.declared.alloc.Global.{Global}
use Rattle.c25_chain.specs.Refusal.{Fault, refusal_of}
use Rattle.c25_chain.specs.declared.fault.ChainFault.{ChainFault}
use Rattle.c25_chain.specs.declared.fault.ChainFault.TheVariants.{File}
use Rattle.c25_disk.specs.Refusals.{any_reason}
use Rattle.c25_disk.specs.Held.{Held, Stay}
use Rattle.c25_disk.specs.Written.{IsUnwritten, contents_of}
use Rattle.c25_meaning_common.specs.declared.placed.Placed.{Placed}
use Rattle.c25_disk.specs.declared.fault.FileFault.{FileFault}
use Rattle.c25_disk.specs.declared.fault.FileFault.TheVariants.{CannotWrite}
use Rattle.c25_disk.specs.declared.writing.Output.{Output}
use Rattle.c25_explain.specs.declared.fault.AnyFault.TheVariants as any
use Rattle.c25_meaning_common.specs.declared.failure.Failure.{Failure}
use Rattle.c25_meaning_common.specs.declared.failure.Failure.TheVariants as failure
use Rattle.c25_meaning_expansion.specs.Files.{Files}
use Rattle.c25_report.specs.declared.ending.Ending.{Ending}
use Rattle.c25_inputs.specs.Files.{IsToldOfFile}
use Rattle.c25_explain.specs.FileNotes.{ShowsCopied}
use Rattle.c25_explain.specs.Notes.{AreOthers, IsExplainedBy, IsExplanation, IsNoted, name_by}
use Rattle.c25_options.specs.Task.{texts_of}
use Rattle.c25_tasks.specs.Tells.{IsReportOf, IsUnwrittenAmong}
use Rattle.c25_explain.specs.declared.named.NamedFiles.{NamedFiles}
use Rattle.c25_explain.specs.declared.notes.Notes.{Notes}
use Rattle.c25_source_notes.specs.declared.notes.SourceNotes.{SourceNotes}
use Rattle.c25_source_notes.specs.declared.notes.SourceNotes.TheVariants.{Plain, Reading}
use Rattle.c25_source_notes.specs.Notes.{IsNoteUnder, IsSourceNote, sources_in}
use Rattle.c25_source_notes.specs.Places.{IsWithFolders, ShowsTried}
use Rattle.c25_fronts.specs.Fronts.{fronted, fronts}
use Rattle.c25_explain.specs.declared.notes.Notes.TheVariants.{Nothing, After}

pub stays : (files : Option Files) → Stay files files
stays None = tt
stays (Some files) = sym (append-nil files)

pub keeps : (known : Option (List ℕ)) → Keeps known known
keeps None = tt
keeps (Some xs) = refl

-- ---- a file that cannot be written

abbrev file_refusal : List ℕ → FileFault → ChainFault (List ℕ)
file_refusal name kind = File (record { place = name; fault = kind })

same_refusal : (f : Placed (String Global) FileFault) (name : List ℕ) → string_bytes f.place ≡ name → f.fault ≡ CannotWrite → file_refusal (string_bytes f.place) f.fault ≡ file_refusal name CannotWrite
same_refusal f name named kind = λ i. file_refusal (named i) (kind i)

refused_so : (f : Placed (String Global) FileFault) (r : ChainFault (String Global)) (name : List ℕ) → r ≡ File f → string_bytes f.place ≡ name → f.fault ≡ CannotWrite → refusal_of r ≡ file_refusal name CannotWrite
refused_so f r name told named kind = ap refusal_of told ∙ same_refusal f name named kind

-- the explanation of a file's fault, other than that it cannot be read, is so whatever the disk holds
explained_anew : (held other : Held) (f : Placed (String Global) FileFault) (kind : FileFault) (trail note : List ℕ) → kind ≡ CannotWrite → IsExplainedBy any_reason held None (name_by kind (string_bytes f.place)) trail (any.File f.fault) note → IsExplainedBy any_reason other None (name_by kind (string_bytes f.place)) trail (any.File f.fault) note
explained_anew held other f kind trail note is explained =
    let With : Held → FileFault → Type 0 = λ h k. IsExplainedBy any_reason h None (name_by k (string_bytes f.place)) trail (any.File f.fault) note in
    subst (λ (k : FileFault). With other k) (sym is) (subst (λ (k : FileFault). With held k) is explained)

-- what is shown next to the line of such a fault is nothing, whatever the disk holds
behind_anew : (held other : Held) (sources : List (List ℕ)) (name shown : List ℕ) (kind : FileFault) → kind ≡ CannotWrite → ShowsCopied held sources kind name shown → ShowsCopied other sources kind name shown
behind_anew held other sources name shown kind is shows =
    let With : Held → FileFault → Type 0 = λ h k. ShowsCopied h sources k name shown in
    subst (λ (k : FileFault). With other k) (sym is) (subst (λ (k : FileFault). With held k) is shows)

explanation_anew : (held other : Held) (explain : Bool) (named : NamedFiles) (f : Placed (String Global) FileFault) (text : List ℕ) → f.fault ≡ CannotWrite → IsExplanation any_reason held explain named (File f) text → IsExplanation any_reason other explain named (File f) text
explanation_anew held other true named f text is (inl (behind, shows, explained)) =
    inl (behind, behind_anew held other (texts_of named.sources.now) (string_bytes f.place) behind f.fault is shows, explained_anew held other f f.fault behind text is explained)
explanation_anew held other true named f text is (inr none) = inr none
explanation_anew held other false named f text is none = none

others_anew : (held other : Held) (explain all : Bool) (named : NamedFiles) (f : Placed (String Global) FileFault) (text : List ℕ) → AreOthers held explain all named (File f) text → AreOthers other explain all named (File f) text
others_anew held other explain true named f text none = none
others_anew held other explain false named f text none = none

noted_anew : (held other : Held) (notes : Notes) (f : Placed (String Global) FileFault) (note : List ℕ) → f.fault ≡ CannotWrite → IsNoted any_reason held notes (File f) note → IsNoted any_reason other notes (File f) note
noted_anew held other Nothing f note is noted = noted
noted_anew held other (After options named) f note is (inl (explanation, others, explained, listed, same)) =
    inl (explanation, others, explanation_anew held other options.explain named f explanation is explained, others_anew held other options.explain options.all named f others listed, same)
noted_anew held other (After options named) f note is (inr none) = inr none

under_anew : (held other : Held) (none : Bool) (notes : Notes) (definitions : List (List ℕ)) (f : Placed (String Global) FileFault) (note : List ℕ) → f.fault ≡ CannotWrite → IsNoteUnder none any_reason held notes definitions (File f) note → IsNoteUnder none any_reason other notes definitions (File f) note
under_anew held other true notes definitions f note is noted = noted_anew held other notes f note is noted
under_anew held other false notes definitions f note is (inl (shown, of_fronts, text, noted, same)) =
    let made = fronts definitions (sources_in notes) in
    inl (shown, of_fronts, text, noted_anew (fronted made held) (fronted made other) shown f text is noted, same)
under_anew held other false notes definitions f note is (inr none) = inr none

-- of such a fault a note says nothing of folders
untried : (named : NamedFiles) (folders : List (List ℕ)) (kind : FileFault) (name note shown : List ℕ) → kind ≡ CannotWrite → ShowsTried named folders kind name note shown → ⊥
untried named folders kind name note shown is tried = subst (λ (k : FileFault). ShowsTried named folders k name note shown) is tried

folders_anew : (held other : Held) (notes : Notes) (folders : List (List ℕ)) (f : Placed (String Global) FileFault) (plain note : List ℕ) → f.fault ≡ CannotWrite → IsWithFolders held notes folders (File f) plain note → IsWithFolders other notes folders (File f) plain note
folders_anew held other Nothing folders f plain note is same = same
folders_anew held other (After options named) folders f plain note is (inl same) = inl same
folders_anew held other (After options named) folders f plain note is (inr (asked, tried)) = absurd (untried named folders f.fault (string_bytes f.place) plain note is tried)

source_noted_anew : (held other : Held) (notes : SourceNotes) (f : Placed (String Global) FileFault) (note : List ℕ) → f.fault ≡ CannotWrite → IsSourceNote any_reason held notes (File f) note → IsSourceNote any_reason other notes (File f) note
source_noted_anew held other (Plain notes) f note is noted = noted_anew held other notes f note is noted
source_noted_anew held other (Reading notes given) f note is (plain, under, shown) =
    let definitions = texts_of given.definitions.now in
    (plain, under_anew held other (length definitions == 0) notes definitions f plain is under, folders_anew held other notes (texts_of given.folders.now) f plain note is shown)

of_refusal_anew : (held other : Held) (notes : SourceNotes) (f : Placed (String Global) FileFault) (e : Ending) (note : List ℕ) → f.fault ≡ CannotWrite → IsReportOf held notes (failure.Fault (File f)) e note → IsReportOf other notes (failure.Fault (File f)) e note
of_refusal_anew held other notes f e note is (inl (line, noted)) = inl (line, source_noted_anew held other notes f note is noted)
of_refusal_anew held other notes f e note is (inr short) = inr short

-- the report of a file that cannot be written is so whatever the disk holds
reported_anew : (held other : Held) (notes : SourceNotes) (f : Placed (String Global) FileFault) (r : ChainFault (String Global)) (e : Ending) (note : List ℕ) → r ≡ File f → f.fault ≡ CannotWrite → IsReportOf held notes (failure.Fault r) e note → IsReportOf other notes (failure.Fault r) e note
reported_anew held other notes f r e note told unwritable is =
    let Of : Held → ChainFault (String Global) → Type 0 = λ h g. IsReportOf h notes (failure.Fault g) e note in
    subst (λ (g : ChainFault (String Global)). Of other g) (sym told) (of_refusal_anew held other notes f e note unwritable (subst (λ (g : ChainFault (String Global)). Of held g) told is))

pub unwritten : (held other : Held) (notes : SourceNotes) (old new : Option Files) (outputs : List Output) (refusal : Failure (Placed (String Global) FileFault)) (fault : Fault) (e : Ending) (note : List ℕ) → IsUnwritten old new outputs refusal → IsToldOfFile refusal fault → IsReportOf held notes fault e note → IsUnwrittenAmong other notes (map contents_of outputs) e note (old, new)
unwritten held other notes old new outputs (failure.NoMemory n) (failure.NoMemory m) e note (file, ends, is) told comes = (file, ends, (failure.NoMemory m, tt, comes))
unwritten held other notes old new outputs (failure.NoMemory n) (failure.Fault r) e note is told comes = absurd told
unwritten held other notes old new outputs (failure.Fault f) (failure.NoMemory m) e note is told comes = absurd told
unwritten held other notes old new outputs (failure.Fault f) (failure.Fault r) e note (file, ends, is) told comes =
    (file, ends, (failure.Fault r, refused_so f r file.0 told is.0 is.1, reported_anew held other notes f r e note told is.1 comes))
