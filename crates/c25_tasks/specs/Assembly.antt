-- The task `asm`: the object and the listing of a source on a disk.
use Rattle.std.specs.Prelude.{ℕ, List, [], ◌∷◌, map, Option, Some, None, Result, Ok, Vec}
use Rattle.std.specs.declared.alloc.Global.{Global}
use Rattle.c25_chain.specs.Modules.{assembled_in}
use Rattle.c25_chain.specs.Refusal.{Fault, refusal_of}
use Rattle.c25_chain.specs.declared.fault.ChainFault.{ChainFault}
use Rattle.c25_disk.specs.Held.{Held}
use Rattle.c25_disk.specs.Written.{contents_of}
use Rattle.c25_disk.specs.declared.writing.Output.{Output}
use Rattle.c25_meaning_expansion.specs.Files.{Files}
use Rattle.c25_meaning_assembly.specs.Listing.{listing_text}
use Rattle.c25_meaning_assembly.specs.ModuleOfSource.{Assembled}
use Rattle.c25_meaning_objects.specs.Records.{spelling}
use Rattle.c25_meaning_common.specs.Results.{MeetsBy, ◌>>=◌}
use Rattle.c25_report.specs.declared.ending.Ending.{Ending}
use Rattle.c25_fronts.specs.Adding.{assembled_name}
use Rattle.c25_fronts.specs.Folders.{Opens}
use Rattle.c25_inputs.specs.Files.{AfterSources, ComesTo, SourceNames}
use Rattle.c25_report.specs.declared.ending.Report.{Report}
use Rattle.c25_options.specs.Task.{text_of}
use Rattle.c25_options.specs.declared.task.AssembleTask.{AssembleTask}
use Rattle.c25_tasks.specs.Reading.{AreNotesUnder, Noting, definitions_in, read_by, sources_under}
use Rattle.c25_tasks.specs.Tells.{IsAnswerOrReport, Wrote, WritesTold}
use Rattle.c25_source_notes.specs.declared.notes.SourceNotes.{SourceNotes}

-- files that are to be written
abbrev pub output_files : Vec Output Global → Files
output_files outputs = map contents_of outputs.items

-- the output files of a module: the object, and the listing where one is asked for
abbrev pub asm_files : (object : List ℕ) → (listing : Option (List ℕ)) → Assembled → Files
asm_files object None a = (object, spelling a.contents) ∷ []
asm_files object (Some listing) a = (object, spelling a.contents) ∷ (listing, listing_text a.contents a.entries) ∷ []

-- the output files of the source of a name among these files, or why there are none
abbrev pub asm_written : (object : List ℕ) → (listing : Option (List ℕ)) → Files → (source : List ℕ) → Result Files (ChainFault (List ℕ))
asm_written object listing files source = assembled_in files source >>= λ a. Ok (asm_files object listing a)

-- one source, and the symbols that are defined in front of it
abbrev pub one_source : (source : List ℕ) → (definitions : List (List ℕ)) → SourceNames
one_source source definitions = record { names = source ∷ []; definitions = definitions; folders = [] }

-- the output files of a source on a disk in front of which these symbols are defined, over its file and those that it
-- copies
abbrev pub AsmOutputs : Held → (definitions : List (List ℕ)) → (source object : List ℕ) → (listing : Option (List ℕ)) → Result (Vec Output Global) Fault → Type 0
AsmOutputs held definitions source object listing answer =
    AfterSources held (one_source source definitions)
    (λ given. ComesTo held given (λ files result. MeetsBy refusal_of output_files (asm_written object listing files (assembled_name definitions source)) result)) answer

-- the output files of a source, or the report of why there are none
abbrev pub AsmOrReport : Held → SourceNotes → (definitions : List (List ℕ)) → (source object : List ℕ) → (listing : Option (List ℕ)) → Result (Vec Output Global) Report → Type 0
AsmOrReport held notes definitions source object listing answer =
    (told : Result (Vec Output Global) Fault) × AsmOutputs held definitions source object listing told × IsAnswerOrReport held notes told answer

-- a source's object, and its listing where one is asked for, are written, or why not
abbrev pub Assembles : Held → SourceNotes → (definitions : List (List ℕ)) → (source object : List ℕ) → (listing : Option (List ℕ)) → Ending → (note : List ℕ) → Wrote → Type 0
Assembles held notes definitions source object listing e note written =
    (told : Result (Vec Output Global) Fault) × AsmOutputs held definitions source object listing told × WritesTold held notes told e note written

-- what is done for a task
abbrev pub DoesAssemble : Held → Opens → AssembleTask → Ending → (note : List ℕ) → Wrote → Type 0
DoesAssemble held opens task e note written =
    Noting (AreNotesUnder task.faults None (sources_under (task.source ∷ []) task.reading) [])
    (λ notes. Assembles (read_by (task.source.now ∷ []) [] task.reading opens held) notes (definitions_in task.reading) task.source.now task.object.now (text_of task.listing) e note written)
