-- What is done where there is an answer, or the report of why there is none.
use Rattle.std.proofs.Common.{◌≡◌, ap, sym, subst, ℕ, List, [], ◌∷◌, Bor, map, string_bytes}
use Rattle.std.specs.Io.KnownBytes.{Keeps}
use Rattle.std.specs.Prelude.{Option, Some, None, Result, Ok, Err, Vec}
use Rattle.std.specs.declared.alloc.Global.{Global}
use Rattle.c25_chain.specs.Refusal.{Fault}
use Rattle.c25_chain.specs.declared.built.Built.{Built}
use Rattle.c25_disk.specs.Held.{Held, Stay}
use Rattle.c25_disk.specs.Written.{contents_of}
use Rattle.c25_disk.specs.declared.writing.Output.{Output}
use Rattle.c25_fronts.specs.Folders.{Opens}
use Rattle.c25_inputs.specs.Files.{SourceNames, plain_names}
use Rattle.c25_options.specs.Task.{text_of, texts_of}
use Rattle.c25_options.specs.declared.task.AssembleTask.{AssembleTask}
use Rattle.c25_options.specs.declared.task.BuildTask.{BuildTask}
use Rattle.c25_options.specs.declared.task.LinkTask.{LinkTask}
use Rattle.c25_report.specs.declared.ending.Ending.{Ending}
use Rattle.c25_report.specs.declared.ending.Report.{Report}
use Rattle.c25_source_notes.specs.declared.notes.SourceNotes.{SourceNotes}
use Rattle.c25_tasks.proofs.Noted.{sources_seen}
use Rattle.c25_tasks.specs.Assembly.{AsmOrReport, AsmOutputs, Assembles, DoesAssemble}
use Rattle.c25_tasks.specs.BuildToDisk.{BuildsAsked, BuildsOrReports, BuildsProgram, BuildsToDisk, BuildsWith, WritesBuilt, WritesProgram}
use Rattle.c25_tasks.specs.Linking.{DoesLink, LinksFrom, WritesLinked}
use Rattle.c25_tasks.specs.Reading.{AreNotesUnder, definitions_in, read_by, sources_under}
use Rattle.c25_meaning_common.specs.Results.{◌>>=◌}
use Rattle.c25_rom.specs.Shape.{shape_of}
use Rattle.c25_tasks.specs.Roms.{IsAsked, rom_asked, shaped}
use Rattle.c25_tasks.specs.Tells.{IsAnswerOrReport, Printed, Wrote, Writes, WritesTold}
use Rattle.c25_tasks.specs.declared.roms.RomAsked.{RomAsked}
use Rattle.c25_tasks.specs.declared.texts.Program.{Program}

-- ---- asm

outputs_written : (held : Held) (notes : SourceNotes) (told : Result (Vec Output Global) Fault) (outputs : Vec Output Global) (shown : List Output) (e : Ending) (note : List ℕ) (written : Wrote)
    → IsAnswerOrReport held notes told (Ok outputs) → shown ≡ outputs.items → Writes held notes (map contents_of shown) e note written → WritesTold held notes told e note written
outputs_written held notes (Ok all) outputs shown e note written same seen writes =
    let of_outputs = subst (λ (os : List Output). Writes held notes (map contents_of os) e note written) seen writes in
    subst (λ (os : Vec Output Global). Writes held notes (map contents_of os.items) e note written) same of_outputs
outputs_written held notes (Err fault) outputs shown e note written none seen writes = absurd none

outputs_reported : (held : Held) (notes : SourceNotes) (told : Result (Vec Output Global) Fault) (report : Report) (written : Wrote) → IsAnswerOrReport held notes told (Err report) → Stay written.0 written.1
    → WritesTold held notes told report.ending (string_bytes report.note) written
outputs_reported held notes (Ok all) report written none stay = absurd none
outputs_reported held notes (Err fault) report written told stay = (told, stay)

module _ (held : Held) (notes : SourceNotes) (definitions : List (List ℕ)) (source object : List ℕ) (listing : Option (List ℕ)) (answer : Result (Vec Output Global) Report) (written : Wrote) where
  abbrev Of : Result (Vec Output Global) Report → Type 0
  Of a = AsmOrReport held notes definitions source object listing a

  pub assembles : (outputs : Vec Output Global) (shown : List Output) (e : Ending) (note : List ℕ) → answer ≡ Ok outputs → Of answer → shown ≡ outputs.items → Writes held notes (map contents_of shown) e note written
      → Assembles held notes definitions source object listing e note written
  assembles outputs shown e note is comes seen writes =
      let all : Of (Ok outputs) = subst Of is comes in
      (all.0, all.1, outputs_written held notes all.0 outputs shown e note written all.2 seen writes)

  pub assembles_none : (report : Report) → answer ≡ Err report → Of answer → Stay written.0 written.1 → Assembles held notes definitions source object listing report.ending (string_bytes report.note) written
  assembles_none report is comes stay =
      let all : Of (Err report) = subst Of is comes in
      (all.0, all.1, outputs_reported held notes all.0 report written all.2 stay)

-- ---- build

program_written : (held : Held) (notes : SourceNotes) (base : List ℕ) (rom : Option RomAsked) (told : Result Program Fault) (program : Program) (e : Ending) (note : List ℕ) (written : Wrote) (out : Printed)
    → IsAnswerOrReport held notes told (Ok program) → WritesProgram held notes base rom program e note written out → WritesBuilt held notes base rom told e note written out
program_written held notes base rom (Ok all) program e note written out same writes = subst (λ (p : Program). WritesProgram held notes base rom p e note written out) same writes
program_written held notes base rom (Err fault) program e note written out none writes = absurd none

program_reported : (held : Held) (notes : SourceNotes) (base : List ℕ) (rom : Option RomAsked) (told : Result Program Fault) (report : Report) (written : Wrote) (out : Printed) → IsAnswerOrReport held notes told (Err report) → Stay written.0 written.1 → Keeps out.0 out.1
    → WritesBuilt held notes base rom told report.ending (string_bytes report.note) written out
program_reported held notes base rom (Ok all) report written out none stay keeps = absurd none
program_reported held notes base rom (Err fault) report written out told stay keeps = (told, stay, keeps)

module _ (held : Held) (notes : SourceNotes) (sources : SourceNames) (command symbols : Option (List ℕ)) (base : List ℕ) (rom : Option RomAsked) (answer : Result Program Report) (written : Wrote) (out : Printed) where
  abbrev Builds : Result Program Report → Type 0
  Builds a = BuildsOrReports held notes sources command symbols a

  pub builds : (program : Program) (e : Ending) (note : List ℕ) → answer ≡ Ok program → Builds answer → WritesProgram held notes base rom program e note written out
      → BuildsToDisk held notes sources command symbols base rom e note written out
  builds program e note is comes writes =
      let all : Builds (Ok program) = subst Builds is comes in
      (all.0, all.1, program_written held notes base rom all.0 program e note written out all.2 writes)

  pub builds_none : (report : Report) → answer ≡ Err report → Builds answer → Stay written.0 written.1 → Keeps out.0 out.1 → BuildsToDisk held notes sources command symbols base rom report.ending (string_bytes report.note) written out
  builds_none report is comes stay keeps =
      let all : Builds (Err report) = subst Builds is comes in
      (all.0, all.1, program_reported held notes base rom all.0 report written out all.2 stay keeps)

-- ---- EPROMs that are asked for

ok_asked : (meant : Result RomAsked (List ℕ)) (asked : RomAsked) → IsAsked meant (Ok asked) → IsAsked (meant >>= λ a. Ok (Some a)) (Ok (Some asked))
ok_asked (Ok all) asked same = ap Some same
ok_asked (Err line) asked none = absurd none

none_asked : (meant : Result RomAsked (List ℕ)) (e : Ending) → IsAsked meant (Err e) → IsAsked (meant >>= λ a. Ok (Some a)) (Err e)
none_asked (Ok all) e none = absurd none
none_asked (Err line) e told = told

module _ (size : Option (Bor (List ℕ))) (argument : Bor (List ℕ)) (fill : Option (List ℕ)) (answer : Result RomAsked Ending) (is_size : size ≡ Some argument) (told : IsAsked (shaped argument.now fill (shape_of argument.now)) answer) where
  abbrev Meant : Result RomAsked (List ℕ)
  Meant = shaped argument.now fill (shape_of argument.now)

  of_size : (all : Result (Option RomAsked) Ending) → IsAsked (Meant >>= λ a. Ok (Some a)) all → IsAsked (rom_asked (text_of size) fill) all
  of_size all asks = subst (λ (s : Option (Bor (List ℕ))). IsAsked (rom_asked (text_of s) fill) all) (sym is_size) asks

  pub size_asked : (asked : RomAsked) → answer ≡ Ok asked → IsAsked (rom_asked (text_of size) fill) (Ok (Some asked))
  size_asked asked is = of_size (Ok (Some asked)) (ok_asked Meant asked (subst (λ (a : Result RomAsked Ending). IsAsked Meant a) is told))

  pub size_misused : (e : Ending) → answer ≡ Err e → IsAsked (rom_asked (text_of size) fill) (Err e)
  size_misused e is = of_size (Err e) (none_asked Meant e (subst (λ (a : Result RomAsked Ending). IsAsked Meant a) is told))

module _ (held : Held) (opens : Opens) (task : BuildTask) (note : List ℕ) (written : Wrote) (out : Printed) where
  of_asked : (meant : Result (Option RomAsked) (List ℕ)) (rom : Option RomAsked) (e : Ending) → IsAsked meant (Ok rom) → BuildsWith held opens task rom e note written out → BuildsAsked held opens task meant e note written out
  of_asked (Ok meant) rom e same done = subst (λ (r : Option RomAsked). BuildsWith held opens task r e note written out) same done
  of_asked (Err line) rom e none done = absurd none

  of_misuse : (meant : Result (Option RomAsked) (List ℕ)) (e : Ending) → IsAsked meant (Err e) → note ≡ [] → Stay written.0 written.1 → Keeps out.0 out.1 → BuildsAsked held opens task meant e note written out
  of_misuse (Ok meant) e told none stay keeps = absurd told
  of_misuse (Err line) e told none stay keeps = (told, none, stay, keeps)

  pub builds_asked : (meant : Result (Option RomAsked) (List ℕ)) (answer : Result (Option RomAsked) Ending) (rom : Option RomAsked) (e : Ending) → IsAsked meant answer → answer ≡ Ok rom → BuildsWith held opens task rom e note written out
      → BuildsAsked held opens task meant e note written out
  builds_asked meant answer rom e asked is done = of_asked meant rom e (subst (λ (a : Result (Option RomAsked) Ending). IsAsked meant a) is asked) done

  pub builds_misused : (meant : Result (Option RomAsked) (List ℕ)) (answer : Result (Option RomAsked) Ending) (found e : Ending) → IsAsked meant answer → answer ≡ Err found → e ≡ found → note ≡ [] → Stay written.0 written.1 → Keeps out.0 out.1
      → BuildsAsked held opens task meant e note written out
  builds_misused meant answer found e asked is same none stay keeps =
      let told = of_misuse meant found (subst (λ (a : Result (Option RomAsked) Ending). IsAsked meant a) is asked) none stay keeps in
      subst (λ (x : Ending). BuildsAsked held opens task meant x note written out) (sym same) told

-- ---- tasks

pub does_assemble : (held : Held) (opens : Opens) (task : AssembleTask) (names definitions folders : List (Bor (List ℕ))) (notes : SourceNotes) (e : Ending) (note : List ℕ) (written : Wrote) → names ≡ task.source ∷ [] → definitions ≡ task.reading.definitions.items → folders ≡ task.reading.folders.items
    → AreNotesUnder task.faults None (record { names = texts_of names; definitions = texts_of definitions; folders = texts_of folders }) [] notes
    → Assembles (read_by (task.source.now ∷ []) [] task.reading opens held) notes (definitions_in task.reading) task.source.now task.object.now (text_of task.listing) e note written → DoesAssemble held opens task e note written
does_assemble held opens task names definitions folders notes e note written named defined found asked writes =
    let sources = sources_seen names definitions folders (task.source ∷ []) task.reading named defined found in
    (notes, subst (λ (s : SourceNames). AreNotesUnder task.faults None s [] notes) sources asked, writes)

pub does_link : (held : Held) (task : LinkTask) (notes : SourceNotes) (none : SourceNames) (shown names : List (Bor (List ℕ))) (told : Result Built Fault) (e : Ending) (note : List ℕ) (written : Wrote) → none ≡ plain_names [] → shown ≡ task.objects.items
    → AreNotesUnder task.faults (Some task.command) none (texts_of shown) notes → names ≡ task.objects.items → LinksFrom held task.command.now (texts_of names) told → WritesLinked held notes task.base.now told e note written
    → DoesLink held task e note written
does_link held task notes none shown names told e note written plain of asked same comes writes =
    let of_plain = subst (λ (s : SourceNames). AreNotesUnder task.faults (Some task.command) s (texts_of shown) notes) plain asked in
    let of_shown = subst (λ (ns : List (Bor (List ℕ))). AreNotesUnder task.faults (Some task.command) (plain_names []) (texts_of ns) notes) of of_plain in
    (notes, of_shown, (told, subst (λ (ns : List (Bor (List ℕ))). LinksFrom held task.command.now (texts_of ns) told) same comes, writes))

pub does_build : (held : Held) (opens : Opens) (task : BuildTask) (rom : Option RomAsked) (given : SourceNames) (notes : SourceNotes) (e : Ending) (note : List ℕ) (written : Wrote) (out : Printed) → given ≡ sources_under task.sources.items task.reading
    → AreNotesUnder task.faults task.command given [] notes
    → BuildsToDisk (read_by (texts_of task.sources.items) (text_of task.command ∷ []) task.reading opens held) notes (sources_under task.sources.items task.reading) (text_of task.command) (text_of task.symbols) task.base.now rom e note written out
    → BuildsWith held opens task rom e note written out
does_build held opens task rom given notes e note written out same asked builds =
    (notes, subst (λ (s : SourceNames). AreNotesUnder task.faults task.command s [] notes) same asked, builds)

-- the program of sources that are lent, or the report of why there is none
pub builds_or_reports : (read whole : Held) (notes : SourceNotes) (given meant : SourceNames) (command symbols : Option (List ℕ)) (told : Result Program Fault) (answer : Result Program Report) → given ≡ meant → read ≡ whole
    → BuildsProgram read given command symbols told → IsAnswerOrReport read notes told answer → BuildsOrReports whole notes meant command symbols answer
builds_or_reports read whole notes given meant command symbols told answer same of_read comes reports =
    let of_sources = subst (λ (s : SourceNames). BuildsProgram read s command symbols told) same comes in
    (told, subst (λ (h : Held). BuildsProgram h meant command symbols told) of_read of_sources, subst (λ (h : Held). IsAnswerOrReport h notes told answer) of_read reports)

-- the output files of a source that is lent, or the report of why there are none
pub asm_or_reports : (read whole : Held) (notes : SourceNotes) (definitions meant : List (List ℕ)) (source object : List ℕ) (listing : Option (List ℕ)) (told : Result (Vec Output Global) Fault) (answer : Result (Vec Output Global) Report)
    → definitions ≡ meant → read ≡ whole → AsmOutputs read definitions source object listing told → IsAnswerOrReport read notes told answer → AsmOrReport whole notes meant source object listing answer
asm_or_reports read whole notes definitions meant source object listing told answer same of_read comes reports =
    let of_definitions = subst (λ (ds : List (List ℕ)). AsmOutputs read ds source object listing told) same comes in
    (told, subst (λ (h : Held). AsmOutputs h meant source object listing told) of_read of_definitions, subst (λ (h : Held). IsAnswerOrReport h notes told answer) of_read reports)
