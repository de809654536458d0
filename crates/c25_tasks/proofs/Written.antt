-- Files that are written, and what is printed after them.
use Rattle.std.proofs.Common.{◌≡◌, ◌∙◌, ap, ap₂, inl, inr, sym, subst, ◌⊎◌, ◌++◌, [], ℕ, Bool, true, false, List, append-nil, map, string_bytes}
use Rattle.std.specs.Io.KnownBytes.{Keeps}
use Rattle.std.specs.Prelude.{Option, Some, None, Result, Ok, Err}
use Rattle.c25_chain.specs.Refusal.{Fault}
use Rattle.c25_chain.specs.declared.built.Built.{Built}
use Rattle.c25_disk.specs.Held.{Adds, Held, Stay}
use Rattle.c25_disk.specs.Written.{contents_of}
use Rattle.c25_disk.specs.declared.writing.Output.{Output}
use Rattle.c25_meaning_common.specs.Results.{FailsBy}
use Rattle.c25_meaning_common.specs.declared.failure.Failure.{Failure}
use Rattle.c25_meaning_common.specs.declared.failure.Failure.TheVariants as failure
use Rattle.c25_meaning_expansion.specs.Files.{Files}
use Rattle.c25_report.specs.Ending.{IsPrinted, IsShort}
use Rattle.c25_report.specs.ProgramFiles.{files_of}
use Rattle.c25_report.specs.declared.ending.Ending.{Ending}
use Rattle.c25_report.specs.declared.ending.Ending.TheVariants.{Done}
use Rattle.c25_report.specs.declared.texts.ProgramFileTexts.{ProgramFileTexts}
use Rattle.c25_rom.specs.Made.{Made, made, made_of}
use Rattle.c25_rom.specs.View as rom
use Rattle.c25_rom.specs.declared.fault.PastRom.{PastRom}
use Rattle.c25_rom.specs.declared.files.RomFile.{RomFile}
use Rattle.c25_rom.specs.declared.made.MadeRom.{MadeRom}
use Rattle.c25_source_notes.specs.declared.notes.SourceNotes.{SourceNotes}
use Rattle.c25_tasks.specs.BuildToDisk.{WritesAndPrints, WritesProgram, WritesRom}
use Rattle.c25_tasks.specs.Building.{and_file, program_files, texts_in}
use Rattle.c25_tasks.specs.Linking.{WritesLinked}
use Rattle.c25_tasks.specs.Roms.{IsPastReport}
use Rattle.c25_tasks.specs.Running.{is_explained}
use Rattle.c25_tasks.specs.Tells.{IsReportOf, IsShortOf, IsUnwrittenAmong, Printed, Wrote, Writes, WritesTexts, is_done}
use Rattle.c25_tasks.specs.declared.roms.RomAsked.{RomAsked}
use Rattle.c25_tasks.specs.declared.texts.Program.{Program}

module _ (held : Held) (notes : SourceNotes) (files : Files) (e : Ending) (note : List ℕ) (written : Wrote) where
  -- ---- files

  pub writes_texts : (outputs shown : List Output) → map contents_of outputs ≡ files → shown ≡ outputs → Writes held notes (map contents_of shown) e note written → WritesTexts held notes files e note written
  writes_texts outputs shown are same writes =
      inl (subst (λ (fs : Files). Writes held notes fs e note written) (ap (λ (os : List Output). map contents_of os) same ∙ are) writes)

  pub without_roms : WritesTexts held notes (files ++ []) e note written → WritesTexts held notes files e note written
  without_roms = subst (λ (fs : Files). WritesTexts held notes fs e note written) (append-nil files)

  -- ---- what is done

  fault_undone : (fault : Fault) → IsReportOf held notes fault e note → is_done e ≡ false
  fault_undone (failure.NoMemory n) (is, none) = ap is_done is
  fault_undone (failure.Fault f) (inl ((line, is, text), noted)) = ap is_done is
  fault_undone (failure.Fault f) (inr ((n, is), none)) = ap is_done is

  pub all_written : WritesTexts held notes files e note written → is_done e ≡ true → Adds written.0 written.1 files
  all_written (inl (inl (is, none, adds))) done = adds
  all_written (inl (inr (file, ends, (fault, refused, comes)))) done = let clash = sym (fault_undone fault comes) ∙ done in absurd cc
  all_written (inr ((n, is), none, stay)) done = let clash = sym (ap is_done is) ∙ done in absurd cc

  pub not_written : WritesTexts held notes files e note written → is_done e ≡ false → IsUnwrittenAmong held notes files e note written ⊎ IsShortOf e note written
  not_written (inl (inl (is, none, adds))) undone = let clash = sym (ap is_done is) ∙ undone in absurd cc
  not_written (inl (inr unwritten)) undone = inl unwritten
  not_written (inr short) undone = inr short

  -- ---- EPROMs

  module _ (meant : Result Made PastRom) (out : Printed) where
    pub rom_written : (r : MadeRom) → meant ≡ Ok (made r) → WritesAndPrints held notes (files ++ map rom.contents_of r.files.items) (string_bytes r.lines) e note written out → WritesRom held notes files meant e note written out
    rom_written r is writes = subst (λ (m : Result Made PastRom). WritesRom held notes files m e note written out) (sym is) writes

    pub rom_past : (past : PastRom) (explain : Bool) → meant ≡ Err past → explain ≡ is_explained notes → IsPastReport explain past e note → Stay written.0 written.1 → Keeps out.0 out.1 → WritesRom held notes files meant e note written out
    rom_past past explain is asked reports stay keeps =
        let of_notes = subst (λ (b : Bool). IsPastReport b past e note) asked reports in
        subst (λ (m : Result Made PastRom). WritesRom held notes files m e note written out) (sym is) (of_notes, stay, keeps)

pub rom_short : (held : Held) (notes : SourceNotes) (files : Files) (e : Ending) (note : List ℕ) (written : Wrote) (out : Printed) (meant : Result Made PastRom) → IsShort e → note ≡ [] → Stay written.0 written.1 → Keeps out.0 out.1 → WritesRom held notes files meant e note written out
rom_short held notes files e note written out (Ok r) short none stay keeps = inr (inr (short, none, stay), keeps)
rom_short held notes files e note written out (Err past) short none stay keeps = (inr (short, none), stay, keeps)

-- the texts of a program and the files of its EPROMs, seen through what they are lent as
pub files_seen : (base : List ℕ) (texts : ProgramFileTexts) (built : Built) (symbols : Option Output) (shown roms : List RomFile) → texts ≡ texts_in built → shown ≡ roms
    → and_file (files_of base texts) symbols ++ map rom.contents_of shown ≡ and_file (files_of base (texts_in built)) symbols ++ map rom.contents_of roms
files_seen base texts built symbols shown roms of same =
    ap₂ (λ (ts : ProgramFileTexts) (rs : List RomFile). and_file (files_of base ts) symbols ++ map rom.contents_of rs) of same

pub texts_seen : (held : Held) (notes : SourceNotes) (files shown : Files) (e : Ending) (note : List ℕ) (written : Wrote) → shown ≡ files → WritesTexts held notes shown e note written → WritesTexts held notes files e note written
texts_seen held notes files shown e note written same = subst (λ (fs : Files). WritesTexts held notes fs e note written) same

-- ---- programs without EPROMs

pub program_written : (held : Held) (notes : SourceNotes) (base : List ℕ) (texts : ProgramFileTexts) (program : Program) (e : Ending) (note : List ℕ) (written : Wrote) → texts ≡ texts_in program.built
    → WritesTexts held notes (and_file (files_of base texts) program.symbols ++ []) e note written → WritesTexts held notes (program_files base program) e note written
program_written held notes base texts program e note written of writes =
    let of_built = subst (λ (ts : ProgramFileTexts). WritesTexts held notes (and_file (files_of base ts) program.symbols ++ []) e note written) of writes in
    without_roms held notes (program_files base program) e note written of_built

pub linked_written : (held : Held) (notes : SourceNotes) (base : List ℕ) (told : Result Built Fault) (built : Built) (e : Ending) (note : List ℕ) (written : Wrote) → told ≡ Ok built → WritesTexts held notes (files_of base (texts_in built)) e note written
    → WritesLinked held notes base told e note written
linked_written held notes base told built e note written is = subst (λ (t : Result Built Fault). WritesLinked held notes base t e note written) (sym is)

-- ---- programs with EPROMs

-- what is reported of files that were not all written, and nothing is printed then
pub not_printed : (held : Held) (notes : SourceNotes) (files : Files) (text : List ℕ) (e : Ending) (note : List ℕ) (written : Wrote) (out : Printed) → WritesTexts held notes files e note written → is_done e ≡ false → Keeps out.0 out.1
    → WritesAndPrints held notes files text e note written out
not_printed held notes files text e note written out writes undone keeps = inr (not_written held notes files e note written writes undone, keeps)

-- what is printed after files that were all written
pub printed : (held : Held) (notes : SourceNotes) (files : Files) (text seen : List ℕ) (before : Ending) (noted : List ℕ) (shown e : Ending) (note : List ℕ) (written : Wrote) (out : Printed) → WritesTexts held notes files before noted written
    → is_done before ≡ true → seen ≡ text → IsPrinted seen Done shown out.0 out.1 → e ≡ shown → note ≡ [] → WritesAndPrints held notes files text e note written out
printed held notes files text seen before noted shown e note written out writes done is prints same none =
    let of_text = subst (λ (t : List ℕ). IsPrinted t Done shown out.0 out.1) is prints in
    inl (subst (λ (x : Ending). IsPrinted text Done x out.0 out.1) (sym same) of_text, none, all_written held notes files before noted written writes done)

-- a word has no place in the EPROMs, by the failure of making them
pub past_meant : (meant : Result Made PastRom) (failed : Failure PastRom) (past : PastRom) → failed ≡ failure.Fault past → FailsBy (λ f. f) meant failed → meant ≡ Err past
past_meant meant failed past is fails = subst (λ (f : Failure PastRom). FailsBy (λ p. p) meant f) is fails

-- ---- programs, by whether EPROMs are asked for

module _ (held : Held) (notes : SourceNotes) (base : List ℕ) (rom_of : Option RomAsked) (program : Program) (e : Ending) (note : List ℕ) (written : Wrote) (out : Printed) where
  pub none_written : rom_of ≡ None → WritesTexts held notes (program_files base program) e note written → Keeps out.0 out.1 → WritesProgram held notes base rom_of program e note written out
  none_written is writes keeps = subst (λ (r : Option RomAsked). WritesProgram held notes base r program e note written out) (sym is) (writes, keeps)

  pub some_written : (asked : RomAsked) → rom_of ≡ Some asked → WritesRom held notes (program_files base program) (made_of base asked.shape program.built.linked.image.program asked.fill) e note written out
      → WritesProgram held notes base rom_of program e note written out
  some_written asked is writes = subst (λ (r : Option RomAsked). WritesProgram held notes base r program e note written out) (sym is) writes
