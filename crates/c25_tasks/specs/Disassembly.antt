-- An object or a hex text on a disk, disassembled, and where printing begins.
use Rattle.std.specs.Prelude.{◌≡◌, ◌⊎◌, ℕ, ◌+◌, ◌==◌, Bool, true, false, if◌then◌else◌, List, [], ◌∷◌, ◌++◌, codes, Option, Some, None, unwrap_or, Result, Ok, Err, String}
use Rattle.std.specs.Io.KnownBytes.{Keeps}
use Rattle.std.specs.FinMap as map
use Rattle.std.specs.Ordering.{nat_cmp}
use Rattle.std.specs.Str.{is_utf8}
use Rattle.std.specs.String.{string_bytes}
use Rattle.std.specs.declared.alloc.Global.{Global}
use Rattle.c25_chain.specs.Refusal.{Fault, refusal_of}
use Rattle.c25_chain.specs.declared.fault.ChainFault.{ChainFault}
use Rattle.c25_chain.specs.declared.fault.ChainFault.TheVariants.{File, Hex}
use Rattle.c25_dis.specs.Sections.{IsModuleText}
use Rattle.c25_dis.specs.Words.{IsWordsText}
use Rattle.c25_disk.specs.Held.{Held, IsAllOf}
use Rattle.c25_disk.specs.declared.fault.FileFault.TheVariants.{CannotRead}
use Rattle.c25_meaning_common.specs.Digits.{hexadecimal_of}
use Rattle.c25_meaning_common.specs.Results.{FailsBy, MeetsBy, told}
use Rattle.c25_hex.specs.Hex.{HasWordsOf, SpellsWords, bytes_given}
use Rattle.c25_meaning_objects.specs.Module.{Contents}
use Rattle.c25_report.specs.declared.ending.Ending.{Ending}
use Rattle.c25_image_source.specs.declared.asked.Printing.{Printing}
use Rattle.c25_inputs.specs.Files.{IsUnread, plain_names}
use Rattle.c25_inputs.specs.Objects.{module_in}
use Rattle.c25_options.specs.Task.{text_of}
use Rattle.c25_source_notes.specs.declared.notes.SourceNotes.{SourceNotes}
use Rattle.c25_tasks.specs.Reading.{AreNotesUnder, Noting}
use Rattle.c25_tasks.specs.Running.{is_explained}
use Rattle.c25_tasks.specs.Tells.{IsLineOf, IsReportOf, Printed, TellsAnswers, is_done}

-- an answer is a text of what is meant, or the fault, unless memory ran out
abbrev pub IsTextOf : {A : Type 0} → (A → List ℕ → Type 0) → Result A (ChainFault (List ℕ)) → Result (String Global) Fault → Type 0
IsTextOf {A} Is meant (Ok text) = (a : A) × (meant ≡ Ok a) × Is a (string_bytes text)
IsTextOf Is meant (Err fault) = FailsBy refusal_of meant fault

-- ---- hex texts

-- the bytes that a text gives by their addresses, or its first fault (80 to 89)
abbrev pub given_by : List ℕ → Result (map.FinMap nat_cmp ℕ) (ChainFault (List ℕ))
given_by text = told Hex (bytes_given text)

-- the bytes that a file with its name gives by their addresses, or its first fault: it is not UTF-8 (8), or a
-- line is invalid
abbrev pub given_in : List ℕ × List ℕ → Result (map.FinMap nat_cmp ℕ) (ChainFault (List ℕ))
given_in file = if is_utf8 file.1 then given_by file.1 else Err (File (record { place = file.0; fault = CannotRead }))

-- a text is that of the words of these bytes, from an address on
abbrev pub IsGivenText : ℕ → map.FinMap nat_cmp ℕ → List ℕ → Type 0
IsGivenText start given text = (words : map.FinMap nat_cmp ℕ) × HasWordsOf given words × IsWordsText words start text

-- whether words in the order of their addresses stand one after another from an address on
unfoldable pub stand_from : ℕ → List (ℕ × ℕ) → Bool
stand_from address [] = true
stand_from address (word ∷ words) = if word.0 == address then stand_from (address + 1) words else false

-- a text spells words that do not stand one after another from address 0 on: some address has no word, and a later one has
abbrev pub HasGap : List ℕ → Type 0
HasGap text = (words : map.FinMap nat_cmp ℕ) × SpellsWords text words × (stand_from 0 (map.entries words) ≡ false)

-- what is said of such a text of this name: that its instructions are no source as they are printed, and what writes one
abbrev pub gap_remark : List ℕ → List ℕ
gap_remark name =
    name ++ codes ": no source as it is printed, since its words do not stand one after another from 0000 on\n"
    ++ (name ++ (codes ": c25 dis --source " ++ (name ++ codes " --out BASE writes one\n")))

-- after a text with its name was printed without a fault, this is said of it where it has a gap and explanations are asked for, unless
-- memory runs out for that; else the note is as it was
abbrev pub IsRemarked : (explain : Bool) → List ℕ × List ℕ → Ending → (front note : List ℕ) → Type 0
IsRemarked explain file e front note = (note ≡ front) ⊎ ((explain ≡ true) × (is_done e ≡ true) × HasGap file.1 × (note ≡ gap_remark file.0))

-- ---- files

-- whether bytes are read as a hex text: they begin with a colon, as no object does
abbrev pub is_hex : List ℕ → Bool
is_hex [] = false
is_hex (byte ∷ bytes) = byte == 58

-- the line for an object where `--from` is given
abbrev pub object_line : List ℕ → List ℕ
object_line name = codes "dis: " ++ name ++ codes " is an object, and --from is for a hex text"

-- what is reported of an object file where `--from` is given: that it is an object, or why its bytes are
-- invalid
abbrev pub TellsObject : Held → SourceNotes → List ℕ → Result Contents Fault → Ending → (note : List ℕ) → Type 0
TellsObject held notes name (Ok contents) e note = IsLineOf (object_line name) e × (note ≡ [])
TellsObject held notes name (Err fault) e note = IsReportOf held notes fault e note

-- an object file with its name, where `--from` is given: by the module that its bytes spell, or their fault,
-- it is reported that it is an object, or the fault
abbrev pub RefusesObject : Held → SourceNotes → List ℕ × List ℕ → Ending → (note : List ℕ) → Type 0
RefusesObject held notes file e note = (answer : Result Contents Fault) × MeetsBy refusal_of (λ m. m) (module_in file) answer × TellsObject held notes file.0 answer e note

-- an answer of which this holds is printed
abbrev pub Prints : Held → SourceNotes → (Result (String Global) Fault → Type 0) → Ending → (note : List ℕ) → Printed → Type 0
Prints held notes holds e note out = (answer : Result (String Global) Fault) × holds answer × TellsAnswers held notes answer e note out

-- the words of a hex text with its name are printed from an address on, and a gap of them is remarked
abbrev pub PrintsWords : Held → SourceNotes → ℕ → List ℕ × List ℕ → Ending → (note : List ℕ) → Printed → Type 0
PrintsWords held notes start file e note out =
    (front : List ℕ) × Prints held notes (IsTextOf (IsGivenText start) (given_in file)) e front out × IsRemarked (is_explained notes) file e front note

-- what is done with a file with its name, by whether it is read as a hex text, and where `--from` is given
abbrev pub DisassemblesBy : Held → SourceNotes → Bool → Option ℕ → List ℕ × List ℕ → Ending → (note : List ℕ) → Printed → Type 0
DisassemblesBy held notes true start file e note out = PrintsWords held notes (unwrap_or start 0) file e note out
DisassemblesBy held notes false None file e note out = Prints held notes (IsTextOf IsModuleText (module_in file)) e note out
DisassemblesBy held notes false (Some start) file e note out = RefusesObject held notes file e note × Keeps out.0 out.1

-- what is done with a file with its name, by its bytes
abbrev pub Disassembles : Held → SourceNotes → Option ℕ → List ℕ × List ℕ → Ending → (note : List ℕ) → Printed → Type 0
Disassembles held notes start file e note out = DisassemblesBy held notes (is_hex file.1) start file e note out

-- it is reported that a file cannot be read (8)
abbrev pub TellsUnread : Held → SourceNotes → List ℕ → Ending → (note : List ℕ) → Printed → Type 0
TellsUnread held notes name e note out = ((fault : Fault) × IsUnread name fault × IsReportOf held notes fault e note) × Keeps out.0 out.1

-- what is done with a file on a disk
abbrev pub DisassemblesNamed : Held → SourceNotes → List ℕ → Option ℕ → Ending → (note : List ℕ) → Printed → Type 0
DisassemblesNamed held notes name start e note out =
    TellsUnread held notes name e note out ⊎ ((bytes : List ℕ) × IsAllOf (held name) bytes × Disassembles held notes start (name, bytes) e note out)

-- ---- where printing begins

-- the address that the argument of `--from` gives, as in scripts
abbrev pub address_of : List ℕ → Option ℕ
address_of word = hexadecimal_of 1 word

-- the line for an argument of `--from` that is no address
abbrev pub no_address_line : List ℕ → List ℕ
no_address_line word = codes "dis: no address: " ++ word

-- what is done where `--from` is given, by the address that its argument gives
abbrev pub DisassemblesFrom : Held → SourceNotes → List ℕ → List ℕ → Option ℕ → Ending → (note : List ℕ) → Printed → Type 0
DisassemblesFrom held notes name word None e note out = IsLineOf (no_address_line word) e × (note ≡ []) × Keeps out.0 out.1
DisassemblesFrom held notes name word (Some start) e note out = DisassemblesNamed held notes name (Some start) e note out

-- what is done with a file, and the argument of `--from`, if there is one
abbrev pub DisassemblesTold : Held → SourceNotes → List ℕ → Option (List ℕ) → Ending → (note : List ℕ) → Printed → Type 0
DisassemblesTold held notes name None e note out = DisassemblesNamed held notes name None e note out
DisassemblesTold held notes name (Some word) e note out = DisassemblesFrom held notes name word (address_of word) e note out

-- what is done for a file that is to be printed, where faults are explained or not
abbrev pub DoesDisassemble : Held → (explain : Bool) → Printing → Ending → (note : List ℕ) → Printed → Type 0
DoesDisassemble held explain printing e note out =
    Noting (AreNotesUnder (record { explain = explain; all = false }) None (plain_names []) (printing.file.now ∷ []))
    (λ notes. DisassemblesTold held notes printing.file.now (text_of printing.from) e note out)
