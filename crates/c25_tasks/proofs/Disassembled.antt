-- Files that are taken for hex texts, and arguments of `--from` that are no address.
use Rattle.std.proofs.Common.{◌≡◌, ◌∙◌, sym, ap, subst, ℕ, List, [], Bool, true, false, refl, string_bytes}
use Rattle.std.specs.Io.KnownBytes.{Keeps}
use Rattle.std.specs.FinMap as map
use Rattle.std.specs.Ordering.{nat_cmp}
use Rattle.std.specs.Prelude.{Result, Err, IfSome, None, Option, Some, String}
use Rattle.std.specs.Str.{IsUtf8, is_utf8}
use Rattle.std.specs.declared.alloc.Global.{Global}
use Rattle.std.proofs.lemmas.Str.{IsUtf8-from_is_utf8, is_utf8-from_IsUtf8}
use Rattle.c25_chain.specs.Refusal.{Fault, IsRefusedAs, refusal_of}
use Rattle.c25_chain.specs.declared.fault.ChainFault.{ChainFault}
use Rattle.c25_chain.specs.declared.fault.ChainFault.TheVariants.{File}
use Rattle.c25_disk.specs.declared.fault.FileFault.TheVariants.{CannotRead}
use Rattle.c25_disk.specs.Held.{Held}
use Rattle.c25_source_notes.specs.declared.notes.SourceNotes.{SourceNotes}
use Rattle.c25_hex.specs.Hex.{SpellsWords}
use Rattle.c25_meaning_common.specs.Digits.{hexadecimal_of}
use Rattle.c25_meaning_common.specs.Results.{FailsBy}
use Rattle.c25_meaning_common.specs.declared.failure.Failure.TheVariants as failure
use Rattle.c25_report.specs.declared.ending.Ending.{Ending}
use Rattle.c25_report.specs.declared.ending.Report.{Report}
use Rattle.c25_tasks.proofs.Noted.{line_reported}
use Rattle.c25_tasks.specs.Disassembly.{DisassemblesFrom, HasGap, IsGivenText, IsRemarked, IsTextOf, PrintsWords, address_of, gap_remark, given_by, given_in, no_address_line, stand_from}
use Rattle.c25_tasks.specs.Running.{is_explained}
use Rattle.c25_tasks.specs.Tells.{IsLineOf, Printed, TellsAnswers}

is_given : (name bytes : List ℕ) → is_utf8 bytes ≡ true → given_in (name, bytes) ≡ given_by bytes
is_given name bytes e = rw e refl

pub text_given : (start : ℕ) (name bytes shown text : List ℕ) (answer : Result (String Global) Fault) → shown ≡ bytes → text ≡ shown → IsUtf8 shown → IsTextOf (IsGivenText start) (given_by text) answer
    → IsTextOf (IsGivenText start) (given_in (name, bytes)) answer
text_given start name bytes shown text answer is read utf8 given =
    let of_bytes = subst (λ (t : List ℕ). IsTextOf (IsGivenText start) (given_by t) answer) (read ∙ is) given in
    let as_given = is_given name bytes (is_utf8-from_IsUtf8 bytes (subst IsUtf8 is utf8)) in
    subst (λ (r : Result (map.FinMap nat_cmp ℕ) (ChainFault (List ℕ))). IsTextOf (IsGivenText start) r answer) (sym as_given) of_bytes

not_text : (bytes : List ℕ) → (IsUtf8 bytes → ⊥) → is_utf8 bytes ≡ false
not_text bytes none = by (is_utf8 bytes) refl
  where
    by : (b : Bool) → is_utf8 bytes ≡ b → is_utf8 bytes ≡ false
    by true e = absurd (none (IsUtf8-from_is_utf8 bytes e))
    by false e = e

pub text_refused : (name bytes shown : List ℕ) (fault : Fault) → shown ≡ bytes → (IsUtf8 shown → ⊥) → IsRefusedAs (File (record { place = name; fault = CannotRead })) fault
    → FailsBy refusal_of (given_in (name, bytes)) fault
text_refused name bytes shown (failure.NoMemory n) is none refused = tt
text_refused name bytes shown (failure.Fault f) is none refused = rw (not_text bytes (λ utf8. none (subst IsUtf8 (sym is) utf8))) (ap Err (sym refused))

-- the argument of `--from` is no address
pub no_address : (held : Held) (notes : SourceNotes) (name word shown : List ℕ) (found : Option ℕ) (ending : Ending) (report : Report) (out : Printed) → found ≡ hexadecimal_of 1 shown → shown ≡ word → found ≡ None → report.ending ≡ ending → string_bytes report.note ≡ [] → IsLineOf (no_address_line word) ending → Keeps out.0 out.1
    → DisassemblesFrom held notes name word (address_of word) report.ending (string_bytes report.note) out
no_address held notes name word shown found ending report out read is none same quiet line keeps =
    let address : address_of word ≡ None = ap (hexadecimal_of 1) (sym is) ∙ sym read ∙ none in
    let reported = line_reported (no_address_line word) ending report same quiet line in
    subst (λ (start : Option ℕ). DisassemblesFrom held notes name word start report.ending (string_bytes report.note) out) (sym address) (reported.0, reported.1, keeps)

-- the words of a hex text are printed, and what is said of a gap stands after that
pub words_printed : (held : Held) (notes : SourceNotes) (start : ℕ) (file : List ℕ × List ℕ) (answer : Result (String Global) Fault) (before ending : Ending) (front note : List ℕ) (out : Printed) → IsTextOf (IsGivenText start) (given_in file) answer
    → TellsAnswers held notes answer before front out → ending ≡ before → IsRemarked (is_explained notes) file before front note → PrintsWords held notes start file ending note out
words_printed held notes start file answer before ending front note out holds told same remarked =
    subst (λ (e : Ending). PrintsWords held notes start file e note out) (sym same) (front, (answer, holds, told), remarked)

-- what is said of a text whose words have a gap
pub gap_remarked : (name shown bytes : List ℕ) (words : map.FinMap nat_cmp ℕ) (answer : Option (String Global)) → shown ≡ bytes → SpellsWords shown words
    → IfSome answer (λ text. (stand_from 0 (map.entries words) ≡ false) × (string_bytes text ≡ gap_remark name)) → IfSome answer (λ text. HasGap bytes × (string_bytes text ≡ gap_remark name))
gap_remarked name shown bytes words (Some text) is spelled said = ((words, subst (λ (t : List ℕ). SpellsWords t words) is spelled, said.0), said.1)
gap_remarked name shown bytes words None is spelled said = tt
