use Rattle.std.proofs.Common.{◌≡◌, ap, refl, subst, sym, ℕ, Bool, true, false, List, string_bytes}
use Rattle.std.proofs.lemmas.Str.{IsUtf8-from_is_utf8, is_utf8-from_IsUtf8}
use Rattle.std.specs.FinMap as finite
use Rattle.std.specs.Ordering.{nat_cmp}
use Rattle.std.specs.Prelude.{Err, Result, String}
use Rattle.std.specs.Str.{IsUtf8, is_utf8}
use Rattle.std.specs.declared.alloc.Global.{Global}
use Rattle.c25_image_source.specs.Faults.{IsUnread, image_fault}
use Rattle.c25_image_source.specs.Words.{Answer, AreHexWords, WordsMap, lines_given, text_given}
use Rattle.c25_image_source.specs.declared.fault.ImageFault.{ImageFault}
use Rattle.c25_meaning_common.specs.Results.{FailsBy}
use Rattle.c25_meaning_common.specs.declared.failure.Failure.{Failure}
use Rattle.c25_meaning_common.specs.declared.failure.Failure.TheVariants as failure
use Rattle.c25_image_source.proofs.words.hex_text.Goals as goal

is_given : (name bytes : List ℕ) → is_utf8 bytes ≡ true → text_given name bytes ≡ lines_given bytes
is_given name bytes e = rw e refl

given : (name bytes text : List ℕ) (answer : Answer WordsMap) → text ≡ bytes → IsUtf8 bytes → AreHexWords (lines_given text) answer → AreHexWords (text_given name bytes) answer
given name bytes text answer is utf8 words =
    let of_bytes = subst (λ (t : List ℕ). AreHexWords (lines_given t) answer) is words in
    subst (λ (r : Result (finite.FinMap nat_cmp ℕ) (ImageFault (List ℕ))). AreHexWords r answer) (sym (is_given name bytes (is_utf8-from_IsUtf8 bytes utf8))) of_bytes

not_text : (bytes : List ℕ) → (IsUtf8 bytes → ⊥) → is_utf8 bytes ≡ false
not_text bytes none = by (is_utf8 bytes) refl
  where
    by : (b : Bool) → is_utf8 bytes ≡ b → is_utf8 bytes ≡ false
    by true e = absurd (none (IsUtf8-from_is_utf8 bytes e))
    by false e = e

refused : (name bytes : List ℕ) (fault : Failure (ImageFault (String Global))) → (IsUtf8 bytes → ⊥) → IsUnread name fault → FailsBy image_fault (text_given name bytes) fault
refused name bytes (failure.NoMemory n) none unread = tt
refused name bytes (failure.Fault f) none unread = rw (not_text bytes none) (ap Err (sym unread))

pub returns-in-Ok : goal.returns-in-Ok
returns-in-Ok c = given c.args.name.now c.args.bytes.now c.in-Ok.text.now c.hex_lines.result c.in-Ok.ensures.cases.0 c.in-Ok.ensures.cases.1 c.hex_lines.ensures

pub returns-in-Err : goal.returns-in-Err
returns-in-Err c = refused c.args.name.now c.args.bytes.now c.no_text.result c.in-Err.ensures.cases.0 c.no_text.ensures
