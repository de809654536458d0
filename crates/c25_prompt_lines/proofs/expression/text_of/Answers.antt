use Rattle.std.proofs.Common.{◌≡◌, ℕ, Bool, true, false, List, Some, None, refl, ap, sym, ◌∙◌, if◌then◌else◌}
use Rattle.std.specs.Str.{IsUtf8, is_utf8}
use Rattle.std.proofs.lemmas.Str.{IsUtf8-from_is_utf8, is_utf8-from_IsUtf8}
use Rattle.c25_prompt_lines.specs.Expressions.{text_of}
use Rattle.c25_prompt_lines.proofs.expression.text_of.Goals as goal

a_text : (bytes : List ℕ) → IsUtf8 bytes → Some bytes ≡ text_of bytes
a_text bytes h = sym (ap (λ (b : Bool). if b then Some bytes else None) (is_utf8-from_IsUtf8 bytes h))

no_text : (bytes : List ℕ) → ¬ (IsUtf8 bytes) → (b : Bool) → is_utf8 bytes ≡ b → None ≡ (if b then Some bytes else None)
no_text bytes h true e = absurd (h (IsUtf8-from_is_utf8 bytes e))
no_text bytes h false e = refl

pub returns-in-Ok : goal.returns-in-Ok
returns-in-Ok c = ap Some c.in-Ok.ensures.cases.0 ∙ a_text c.args.bytes.now c.in-Ok.ensures.cases.1

pub returns-in-Err : goal.returns-in-Err
returns-in-Err c = no_text c.args.bytes.now c.in-Err.ensures.cases.0 (is_utf8 c.args.bytes.now) refl
