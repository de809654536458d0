use Rattle.std.proofs.Common.{◌≡◌, ◌∙◌, refl, subst, sym, ℕ, true, List}
use Rattle.std.specs.FinMap as finite
use Rattle.std.specs.Ordering.{nat_cmp}
use Rattle.std.specs.Prelude.{Result}
use Rattle.c25_image_source.specs.Words.{Answer, AreHexWords, WordsMap, hex_given, is_hex, text_given}
use Rattle.c25_image_source.specs.declared.fault.ImageFault.{ImageFault}
use Rattle.c25_image_source.proofs.words.hex_words.Goals as goal

is_given : (name bytes : List ℕ) → is_hex bytes ≡ true → hex_given name bytes ≡ text_given name bytes
is_given name bytes e = rw e refl

given : (name bytes : List ℕ) (answer : Answer WordsMap) → is_hex bytes ≡ true → AreHexWords (text_given name bytes) answer → AreHexWords (hex_given name bytes) answer
given name bytes answer e words = subst (λ (r : Result (finite.FinMap nat_cmp ℕ) (ImageFault (List ℕ))). AreHexWords r answer) (sym (is_given name bytes e)) words

pub returns-then-is_hex : goal.returns-then-is_hex
returns-then-is_hex c = given c.args.name.now c.args.bytes.now c.hex_text.result (sym c.is_hex.ensures ∙ c.if-is_hex.true) c.hex_text.ensures
