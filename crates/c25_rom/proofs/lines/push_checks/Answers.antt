use Rattle.std.proofs.Common.{◌≡◌, ℕ, ◌/◌, ◌%◌, ◌∙◌, ◌++◌, OnOk, ap, codes, string_bytes, subst}
use Rattle.c25_meaning_common.specs.Digits.{four_digits}
use Rattle.c25_meaning_linking.specs.MapText.{eight_digits}
use Rattle.c25_rom.specs.Files.{checks_text}
use Rattle.c25_rom.proofs.Appended.{four_told}
use Rattle.c25_rom.proofs.lines.push_checks.Goals as goal

pub returns : goal.returns
unfolding checks_text eight_digits
returns c =
    let crc = subst (λ (n : ℕ). OnOk c.push_eight.result (string_bytes c.push_eight.new.text ≡ string_bytes c.push_text-2.new.text ++ (four_digits (n / 65536) ++ four_digits (n % 65536))))
    c.crc32.ensures c.push_eight.ensures in
    four_told c.push_eight.result (string_bytes c.args.text.now) (string_bytes c.push_text.new.text) (string_bytes c.push_four.new.text) (string_bytes c.push_text-2.new.text) (string_bytes c.push_eight.new.text)
    (codes " bytes sum ") _ (codes " crc32 ") _
    c.in_ok-push_text.ensures (c.in_ok-push_four.ensures ∙ ap (λ (n : ℕ). string_bytes c.push_text.new.text ++ four_digits n) c.sum_of.ensures) c.in_ok-push_text-2.ensures crc
