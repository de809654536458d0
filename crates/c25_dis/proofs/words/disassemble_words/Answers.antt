use Rattle.std.proofs.Common.{◌≡◌, ℕ, ◌+◌, ◌-◌, subst, arith, string_bytes}
use Rattle.c25_dis.specs.Words.{AreWords, IsAddressText, is_before, word_at}
use Rattle.c25_dis.proofs.Passed.{one_address}
use Rattle.c25_dis.proofs.words.disassemble_words.Goals as goal

pub loop-passed-preserved : goal.loop-passed-preserved
loop-passed-preserved c =
    let words = c.args.words.now in
    let n = c.loop-passed.passed in
    let was = c.loop-passed.end in
    let own = c.in_ok-end.ensures in
    let is = subst (λ (a : ℕ). IsAddressText (word_at words (a + n)) (word_at words (a + n + 1)) (is_before (a + n) was) (a + n) was c.in_ok-end.end own.0) c.from.ensures own.1 in
    one_address words c.args.from n was c.in_ok-end.end (string_bytes c.loop-passed.text) own.0 (string_bytes c.push_address_text.new.text) is own.2 c.loop-passed.invariant

pub returns : goal.returns
returns c =
    let end = c.loop-passed.end in
    let all : c.loop-passed.passed ≡ 65536 - c.args.from = omega (arith, c.loop-passed-test.false, c.loop-passed.auto.passed-end, c.from-passed-end.ensures) in
    (end, subst (λ (n : ℕ). AreWords c.args.words.now c.args.from n end (string_bytes c.loop-passed.text)) all c.loop-passed.invariant)
