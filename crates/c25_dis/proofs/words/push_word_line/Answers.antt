use Rattle.std.proofs.Common.{ℕ, ◌+◌, ◌∷◌, ◌++◌, Option, Some, option_to_list, length, refl, sym, ap, codes, string_bytes}
use Rattle.c25_dis.specs.Lines.{line_text}
use Rattle.c25_dis.specs.Words.{gap_text}
use Rattle.c25_dis.proofs.Passed.{three_behind}
use Rattle.c25_dis.proofs.words.push_word_line.Goals as goal

pub returns-in-Some : goal.returns-in-Some
returns-in-Some c =
    let address = c.args.address in
    let word = c.args.words.0 in
    let second = c.read_word-second.result.second in
    let insn = c.read_word-second.result.insn in (
      gap_text c.args.end address ++ line_text address word second insn ++ codes "\n",
      record {
        second = second;
        insn = insn;
        taken = c.read_word-second.ensures;
        end_is = ap (λ (o : Option ℕ). Some (address + length (word ∷ option_to_list o))) (sym c.in-Some.is);
        text_is = refl;
      },
      three_behind (string_bytes c.args.text.now) (gap_text c.args.end address) (line_text address word second insn) (codes "\n") (string_bytes c.push_gap.new.text) (string_bytes c.push_line.new.text) (string_bytes c.push_text.new.text)
          c.in_ok-push_gap.ensures c.in_ok-push_line.ensures c.in_ok-push_text.ensures,
    )

pub returns-in-None : goal.returns-in-None
returns-in-None c =
    let address = c.args.address in
    let word = c.args.words.0 in
    let second = c.read_word-second.result.second in
    let insn = c.read_word-second.result.insn in (
      gap_text c.args.end address ++ line_text address word second insn ++ codes "\n",
      record {
        second = second;
        insn = insn;
        taken = c.read_word-second.ensures;
        end_is = ap (λ (o : Option ℕ). Some (address + length (word ∷ option_to_list o))) (sym c.in-None.is);
        text_is = refl;
      },
      three_behind (string_bytes c.args.text.now) (gap_text c.args.end address) (line_text address word second insn) (codes "\n") (string_bytes c.push_gap.new.text) (string_bytes c.push_line.new.text) (string_bytes c.push_text.new.text)
          c.in_ok-push_gap.ensures c.in_ok-push_line.ensures c.in_ok-push_text.ensures,
    )
