use Rattle.std.proofs.Common.{List, ℕ, [], ◌∷◌, ◌++◌, sym, ap, subst, ◌∙◌, string_bytes}
use Rattle.std.specs.Map.Iter.{deref_pair}
use Rattle.std.proofs.lemmas.Map.Iter.{rest_more, rest_all}
use Rattle.c25_hex.specs.Hex.{SpellsWords}
use Rattle.c25_hex.specs.HexText.{text_of, end_line}
use Rattle.c25_hex.specs.View.{stretch_of}
use Rattle.c25_hex.specs.declared.writer.Writer.{Writer}
use Rattle.c25_hex.proofs.ReadBack.{read_back}
use Rattle.c25_hex.proofs.WriterSteps.{all_written, none_written}
use Rattle.c25_hex.proofs.writing.write_hex.Goals.{in-Some+in_ok-put_words-in-Some, in-None}
use Rattle.c25_hex.proofs.writing.write_hex.Goals as goal

pub returns-clause-written : goal.returns-clause-written
returns-clause-written c =
    elim c.match-next.branch [
      | in-Some+in_ok-put_words-in-Some w ↦
          (let took = rest_more deref_pair c.iter-entries.result c.next.new.self c.next.result (w.in-Some.address, w.in-Some.word) w.in-Some.is c.next.ensures.steps in
          all_written (string_bytes c.put_end.new.self.text) (string_bytes w.put_words.new.self.text) (string_bytes c.new.result) c.args.words.now (w.in-Some.address.now, w.in-Some.word.now)
          c.next.new.self c.iter-entries.result (stretch_of w.alone.result) c.new.ensures.bytes c.iter-entries.ensures.entries took w.alone.ensures w.in_ok-put_words-in-Some.ensures
          (c.in_ok-put_end.ensures ∙ ap (λ (v : Writer). string_bytes v.text ++ text_of (end_line ∷ [])) w.writer-is))
      | in-None w ↦
          (let none = rest_all deref_pair c.iter-entries.result c.next.new.self c.next.result w.in-None.is c.next.ensures.steps in
          none_written (string_bytes c.put_end.new.self.text) (string_bytes c.new.result) c.args.words.now c.iter-entries.result c.new.ensures.bytes c.iter-entries.ensures.entries none
          (c.in_ok-put_end.ensures ∙ ap (λ (v : Writer). string_bytes v.text ++ text_of (end_line ∷ [])) w.writer-is))
    ]

pub returns-clause-spelled : goal.returns-clause-spelled
returns-clause-spelled c =
    let P : List ℕ → Type 0 = λ text. SpellsWords text c.args.words.now in
    subst P (sym (returns-clause-written c)) (read_back c.args.words.now c.iter-entries.ensures.in_range)
