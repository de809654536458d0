use Rattle.std.proofs.Common.{◌≡◌, ◌++◌, ℕ, Bool, List, Option, ap, subst, ◌∙◌, codes, string_bytes}
use Rattle.c25_meaning_objects.specs.declared.object.ModuleMark.{ModuleMark}
use Rattle.c25_module.specs.View.{contents}
use Rattle.c25_dis.specs.Lines.{line_text}
use Rattle.c25_dis.specs.Sections.{IsReadBy, is_long, mark_at, notes_by, second_at, second_by}
use Rattle.c25_dis.proofs.Passed.{ok_then, three_behind}
use Rattle.c25_dis.proofs.section.Places.push_word_line.Goals as goal

pub returns : goal.returns
returns c =
    let m = contents c.args.self.now.parts.now in
    let section = c.args.self.now.section in
    let place = c.args.place in
    let first = c.args.first in
    let second = c.second_at-second.result in
    let insn = c.marked_instruction-insn.result in
    let mark : c.mark_at-mark.result ≡ mark_at m section place = c.mark_at-mark.ensures in
    let same : second ≡ second_at m section place =
    c.second_at-second.ensures ∙ ap (λ (b : Bool). second_by b c.args.words.now place) (c.is_long.ensures ∙ ap is_long mark)
    ∙ ap (λ (words : List ℕ). second_by (is_long (mark_at m section place)) words place) c.requires.words in
    ok_then c.push_text.result c.push_text.ensures (λ ended. (
      line_text place first second insn ++ notes_by second m section place ++ codes "\n",
      record {
        insn = insn;
        read = subst (λ (o : Option ℕ). IsReadBy (mark_at m section place) first o insn) same
            (subst (λ (o : Option ModuleMark). IsReadBy o first second insn) mark c.marked_instruction-insn.ensures);
        text_is = ap (λ (o : Option ℕ). line_text place first o insn ++ notes_by o m section place ++ codes "\n") same;
      },
      three_behind (string_bytes c.args.text.now) (line_text place first second insn) (notes_by second m section place) (codes "\n") (string_bytes c.push_line.new.text) (string_bytes c.push_notes.new.text)
          (string_bytes c.push_text.new.text) c.in_ok-push_line.ensures c.in_ok-push_notes.ensures ended,
    ))
