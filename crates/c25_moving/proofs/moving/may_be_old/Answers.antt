use Rattle.std.proofs.Common.{◌≡◌, ◌∙◌, false, List, ℕ, ap, map, string_bytes, subst, sym}
use Rattle.std.proofs.lemmas.Bool.{false≢true}
use Rattle.std.specs.Prelude.{bytes_eq}
use Rattle.c25_move_files.specs.Files.{old_of}
use Rattle.c25_move_files.specs.declared.old.OldFile.{OldFile}
use Rattle.c25_moving.specs.Moving.{has_text}
use Rattle.c25_moving.proofs.moving.may_be_old.Goals as goal

pub returns-then-is_same : goal.returns-then-is_same
returns-then-is_same c = λ not_so. absurd (false≢true not_so)

pub returns : goal.returns
returns c = λ so. record {
  other = subst (λ (xs : List ℕ). bytes_eq c.args.bytes.now xs ≡ false) c.as_slice.ensures.value (sym c.eq-is_same.ensures ∙ c.if-is_same.false);
  text = string_bytes c.in_ok-decoded.decoded.text;
  used = c.in_ok-decoded.decoded.code_page;
  decoded = c.in_ok-decoded.ensures;
  old =
      ap (λ (fs : List OldFile). has_text (map old_of fs) (string_bytes c.in_ok-decoded.decoded.text)) (sym c.as_slice-2.ensures.value)
      ∙ ap (has_text (map old_of c.as_slice-2.result.now)) (sym c.as_str.ensures.value) ∙ sym c.has_text-is_old.ensures ∙ so;
}
