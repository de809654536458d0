use Rattle.std.proofs.Common.{◌++◌, codes, slice_index, ap, ◌∙◌}
use Rattle.std.specs.String.{string_bytes}
use Rattle.c25_meaning_assembly.specs.Listing.{is_relocated, sign}
use Rattle.c25_meaning_objects.specs.Module.{words_at}
use Rattle.c25_meaning_common.specs.Digits.{four_digits}
use Rattle.c25_module.specs.View.{contents}
use Rattle.c25_listing.proofs.Columns.{four_behind, low_digits}
use Rattle.c25_listing.proofs.printing.Marked.push_column.Goals as goal

pub returns : goal.returns
returns c =
    let m = contents c.args.self.now.parts.now in
    let l = string_bytes c.args.line.now in
    let l2 = string_bytes c.push_str.new.self in
    let l3 = string_bytes c.push_word-2.new.out in
    four_behind l (string_bytes c.push_word.new.out) l2 l3 (string_bytes c.push_str-2.new.self)
    (four_digits c.args.offset) (codes " ") (four_digits (slice_index (words_at m.sections c.args.section) c.args.offset)) (sign (is_relocated m c.args.section c.args.offset))
    (c.in_ok-push_word.ensures ∙ ap (λ d. l ++ d) (low_digits c.args.offset))
    c.in_ok-push_str.ensures.bytes
    (c.in_ok-push_word-2.ensures ∙ ap (λ w. l2 ++ four_digits w) c.word_at-word.ensures)
    (c.in_ok-push_str-2.ensures.bytes ∙ ap (λ t. l3 ++ t) (c.sign-sign.ensures ∙ ap sign c.is_relocated.ensures))
