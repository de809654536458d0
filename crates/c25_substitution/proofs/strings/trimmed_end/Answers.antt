use Rattle.std.proofs.Common.{◌-◌, length, subst, sym, ap, ◌∙◌}
use Rattle.std.specs.List.{suffix_len}
use Rattle.std.specs.Str.{IsCharBoundary}
use Rattle.c25_meaning_common.specs.Bytes.{is_blank}
use Rattle.c25_substitution.proofs.Cuts.{tail_cut}
use Rattle.c25_substitution.proofs.strings.trimmed_end.Goals as goal

pub range-requires-clause-end_boundary : goal.range-requires-clause-end_boundary
range-requires-clause-end_boundary c =
    subst (λ n. IsCharBoundary c.args.text.now (length c.args.text.now - n)) (sym (c.blank_tail.ensures.value ∙ ap (suffix_len is_blank) c.as_bytes.ensures.value)) (tail_cut c.args.text.now)
