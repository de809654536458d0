use Rattle.std.proofs.Common.{sym, subst, ap, ◌∙◌}
use Rattle.std.specs.List.{prefix_len}
use Rattle.std.specs.Str.{IsCharBoundary}
use Rattle.c25_meaning_common.specs.Bytes.{is_letter_or_digit}
use Rattle.c25_substitution.proofs.Cuts.{constant_cut}
use Rattle.c25_substitution.proofs.fragments.unit.Goals as goal

pub kept-requires : goal.kept-requires
kept-requires c =
    let size = c.constant_run.ensures.value ∙ ap (prefix_len is_letter_or_digit) c.as_bytes-bytes.ensures.value in
    record { cut = subst (IsCharBoundary c.args.text.now) (sym size) (constant_cut c.args.text.now c.utf8.text) }
