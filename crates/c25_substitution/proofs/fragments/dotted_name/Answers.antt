use Rattle.std.proofs.Common.{◌+◌, ◌<◌, drop, get_or, length, sym, subst, ap, ◌∙◌, arith}
use Rattle.std.proofs.lemmas.List.{take_rest}
use Rattle.std.specs.List.{prefix_len}
use Rattle.std.specs.Str.{IsCharBoundary}
use Rattle.c25_meaning_common.specs.Bytes.{goes_on_name}
use Rattle.c25_substitution.proofs.Cuts.{behind_cut, byte_within}
use Rattle.c25_substitution.proofs.fragments.dotted_name.Goals as goal

pub kept-requires : goal.kept-requires
kept-requires c =
    let size = ap (λ n. n + 1) (c.name_run-size.ensures.value ∙ ap (prefix_len goes_on_name) (take_rest c.as_bytes.result.now 1 ∙ ap (drop 1) c.as_bytes.ensures.value)) in
    let ascii : get_or c.args.text.now 0 0 < 128 = omega (arith, c.requires) in
    let some : 0 < length c.args.text.now = byte_within c.args.text.now 0 (omega (arith, c.requires)) in
    record { cut = subst (IsCharBoundary c.args.text.now) (sym size) (behind_cut c.args.text.now c.utf8.text some ascii) }
