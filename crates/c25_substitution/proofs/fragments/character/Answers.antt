use Rattle.std.proofs.Common.{max, sym, subst, ap, ◌∙◌}
use Rattle.std.specs.List.{prefix_len}
use Rattle.std.specs.Str.{IsCharBoundary}
use Rattle.c25_meaning_language.specs.Fragments.{is_beyond_ascii}
use Rattle.c25_substitution.proofs.Cuts.{character_cut}
use Rattle.c25_substitution.proofs.fragments.character.Goals as goal

pub kept-requires : goal.kept-requires
kept-requires c =
    let size = c.max.ensures ∙ ap (λ n. max n 1) (c.beyond_run.ensures.value ∙ ap (prefix_len is_beyond_ascii) c.as_bytes.ensures.value) in
    record { cut = subst (IsCharBoundary c.args.text.now) (sym size) (character_cut c.args.text.now c.utf8.text c.requires) }
