use Rattle.std.proofs.Common.{◌∙◌, ◌++◌, List, ℕ, ap, append_assoc, codes, string_bytes}
use Rattle.std.specs.Fmt.{decimal}
use Rattle.c25_meaning_common.specs.Digits.{four_digits}
use Rattle.c25_prompt.proofs.ignored.push_count.Goals as goal

pub returns : goal.returns
returns c =
    let tail : List ℕ = four_digits c.args.address ++ codes " " ++ decimal c.args.count ++ codes "\n" in
    c.in_ok-push_left_at.ensures ∙ ap (λ (t : List ℕ). t ++ tail) c.in_ok-push_texts.ensures ∙ append_assoc (string_bytes c.args.text.now) (codes "ignore ") tail
