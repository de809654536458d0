use Rattle.std.proofs.Common.{◌≡◌, ◌++◌, ◌∙◌, ℕ, List, ap, codes, string_bytes, sym}
use Rattle.std.proofs.lemmas.List.{append_assoc}
use Rattle.c25_move_files.specs.Refusals.{place_line}
use Rattle.c25_move_files.proofs.style.both_text.Goals as goal

-- two texts, each with a piece after it
with_pieces : (a b early coff one other text : List ℕ) → text ≡ one ++ (a ++ (other ++ b)) → one ≡ early → other ≡ coff → text ≡ early ++ a ++ coff ++ b
with_pieces a b early coff one other text is first second =
    is ∙ ap (λ (t : List ℕ). t ++ (a ++ (other ++ b))) first ∙ ap (λ (t : List ℕ). early ++ (a ++ (t ++ b))) second
    ∙ sym (append_assoc early a (coff ++ b)) ∙ sym (append_assoc (early ++ a) coff b)

pub returns : goal.returns
returns c =
    with_pieces (codes " is of style 1987, and ") (codes " of style spru018: say --style") (place_line c.args.early.file.now c.args.early.line) (place_line c.args.coff.file.now c.args.coff.line)
    (string_bytes c.in_ok-early.early) (string_bytes c.in_ok-coff.coff) _ c.in_ok-format.ensures.ok c.in_ok-early.ensures c.in_ok-coff.ensures
