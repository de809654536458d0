-- The lines around one of them, as texts.
use Rattle.std.proofs.Common.{◌≡◌, ℕ, ◌+◌, ◌-◌, List, map, take, drop, sym, ap, ◌∙◌}
use Rattle.std.proofs.lemmas.List.{drop-map, take-map}
use Rattle.c25_prompt_texts.specs.SourceLines.{around, lines_before}

pub around_map : {X Y : Type 0} (f : X → Y) (xs : List X) (number : ℕ) → map f (around xs number) ≡ around (map f xs) number
around_map f xs number =
    sym (take-map f (number + 3 - lines_before number) (drop (lines_before number) xs)) ∙ ap (take (number + 3 - lines_before number)) (sym (drop-map f (lines_before number) xs))
