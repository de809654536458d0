-- The lines that take a line's place, one after another.
use Rattle.std.proofs.Common.{◌≡◌, ◌<◌, ◌+◌, ◌++◌, ◌∙◌, ℕ, true, false, List, ◌∷◌, String, string_bytes, map, drop, get_or, eqb, length, append_assoc, sym, ap, inl, inr, arith}
use Rattle.std.proofs.lemmas.Bool.{cases_lt, ne_eqb, eq-eqb}
use Rattle.std.proofs.lemmas.List.{at_drop_all, at_drop_more}
use Rattle.std.specs.declared.alloc.Global.{Global}
use Rattle.c25_move.specs.declared.moved_line.LineEnd.{LineEnd}
use Rattle.c25_move.specs.Rewritten.{after_bytes, before_lines, rows_of}

-- what follows the line before these lines
before_is : (end : LineEnd) (d : String Global) (ls : List (String Global)) (i : ℕ) → i < length ls → before_lines end (map string_bytes (drop (i + 1) ls)) ≡ after_bytes end (eqb (i + 1) (length ls))
before_is end d ls i lt = elim (cases_lt (i + 1) (length ls)) [
  | inl more ↦ at_drop_more (λ (x : List (String Global)). before_lines end (map string_bytes x)) ls (i + 1) d more
      ∙ ap (after_bytes end) (sym (ne_eqb (i + 1) (length ls) (λ e. absurd (omega (arith, more, e)))))
  | inr all ↦ at_drop_all (λ (x : List (String Global)). before_lines end (map string_bytes x)) ls (i + 1) all
      ∙ ap (after_bytes end) (sym (eq-eqb (i + 1) (length ls) (omega (arith, all, lt))))
]

-- the text goes on with a line
pub rows_go_on : (end : LineEnd) (d : String Global) (ls : List (String Global)) (i : ℕ) (after bytes longer whole : List ℕ) → i < length ls → after ≡ after_bytes end (eqb (i + 1) (length ls))
    → longer ≡ (bytes ++ string_bytes (get_or ls i d)) ++ after → bytes ++ rows_of end (map string_bytes (drop i ls)) ≡ whole → longer ++ rows_of end (map string_bytes (drop (i + 1) ls)) ≡ whole
rows_go_on end d ls i after bytes longer whole lt is pushed known =
    let line = string_bytes (get_or ls i d) in
    let rest = rows_of end (map string_bytes (drop (i + 1) ls)) in
    ap (λ l. l ++ rest) pushed
    ∙ ap (λ l. l ++ rest) (append_assoc bytes line after)
    ∙ append_assoc bytes (line ++ after) rest
    ∙ ap (λ l. bytes ++ ((line ++ l) ++ rest)) (is ∙ sym (before_is end d ls i lt))
    ∙ ap (λ l. bytes ++ l) (sym (at_drop_more (λ (x : List (String Global)). rows_of end (map string_bytes x)) ls i d lt))
    ∙ known
