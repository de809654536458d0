-- What a line says that has a field in column 1, perhaps an empty one, then a tab, a first word and its operands.
use Rattle.std.proofs.Common.{◌≡◌, ℕ, suc, ◌+◌, ◌-◌, ◌<◌, Bool, true, false, if◌then◌else◌, List, [], ◌∷◌, ◌++◌, length, take, drop, Option, Some, None, Result, Ok, refl, ap, ◌∙◌, arith}
use Rattle.std.specs.Prelude.{unwrap_or}
use Rattle.std.specs.List.{list_all, prefix_len, take_while}
use Rattle.std.proofs.Math.Seq.{take-append_seam, drop-append_seam}
use Rattle.std.proofs.lemmas.Bool.{and_parts}
use Rattle.std.proofs.lemmas.Bool.Decides.{nat_tests}
use Rattle.c25_meaning_common.specs.Bytes.{is_blank, is_field, is_visible}
use Rattle.c25_meaning_common.specs.Results.{◌>>=◌, told}
use Rattle.c25_meaning_language.specs.Line.{Part, Parts, Piece, Scan, first_word, is_comment_line, label_end, label_in, label_of, line_of, part_from, past_blanks, scan, scan_from, some_text, statement_of, word_end, word_in, word_of, word_start}
use Rattle.c25_meaning_language.specs.Line.{statement_by as parts_by}
use Rattle.c25_meaning_language.specs.declared.line.LineFault.{LineFault}
use Rattle.c25_meaning_language.specs.Operands.{line_fault, operands_of}
use Rattle.c25_meaning_language.specs.declared.statement.FaultKind.{FaultKind}
use Rattle.c25_meaning_assembly.specs.AssemblyLine.{AssemblyAct, Statement, act_by, act_of, directive_in, directive_of, instructing, names_label, read_statement, statement_by}
use Rattle.c25_meaning_assembly.specs.declared.assembly.Directive.{Directive}
use Rattle.c25_print_laws.proofs.Numerals.{front_passes, front_taken}

-- a field of column 1 that is this label, or an empty one; with a tab after it a line is no comment
pub record IsLabelField (field : List ℕ) (label : Option (List ℕ)) : Type 0 where
  pub fields : list_all is_field field ≡ true
  pub given : label_of field ≡ Ok label
  pub stated : (rest : List ℕ) → is_comment_line (field ++ 9 ∷ rest) ≡ false

drop_past : (xs : List ℕ) (x : ℕ) (rest : List ℕ) → drop (length xs + 1) (xs ++ x ∷ rest) ≡ rest
drop_past [] x rest = refl
drop_past (b ∷ xs) x rest =
    let more : length (b ∷ xs) + 1 ≡ suc (length xs + 1) = omega arith in
    ap (λ (n : ℕ). drop n (b ∷ (xs ++ x ∷ rest))) more ∙ drop_past xs x rest

drop_both : (xs : List ℕ) (x : ℕ) (ys rest : List ℕ) → drop (length xs + 1 + length ys) (xs ++ x ∷ (ys ++ rest)) ≡ rest
drop_both [] x ys rest =
    let one : 0 + 1 + length ys ≡ suc (length ys) = omega arith in
    ap (λ (n : ℕ). drop n (x ∷ (ys ++ rest))) one ∙ drop-append_seam ys rest
drop_both (b ∷ xs) x ys rest =
    let more : length (b ∷ xs) + 1 + length ys ≡ suc (length xs + 1 + length ys) = omega arith in
    ap (λ (n : ℕ). drop n (b ∷ (xs ++ x ∷ (ys ++ rest)))) more ∙ drop_both xs x ys rest

no_blank : (b : ℕ) → is_field b ≡ true → is_blank b ≡ false
no_blank b h = grind (arith, nat_tests)

module _ (l w tail : List ℕ) (label : Option (List ℕ)) (labelled : IsLabelField l label) (fields : list_all is_field w ≡ true) (visible : list_all is_visible w ≡ true) (some : 0 < length w) (ends : prefix_len is_field tail ≡ 0) where
  abbrev text : List ℕ
  text = l ++ 9 ∷ (w ++ tail)

  label_ends : label_end text ≡ length l
  label_ends = let passes = front_passes is_field l (9 ∷ (w ++ tail)) labelled.fields refl in omega (arith, passes)

  label_is : label_in text ≡ Ok label
  label_is = ap (λ (n : ℕ). label_of (take n text)) label_ends ∙ ap label_of (take-append_seam l (9 ∷ (w ++ tail))) ∙ labelled.given

  no_blanks : prefix_len is_blank (w ++ tail) ≡ 0
  no_blanks = of w fields some where
    of : (v : List ℕ) → list_all is_field v ≡ true → 0 < length v → prefix_len is_blank (v ++ tail) ≡ 0
    of [] all has = absurd (omega (arith, has))
    of (b ∷ v) all has = rw (no_blank b (and_parts (is_field b) (list_all is_field v) all).0) refl

  starts : word_start text ≡ length l + 1
  starts =
      ap (λ (n : ℕ). past_blanks n text) label_ends
      ∙ ap (λ (xs : List ℕ). length l + prefix_len is_blank xs) (drop-append_seam l (9 ∷ (w ++ tail)))
      ∙ ap (λ (n : ℕ). length l + (1 + n)) no_blanks

  rest_is : drop (word_start text) text ≡ w ++ tail
  rest_is = ap (λ (n : ℕ). drop n text) starts ∙ drop_past l 9 (w ++ tail)

  word_ends : word_end text ≡ length l + 1 + length w
  word_ends =
      ap (λ (xs : List ℕ). word_start text + prefix_len is_field xs) rest_is
      ∙ ap (λ (n : ℕ). word_start text + n) (front_passes is_field w tail fields ends)
      ∙ ap (λ (n : ℕ). n + length w) starts

  whole_word : (at : ℕ) → word_of at w ≡ Ok (Some (record { start = at; text = w }))
  whole_word at = of w visible some where
    of : (v : List ℕ) → list_all is_visible v ≡ true → 0 < length v → word_of at v ≡ Ok (Some (record { start = at; text = v }))
    of [] all has = absurd (omega (arith, has))
    of (b ∷ v) all has = rw all refl

  word_is : word_in text ≡ Ok (Some (record { start = word_start text; text = w }))
  word_is =
      let size : word_end text - word_start text ≡ length w = let a = word_ends in let b = starts in omega (arith, a, b) in
      ap (λ (n : ℕ). word_of (word_start text) (take n (drop (word_start text) text))) size
      ∙ ap (λ (xs : List ℕ). word_of (word_start text) (take (length w) xs)) rest_is
      ∙ ap (word_of (word_start text)) (take-append_seam w tail)
      ∙ whole_word (word_start text)

  some_word : some_text w ≡ Some w
  some_word = of w some where
    of : (v : List ℕ) → 0 < length v → some_text v ≡ Some v
    of [] has = absurd (omega (arith, has))
    of (b ∷ v) has = refl

  pub first_is : first_word text ≡ Some w
  first_is =
      ap (λ (b : Bool). if b then None else some_text (take_while is_field (drop (word_start text) text))) (labelled.stated (w ++ tail))
      ∙ ap (λ (xs : List ℕ). some_text (take_while is_field xs)) rest_is
      ∙ ap some_text (front_taken is_field w tail fields ends)
      ∙ some_word

  joined : (a : Result (Option (List ℕ)) LineFault) (b : Result (Option Part) LineFault) (s : Scan) (p : Part) (pieces : List Piece) (stop : ℕ)
      → a ≡ Ok label → b ≡ Ok (Some p) → s ≡ record { pieces = pieces; fault = None; stop = stop }
      → parts_by a b s text ≡ Ok (record { label = label; word = Some p; pieces = pieces; comment = part_from stop (drop stop text) })
  joined a b s p pieces stop e f g = rw (e, f, g) refl

  module _ (pieces : List Piece) (stop : ℕ) (scanned : scan 0 (length l + 1 + length w) tail ≡ record { pieces = pieces; fault = None; stop = stop }) where
    abbrev parts : Parts
    parts = record { label = label; word = Some (record { start = word_start text; text = w }); pieces = pieces; comment = part_from stop (drop stop text) }

    scan_is : scan_from (word_end text) text ≡ record { pieces = pieces; fault = None; stop = stop }
    scan_is = ap (λ (n : ℕ). scan_from n text) word_ends ∙ ap (scan 0 (length l + 1 + length w)) (drop_both l 9 w tail) ∙ scanned

    parts_are : line_of text ≡ Ok parts
    unfolding statement_of
    parts_are =
        ap (λ (b : Bool). if b then Ok (record { label = None; word = None; pieces = []; comment = part_from 0 text }) else statement_of text) (labelled.stated (w ++ tail))
        ∙ joined (label_in text) (word_in text) (scan_from (word_end text) text) (record { start = word_start text; text = w }) pieces stop label_is word_is scan_is

    -- what a line of an instruction says
    pub instruction_line : (act : AssemblyAct) → directive_of w ≡ None → instructing w (operands_of pieces) ≡ Ok act → read_statement text ≡ Ok (record { label = label; act = act })
    unfolding statement_by
    instruction_line act none does =
        ap (λ o. statement_by o text) (ap directive_in first_is ∙ none)
        ∙ ap (λ (r : Result Parts LineFault). told line_fault r >>= says) parts_are
        ∙ ap (λ (r : Result AssemblyAct FaultKind). r >>= λ act. Ok (record { label = label; act = act })) does
      where
        says : Parts → Result Statement FaultKind
        says p = act_by None p >>= λ act. Ok (record { label = p.label; act = act })

    -- what a line of a directive says that gives its label no value of its own
    pub directive_line : (d : Directive) (act : AssemblyAct) → directive_of w ≡ Some d → names_label (Some d) ≡ false → act_of d (unwrap_or label []) (operands_of pieces) ≡ Ok act → read_statement text ≡ Ok (record { label = label; act = act })
    unfolding statement_by
    directive_line d act is unnamed does =
        ap (λ o. statement_by o text) (ap directive_in first_is ∙ is)
        ∙ rw unnamed (ap (λ (r : Result Parts LineFault). told line_fault r >>= says) parts_are ∙ ap (λ (r : Result AssemblyAct FaultKind). r >>= λ act. Ok (record { label = label; act = act })) does)
      where
        says : Parts → Result Statement FaultKind
        says p = act_by (Some d) p >>= λ act. Ok (record { label = p.label; act = act })
