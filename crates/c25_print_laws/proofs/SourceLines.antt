-- The lines of a source of printed instructions are these.
use Rattle.std.proofs.Common.{◌≡◌, ℕ, zero, suc, ◌-◌, ◌==◌, Bool, true, false, cond, List, [], ◌∷◌, ◌++◌, length, map, refl, sym, ap, ◌∙◌, arith}
use Rattle.std.specs.Prelude.{slice_index}
use Rattle.std.specs.List.{list_all, slice_split, onto_first}
use Rattle.std.specs.Str.Lines.{lines, lines_of_parts, strip_carriage_return}
use Rattle.std.proofs.lemmas.Bool.{and_parts}
use Rattle.std.proofs.lemmas.Bool.Decides.{nat_tests}
use Rattle.c25_print_laws.specs.Source.{Printed, source_of, text_of}
use Rattle.c25_print_laws.proofs.Tokens.{is_quiet}

-- ---- quiet bytes

no_mark : (b : ℕ) → is_quiet b ≡ true → (b == 63) ≡ false
no_mark b h = grind (arith, nat_tests)

no_feed : (b : ℕ) → is_quiet b ≡ true → (b == 10) ≡ false
no_feed b h = grind (arith, nat_tests)

no_return : (b : ℕ) → is_quiet b ≡ true → (b == 13) ≡ false
no_return b h = grind (arith, nat_tests)

never : (c : ℕ) → ((b : ℕ) → is_quiet b ≡ true → (b == c) ≡ false) → (0 == c) ≡ false → (xs : List ℕ) (k : ℕ) → list_all is_quiet xs ≡ true → (slice_index xs k == c) ≡ false
never c each none [] k h = none
never c each none (x ∷ xs) zero h = each x (and_parts (is_quiet x) (list_all is_quiet xs) h).0
never c each none (x ∷ xs) (suc k) h = never c each none xs k (and_parts (is_quiet x) (list_all is_quiet xs) h).1

pub never_mark : (xs : List ℕ) (k : ℕ) → list_all is_quiet xs ≡ true → (slice_index xs k == 63) ≡ false
never_mark xs k h = never 63 no_mark refl xs k h

never_return : (xs : List ℕ) (k : ℕ) → list_all is_quiet xs ≡ true → (slice_index xs k == 13) ≡ false
never_return xs k h = never 13 no_return refl xs k h

-- ---- lines

abbrev parts : List ℕ → List (List ℕ)
parts text = slice_split (λ b. b == 10) text

line_split : (line rest : List ℕ) → list_all is_quiet line ≡ true → parts (line ++ 10 ∷ rest) ≡ line ∷ parts rest
line_split [] rest h = refl
line_split (b ∷ line) rest h =
    let both = and_parts (is_quiet b) (list_all is_quiet line) h in
    rw (no_feed b both.0, line_split line rest both.1) refl

some_parts : (text : List ℕ) → (x : List ℕ) × (xs : List (List ℕ)) × (parts text ≡ x ∷ xs)
some_parts [] = ([], [], refl)
some_parts (b ∷ text) = of (some_parts text) (b == 10) where
  of : ((x : List ℕ) × (xs : List (List ℕ)) × (parts text ≡ x ∷ xs)) → (t : Bool) → (x : List ℕ) × (xs : List (List ℕ)) × (cond t ([] ∷ parts text) (onto_first b (parts text)) ≡ x ∷ xs)
  of before true = ([], parts text, refl)
  of before false = (b ∷ before.0, before.1, ap (onto_first b) before.2)

stripped : (line : List ℕ) → list_all is_quiet line ≡ true → strip_carriage_return line ≡ line
stripped line h = rw (never_return line (length line - 1) h) refl

pub first_line : (line rest : List ℕ) → list_all is_quiet line ≡ true → lines (line ++ 10 ∷ rest) ≡ line ∷ lines rest
first_line line rest h =
    let more = some_parts rest in
    ap lines_of_parts (line_split line rest h) ∙ ap (λ ps. lines_of_parts (line ∷ ps)) more.2 ∙ ap (λ l. l ∷ lines_of_parts (more.0 ∷ more.1)) (stripped line h)
    ∙ ap (λ ps. line ∷ lines_of_parts ps) (sym more.2)

abbrev pub line_of : Printed → List ℕ
line_of p = 32 ∷ text_of p

abbrev pub AreQuiet : List Printed → Type 0
AreQuiet [] = Unit {0}
AreQuiet (p ∷ ps) = (list_all is_quiet (line_of p) ≡ true) × AreQuiet ps

pub source_lines : (ps : List Printed) → AreQuiet ps → lines (source_of ps) ≡ map line_of ps
source_lines [] h = refl
source_lines (p ∷ ps) h = first_line (line_of p) (source_of ps) h.0 ∙ ap (λ ls. line_of p ∷ ls) (source_lines ps h.1)
