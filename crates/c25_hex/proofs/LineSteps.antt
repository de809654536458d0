-- One line more.
use Rattle.std.proofs.Common.{◌≡◌, ℕ, zero, ◌++◌, suc, ◌+◌, ◌<◌, cond, List, [], ◌∷◌, length, get_or, drop, drop-cons, Option, None, replicate, Result, Ok, Err, refl, sym, ap, ◌∙◌, arith}
use Rattle.std.specs.Ordering.{nat_cmp}
use Rattle.std.specs.FinMap as map
use Rattle.std.proofs.lemmas.List.{nil_from_length, length-drop, length-replicate}
use Rattle.c25_hex.specs.declared.hex_fault.HexFault.{HexFault}
use Rattle.c25_hex.specs.declared.hex_fault.HexFault.TheVariants.{NoEnd}
use Rattle.c25_meaning_common.specs.declared.placed.Placed.{Placed}
use Rattle.c25_meaning_common.specs.declared.failure.Failure.{Failure}
use Rattle.c25_meaning_common.specs.declared.failure.Failure.TheVariants.{NoMemory, Fault}
use Rattle.c25_meaning_common.specs.Results.{◌>>=◌, Fails}
use Rattle.c25_hex.specs.View.{at_line}
use Rattle.c25_hex.specs.Hex.{HexState, after_line, after_lines, numbered}

plus_one : (n : ℕ) → n + 1 ≡ suc n
plus_one n = omega arith

next_line : (n : ℕ) (s : HexState) (all : List (List ℕ)) (line d : List ℕ) (total : Result (map.FinMap nat_cmp ℕ) (Placed ℕ HexFault)) → n < length all → line ≡ get_or all n d
    → after_lines n s (drop n all) ≡ total → ◌>>=◌ (numbered (n + 1) (after_line s line)) (λ t. after_lines (n + 1) t (drop (n + 1) all)) ≡ total
unfolding after_lines
next_line n s all line d total lt is so_far =
    let far : drop (n + 1) all ≡ drop (suc n) all = ap (λ (k : ℕ). drop k all) (plus_one n) in
    ap (λ (l : List ℕ). ◌>>=◌ (numbered (n + 1) (after_line s l)) (λ t. after_lines (n + 1) t (drop (n + 1) all))) is
    ∙ ap (λ (r : List (List ℕ)). ◌>>=◌ (numbered (n + 1) (after_line s (get_or all n d))) (λ t. after_lines (n + 1) t r)) far
    ∙ ap (λ (r : List (List ℕ)). after_lines n s r) (sym (drop-cons all n d lt)) ∙ so_far

pub line_read : (n : ℕ) (s t : HexState) (all : List (List ℕ)) (line d : List ℕ) (total : Result (map.FinMap nat_cmp ℕ) (Placed ℕ HexFault)) → n < length all → line ≡ get_or all n d
    → after_line s line ≡ Ok t → after_lines n s (drop n all) ≡ total → after_lines (n + 1) t (drop (n + 1) all) ≡ total
line_read n s t all line d total lt is good so_far = rw good at (next_line n s all line d total lt is so_far)

pub line_refused : (n : ℕ) (s : HexState) (all : List (List ℕ)) (line d : List ℕ) (f : HexFault) (total : Result (map.FinMap nat_cmp ℕ) (Placed ℕ HexFault)) → n < length all → line ≡ get_or all n d
    → after_line s line ≡ Err f → after_lines n s (drop n all) ≡ total → total ≡ Err (record { place = n + 1; fault = f })
line_refused n s all line d f total lt is bad so_far = sym (rw bad at (next_line n s all line d total lt is so_far))

pub line_failed : (e : Failure HexFault) (n : ℕ) (s : HexState) (all : List (List ℕ)) (line d : List ℕ) (total : Result (map.FinMap nat_cmp ℕ) (Placed ℕ HexFault)) → n < length all → line ≡ get_or all n d
    → Fails (after_line s line) e → after_lines n s (drop n all) ≡ total → Fails total (at_line e (n + 1))
line_failed (NoMemory m) n s all line d total lt is bad so_far = tt
line_failed (Fault f) n s all line d total lt is bad so_far = line_refused n s all line d f total lt is bad so_far

pub no_more : (n : ℕ) (s : HexState) (all : List (List ℕ)) (total : Result (map.FinMap nat_cmp ℕ) (Placed ℕ HexFault)) → n ≡ length all → after_lines n s (drop n all) ≡ total → total ≡ cond s.ended (Ok s.bytes) (Err (record { place = n; fault = NoEnd }))
unfolding after_lines
no_more n s all total e so_far =
    let none : drop n all ≡ [] = nil_from_length (drop n all) (omega (arith, length-drop n all)) in
    sym so_far ∙ ap (λ (r : List (List ℕ)). after_lines n s r) none

abbrev nothing : Option ℕ
nothing = None

pushed : (n : ℕ) → replicate n nothing ++ nothing ∷ [] ≡ replicate (suc n) nothing
pushed zero = refl
pushed (suc n) = ap (λ (t : List (Option ℕ)). nothing ∷ t) (pushed n)

pub none_pushed : (items more : List (Option ℕ)) (n : ℕ) → more ≡ items ++ None ∷ [] → items ≡ replicate n None → more ≡ replicate (n + 1) None
none_pushed items more n e h = e ∙ ap (λ (t : List (Option ℕ)). t ++ None ∷ []) h ∙ pushed n ∙ ap (λ (k : ℕ). replicate k nothing) (sym (plus_one n))

pub none_length : (items : List (Option ℕ)) (n : ℕ) → items ≡ replicate n None → length items ≡ n
none_length items n h = ap (λ (t : List (Option ℕ)). length t) h ∙ length-replicate n nothing
