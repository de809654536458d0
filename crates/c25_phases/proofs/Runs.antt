-- Lines of runs, one after another.
use Rattle.std.proofs.Common.{◌≡◌, ℕ, ◌+◌, ◌≤◌, ◌<◌, List, [], ◌∷◌, ◌++◌, length, take, drop, get_or, sym, ap, ◌∙◌, arith, append_assoc, length-drop}
use Rattle.std.specs.List.{fold}
use Rattle.std.proofs.lemmas.List.{append-nil, drop-append-le, drop_all, drop_more, map-append, take-append-le, take_all}
use Rattle.std.proofs.lemmas.List.Sums.{fold-append}
use Rattle.c25_meaning_assembly.specs.Emission.{Lines, with_line}
use Rattle.c25_phases.specs.Runs.{lines_of, origins_in, total}
use Rattle.c25_phases.specs.declared.source_lines.FileRun.{FileRun}
use Rattle.c25_meaning_common.specs.declared.placed.FileLine.{FileLine}

abbrev at : List ℕ → ℕ → FileLine (List ℕ)
at file n = record { file = file; line = n }

-- one line more of the last file
pub one_more : (runs : List FileRun) (file : List ℕ) (numbers : List ℕ) (n : ℕ) → total runs ≤ length numbers
    → origins_in runs file (numbers ++ n ∷ []) ≡ origins_in runs file numbers ++ at file n ∷ []
one_more [] file numbers n few = map-append (at file) numbers (n ∷ [])
one_more (r ∷ runs) file numbers n few =
    let within : r.count ≤ length numbers = omega (arith, few) in
    let left : total runs ≤ length (drop r.count numbers) = omega (arith, few, length-drop r.count numbers) in
    ap (λ ns. lines_of r.file.now ns ++ origins_in runs file (drop r.count (numbers ++ n ∷ []))) (take-append-le r.count numbers (n ∷ []) within)
    ∙ ap (λ ns. lines_of r.file.now (take r.count numbers) ++ origins_in runs file ns) (drop-append-le r.count numbers (n ∷ []) within)
    ∙ ap (λ os. lines_of r.file.now (take r.count numbers) ++ os) (one_more runs file (drop r.count numbers) n left)
    ∙ sym (append_assoc (lines_of r.file.now (take r.count numbers)) (origins_in runs file (drop r.count numbers)) (at file n ∷ []))

-- the lines of the last file are a run, and those of another follow
pub run_ends : (runs : List FileRun) (file : List ℕ) (numbers : List ℕ) (r : FileRun) → total runs + r.count ≡ length numbers
    → origins_in (runs ++ r ∷ []) file numbers ≡ origins_in runs r.file.now numbers
run_ends [] file numbers r all =
    ap (λ ns. lines_of r.file.now ns ++ lines_of file (drop r.count numbers)) (take_all r.count numbers (omega (arith, all)))
    ∙ ap (λ ns. lines_of r.file.now numbers ++ lines_of file ns) (drop_all r.count numbers (omega (arith, all)))
    ∙ append-nil (lines_of r.file.now numbers)
run_ends (x ∷ runs) file numbers r all =
    let left : total runs + r.count ≡ length (drop x.count numbers) = omega (arith, all, length-drop x.count numbers) in
    ap (λ os. lines_of x.file.now (take x.count numbers) ++ os) (run_ends runs file (drop x.count numbers) r left)

pub total_more : (runs : List FileRun) (r : FileRun) → total (runs ++ r ∷ []) ≡ total runs + r.count
total_more [] r = omega arith
total_more (x ∷ runs) r = omega (arith, total_more runs r)

-- the files and lines with one run more, of the first of the numbers that are left
pub run_more : (runs : List FileRun) (i : ℕ) (d : FileRun) (file numbers first rest : List ℕ) (before after all : Lines) → i < length runs
    → first ≡ take (get_or runs i d).count numbers → rest ≡ drop (get_or runs i d).count numbers → after ≡ fold with_line before (lines_of (get_or runs i d).file.now first)
    → fold with_line before (origins_in (drop i runs) file numbers) ≡ all → fold with_line after (origins_in (drop (i + 1) runs) file rest) ≡ all
run_more runs i d file numbers first rest before after all lt front left is told =
    let r = get_or runs i d in
    ap (λ l. fold with_line l (origins_in (drop (i + 1) runs) file rest)) (is ∙ ap (λ ns. fold with_line before (lines_of r.file.now ns)) front)
    ∙ ap (λ ns. fold with_line (fold with_line before (lines_of r.file.now (take r.count numbers))) (origins_in (drop (i + 1) runs) file ns)) left
    ∙ sym (fold-append with_line before (lines_of r.file.now (take r.count numbers)) (origins_in (drop (i + 1) runs) file (drop r.count numbers)))
    ∙ ap (λ rs. fold with_line before (origins_in rs file numbers)) (sym (drop_more runs i d lt))
    ∙ told

-- the numbers that are left are enough for the runs that are
pub few_more : (runs : List FileRun) (i : ℕ) (d : FileRun) (left all : ℕ) → i < length runs → left + (get_or runs i d).count ≡ all → total (drop i runs) ≤ all → total (drop (i + 1) runs) ≤ left
few_more runs i d left all lt is few = omega (arith, ap total (drop_more runs i d lt), is, few)
