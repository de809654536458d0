-- The count of calls in the definition of a module's lines never ends a source: each line takes one of those that may be read.
use Rattle.std.proofs.Common.{◌≡◌, ℕ, zero, suc, ◌<◌, ◌≤◌, List, Option, Some, None, Result, Ok, Err, refl, ap, arith}
use Rattle.std.specs.Option.{option_map}
use Rattle.c25_meaning_common.specs.Results.{◌>>=◌}
use Rattle.c25_meaning_assembly.specs.Sections.{table}
use Rattle.c25_meaning_expansion.proofs.ExpansionFirst.{first_giving}
use Rattle.c25_meaning_expansion.specs.Expansion.{Config, Rewriting, Gives, Goes, Finishes, Faults, Misses}
use Rattle.c25_meaning_expansion.specs.ExpansionAnswers.{expanded_line, fault_by, given_by}
use Rattle.c25_meaning_expansion.specs.ExpansionRuns.{first, start, start_of}
use Rattle.c25_meaning_expansion.specs.Files.{Files, text_named}
use Rattle.c25_meaning_expansion.specs.Rows.{file_number}
use Rattle.c25_meaning_language.specs.ExpansionFault.{ExpansionFault}
use Rattle.c25_meaning_assembly.specs.ModuleOfSource.{LinesSoFar, no_lines, pass_line, passed, passed_by}

same_behind : (r : Result LinesSoFar ExpansionFault) (f g : LinesSoFar → Result LinesSoFar ExpansionFault) → ((b : LinesSoFar) → f b ≡ g b) → (r >>= f) ≡ (r >>= g)
same_behind (Ok b) f g h = h b
same_behind (Err e) f g h = refl

same_passed : (files : Files) (c : Config) (a : LinesSoFar) (f g : Config → LinesSoFar → Result LinesSoFar ExpansionFault) (r : Rewriting) → first files (table a.progress) c ≡ r
    → ((d : Config) (b : LinesSoFar) → d.left < c.left → f d b ≡ g d b) → passed_by (fault_by files r) (given_by files r) f a ≡ passed_by (fault_by files r) (given_by files r) g a
same_passed files c a f g (Gives row d) e h =
    let fewer = (first_giving files (table a.progress) c d row e).1 in
    same_behind (pass_line (expanded_line files row) a) (f d) (g d) (λ b. h d b fewer)
same_passed files c a f g (Goes d) e h = refl
same_passed files c a f g (Finishes d) e h = refl
same_passed files c a f g (Faults place kind) e h = refl
same_passed files c a f g (Misses place name) e h = refl

pub calls_suffice : (files : Files) (n m : ℕ) (c : Config) (a : LinesSoFar) → c.left < n → c.left < m → passed files n c a ≡ passed files m c a
unfolding passed
calls_suffice files zero m c a few more = absurd (omega (arith, few))
calls_suffice files (suc n) zero c a few more = absurd (omega (arith, more))
calls_suffice files (suc n) (suc m) c a few more =
    same_passed files c a (passed files n) (passed files m) (first files (table a.progress) c) refl
    (λ d b fewer. calls_suffice files n m d b (omega (arith, few, fewer)) (omega (arith, more, fewer)))

lines_left : (file : ℕ) (o : Option (List ℕ)) (c : Config) → option_map (start file) o ≡ Some c → c.left ≡ 200000
lines_left file None c e = absurd cc
lines_left file (Some text) c e = let same : c ≡ start file text = cc in ap (λ (x : Config). x.left) same

pub calls_of_a_source : (files : Files) (name : List ℕ) (c : Config) (n : ℕ) → start_of files name ≡ Some c → 200001 ≤ n → passed files n c no_lines ≡ passed files 200001 c no_lines
calls_of_a_source files name c n e enough =
    let left = lines_left (file_number files name) (text_named files name) c e in
    calls_suffice files n 200001 c no_lines (omega (arith, left, enough)) (omega (arith, left))
