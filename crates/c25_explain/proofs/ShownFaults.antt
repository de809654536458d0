-- Which lines of faults are shown.
use Rattle.std.proofs.Common.{◌≡◌, ℕ, zero, suc, ◌+◌, ◌<◌, ◌≤◌, Bool, true, false, cond, nat_lt, List, [], ◌∷◌, ◌++◌, length, map, take, Result, Ok, Err, OnOk, refl, sym, ap, ◌∙◌, arith, subst}
use Rattle.std.proofs.lemmas.Bool.Decides.{nat_tests}
use Rattle.std.proofs.lemmas.List.{append_assoc, append-nil, length-map, length-take-le, take-map, take_all}
use Rattle.c25_meaning_language.specs.ExpansionFault.{ExpansionFault}
use Rattle.c25_phases.specs.View.{fault_of}
use Rattle.c25_phases.specs.declared.fault.AsmFault.{AsmFault}
use Rattle.c25_explain.specs.AllFaults.{fault_lines, more_line, source_lines}

-- of more than 100 faults the first 100 are shown, and the line that stands for the rest
of_many : (name : List ℕ) (fs : List ExpansionFault) → 100 < length fs → source_lines name fs ≡ fault_lines (take 100 fs) ++ more_line name
of_many name fs many =
    let test : nat_lt 100 (length fs) ≡ true = grind (arith, nat_tests) in
    ap (λ b. fault_lines (take 100 fs) ++ cond b (more_line name) []) test

-- of at most 100 faults all are shown
of_few : (name : List ℕ) (fs : List ExpansionFault) → length fs ≤ 100 → source_lines name fs ≡ fault_lines fs
of_few name fs few =
    let test : nat_lt 100 (length fs) ≡ false = grind (arith, nat_tests) in
    ap (λ b. fault_lines (take 100 fs) ++ cond b (more_line name) []) test
    ∙ append-nil (fault_lines (take 100 fs))
    ∙ ap fault_lines (take_all 100 fs few)

pub many_shown : {T E : Type 0} (r : Result T E) (name : List ℕ) (fs shown : List AsmFault) (old mid new : List ℕ) → 100 < length fs → shown ≡ take 100 fs
    → mid ≡ old ++ fault_lines (map fault_of shown) → OnOk r (new ≡ mid ++ more_line name) → OnOk r (new ≡ old ++ source_lines name (map fault_of fs))
many_shown (Ok x) name fs shown old mid new many first is told =
    let mapped : List ExpansionFault = map fault_of fs in
    let count : length mapped ≡ length fs = length-map fs fault_of in
    let all : source_lines name mapped ≡ fault_lines (take 100 mapped) ++ more_line name = of_many name mapped (omega (arith, many, count)) in
    let same : map fault_of shown ≡ take 100 mapped = ap (map fault_of) first ∙ sym (take-map fault_of 100 fs) in
    told ∙ ap (λ (t : List ℕ). t ++ more_line name) is
    ∙ append_assoc old (fault_lines (map fault_of shown)) (more_line name)
    ∙ ap (λ (ls : List ExpansionFault). old ++ (fault_lines ls ++ more_line name)) same
    ∙ ap (λ (t : List ℕ). old ++ t) (sym all)
many_shown (Err e) name fs shown old mid new many first is told = told

pub few_shown : {T E : Type 0} (r : Result T E) (name : List ℕ) (fs : List AsmFault) (old new : List ℕ) → length fs ≤ 100
    → OnOk r (new ≡ old ++ fault_lines (map fault_of fs)) → OnOk r (new ≡ old ++ source_lines name (map fault_of fs))
few_shown (Ok x) name fs old new few told =
    let count : length (map fault_of fs) ≡ length fs = length-map fs fault_of in
    told ∙ ap (λ (t : List ℕ). old ++ t) (sym (of_few name (map fault_of fs) (omega (arith, few, count))))
few_shown (Err e) name fs old new few told = told

-- ---- one fault more than are shown is enough to look for

take_less : {X : Type 0} (n : ℕ) (xs : List X) → take n (take (suc n) xs) ≡ take n xs
take_less zero xs = refl
take_less (suc n) [] = refl
take_less (suc n) (x ∷ xs) = ap (λ ys. x ∷ ys) (take_less n xs)

more_than : {X : Type 0} (n : ℕ) (xs : List X) → nat_lt n (length (take (suc n) xs)) ≡ nat_lt n (length xs)
more_than n xs = by (nat_lt n (length xs)) refl
  where
    by : (b : Bool) → nat_lt n (length xs) ≡ b → nat_lt n (length (take (suc n) xs)) ≡ b
    by true is =
        let more : n < length xs = grind (arith, nat_tests) in
        let count : length (take (suc n) xs) ≡ suc n = length-take-le (suc n) xs (omega (arith, more)) in
        grind (arith, nat_tests)
    by false is =
        let few : length xs ≤ n = grind (arith, nat_tests) in
        ap (λ ys. nat_lt n (length ys)) (take_all (suc n) xs (omega (arith, few))) ∙ is

pub enough : (name : List ℕ) (fs : List ExpansionFault) → source_lines name (take 101 fs) ≡ source_lines name fs
enough name fs =
    ap (λ (shown : List ExpansionFault). fault_lines shown ++ cond (nat_lt 100 (length (take 101 fs))) (more_line name) []) (take_less 100 fs)
    ∙ ap (λ b. fault_lines (take 100 fs) ++ cond b (more_line name) []) (more_than 100 fs)
