-- Two quotes are one, a byte at a time.
use Rattle.std.proofs.Common.{◌≡◌, ℕ, suc, ◌+◌, ◌-◌, ◌<◌, ◌≤◌, Bool, true, false, cond, ◌&&◌, List, [], ◌∷◌, ◌++◌, length, get_or, take, drop, refl, ap, sym, ◌∙◌, arith, append_assoc, append-nil, take-suc}
use Rattle.std.specs.Prelude.{◌==◌}
use Rattle.std.proofs.lemmas.List.{drop_all, get_or-drop, length-drop, take_rest}
use Rattle.std.proofs.lemmas.Bool.{false≢true}
use Rattle.std.proofs.lemmas.Bool.Decides.{nat_tests}
use Rattle.c25_meaning_language.specs.Arguments.{folded}
use Rattle.c25_substitution.proofs.Quotings.{cut_at}

abbrev fold_by : Bool → ℕ → List ℕ → List ℕ
fold_by second b rest = cond second (folded false rest) (b ∷ folded (b == 34) rest)

fold_step : (again : Bool) (b : ℕ) (rest : List ℕ) → folded again (b ∷ rest) ≡ fold_by (again && b == 34) b rest
unfolding folded
fold_step again b rest = refl

fold_at : (again : Bool) (text : List ℕ) (i : ℕ) → i < length text → folded again (drop i text) ≡ fold_by (again && get_or text i 0 == 34) (get_or text i 0) (drop (i + 1) text)
fold_at again text i h = ap (folded again) (cut_at text i h) ∙ fold_step again (get_or text i 0) (drop (i + 1) text)

-- one byte more of what is written as it is
run_on : (text : List ℕ) (from i : ℕ) → from ≤ i → i < length text → take (i + 1 - from) (drop from text) ≡ take (i - from) (drop from text) ++ get_or text i 0 ∷ []
run_on text from i o h =
    let k : ℕ = i - from in
    let next : suc k ≡ i + 1 - from = omega (arith, o) in
    let place : from + k ≡ i = omega (arith, o) in
    ap (λ n. take n (drop from text)) (sym next) ∙ take-suc (drop from text) k 0 (omega (arith, o, h, length-drop from text))
    ∙ ap (λ b. take k (drop from text) ++ b ∷ []) (get_or-drop from text k 0 ∙ ap (λ n. get_or text n 0) place)

-- the byte stays
pub stays : (out text : List ℕ) (from i : ℕ) (again : Bool) → from ≤ i → i < length text → (again && get_or text i 0 == 34) ≡ false →
    out ++ (take (i + 1 - from) (drop from text) ++ folded (get_or text i 0 == 34) (drop (i + 1) text)) ≡ out ++ (take (i - from) (drop from text) ++ folded again (drop i text))
stays out text from i again o h one =
    let b : ℕ = get_or text i 0 in
    let rest : List ℕ = drop (i + 1) text in
    ap (λ t. out ++ t) (ap (λ t. t ++ folded (b == 34) rest) (run_on text from i o h)
    ∙ append_assoc (take (i - from) (drop from text)) (b ∷ []) (folded (b == 34) rest)
    ∙ ap (λ t. take (i - from) (drop from text) ++ t) (sym (fold_at again text i h ∙ ap (λ s. fold_by s b rest) one)))

-- the second quote goes
pub goes : (out text : List ℕ) (from i : ℕ) (again : Bool) → i < length text → (again && get_or text i 0 == 34) ≡ true →
    (out ++ take (i - from) (drop from text)) ++ (take (i + 1 - (i + 1)) (drop (i + 1) text) ++ folded false (drop (i + 1) text)) ≡ out ++ (take (i - from) (drop from text) ++ folded again (drop i text))
goes out text from i again h two =
    let rest : List ℕ = drop (i + 1) text in
    let none : i + 1 - (i + 1) ≡ 0 = omega arith in
    ap (λ n. (out ++ take (i - from) (drop from text)) ++ (take n rest ++ folded false rest)) none
    ∙ append_assoc out (take (i - from) (drop from text)) (folded false rest)
    ∙ ap (λ t. out ++ (take (i - from) (drop from text) ++ t)) (sym (fold_at again text i h ∙ ap (λ s. fold_by s (get_or text i 0) rest) two))

-- at the end
pub rests : (out text : List ℕ) (from i : ℕ) (again : Bool) → length text ≤ i → i ≤ length text → out ++ drop from text ≡ out ++ (take (i - from) (drop from text) ++ folded again (drop i text))
unfolding folded
rests out text from i again h g =
    let e : i ≡ length text = omega (arith, h, g) in
    ap (λ t. out ++ t) (sym (ap (λ t. take (i - from) (drop from text) ++ folded again t) (drop_all i text h) ∙ append-nil (take (i - from) (drop from text)) ∙ ap (λ n. take (n - from) (drop from text)) e ∙ take_rest text from))

-- the second quote is ASCII
pub quote_ascii : (again : Bool) (b : ℕ) → (again && b == 34) ≡ true → b < 128
quote_ascii true b h = grind (arith, nat_tests)
quote_ascii false b h = absurd (false≢true h)
