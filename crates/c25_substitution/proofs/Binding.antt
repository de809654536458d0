-- One parameter more has its argument.
use Rattle.std.proofs.Common.{◌≡◌, ℕ, ◌+◌, Bool, List, [], ◌∷◌, ◌++◌, length, map, take, drop, ap, sym, ◌∙◌, append_assoc, append-nil, String}
use Rattle.std.specs.Prelude.{◌==◌}
use Rattle.std.specs.declared.alloc.Global.{Global}
use Rattle.std.specs.String.{string_bytes}
use Rattle.std.proofs.lemmas.List.{length-map}
use Rattle.c25_meaning_language.specs.Arguments.{argument_len, bound, unquoted}

bound_first : (p : List ℕ) (ps : List (List ℕ)) (last : Bool) (text argument rest : List ℕ) → last ≡ (length ps == 0) →
    argument ≡ take (argument_len last text) text → rest ≡ drop (argument_len last text + 1) text → bound (p ∷ ps) text ≡ (p, unquoted argument) ∷ bound ps rest
unfolding bound
bound_first p ps last text argument rest l a r =
    ap (λ b. (p, unquoted (take (argument_len b text) text)) ∷ bound ps (drop (argument_len b text + 1) text)) (sym l)
    ∙ ap (λ t. (p, unquoted t) ∷ bound ps (drop (argument_len last text + 1) text)) (sym a)
    ∙ ap (λ t. (p, unquoted argument) ∷ bound ps t) (sym r)

pub bound_more : (found more : List (List ℕ × List ℕ)) (left others : List (String Global)) (p : String Global) (name argument text rest : List ℕ) (value : List ℕ) (last : Bool) → left ≡ p ∷ others →
    last ≡ (length others == 0) → argument ≡ take (argument_len last text) text → rest ≡ drop (argument_len last text + 1) text → name ≡ string_bytes p → value ≡ unquoted argument → more ≡ found ++ (name, value) ∷ [] →
    more ++ bound (map (λ p. string_bytes p) others) rest ≡ found ++ bound (map (λ p. string_bytes p) left) text
bound_more found more left others p name argument text rest value last l e a r n v m =
    let ps : List (List ℕ) = map (λ p. string_bytes p) others in
    ap (λ xs. xs ++ bound ps rest) m ∙ append_assoc found ((name, value) ∷ []) (bound ps rest)
    ∙ ap (λ x. found ++ (x, value) ∷ bound ps rest) n ∙ ap (λ x. found ++ (string_bytes p, x) ∷ bound ps rest) v
    ∙ ap (λ xs. found ++ xs) (sym (bound_first (string_bytes p) ps last text argument rest (e ∙ ap (λ k. k == 0) (sym (length-map others (λ (q : String Global). string_bytes q)))) a r))
    ∙ ap (λ xs. found ++ bound (map (λ p. string_bytes p) xs) text) (sym l)

pub bound_none : (found all : List (List ℕ × List ℕ)) (left : List (String Global)) (text : List ℕ) → left ≡ [] → found ++ bound (map (λ p. string_bytes p) left) text ≡ all → found ≡ all
unfolding bound
bound_none found all left text none so_far = sym (append-nil found) ∙ ap (λ xs. found ++ bound (map (λ p. string_bytes p) xs) text) (sym none) ∙ so_far
