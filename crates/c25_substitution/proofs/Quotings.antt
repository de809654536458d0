-- One byte further in a text.
use Rattle.std.proofs.Common.{◌≡◌, ℕ, suc, ◌+◌, ◌<◌, ◌≤◌, Bool, true, false, cond, List, ◌∷◌, length, get_or, drop, Option, Some, None, option_map, refl, ap, sym, ◌∙◌, arith, drop-cons}
use Rattle.std.proofs.lemmas.List.{drop_all}
use Rattle.c25_meaning_language.specs.Quoting.{behind, is_outer, outer_len, last_comma, or_before}
use Rattle.c25_meaning_language.specs.declared.quoting.Quoting.{Quoting}

-- the byte at a place, and what follows
pub cut_at : (text : List ℕ) (i : ℕ) → i < length text → drop i text ≡ get_or text i 0 ∷ drop (i + 1) text
cut_at text i h = let e : i + 1 ≡ suc i = omega arith in rw e (drop-cons text i 0 h)

module _ (sought : ℕ) where
  abbrev outer_by : Bool → Quoting → ℕ → List ℕ → ℕ
  outer_by found q b rest = cond found 0 (1 + outer_len sought (behind b q) rest)

  outer_step : (q : Quoting) (b : ℕ) (rest : List ℕ) → outer_len sought q (b ∷ rest) ≡ outer_by (is_outer sought b q) q b rest
  unfolding outer_len
  outer_step q b rest = refl

  pub outer_len-here : (q : Quoting) (text : List ℕ) (i : ℕ) → i < length text → is_outer sought (get_or text i 0) q ≡ true → outer_len sought q (drop i text) ≡ 0
  outer_len-here q text i h found = ap (outer_len sought q) (cut_at text i h) ∙ outer_step q (get_or text i 0) (drop (i + 1) text) ∙ ap (λ f. outer_by f q (get_or text i 0) (drop (i + 1) text)) found

  pub outer_len-further : (q : Quoting) (text : List ℕ) (i : ℕ) → i < length text → is_outer sought (get_or text i 0) q ≡ false → outer_len sought q (drop i text) ≡ 1 + outer_len sought (behind (get_or text i 0) q) (drop (i + 1) text)
  outer_len-further q text i h none = ap (outer_len sought q) (cut_at text i h) ∙ outer_step q (get_or text i 0) (drop (i + 1) text) ∙ ap (λ f. outer_by f q (get_or text i 0) (drop (i + 1) text)) none

  pub outer_len-end : (q : Quoting) (text : List ℕ) (i : ℕ) → length text ≤ i → outer_len sought q (drop i text) ≡ 0
  unfolding outer_len
  outer_len-end q text i h = ap (outer_len sought q) (drop_all i text h)

pub ruleset outer_lens = (outer_len-here, outer_len-further, outer_len-end)

-- the last comma of a text, where one was found at a place before
abbrev pub comma_from : ℕ → ℕ → Option ℕ → ℕ
comma_from found i None = found
comma_from found i (Some n) = i + n

comma_step : (q : Quoting) (b : ℕ) (rest : List ℕ) → last_comma q (b ∷ rest) ≡ or_before (option_map (λ n. n + 1) (last_comma (behind b q) rest)) (is_outer 44 b q)
unfolding last_comma
comma_step q b rest = refl

comma_here : (found i : ℕ) (o : Option ℕ) → comma_from found i (or_before (option_map (λ n. n + 1) o) true) ≡ comma_from i (i + 1) o
comma_here found i None = omega arith
comma_here found i (Some n) = omega arith

comma_further : (found i : ℕ) (o : Option ℕ) → comma_from found i (or_before (option_map (λ n. n + 1) o) false) ≡ comma_from found (i + 1) o
comma_further found i None = refl
comma_further found i (Some n) = omega arith

pub last_comma-here : (q : Quoting) (text : List ℕ) (i found : ℕ) → i < length text → is_outer 44 (get_or text i 0) q ≡ true →
    comma_from i (i + 1) (last_comma (behind (get_or text i 0) q) (drop (i + 1) text)) ≡ comma_from found i (last_comma q (drop i text))
last_comma-here q text i found h comma =
    sym (ap (λ t. comma_from found i (last_comma q t)) (cut_at text i h)
    ∙ ap (comma_from found i) (comma_step q (get_or text i 0) (drop (i + 1) text) ∙ ap (or_before (option_map (λ n. n + 1) (last_comma (behind (get_or text i 0) q) (drop (i + 1) text)))) comma)
    ∙ comma_here found i (last_comma (behind (get_or text i 0) q) (drop (i + 1) text)))

pub last_comma-further : (q : Quoting) (text : List ℕ) (i found : ℕ) → i < length text → is_outer 44 (get_or text i 0) q ≡ false →
    comma_from found (i + 1) (last_comma (behind (get_or text i 0) q) (drop (i + 1) text)) ≡ comma_from found i (last_comma q (drop i text))
last_comma-further q text i found h none =
    sym (ap (λ t. comma_from found i (last_comma q t)) (cut_at text i h)
    ∙ ap (comma_from found i) (comma_step q (get_or text i 0) (drop (i + 1) text) ∙ ap (or_before (option_map (λ n. n + 1) (last_comma (behind (get_or text i 0) q) (drop (i + 1) text)))) none)
    ∙ comma_further found i (last_comma (behind (get_or text i 0) q) (drop (i + 1) text)))

pub last_comma-end : (q : Quoting) (text : List ℕ) (i found : ℕ) → length text ≤ i → comma_from found i (last_comma q (drop i text)) ≡ found
unfolding last_comma
last_comma-end q text i found h = ap (λ t. comma_from found i (last_comma q t)) (drop_all i text h)

by_start : (len : ℕ) (o : Option ℕ) → comma_from len 0 o ≡ elim o [ None ↦ len | Some n ↦ n ]
by_start len None = refl
by_start len (Some n) = omega arith

pub last_comma-start : (q : Quoting) (text : List ℕ) → comma_from (length text) 0 (last_comma q text) ≡ elim (last_comma q text) [ None ↦ length text | Some n ↦ n ]
last_comma-start q text = by_start (length text) (last_comma q text)

pub ruleset last_commas = (last_comma-here, last_comma-further, last_comma-end, last_comma-start)
