-- One word more is written.
use Rattle.std.proofs.Common.{◌≡◌, ℕ, Bool, true, false, ◌||◌, List, [], ◌∷◌, ◌++◌, sym, ap, ◌∙◌, append_assoc, cond}
use Rattle.std.specs.Ordering.{nat_cmp}
use Rattle.std.specs.FinMap as map
use Rattle.std.proofs.lemmas.Bool.{cond-true, cond-false}
use Rattle.std.proofs.lemmas.List.Concat.{flat_map-append}
use Rattle.c25_hex.specs.HexText.{Stretch, alone, goes_on, stretches, stretches_on, written, needs_base, base_line, data_line, end_line, lines_on, text_of}
use Rattle.c25_hex.specs.View.{stretch_text}

-- the lines of the first words, and those of the others
text_first : (set : Bool) (t : Stretch) (later : List Stretch) → text_of (lines_on set (t ∷ later)) ≡ stretch_text set t ++ text_of (lines_on (set || needs_base set t) later)
unfolding lines_on
text_first set t later = by_base (needs_base set t) where
  by_base : (b : Bool) → text_of (cond b (base_line ∷ []) [] ++ data_line t ∷ lines_on (set || b) later)
      ≡ text_of (cond b (base_line ∷ []) [] ++ data_line t ∷ []) ++ text_of (lines_on (set || b) later)
  by_base true = flat_map-append (λ (line : List ℕ). line ++ 10 ∷ []) (base_line ∷ data_line t ∷ []) (lines_on (set || true) later)
  by_base false = flat_map-append (λ (line : List ℕ). line ++ 10 ∷ []) (data_line t ∷ []) (lines_on (set || false) later)

-- a line of words is written
pub line_written : (out more total : List ℕ) (set next : Bool) (t : Stretch) (later : List Stretch) → more ≡ out ++ stretch_text set t → next ≡ (set || needs_base set t)
    → out ++ text_of (lines_on set (t ∷ later)) ≡ total → more ++ text_of (lines_on next later) ≡ total
line_written out more total set next t later e f so_far =
    ap (λ (front : List ℕ). front ++ text_of (lines_on next later)) e
    ∙ ap (λ (b : Bool). (out ++ stretch_text set t) ++ text_of (lines_on b later)) f
    ∙ append_assoc out (stretch_text set t) (text_of (lines_on (set || needs_base set t) later))
    ∙ ap (λ (text : List ℕ). out ++ text) (sym (text_first set t later)) ∙ so_far

-- a word goes on the line that is begun
pub goes_further : (out total : List ℕ) (set : Bool) (t : Stretch) (e : ℕ × ℕ) (es all : List (ℕ × ℕ)) (words : List ℕ) → all ≡ e ∷ es → goes_on t e.0 ≡ true → words ≡ t.words ++ e.1 ∷ []
    → out ++ text_of (lines_on set (stretches_on t all)) ≡ total → out ++ text_of (lines_on set (stretches_on (record t { words = words }) es)) ≡ total
unfolding stretches_on
goes_further out total set t e es all words took on pushed so_far =
    ap (λ (ws : List ℕ). out ++ text_of (lines_on set (stretches_on (record t { words = ws }) es))) pushed
    ∙ ap (λ (ts : List Stretch). out ++ text_of (lines_on set ts)) (sym (cond-true (goes_on t e.0) (stretches_on (record t { words = t.words ++ e.1 ∷ [] }) es) (t ∷ stretches_on (alone e) es) on))
    ∙ ap (λ (entries : List (ℕ × ℕ)). out ++ text_of (lines_on set (stretches_on t entries))) (sym took) ∙ so_far

-- a word begins a line, and the one before it is written
pub begins_line : (out more total : List ℕ) (set next : Bool) (t u : Stretch) (e : ℕ × ℕ) (es all : List (ℕ × ℕ)) → all ≡ e ∷ es → goes_on t e.0 ≡ false → u ≡ alone e
    → more ≡ out ++ stretch_text set t → next ≡ (set || needs_base set t)
    → out ++ text_of (lines_on set (stretches_on t all)) ≡ total → more ++ text_of (lines_on next (stretches_on u es)) ≡ total
unfolding stretches_on
begins_line out more total set next t u e es all took off first written base so_far =
    ap (λ (v : Stretch). more ++ text_of (lines_on next (stretches_on v es))) first
    ∙ line_written out more total set next t (stretches_on (alone e) es) written base
    (ap (λ (ts : List Stretch). out ++ text_of (lines_on set ts)) (sym (cond-false (goes_on t e.0) (stretches_on (record t { words = t.words ++ e.1 ∷ [] }) es) (t ∷ stretches_on (alone e) es) off))
    ∙ ap (λ (entries : List (ℕ × ℕ)). out ++ text_of (lines_on set (stretches_on t entries))) (sym took) ∙ so_far)

-- no word is left, and the last line is written
pub last_line : (out more total : List ℕ) (set next : Bool) (t : Stretch) (all : List (ℕ × ℕ)) → all ≡ [] → more ≡ out ++ stretch_text set t → next ≡ (set || needs_base set t)
    → out ++ text_of (lines_on set (stretches_on t all)) ≡ total → more ++ text_of (end_line ∷ []) ≡ total
unfolding stretches_on lines_on
last_line out more total set next t all none written base so_far =
    line_written out more total set next t [] written base
    (ap (λ (entries : List (ℕ × ℕ)). out ++ text_of (lines_on set (stretches_on t entries))) (sym none) ∙ so_far)

-- all words are written, and the end line
pub all_written : (text body begun : List ℕ) (words : map.FinMap nat_cmp ℕ) (e : ℕ × ℕ) (es all : List (ℕ × ℕ)) (t : Stretch) → begun ≡ [] → all ≡ map.entries words → all ≡ e ∷ es → t ≡ alone e
    → body ++ text_of (end_line ∷ []) ≡ begun ++ text_of (lines_on false (stretches_on t es)) → text ≡ body ++ text_of (end_line ∷ []) → text ≡ written words
all_written text body begun words e es all t none is took first lines ended =
    ended ∙ lines ∙ ap (λ (front : List ℕ). front ++ text_of (lines_on false (stretches_on t es))) none
    ∙ ap (λ (u : Stretch). text_of (lines_on false (stretches_on u es))) first
    ∙ ap (λ (entries : List (ℕ × ℕ)). text_of (lines_on false (stretches entries))) (sym took ∙ is)

-- no words are written, and the end line
pub none_written : (text begun : List ℕ) (words : map.FinMap nat_cmp ℕ) (all : List (ℕ × ℕ)) → begun ≡ [] → all ≡ map.entries words → all ≡ [] → text ≡ begun ++ text_of (end_line ∷ []) → text ≡ written words
unfolding lines_on
none_written text begun words all empty is none ended =
    ended ∙ ap (λ (front : List ℕ). front ++ text_of (end_line ∷ [])) empty ∙ ap (λ (entries : List (ℕ × ℕ)). text_of (lines_on false (stretches entries))) (sym none ∙ is)
