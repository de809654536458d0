-- The first lines of files that show a style, file after file.
use Rattle.std.proofs.Common.{◌≡◌, ◌<◌, ◌≤◌, ◌+◌, ◌∙◌, ℕ, List, [], ◌∷◌, Option, Some, None, ap, get_or, length, map, refl, string_bytes, sym, drop}
use Rattle.std.proofs.lemmas.List.{drop_all, drop_more}
use Rattle.std.specs.Option.{option_map, option_or}
use Rattle.c25_move_lines.specs.declared.style.Style.{Style}
use Rattle.c25_move_style.specs.Shown.{first_showing}
use Rattle.c25_move_files.specs.Files.{Old, old_of}
use Rattle.c25_move_files.specs.Styles.{OldLine, first_shown, line_in, line_of}
use Rattle.c25_move_files.specs.declared.old.OldFile.{OldFile}
use Rattle.c25_move_files.specs.declared.style.Place.{Place}

or_assoc : {A : Type 0} (a b c : Option A) → option_or (option_or a b) c ≡ option_or a (option_or b c)
or_assoc None b c = refl
or_assoc (Some x) b c = refl

or_none : {A : Type 0} (a : Option A) → option_or a None ≡ a
or_none None = refl
or_none (Some x) = refl

shown_first : (style : Style) (f : Old) (fs : List Old) → first_shown style (f ∷ fs) ≡ option_or (line_in f.name (first_showing style f.text)) (first_shown style fs)
unfolding first_shown
shown_first style f fs = refl

shown_empty : (style : Style) → first_shown style [] ≡ None
unfolding first_shown
shown_empty style = refl

-- one file further
pub shown_further : (style : Style) (files : List OldFile) (i : ℕ) (d f : OldFile) (so_far more : Option Place) (name text : List ℕ) (line : Option ℕ) → i < length files → f ≡ get_or files i d → name ≡ string_bytes f.name
    → text ≡ string_bytes f.text → line ≡ first_showing style text → option_map line_of more ≡ option_or (option_map line_of so_far) (line_in name line)
    → option_or (option_map line_of so_far) (first_shown style (map old_of (drop i files))) ≡ first_shown style (map old_of files)
    → option_or (option_map line_of more) (first_shown style (map old_of (drop (i + 1) files))) ≡ first_shown style (map old_of files)
shown_further style files i d f so_far more name text line low at named texted lined is all =
    let known = option_map line_of so_far in
    let here = line_in (old_of (get_or files i d)).name (first_showing style (old_of (get_or files i d)).text) in
    let rest = first_shown style (map old_of (drop (i + 1) files)) in
    let own : line_in name line ≡ here =
    ap (λ (n : List ℕ). line_in n line) (named ∙ ap (λ (g : OldFile). string_bytes g.name) at)
    ∙ ap (λ (l : Option ℕ). line_in (old_of (get_or files i d)).name l) (lined ∙ ap (first_showing style) (texted ∙ ap (λ (g : OldFile). string_bytes g.text) at)) in
    let split : first_shown style (map old_of (drop i files)) ≡ option_or here rest =
    ap (λ (fs : List OldFile). first_shown style (map old_of fs)) (drop_more files i d low) ∙ shown_first style (old_of (get_or files i d)) (map old_of (drop (i + 1) files)) in
    ap (λ (o : Option OldLine). option_or o rest) (is ∙ ap (option_or known) own) ∙ or_assoc known here rest
    ∙ ap (option_or known) (sym split) ∙ all

-- all files
pub shown_all : (style : Style) (files : List OldFile) (i : ℕ) (so_far : Option Place) → length files ≤ i
    → option_or (option_map line_of so_far) (first_shown style (map old_of (drop i files))) ≡ first_shown style (map old_of files)
    → option_map line_of so_far ≡ first_shown style (map old_of files)
shown_all style files i so_far high all =
    sym (or_none (option_map line_of so_far))
    ∙ ap (option_or (option_map line_of so_far)) (sym (ap (λ (fs : List OldFile). first_shown style (map old_of fs)) (drop_all i files high) ∙ shown_empty style)) ∙ all
