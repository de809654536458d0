-- Lines that are moved, one after another.
use Rattle.std.proofs.Common.{◌≡◌, ◌++◌, ◌∙◌, ℕ, List, [], ◌∷◌, cond, map, append-nil, append_assoc, sym, ap, subst, Option, Some, None}
use Rattle.std.proofs.lemmas.Grind.{flat_map-append}
use Rattle.std.proofs.lemmas.List.{map-append}
use Rattle.c25_move_lines.specs.declared.style.Style.{Style}
use Rattle.c25_move.specs.declared.region.Region.{Region}
use Rattle.c25_move.specs.declared.region.Region.TheVariants.{Outside}
use Rattle.c25_move.specs.declared.moved_line.MovedLine.{MovedLine}
use Rattle.c25_move.specs.declared.moved_line.LineEnd.{LineEnd}
use Rattle.c25_meaning_language.specs.Line.{first_word}
use Rattle.c25_move_lines.specs.LocalLabels.{IsLookedThrough}
use Rattle.c25_move_lines.specs.Progress.{IsPassed, another_block, begins_block}
use Rattle.c25_move_lines.specs.Values.{KeepsLabels}
use Rattle.c25_move_lines.specs.declared.around.Progress.{Progress}
use Rattle.c25_move_lines.specs.declared.rule.Rule.{Rule}
use Rattle.c25_move_lines.proofs.Names.{new_names_in_source}
use Rattle.c25_move.specs.Promises.{IsMoved, KeepAll, KeepsPromises, Standing, at_start, blocks_after, region_after, standing_after}
use Rattle.c25_move.specs.Rewritten.{Rewritten, end_bytes, old_row, old_text, rewritten_of}

-- one line more
one_more : (ms : List MovedLine) (m : MovedLine) → map rewritten_of (ms ++ m ∷ []) ≡ map rewritten_of ms ++ rewritten_of m ∷ []
one_more ms m = map-append rewritten_of ms (m ∷ [])

-- the text of the old lines with one more
pub text_more : (ms more : List MovedLine) (m : MovedLine) (line rest after text : List ℕ) (end : LineEnd) → more ≡ ms ++ m ∷ [] → m.old.now ≡ line → m.end ≡ end
    → (line ++ end_bytes end) ++ after ≡ rest → old_text (map rewritten_of ms) ++ rest ≡ text → old_text (map rewritten_of more) ++ after ≡ text
text_more ms more m line rest after text end is old ended cut known =
    ap (λ (l : List MovedLine). old_text (map rewritten_of l) ++ after) is
    ∙ ap (λ (l : List Rewritten). old_text l ++ after) (one_more ms m)
    ∙ ap (λ l. l ++ after) (flat_map-append old_row (map rewritten_of ms) (rewritten_of m ∷ []))
    ∙ append_assoc (old_text (map rewritten_of ms)) (old_row (rewritten_of m) ++ []) after
    ∙ ap (λ l. old_text (map rewritten_of ms) ++ (l ++ after)) (append-nil (old_row (rewritten_of m)))
    ∙ ap (λ l. old_text (map rewritten_of ms) ++ ((l ++ end_bytes m.end) ++ after)) old
    ∙ ap (λ (e : LineEnd). old_text (map rewritten_of ms) ++ ((line ++ end_bytes e) ++ after)) ended
    ∙ ap (λ l. old_text (map rewritten_of ms) ++ l) cut
    ∙ known

-- the number of blocks after a line that is passed
pub blocks_passed : (line : List ℕ) (old new : Progress) (before : ℕ) → old.blocks ≡ before → IsPassed (first_word line) old new → new.blocks ≡ blocks_after before line
blocks_passed line old new before start h = by_word (first_word line) h
  where
    by_word : (word : Option (List ℕ)) → IsPassed word old new → new.blocks ≡ (elim word [ None ↦ before | Some w ↦ cond (begins_block w) (another_block before) before ])
    by_word None h = ap (λ (p : Progress). p.blocks) h ∙ start
    by_word (Some w) h = h.blocks ∙ ap (λ (n : ℕ). cond (begins_block w) (another_block n) n) start

-- a line that stands here
abbrev pub standing : Region → (source : List ℕ) → (blocks : ℕ) → Standing
standing region source blocks = record { region = region; scope = record { source = source; blocks = blocks } }

-- the promises of the lines with one more
pub keep_more : (style : Style) (macros : List (List ℕ)) (first : Standing) (region next : Region) (source : List ℕ) (blocks : ℕ) (old new : Progress) (ms items : List MovedLine) (m : MovedLine) (line : List ℕ) → items ≡ ms ++ m ∷ [] → m.old.now ≡ line
    → next ≡ region_after style region line → old.blocks ≡ blocks → IsPassed (first_word line) old new → KeepsPromises style macros (standing region source blocks) (rewritten_of m)
    → ((more : List Rewritten) → KeepAll style macros (standing region source blocks) more → KeepAll style macros first (map rewritten_of ms ++ more))
    → (more : List Rewritten) → KeepAll style macros (standing next source new.blocks) more → KeepAll style macros first (map rewritten_of items ++ more)
keep_more style macros first region next source blocks old new ms items m line is same after start passed promises known more kept =
    let here : standing_after style (standing region source blocks) m.old.now ≡ standing next source new.blocks =
    ap (standing_after style (standing region source blocks)) same ∙ ap (λ (r : Region). standing r source (blocks_after blocks line)) (sym after)
    ∙ ap (standing next source) (sym (blocks_passed line old new blocks start passed)) in
    let all : KeepAll style macros first (map rewritten_of ms ++ (rewritten_of m ∷ more)) = known (rewritten_of m ∷ more) (promises, subst (λ (r : Standing). KeepAll style macros r more) (sym here) kept) in
    let place : map rewritten_of items ++ more ≡ map rewritten_of ms ++ (rewritten_of m ∷ more) =
    ap (λ (l : List MovedLine). map rewritten_of l ++ more) is ∙ ap (λ (l : List Rewritten). l ++ more) (one_more ms m) ∙ append_assoc (map rewritten_of ms) (rewritten_of m ∷ []) more in
    subst (KeepAll style macros first) (sym place) all

-- the text of all lines
pub text_all : (text : List ℕ) (ms : List MovedLine) (rest : List ℕ) → rest ≡ [] → old_text (map rewritten_of ms) ++ rest ≡ text → old_text (map rewritten_of ms) ≡ text
text_all text ms rest none known = sym (append-nil (old_text (map rewritten_of ms))) ∙ ap (λ l. old_text (map rewritten_of ms) ++ l) (sym none) ∙ known

-- the promises of all lines
pub keep_all : (style : Style) (macros : List (List ℕ)) (first s : Standing) (ms : List MovedLine)
    → ((more : List Rewritten) → KeepAll style macros s more → KeepAll style macros first (map rewritten_of ms ++ more)) → KeepAll style macros first (map rewritten_of ms)
keep_all style macros first s ms keeps = subst (KeepAll style macros first) (append-nil (map rewritten_of ms)) (keeps [] tt)

-- ---- the text that the rules look through

labels_in_source : (style : Style) (source text : List ℕ) (blocks : ℕ) (old : List ℕ) (lines : List (List ℕ)) (done left : List Rule) → IsLookedThrough source text
    → KeepsLabels style (record { source = text; blocks = blocks }) old lines done left → KeepsLabels style (record { source = source; blocks = blocks }) old lines done left
labels_in_source style source text blocks old lines done left through keeps h =
    let k = keeps h in
    (k.0, new_names_in_source source text blocks k.0 through k.1, k.2)

-- the names that are none in the text that is looked through are none in the source
pub keep_in_source : (style : Style) (macros : List (List ℕ)) (source text : List ℕ) (region : Region) (blocks : ℕ) (ms : List Rewritten) → IsLookedThrough source text
    → KeepAll style macros (record { region = region; scope = record { source = text; blocks = blocks } }) ms
    → KeepAll style macros (record { region = region; scope = record { source = source; blocks = blocks } }) ms
keep_in_source style macros source text region blocks [] through k = tt
keep_in_source style macros source text region blocks (m ∷ ms) through k = (
  record {
    unreported_is_unchanged = k.0.unreported_is_unchanged;
    read_stays = k.0.read_stays;
    behind_stays = k.0.behind_stays;
    refused_is_reported = k.0.refused_is_reported;
    values_are_kept = k.0.values_are_kept;
    labels_are_kept = λ outside no_call. labels_in_source style source text blocks m.old m.lines m.done m.left through (k.0.labels_are_kept outside no_call);
  },
  keep_in_source style macros source text (region_after style region m.old) (blocks_after blocks m.old) ms through k.1,
)

-- a source is moved
pub moved_all : (style : Style) (macros : List (List ℕ)) (blocks : ℕ) (source text : List ℕ) (ms : List Rewritten) → IsLookedThrough source text → old_text ms ≡ source
    → KeepAll style macros (at_start text blocks) ms → IsMoved style macros blocks source ms
moved_all style macros blocks source text ms through is k = record {
  lines = is;
  promises = keep_in_source style macros source text Outside blocks ms through k;
}
