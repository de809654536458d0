-- Sources that are unchanged.
use Rattle.std.proofs.Common.{◌≡◌, ◌++◌, ◌∙◌, ℕ, List, [], ◌∷◌, append-nil, refl, ap}
use Rattle.c25_move_lines.specs.declared.style.Style.{Style}
use Rattle.c25_move_lines.specs.declared.style.Style.TheVariants.{Coff}
use Rattle.c25_move.specs.declared.region.Region.TheVariants.{Outside}
use Rattle.c25_move.specs.Promises.{AreLabelsKept, AreRead, AreUnreported, AreValuesKept, IsMoved, IsUnchanged, KeepAll, Standing, at_start, standing_after}
use Rattle.c25_move.specs.Rewritten.{Rewritten, new_row, new_text, old_row, old_text, rows_of}

row_same : (m : Rewritten) → IsUnchanged m → new_row m ≡ old_row m
row_same m h = ap (rows_of m.end) h ∙ append-nil (old_row m)

texts_same : (style : Style) (macros : List (List ℕ)) (s : Standing) (ms : List Rewritten) → KeepAll style macros s ms → AreUnreported ms → new_text ms ≡ old_text ms
texts_same style macros s [] k h = refl
texts_same style macros s (m ∷ ms) k h =
    ap (λ l. l ++ new_text ms) (row_same m (k.0.unreported_is_unchanged h.0))
    ∙ ap (λ l. old_row m ++ l) (texts_same style macros (standing_after style s m.old) ms k.1 h.1)

all_unreported : (macros : List (List ℕ)) (s : Standing) (ms : List Rewritten) → KeepAll Coff macros s ms → AreRead ms → AreUnreported ms
all_unreported macros s [] k h = tt
all_unreported macros s (m ∷ ms) k h = ((k.0.read_stays refl h.0).unreported, all_unreported macros (standing_after Coff s m.old) ms k.1 h.1)

pub unreported : (style : Style) (macros : List (List ℕ)) (blocks : ℕ) (text : List ℕ) (ms : List Rewritten) → IsMoved style macros blocks text ms → AreUnreported ms → new_text ms ≡ text
unreported style macros blocks text ms moved h = texts_same style macros (at_start text blocks) ms moved.promises h ∙ moved.lines

pub read : (macros : List (List ℕ)) (blocks : ℕ) (text : List ℕ) (ms : List Rewritten) → IsMoved Coff macros blocks text ms → AreRead ms → (new_text ms ≡ text) × AreUnreported ms
read macros blocks text ms moved h =
    let silent : AreUnreported ms = all_unreported macros (at_start text blocks) ms moved.promises h in
    (unreported Coff macros blocks text ms moved silent, silent)

all_kept : (style : Style) (macros : List (List ℕ)) (s : Standing) (ms : List Rewritten) → KeepAll style macros s ms → AreValuesKept style macros s.region ms
all_kept style macros s [] k = tt
all_kept style macros s (m ∷ ms) k = (k.0.values_are_kept, all_kept style macros (standing_after style s m.old) ms k.1)

pub kept : (style : Style) (macros : List (List ℕ)) (blocks : ℕ) (text : List ℕ) (ms : List Rewritten) → IsMoved style macros blocks text ms → AreValuesKept style macros Outside ms
kept style macros blocks text ms moved = all_kept style macros (at_start text blocks) ms moved.promises

all_labels_kept : (style : Style) (macros : List (List ℕ)) (s : Standing) (ms : List Rewritten) → KeepAll style macros s ms → AreLabelsKept style macros s ms
all_labels_kept style macros s [] k = tt
all_labels_kept style macros s (m ∷ ms) k = (k.0.labels_are_kept, all_labels_kept style macros (standing_after style s m.old) ms k.1)

pub labels_kept : (style : Style) (macros : List (List ℕ)) (blocks : ℕ) (text : List ℕ) (ms : List Rewritten) → IsMoved style macros blocks text ms → AreLabelsKept style macros (at_start text blocks) ms
labels_kept style macros blocks text ms moved = all_labels_kept style macros (at_start text blocks) ms moved.promises
