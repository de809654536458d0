-- Rules that are left.
use Rattle.std.proofs.Common.{◌≡◌, ℕ, Bool, true, false, not, ◌&&◌, ◌||◌, List, [], ◌∷◌, ◌++◌, refl, ap, sym, subst, ◌∙◌}
use Rattle.std.specs.List.{list_all}
use Rattle.std.proofs.lemmas.Bool.{false≢true}
use Rattle.c25_move_lines.specs.declared.change.Change.{Change}
use Rattle.c25_move_lines.specs.declared.rule.Rule.{Rule}
use Rattle.c25_move_lines.specs.declared.rule.Rule.TheVariants.{LocalLabel}
use Rattle.c25_move_lines.specs.declared.style.Style.{Style}
use Rattle.c25_move_lines.specs.Changes.{KeepsUnreported, lines_of}
use Rattle.c25_move_lines.specs.LocalLabels.{Scope}
use Rattle.c25_move_lines.specs.Values.{KeepsAllValues, KeepsLabels, KeepsValues, is_by_labels, is_by_values, keeps_operands, name_none, names_labels, rewrite_none, rewrites_values}

no_more : (b : Bool) → (b && false) ≡ false
no_more true = refl
no_more false = refl

by_last : (rs : List Rule) (r : Rule) → rewrites_values r ≡ true → rewrite_none (rs ++ r ∷ []) ≡ false
by_last [] r h = ap (λ b. not b && true) h
by_last (x ∷ rs) r h = ap (λ b. not (rewrites_values x) && b) (by_last rs r h) ∙ no_more (not (rewrites_values x))

-- a rule of values that is left
pub left_by : (left more : List Rule) (r : Rule) → rewrites_values r ≡ true → more ≡ left ++ r ∷ [] → rewrite_none more ≡ false
left_by left more r h pushed = ap rewrite_none pushed ∙ by_last left r h

none_left : (b c : Bool) → c ≡ false → (b && c) ≡ true → ⊥
none_left b c h k = false≢true (sym (no_more b) ∙ ap (λ x. b && x) (sym h) ∙ k)

-- where a value is left all is claimed
pub kept_by_left : (style : Style) (old : List ℕ) (lines : List (List ℕ)) (done left : List Rule) → rewrite_none left ≡ false → KeepsAllValues style old lines done left
kept_by_left style old lines done left h = record {
  rewritten = λ k. absurd (none_left (not (rewrite_none done) && list_all keeps_operands done) (rewrite_none left) h k);
  early = λ _ k. absurd (none_left (list_all keeps_operands done) (rewrite_none left) h k);
}

-- and something is reported
pub reported_by_left : (line : List ℕ) (c : Change) → rewrite_none c.left.items ≡ false → KeepsUnreported line c
reported_by_left line c h = λ _ none. absurd (false≢true (sym h ∙ ap rewrite_none none))

-- where no rule is done no value was rewritten
pub nothing_done : (style : Style) (old : List ℕ) (lines : List (List ℕ)) (done left : List Rule) → done ≡ [] → KeepsValues style old lines done left
nothing_done style old lines done left none h =
    absurd (false≢true (sym (ap (λ rs. is_by_values rs left) none) ∙ h))

-- ---- local labels that are left

named_last : (rs : List Rule) (r : Rule) → names_labels r ≡ true → name_none (rs ++ r ∷ []) ≡ false
named_last [] r h = ap (λ b. not b && true) h
named_last (x ∷ rs) r h = ap (λ b. not (names_labels x) && b) (named_last rs r h) ∙ no_more (not (names_labels x))

-- a local label that is left
labels_left : (left more : List Rule) → more ≡ left ++ LocalLabel ∷ [] → name_none more ≡ false
labels_left left more pushed = ap name_none pushed ∙ named_last left LocalLabel refl

one_less : (b c d : Bool) → (d ≡ true → c ≡ true) → (b && d) ≡ true → (b && c) ≡ true
one_less true c d h k = h k
one_less false c d h k = k

none_before : (rs : List Rule) (r : Rule) → rewrite_none (rs ++ r ∷ []) ≡ true → rewrite_none rs ≡ true
none_before [] r h = refl
none_before (x ∷ rs) r h = one_less (not (rewrites_values x)) (rewrite_none rs) (rewrite_none (rs ++ r ∷ [])) (none_before rs r) h

-- where a further rule is left no more is claimed of values
values_stay : (style : Style) (old : List ℕ) (lines : List (List ℕ)) (done left more : List Rule) (r : Rule) → more ≡ left ++ r ∷ []
    → KeepsAllValues style old lines done left → KeepsAllValues style old lines done more
values_stay style old lines done left more r pushed h =
    let fewer : rewrite_none more ≡ true → rewrite_none left ≡ true = λ k. none_before left r (sym (ap rewrite_none pushed) ∙ k) in
    record {
      rewritten = λ k. h.rewritten (one_less (not (rewrite_none done) && list_all keeps_operands done) (rewrite_none left) (rewrite_none more) fewer k);
      early = λ early k. h.early early (one_less (list_all keeps_operands done) (rewrite_none left) (rewrite_none more) fewer k);
    }

-- where a local label is left all is claimed of local labels
kept_by_label_left : (style : Style) (scope : Scope) (old : List ℕ) (lines : List (List ℕ)) (done left : List Rule) → name_none left ≡ false → KeepsLabels style scope old lines done left
kept_by_label_left style scope old lines done left h = λ k.
    absurd (none_left (not (name_none done) && list_all (λ r. names_labels r || keeps_operands r) done && rewrite_none left) (name_none left) h k)

-- and something is reported
reported_by_label_left : (line : List ℕ) (c : Change) → name_none c.left.items ≡ false → KeepsUnreported line c
reported_by_label_left line c h = λ _ none. absurd (false≢true (sym h ∙ ap name_none none))

-- the change of a line with the local label left
pub labels_by_left : (style : Style) (scope : Scope) (old : List ℕ) (change c : Change) → c.left.items ≡ change.left.items ++ LocalLabel ∷ [] → KeepsLabels style scope old (lines_of c) c.done.items c.left.items
labels_by_left style scope old change c left = kept_by_label_left style scope old (lines_of c) c.done.items c.left.items (labels_left change.left.items c.left.items left)

pub values_by_left : (style : Style) (old : List ℕ) (change c : Change) → c.left.items ≡ change.left.items ++ LocalLabel ∷ [] → c.done.items ≡ change.done.items → lines_of c ≡ lines_of change
    → KeepsAllValues style old (lines_of change) change.done.items change.left.items → KeepsAllValues style old (lines_of c) c.done.items c.left.items
values_by_left style old change c left done lines h =
    subst (λ ls. KeepsAllValues style old ls c.done.items c.left.items) (sym lines)
    (subst (λ ds. KeepsAllValues style old (lines_of change) ds c.left.items) (sym done) (values_stay style old (lines_of change) change.done.items change.left.items c.left.items LocalLabel left h))

pub unreported_by_left : (line : List ℕ) (change c : Change) → c.left.items ≡ change.left.items ++ LocalLabel ∷ [] → KeepsUnreported line c
unreported_by_left line change c left = reported_by_label_left line c (labels_left change.left.items c.left.items left)

-- where no rule is done no local label got a name
pub no_label_done : (style : Style) (scope : Scope) (old : List ℕ) (lines : List (List ℕ)) (done left : List Rule) → done ≡ [] → KeepsLabels style scope old lines done left
no_label_done style scope old lines done left none h =
    absurd (false≢true (sym (ap (λ rs. is_by_labels rs left) none) ∙ h))
