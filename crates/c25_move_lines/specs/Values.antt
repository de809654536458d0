-- The rules that rewrite values and local labels, and when the operands of a line say the same after them.
use Rattle.std.specs.Prelude.{◌≡◌, ◌⊎◌, ℕ, Bool, true, false, not, ◌&&◌, ◌||◌, List, [], ◌∷◌}
use Rattle.std.specs.List.{list_all}
use Rattle.c25_old_expressions.specs.declared.order.Order.{Order}
use Rattle.c25_old_expressions.specs.declared.order.Order.TheVariants.{AsWritten, ByLevel}
use Rattle.c25_old_expressions.specs.Labels.{KeepsLabel}
use Rattle.c25_old_expressions.specs.SameValue.{ChangesNoValue, HasNoOperands, KeepsOperands}
use Rattle.c25_move_lines.specs.LocalLabels.{AreNewNames, Scope}
use Rattle.c25_move_lines.specs.declared.rule.Rule.{Rule}
use Rattle.c25_move_lines.specs.declared.rule.Rule.TheVariants as rule
use Rattle.c25_move_lines.specs.declared.style.Style.{Style}
use Rattle.c25_move_lines.specs.declared.style.Style.TheVariants.{Early, Coff}

-- the order in which the operators of a source in this style act
abbrev pub order_of : Style → Order
order_of Early = AsWritten
order_of Coff = ByLevel

-- whether a rule rewrites values: by it the words of a line could become others
abbrev pub rewrites_values : Rule → Bool
rewrites_values rule.LeftToRight = true
rewrites_values rule.Hexadecimal = true
rewrites_values rule.Characters = true
rewrites_values _ = false

-- whether a rule rewrites values, or leaves the operands as they are
abbrev pub keeps_operands : Rule → Bool
keeps_operands rule.Comment = true
keeps_operands rule.Directive = true
keeps_operands r = rewrites_values r

-- whether no rule rewrites values
abbrev pub rewrite_none : List Rule → Bool
rewrite_none rules = list_all (λ r. not (rewrites_values r)) rules

-- whether values of a line were rewritten, and nothing else of its operands was, and no value is left
abbrev pub is_by_values : (done left : List Rule) → Bool
is_by_values done left = not (rewrite_none done) && list_all keeps_operands done && rewrite_none left

-- one line takes the place of a line, and its operands say the same
abbrev pub KeepsLine : Order → (old : List ℕ) → (lines : List (List ℕ)) → Type 0
KeepsLine order old (new ∷ []) = KeepsOperands order [] old new
KeepsLine order old _ = ⊥

-- where values of a line were rewritten, and nothing else of its operands was, its operands say the same, or a value is
-- left
abbrev pub KeepsValues : Style → (old : List ℕ) → (lines : List (List ℕ)) → (done left : List Rule) → Type 0
KeepsValues style old lines done left = is_by_values done left ≡ true → KeepsLine (order_of style) old lines

-- whether no rule that is done changed the operands but for values, and no value is left
abbrev pub keep_all : (done left : List Rule) → Bool
keep_all done left = list_all keeps_operands done && rewrite_none left

-- one line takes the place of a line, and no operand there changes its value
abbrev pub ChangesNoLine : Order → (old : List ℕ) → (lines : List (List ℕ)) → Type 0
ChangesNoLine order old (new ∷ []) = ChangesNoValue order old new
ChangesNoLine order old _ = ⊥

-- in the early style, where nothing but values was rewritten, if anything, no operand changes its value, or a value is left
abbrev pub KeepsEarlyValues : Style → (old : List ℕ) → (lines : List (List ℕ)) → (done left : List Rule) → Type 0
KeepsEarlyValues style old lines done left = style ≡ Early → keep_all done left ≡ true → ChangesNoLine (order_of style) old lines

-- what is claimed of the values of a change of a line, unless the line calls a macro
pub record KeepsAllValues (style : Style) (old : List ℕ) (lines : List (List ℕ)) (done left : List Rule) : Type 0 where
  pub rewritten : KeepsValues style old lines done left
  pub early : KeepsEarlyValues style old lines done left

-- ---- local labels

-- whether a rule gives local labels their names
abbrev pub names_labels : Rule → Bool
names_labels rule.LocalLabel = true
names_labels _ = false

-- whether no rule gives local labels their names
abbrev pub name_none : List Rule → Bool
name_none rules = list_all (λ r. not (names_labels r)) rules

-- whether local labels of a line got names, and nothing else of it was rewritten but values and its directive, and neither a
-- value nor a local label is left
abbrev pub is_by_labels : (done left : List Rule) → Bool
is_by_labels done left = not (name_none done) && list_all (λ r. names_labels r || keeps_operands r) done && rewrite_none left && name_none left

-- whether a rule takes what follows as a comment
abbrev pub takes_comment : Rule → Bool
takes_comment rule.Comment = true
takes_comment _ = false

-- the line has no operands: all that followed its word was taken as its comment, which is reported
abbrev pub IsCommented : (done : List Rule) → (new : List ℕ) → Type 0
IsCommented done new = (list_all (λ r. not (takes_comment r)) done ≡ false) × HasNoOperands new

-- one line takes the place of a line; its label and its operands say the same, where local labels get these names, or it has no
-- operands
abbrev pub KeepsNamedLine : Order → (labels : List (List ℕ)) → (old : List ℕ) → (lines : List (List ℕ)) → (done : List Rule) → Type 0
KeepsNamedLine order labels old (new ∷ []) done = KeepsLabel labels old new × (KeepsOperands order labels old new ⊎ IsCommented done new)
KeepsNamedLine order labels old _ done = ⊥

-- where local labels of a line got names, and nothing else of it was rewritten but values, its label and its operands say the
-- same under the names of the line's scope, or a value or a local label is left
abbrev pub KeepsLabels : Style → Scope → (old : List ℕ) → (lines : List (List ℕ)) → (done left : List Rule) → Type 0
KeepsLabels style scope old lines done left = is_by_labels done left ≡ true → (labels : List (List ℕ)) × AreNewNames scope labels × KeepsNamedLine (order_of style) labels old lines done
