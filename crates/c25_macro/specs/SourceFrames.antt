-- What the open files, expansions and turns of an expander stand for.
use Rattle.c25_macro.specs.declared.frames.ExitTarget.{ExitTarget}
use Rattle.c25_macro.specs.declared.frames.ExitTarget.TheVariants as blocks
use Rattle.std.specs.Prelude.{Bool, false, ◌||◌, List, [], ◌∷◌, ◌++◌, map}
use Rattle.c25_meaning_expansion.specs.Expansion as exp
use Rattle.c25_meaning_expansion.specs.Expansion.{LineOrEnd, Read, Close}
use Rattle.c25_meaning_expansion.specs.declared.expansion.Branch.{Branch}
use Rattle.c25_macro.specs.declared.frames.Kind.{Kind}
use Rattle.c25_macro.specs.declared.frames.Kind.TheVariants as kinds
use Rattle.c25_macro.specs.declared.frames.SourceFrame.{SourceFrame}
use Rattle.c25_macro.specs.declared.frames.Source.{Source}

-- what the lines of a source are: those of a copied file, of an expansion or of a turn
abbrev pub kind_of : Kind → exp.Kind
kind_of kinds.Copied = exp.Copied
kind_of kinds.Expanded = exp.Expanded
kind_of (kinds.Turn body more) = exp.Turn body more

-- the scope of the definition that an open file, expansion or turn stands for
abbrev pub scope_of : SourceFrame → exp.SourceFrame
scope_of f = record { kind = kind_of f.kind; last = f.last; branches = f.branches }

-- the lines still to come from the sources outside the current one, the innermost first, each source after an
-- end
abbrev pub after : List Source → List LineOrEnd
after [] = []
after (s ∷ ss) = Close ∷ (map Read s.lines.rest ++ after ss)

-- the scopes of the sources outside the current one, the innermost first
abbrev pub frames : List Source → List exp.SourceFrame
frames [] = []
frames (s ∷ ss) = scope_of s.frame ∷ frames ss

-- the test for blocks of this kind: expansions, or turns
abbrev pub test_of : ExitTarget → exp.Kind → Bool
test_of blocks.Expansion = exp.is_expansion
test_of blocks.Turn = exp.is_turn

-- whether a block that passes the test can be left from a source of this kind inside these: it passes, or one of
-- these does, other than the outermost
abbrev pub can_leave : (exp.Kind → Bool) → exp.Kind → List exp.SourceFrame → Bool
can_leave test kind [] = false
can_leave test kind (f ∷ fs) = test kind || can_leave test f.kind fs

-- the open `.if`s without the innermost
abbrev pub other_branches : List Branch → List Branch
other_branches [] = []
other_branches (b ∷ bs) = bs
