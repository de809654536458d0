-- What the types of statements stand for.
use Rattle.std.specs.Prelude.{ℕ, List, map, String, Result, Ok, Err}
use Rattle.std.specs.Option.{option_map}
use Rattle.std.specs.String.{string_bytes}
use denote.Ref.{Bor}
use Rattle.c25_meaning_language.specs.Tree.{Tree}
use Rattle.c25_meaning_assembly.specs.StatementLine as line
use Rattle.c25_meaning_assembly.specs.AssemblyLine as says
use Rattle.c25_meaning_language.specs.declared.statement.FaultKind.{FaultKind}
use Rattle.c25_expr.specs.View.{tree_of}
use Rattle.c25_expr.specs.declared.tree.Expr.{Expr}
use Rattle.c25_statements.specs.declared.statement.Operation.{Operation}
use Rattle.c25_statements.specs.declared.statement.Room.{Room}
use Rattle.c25_statements.specs.declared.statement.AssemblyAct.{AssemblyAct}
use Rattle.c25_statements.specs.declared.statement.AssemblyAct.TheVariants as act
use Rattle.c25_statements.specs.declared.statement.Statement.{Statement}
use Rattle.c25_statements.specs.Exprs.{exprs_in}
use Rattle.c25_statements.specs.declared.trees.Trees.{Trees}

-- the bytes of borrowed texts
abbrev pub texts_of : List (Bor (List ℕ)) → List (List ℕ)
texts_of ts = map (λ t. t.now) ts

-- the trees of expressions
abbrev pub trees_of : List Expr → List Tree
trees_of es = map tree_of es

-- the expressions of the operands so far
abbrev pub so_far : Trees → line.Trees
so_far t = record { trees = trees_of t.exprs.items; deep = t.deep }

-- an instruction as it is written
abbrev pub operation_of : Operation → line.Operation
operation_of o = record { form = o.form; trees = trees_of (exprs_in o.trees) }

-- a count, or the fault of its expression
abbrev pub count_tree : Result Expr FaultKind → Result Tree FaultKind
count_tree (Ok e) = Ok (tree_of e)
count_tree (Err f) = Err f

-- the count and the flag of a reservation
abbrev pub room_of : Room → says.Room
room_of r = record { count = tree_of r.count; flag = option_map tree_of r.flag }

-- a count and a flag, or the fault of one of them
abbrev pub room_in : Result Room FaultKind → Result says.Room FaultKind
room_in (Ok r) = Ok (room_of r)
room_in (Err f) = Err f

-- what a line does
abbrev pub act_of : AssemblyAct → says.AssemblyAct
act_of act.Nothing = says.Nothing
act_of (act.Enter section) = says.Enter (string_bytes section)
act_of (act.Reserve section name room) = says.Reserve (string_bytes section) name.now (room_in room)
act_of (act.Equate name value) = says.Equate name.now (tree_of value)
act_of (act.Put target operands) = says.Put target (trees_of (exprs_in operands))
act_of (act.Load words) = says.Load words.items
act_of (act.Space bits) = says.Space (tree_of bits)
act_of (act.Declare names) = says.Declare (texts_of names.items)
act_of (act.Export names) = says.Export (texts_of names.items)
act_of (act.Label name) = says.Label name.now
act_of act.Registers = says.Registers

-- what a line says
abbrev pub statement_of : Statement → says.Statement
statement_of s = record { label = option_map (λ t. t.now) s.label; act = act_of s.act }
