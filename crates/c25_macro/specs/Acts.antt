-- What the macros of an expander, and what a line asks of it, stand for in the definition of expansion.
use Rattle.std.specs.Prelude.{ℕ, List, map, String}
use Rattle.std.specs.Option.{option_map}
use Rattle.std.specs.String.{string_bytes}
use Rattle.std.specs.declared.alloc.Global.{Global}
use Rattle.c25_meaning_expansion.specs.Acts as acts
use Rattle.c25_expr.specs.View.{tree_of}
use Rattle.c25_macro.specs.declared.act.ExpansionAct.{ExpansionAct}
use Rattle.c25_macro.specs.declared.act.ExpansionAct.TheVariants as act
use Rattle.c25_macro.specs.declared.act.Order.{Order}
use Rattle.c25_macro.specs.declared.macros.Macro.{Macro}

-- names as bytes
abbrev pub bytes_of_names : List (String Global) → List (List ℕ)
bytes_of_names names = map string_bytes names

-- the macro of the definition that a macro stands for
abbrev pub macro_of : Macro → acts.Macro
macro_of m = record { parameters = bytes_of_names m.parameters.items; body = m.body }

-- the act of the definition that a line asks for
abbrev pub act_of : ExpansionAct → acts.ExpansionAct
act_of (act.If e) = acts.If (tree_of e)
act_of (act.ElseIf e) = acts.ElseIf (tree_of e)
act_of act.Else = acts.Else
act_of act.EndIf = acts.EndIf
act_of (act.Define name parameters) = acts.Define (string_bytes name) (bytes_of_names parameters.items)
act_of act.Stray = acts.Stray
act_of act.Exit = acts.Exit
act_of (act.Loop count) = acts.Loop (option_map tree_of count)
act_of (act.Break condition) = acts.Break (option_map tree_of condition)
act_of (act.Assign text name) = acts.Assign (string_bytes text) (string_bytes name)
act_of (act.Evaluate e name) = acts.Evaluate (tree_of e) (string_bytes name)
act_of (act.Copy name) = acts.Copy (string_bytes name)
act_of act.End = acts.End
act_of (act.Call body arguments) = acts.Call body arguments

-- the order of the definition that a line gives: its label, and what it asks for
abbrev pub order_of : Order → acts.Order
order_of o = record { label = option_map string_bytes o.label; act = act_of o.act }
