-- Macros by their names, and the innermost of the open expansions.
use Rattle.std.specs.Prelude.{List, [], ◌∷◌, map, String, Option, Some, None}
use Rattle.std.specs.declared.alloc.Global.{Global}
use Rattle.std.specs.String.{string_bytes}
use Rattle.c25_meaning_expansion.specs.Acts as acts
use Rattle.c25_meaning_language.specs.Texts.{Named}
use Rattle.c25_meaning_expansion.specs.Expansion as exp
use Rattle.c25_macro.specs.Acts.{macro_of}
use Rattle.c25_macro.specs.declared.macros.Macro.{Macro}

-- macros with their names as bytes
abbrev pub named_macros : List (String Global × Macro) → Named acts.Macro
named_macros entries = map (λ e. (string_bytes e.0, macro_of e.1)) entries

-- the innermost of the open expansions, if one is open
abbrev pub innermost : List exp.Expansion → Option exp.Expansion
innermost [] = None
innermost (e ∷ es) = Some e
