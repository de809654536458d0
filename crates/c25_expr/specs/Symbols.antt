-- What the entries of a map from names to values stand for.
use Rattle.std.specs.Prelude.{ℕ, List, map, String}
use Rattle.std.specs.declared.alloc.Global.{Global}
use Rattle.std.specs.String.{string_bytes}
use Rattle.c25_meaning_language.specs.declared.value.Value.{Value}

-- entries with their names as bytes
abbrev pub texts : List (String Global × Value) → List (List ℕ × Value)
texts entries = map (λ e. (string_bytes e.0, e.1)) entries
