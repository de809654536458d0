-- When the texts of a layout are assembled and linked.
use Rattle.std.specs.Prelude.{◌≡◌, ◌⊎◌, ◌+◌, ◌≤◌, true, List, [], ◌∷◌, length, map, None, IfSome}
use Rattle.std.specs.List.{All, AllByRecursion}
use Rattle.c25_layout.specs.Layout.{rows_words}
use Rattle.c25_layout.specs.declared.layout.Part.{Part}
use Rattle.c25_layout.specs.Layouts.{IsLayout, names_of}
use Rattle.c25_meaning_assembly.specs.Sections.{are_distinct}
use Rattle.c25_meaning_language.specs.Value.{predefined}

-- a layout of no more parts and names than a module may have, in which no name stands twice, and none is a
-- register's or a port's
pub record IsAssemblable (parts : List Part) : Type 0 where
  pub layout : IsLayout parts
  pub few_parts : length parts ≤ 254
  pub few_names : length (names_of parts) ≤ 65535
  pub apart : are_distinct (map (λ n. n.0) (names_of parts)) ≡ true
  pub own : All (λ n. predefined n.0 ≡ None) (names_of parts)

-- a part that runs elsewhere than it is loaded runs in block B0, seen at FF00h to FFFFh
abbrev pub RunsInB0 : Part → Type 0
RunsInB0 p = IfSome p.run (λ run. (0xFF00 ≤ run) × (run + length (rows_words p.rows.items) ≤ 0x10000))

-- two parts that run elsewhere do not run at the same words
abbrev pub RunApart : Part → Part → Type 0
RunApart p q = IfSome p.run (λ run. IfSome q.run (λ other. (run + length (rows_words p.rows.items) ≤ other) ⊎ (other + length (rows_words q.rows.items) ≤ run)))

-- parts that run elsewhere run in block B0, each at words of its own
abbrev pub RunsFit : List Part → Type 0
RunsFit [] = Unit {0}
RunsFit (p ∷ parts) = RunsInB0 p × AllByRecursion (RunApart p) parts × RunsFit parts

-- a layout whose source is assembled, and whose parts may run where they do
pub record IsBuildable (parts : List Part) : Type 0 where
  pub source : IsAssemblable parts
  pub runs : RunsFit parts
