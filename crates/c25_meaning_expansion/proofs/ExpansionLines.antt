-- What is changed by a line that was read: it nests one deeper at most, and it is given, or acted on, or its label is given.
use Rattle.std.proofs.Common.{◌≡◌, ℕ, ◌+◌, ◌*◌, ◌-◌, ◌==◌, ◌≤◌, List, [], ◌∷◌, length, refl, ap, arith, Option, Some, None, Result, Ok, Err}
use Rattle.c25_meaning_language.specs.Line.{first_word}
use Rattle.c25_meaning_language.specs.Value.{Table}
use Rattle.c25_meaning_expansion.specs.Files.{Files}
use Rattle.c25_meaning_expansion.specs.Rows.{Row}
use Rattle.c25_meaning_expansion.specs.Acts.{ExpansionAct, Macro, Order, order_of, call_of}
use Rattle.c25_meaning_expansion.specs.Expansion.{Mode, InMacro, InLoop, Config, Rewriting, depth, with_branches}
use Rattle.c25_meaning_expansion.specs.ExpansionRules.{acts, labelled, consumed, macro_of, calls, uses, directive_in, substituted_as, unless_long, used, resumes, takes_lines, enters, reads_elseif, skips_outer, skips_nested, skips, takes, reads_by, in_macro, in_loop}
use Rattle.c25_meaning_expansion.specs.ExpansionRuns.{read_by}
use Rattle.c25_meaning_expansion.specs.ExpansionBounds.{nested_of, pending, collecting, nesting, skipping}
use Rattle.c25_meaning_expansion.proofs.ExpansionActs.{Comes, gives, goes, faults, misses, comes_if, comes_elseif, comes_else, IsIdle, Acted, Never, acted, blocks_in}
use Rattle.c25_meaning_common.specs.declared.placed.FileLine.{FileLine}
use Rattle.c25_meaning_expansion.specs.declared.expansion.Branch.{Branch}
use Rattle.c25_meaning_language.specs.declared.long_line.LongLine.{LongLine}
use Rattle.c25_meaning_expansion.specs.declared.expansion.Directive.{Directive}
use Rattle.c25_meaning_expansion.specs.declared.expansion.Directive.TheVariants as directive
use Rattle.c25_meaning_language.specs.declared.statement.FaultKind.{FaultKind}

-- what a line that was read in this mode changes
pub record Took (m : Mode) (c d : Config) : Type 0 where
  pub left : d.left ≡ c.left
  pub frames : length d.outer + 2 * pending d.mode ≤ length c.outer + 2
  pub nested : nested_of d.mode ≤ nested_of m + 1
  pub skipped : skipping d ≤ skipping c + 1
  pub expansions : d.names.count + pending d.mode ≤ c.names.count + 1
  pub blocks : depth c + collecting m ≤ 32 → depth d + collecting d.mode ≤ 32

-- what a line that was read in this mode changes, and its result
abbrev pub Takes : Mode → Config → Rewriting → Type 0
Takes m c r = Comes (Took m c) (Took m c) r

takes_acted : (m : Mode) (c : Config) (r : Rewriting) → Comes (Acted c) Never r → Takes m c r
takes_acted m c _ (goes h) = goes (omega arith)
takes_acted m c _ (gives h) = absurd h
takes_acted m c _ faults = faults
takes_acted m c _ misses = misses

-- ---- lines that are used

module _ (files : Files) (s : Table) (m : Mode) where
  takes_labelled : (place : FileLine ℕ) (label : Option (List ℕ)) (act : ExpansionAct) (c : Config) → IsIdle c.mode → Takes m c (labelled files s place label act c)
  takes_labelled place None act c h = takes_acted m c (acts files s place act c) (acted files s place act c h)
  takes_labelled place (Some name) act c h = gives (omega arith)

  takes_consumed : (place : FileLine ℕ) (order : Result Order FaultKind) (c : Config) → IsIdle c.mode → Takes m c (consumed files s place order c)
  takes_consumed place (Err kind) c h = faults
  takes_consumed place (Ok order) c h = takes_labelled place order.label order.act c h

  takes_calls : (row : Row) (macro : Option Macro) (c : Config) → IsIdle c.mode → Takes m c (calls files s row macro c)
  takes_calls row None c h = gives (omega arith)
  takes_calls row (Some called) c h = takes_consumed row.place (call_of called row.text) c h

  takes_uses : (row : Row) (d : Option Directive) (c : Config) → IsIdle c.mode → Takes m c (uses files s row d c)
  takes_uses row (Some d) c h = takes_consumed row.place (order_of d row.text) c h
  takes_uses row None c h = takes_calls row (macro_of (first_word row.text) c.names) c h

  takes_unless_long : (place : FileLine ℕ) (text : Result (List ℕ) LongLine) (next : List ℕ → Rewriting) (c : Config) → ((t : List ℕ) → Takes m c (next t)) → Takes m c (unless_long place text next)
  takes_unless_long place (Err e) next c h = faults
  takes_unless_long place (Ok text) next c h = h text

  takes_used : (row : Row) (raw : Option Directive) (c : Config) → IsIdle c.mode → Takes m c (used files s row raw c)
  unfolding used
  takes_used row raw c h = takes_unless_long row.place (substituted_as raw c.names row.text) _ c (λ text. takes_uses (record { place = row.place; text = text }) (directive_in (first_word text)) c h)

  takes_resumes : (row : Row) (d : Directive) (c : Config) → IsIdle c.mode → Takes m c (resumes files s row d c)
  unfolding resumes
  takes_resumes row d c h = takes_unless_long row.place (substituted_as (Some d) c.names row.text) _ c (λ text. takes_consumed row.place (order_of d text) c h)

  -- ---- lines that are skipped

  -- the innermost `.if` goes on so
  took_branch : (new b : Branch) (bs : List Branch) (c : Config) → IsIdle c.mode → b ∷ bs ≡ c.frame.branches → new.nested ≤ b.nested + 1 → Took m c (with_branches (new ∷ bs) c)
  took_branch new b bs c h same n = omega (arith, ap nesting same, ap length same)

  takes_elseif : (row : Row) (b : Branch) (bs : List Branch) (c : Config) → IsIdle c.mode → b ∷ bs ≡ c.frame.branches → Takes m c (reads_elseif files s row b bs c)
  takes_elseif row b bs c h same = comes_elseif b.phase row.place (enters b bs c) _
      (λ phase. goes (took_branch (record b { phase = phase }) b bs c h same (omega arith))) (takes_resumes row directive.ElseIf c h)

  takes_outer : (row : Row) (d : Option Directive) (b : Branch) (bs : List Branch) (c : Config) → IsIdle c.mode → b ∷ bs ≡ c.frame.branches → Takes m c (skips_outer files s row d b bs c)
  takes_outer row (Some directive.If) b bs c h same = goes (took_branch (record b { nested = 1 }) b bs c h same (omega arith))
  takes_outer row (Some directive.ElseIf) b bs c h same = takes_elseif row b bs c h same
  takes_outer row (Some directive.Else) b bs c h same = comes_else b.phase row.place _ (λ phase. takes_resumes row directive.Else c h)
  takes_outer row (Some directive.EndIf) b bs c h same = takes_resumes row directive.EndIf c h
  takes_outer row _ b bs c h same = goes (omega arith)

  takes_nested : (d : Option Directive) (b : Branch) (bs : List Branch) (c : Config) → IsIdle c.mode → b ∷ bs ≡ c.frame.branches → Takes m c (skips_nested d b bs c)
  takes_nested (Some directive.If) b bs c h same = goes (took_branch (record b { nested = b.nested + 1 }) b bs c h same (omega arith))
  takes_nested (Some directive.EndIf) b bs c h same = goes (took_branch (record b { nested = b.nested - 1 }) b bs c h same (omega arith))
  takes_nested _ b bs c h same = goes (omega arith)

  takes_skipped : (row : Row) (d : Option Directive) (b : Branch) (bs : List Branch) (c : Config) → IsIdle c.mode → b ∷ bs ≡ c.frame.branches → Takes m c (skips files s row d b bs c)
  unfolding skips
  takes_skipped row d b bs c h same = comes_if (b.nested == 0) _ _ (takes_outer row d b bs c h same) (takes_nested d b bs c h same)

  takes_taken : (row : Row) (d : Option Directive) (b : Branch) (bs : List Branch) (c : Config) → IsIdle c.mode → b ∷ bs ≡ c.frame.branches → Takes m c (takes files s row d b bs c)
  takes_taken row (Some directive.ElseIf) b bs c h same = takes_elseif row b bs c h same
  takes_taken row d b bs c h same = takes_used row d c h

  takes_by : (row : Row) (d : Option Directive) (bs : List Branch) (c : Config) → IsIdle c.mode → bs ≡ c.frame.branches → Takes m c (reads_by files s row d bs c)
  takes_by row d [] c h same = takes_used row d c h
  takes_by row d (b ∷ bs) c h same = comes_if (takes_lines b.phase) _ _ (takes_taken row d b bs c h same) (takes_skipped row d b bs c h same)

-- ---- lines that are collected

takes_in_macro : (row : Row) (d : Option Directive) (name : List ℕ) (parameters : List (List ℕ)) (body : List Row) (nested : ℕ) (c : Config) → IsIdle c.mode → Takes (InMacro name parameters body nested) c (in_macro row d name parameters body nested c)
unfolding in_macro
takes_in_macro row (Some directive.Macro) name parameters body nested c h = goes (omega arith)
takes_in_macro row (Some directive.EndMacro) name parameters body nested c h = comes_if (nested == 0) _ _ (goes (omega arith)) (goes (omega arith))
takes_in_macro row _ name parameters body nested c h = goes (omega arith)

takes_in_loop : (row : Row) (d : Option Directive) (turns : ℕ) (body : List Row) (nested : ℕ) (c : Config) → IsIdle c.mode → Takes (InLoop turns body nested) c (in_loop row d turns body nested c)
unfolding in_loop
takes_in_loop row (Some directive.Loop) turns body nested c h = goes (omega arith)
takes_in_loop row (Some directive.EndLoop) turns body nested c h = comes_if (nested == 0) _ _
    (comes_if (turns == 0) _ _ (goes (omega arith)) (goes (omega (arith, blocks_in c.frame c.outer))))
    (goes (omega arith))
takes_in_loop row _ turns body nested c h = goes (omega arith)

-- the result of a line that was read in some mode
pub takes_read : (files : Files) (s : Table) (row : Row) (m : Mode) (c : Config) → IsIdle c.mode → Takes m c (read_by files s row m c)
takes_read files s row (InMacro name parameters body nested) c h = takes_in_macro row (directive_in (first_word row.text)) name parameters body nested c h
takes_read files s row (InLoop turns body nested) c h = takes_in_loop row (directive_in (first_word row.text)) turns body nested c h
takes_read files s row m c h = takes_by files s m row (directive_in (first_word row.text)) c.frame.branches c h refl
