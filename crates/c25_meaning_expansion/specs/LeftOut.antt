-- Lines that expansion refuses, and what it goes on with where all faults of a source are wanted: the refused
-- line is left out, so that what is reported after it is no consequence of its fault.
--
--   the refused line          what is left out
--   `.if`                     its lines up to its `.endif`, those after `.elseif` and `.else` too
--   `.elseif`, `.else`        the same, from the line on; where it stands in no `.if`, or after `.else`, the line alone
--   `.endif`                  nothing: it ends the innermost `.if`, if one is open
--   `.loop`                   its lines up to its `.endloop`
--   `.macro`                  its lines up to its `.endm`; the macro is not defined
--   `.break`                  the rest of the innermost loop, if one is open
--   any other line            the line alone
--
-- Nothing is read after 33 and 34, after a block that is left open (31), and after a refused `.if` or `.loop` where
-- 32 blocks are open. A label that was given before the fault was found stays.
use Rattle.std.specs.Prelude.{ℕ, zero, suc, ◌-◌, Bool, true, false, if◌then◌else◌, List, [], ◌∷◌, drop, Option, Some, None, unwrap_or}
use Rattle.c25_meaning_language.specs.Line.{first_word}
use Rattle.c25_meaning_language.specs.Value.{Table}
use Rattle.c25_meaning_language.specs.declared.statement.FaultKind.{FaultKind}
use Rattle.c25_meaning_language.specs.declared.statement.FaultKind.TheVariants as fault
use Rattle.c25_meaning_expansion.specs.Acts.{ExpansionAct, If, ElseIf, Else, EndIf, Define, Loop, Break}
use Rattle.c25_meaning_expansion.specs.Expansion.{LineOrEnd, Read, Close, Mode, Reading, Acting, InMacro, InLoop, Config, Rewriting, Gives, Goes, Finishes, Faults, Misses, is_full, is_turn, left_through, with_branches}
use Rattle.c25_meaning_expansion.specs.ExpansionRules.{directive_in}
use Rattle.c25_meaning_expansion.specs.ExpansionRuns.{first, rewrite, weight}
use Rattle.c25_meaning_expansion.specs.Files.{Files}
use Rattle.c25_meaning_expansion.specs.declared.expansion.Branch.{Branch}
use Rattle.c25_meaning_expansion.specs.declared.expansion.Directive.{Directive}
use Rattle.c25_meaning_expansion.specs.declared.expansion.Directive.TheVariants as directive
use Rattle.c25_meaning_expansion.specs.declared.expansion.Phase.{Phase}
use Rattle.c25_meaning_expansion.specs.declared.expansion.Phase.TheVariants.{Seeking, Taking, Passing, ElseTaking, ElsePassing}

-- ---- where a line is refused

-- the configuration before a rewriting, or what follows where it merely goes on
abbrev pub stopped_by : Rewriting → Config → (Config → Config) → Config
stopped_by (Goes d) c f = f d
stopped_by (Gives row d) c f = c
stopped_by (Finishes d) c f = c
stopped_by (Faults place kind) c f = c
stopped_by (Misses place name) c f = c

-- the configuration before the first of n + 1 rewritings that does not merely go on, or before the last of them
unfoldable pub stopped_within : Files → Table → ℕ → Config → Config
stopped_within files s zero c = c
stopped_within files s (suc n) c = stopped_by (rewrite files s c) c (stopped_within files s n)

-- the configuration before the first rewriting that does not merely go on
unfoldable pub stopped : Files → Table → Config → Config
stopped files s c = stopped_within files s (weight c) c

-- ---- a line that is left out

-- an `.if` whose lines were taken, or are sought, is passed over to its end; one that is after its `.else` stays
abbrev pub passed_over : Branch → Phase → Branch
passed_over b Seeking = record b { phase = Passing }
passed_over b Taking = record b { phase = Passing }
passed_over b Passing = record b { phase = Passing }
passed_over b ElseTaking = b
passed_over b ElsePassing = b

-- the same of the innermost `.if`, if one is open
abbrev pub innermost_passed_over : List Branch → List Branch
innermost_passed_over [] = []
innermost_passed_over (b ∷ bs) = passed_over b b.phase ∷ bs

-- what is gone on with after a line with this directive, or none, is left out; None where nothing is read any more
abbrev pub without : Option Directive → Config → Option Config
without (Some directive.If) c = if is_full c then None else Some (with_branches (record { phase = Passing; nested = 0 } ∷ c.frame.branches) c)
without (Some directive.ElseIf) c = Some (with_branches (innermost_passed_over c.frame.branches) c)
without (Some directive.Else) c = Some (with_branches (innermost_passed_over c.frame.branches) c)
without (Some directive.EndIf) c = Some (with_branches (drop 1 c.frame.branches) c)
-- a loop of no turns
without (Some directive.Loop) c = if is_full c then None else Some (record c { mode = InLoop 0 [] 0 })
-- a macro without a name, which no line calls
without (Some directive.Macro) c = Some (record c { mode = InMacro [] [] [] 0 })
without (Some directive.Break) c = Some (unwrap_or (left_through is_turn c.lines c.frame c.outer c.names c) c)
without _ c = Some c

-- the directive of a line whose label was given, by what it asks for
abbrev pub directive_by : ExpansionAct → Option Directive
directive_by (If e) = Some directive.If
directive_by (ElseIf e) = Some directive.ElseIf
directive_by Else = Some directive.Else
directive_by EndIf = Some directive.EndIf
directive_by (Define name parameters) = Some directive.Macro
directive_by (Loop count) = Some directive.Loop
directive_by (Break condition) = Some directive.Break
directive_by _ = None

-- what is gone on with after the next line is left out, by its directive before substitution
abbrev pub next_left_out : Mode → List LineOrEnd → Config → Option Config
next_left_out (Acting place act) lines c = without (directive_by act) (record c { mode = Reading })
next_left_out Reading (Read row ∷ rest) c = without (directive_in (first_word row.text)) (record c { lines = rest; mode = Reading; left = c.left - 1 })
next_left_out _ _ c = None

-- whether nothing is read after a fault of this kind
abbrev pub ends_reading : FaultKind → Bool
ends_reading fault.OpenBlock = true
ends_reading fault.Depth = true
ends_reading fault.Lines = true
ends_reading _ = false

-- what is gone on with after a rewriting of a configuration that is refused, if anything is
abbrev pub left_out : Rewriting → Config → Option Config
left_out (Faults place kind) c = if ends_reading kind then None else next_left_out c.mode c.lines c
left_out (Misses place name) c = next_left_out c.mode c.lines c
left_out (Gives row d) c = None
left_out (Goes d) c = None
left_out (Finishes d) c = None

-- what is gone on with after the first line that is refused, if anything is
abbrev pub first_left_out : Files → Table → Config → Option Config
first_left_out files s c = left_out (first files s c) (stopped files s c)
