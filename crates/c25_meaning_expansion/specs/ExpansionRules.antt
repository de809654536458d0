-- What each line does to the lines still to come, one rule a directive (SPRU018, macro language and assembler directives:
-- conditional assembly, macros, loops, substitution symbols, `.copy`; the order of the tests is this project's own).
--
-- The tests of a line, in their order. The first that fails is reported, and none after it is made.
--
--   34        the line is the 200,001st that is read                           `front` of ExpansionRuns
--             a line of a body that is collected: no further test              `in_macro`, `in_loop`
--   32        `.elseif` after `.else`; `.else` after `.else` in skipped lines  `reads_elseif`, `skips_outer`
--             a line that is skipped: no further test                          `skips_outer`, `skips_nested`
--   38        it is too long once substituted, or takes too many replacements  `unless_long`
--             it has no directive of expansion and calls no macro: it is given `calls`
--   10 to 13  `.macro` has no label, or the text of the line is faulty         `parts_for`, `parts_in`
--   51, 52, 20, 21, 35  its operands: count, form, expressions, parameters     `act_of` of Acts
--             its label is given as a line                                     `labelled`
--   22 to 25  the value of its operand                                         `needed`
--   30        there is no such file                                            `copies_by`
--   32        it goes on with, ends or leaves a block that is not open         `elseif_by`, `else_by`, `endif_by`,
--                                                                              `leaves`, `breaks_if`, `Stray` in `acts`
--   33        32 blocks are open                                               `begins_if`, `begins_expansion`,
--                                                                              `collects`, `copies_by`
--   36        the name is that of a macro or of a mnemonic                     `begins_macro`
--
-- 31, a block that is left open, is reported at the end of the file or body in which it began (`closes` of
-- ExpansionRuns).
use Rattle.std.specs.Prelude.{ℕ, ◌+◌, ◌-◌, ◌==◌, List, [], ◌∷◌, ◌++◌, Bool, true, false, not, ◌||◌, Option, Some, None, option_and_then, Result, Ok, Err, ℤ, pos, negsuc, if◌then◌else◌, is_some}
use Rattle.std.specs.Fmt.{signed_decimal}
use Rattle.c25_meaning_language.specs.Line.{first_word}
use Rattle.c25_meaning_language.specs.Absolute.{number_by}
use Rattle.c25_meaning_language.specs.Tree.{Tree}
use Rattle.c25_meaning_language.specs.Value.{Table, is_zero}
use Rattle.c25_meaning_common.specs.Results.{◌>>=◌}
use Rattle.c25_meaning_language.specs.Statement.{valued}
use Rattle.c25_meaning_instructions.specs.Spellings.{spelling_of}
use Rattle.c25_meaning_expansion.specs.Files.{Files, text_named}
use Rattle.c25_meaning_expansion.specs.Rows.{Row, rows_of, last_place, file_number}
use Rattle.c25_meaning_language.specs.Substitution.{substituted, substituted_before_comma, unsubstituted}
use Rattle.c25_meaning_language.specs.Texts.{SubstitutionTexts, with_name}
use Rattle.c25_meaning_expansion.specs.Acts.{ExpansionAct, If, ElseIf, Else, EndIf, Define, Stray, Exit, Loop, Break, Assign, Evaluate, Copy, End, Call, Macro, Order, directive_of, order_of, call_of}
use Rattle.c25_meaning_expansion.specs.Expansion.{Kind, Copied, Expanded, Turn, Reading, Acting, InMacro, InLoop, Dictionary, Config, Rewriting, Gives, Goes, Faults, Misses, unless, is_full, source_opened, with_branches, left_through, is_expansion, is_turn, stands_in, macro_named, seen, number_of, assigned, called}
use Rattle.c25_meaning_language.specs.declared.value.Value.{Value}
use Rattle.c25_meaning_common.specs.declared.placed.FileLine.{FileLine}
use Rattle.c25_meaning_expansion.specs.declared.expansion.Branch.{Branch}
use Rattle.c25_meaning_expansion.specs.declared.expansion.Phase.{Phase}
use Rattle.c25_meaning_expansion.specs.declared.expansion.Phase.TheVariants.{Seeking, Taking, Passing, ElseTaking, ElsePassing}
use Rattle.c25_meaning_language.specs.declared.long_line.LongLine.{LongLine}
use Rattle.c25_meaning_expansion.specs.declared.expansion.Directive.{Directive}
use Rattle.c25_meaning_expansion.specs.declared.expansion.Directive.TheVariants as directive
use Rattle.c25_meaning_language.specs.declared.statement.FaultKind.{FaultKind}
use Rattle.c25_meaning_language.specs.declared.statement.FaultKind.TheVariants as fault

-- ---- values that are needed now

-- the number of a value that must be absolute, or the fault
abbrev pub absolute_number : Result Value FaultKind → Result ℤ FaultKind
absolute_number value = value >>= λ v. number_by v.base v.offset

-- what follows with a number, or its fault at this place
abbrev pub with_number : FileLine ℕ → Result ℤ FaultKind → (ℤ → Rewriting) → Rewriting
with_number place (Ok number) next = next number
with_number place (Err kind) next = Faults place kind

-- what follows with the number of an expression under the symbols defined so far, or one of 22 to 25
abbrev pub needed : Table → FileLine ℕ → Tree → (ℤ → Rewriting) → Rewriting
needed s place e next = with_number place (absolute_number (valued s e)) next

-- ---- conditional lines: `.elseif` and `.else` by the phase of the `.if` that they go on with
--
--   phase         its lines   `.elseif`                                        `.else`
--   Seeking       skipped     Taking where its operand is not 0, else Seeking  ElseTaking
--   Taking        taken       Passing; its operand is not valued               ElsePassing
--   Passing       skipped     Passing; its operand is not looked at            ElsePassing
--   ElseTaking    taken       32                                               32
--   ElsePassing   skipped     32                                               32

-- whether the lines of an `.if` in this phase are taken
abbrev pub takes_lines : Phase → Bool
takes_lines Seeking = false
takes_lines Taking = true
takes_lines Passing = false
takes_lines ElseTaking = true
takes_lines ElsePassing = false

-- `.elseif` by the phase; `sought` is what follows where a true condition is still sought
abbrev pub elseif_in : Phase → FileLine ℕ → (Phase → Rewriting) → Rewriting → Rewriting
elseif_in Seeking place next sought = sought
elseif_in Taking place next sought = next Passing
elseif_in Passing place next sought = next Passing
elseif_in ElseTaking place next sought = Faults place fault.StrayEnd
elseif_in ElsePassing place next sought = Faults place fault.StrayEnd

-- `.else` by the phase
abbrev pub else_in : Phase → FileLine ℕ → (Phase → Rewriting) → Rewriting
else_in Seeking place next = next ElseTaking
else_in Taking place next = next ElsePassing
else_in Passing place next = next ElsePassing
else_in ElseTaking place next = Faults place fault.StrayEnd
else_in ElsePassing place next = Faults place fault.StrayEnd

-- the phase after a condition with this number: true if it is not 0
abbrev pub phase_of : ℤ → Phase
phase_of number = if is_zero number then Seeking else Taking

-- `.if`: one more is open
unfoldable pub begins_if : Table → FileLine ℕ → Tree → Config → Rewriting
begins_if s place e c = needed s place e (λ number.
    unless (is_full c) fault.Depth place (Goes (with_branches (record { phase = phase_of number; nested = 0 } ∷ c.frame.branches) c)))

-- the innermost `.if` goes on in this phase
abbrev pub enters : Branch → List Branch → Config → Phase → Rewriting
enters b bs c phase = Goes (with_branches (record b { phase = phase } ∷ bs) c)

-- `.elseif`, which must stand in an open `.if`
abbrev pub elseif_by : Table → FileLine ℕ → Tree → List Branch → Config → Rewriting
elseif_by s place e [] c = needed s place e (λ number. Faults place fault.StrayEnd)
elseif_by s place e (b ∷ bs) c = elseif_in b.phase place (enters b bs c) (needed s place e (λ number. enters b bs c (phase_of number)))

-- `.else`, which must stand in an open `.if`
abbrev pub else_by : FileLine ℕ → List Branch → Config → Rewriting
else_by place [] c = Faults place fault.StrayEnd
else_by place (b ∷ bs) c = else_in b.phase place (enters b bs c)

-- `.endif`, which ends the innermost `.if`
abbrev pub endif_by : FileLine ℕ → List Branch → Config → Rewriting
endif_by place [] c = Faults place fault.StrayEnd
endif_by place (b ∷ bs) c = Goes (with_branches bs c)

-- ---- macros and loops

-- `.macro`: its name must not be that of a macro or of a mnemonic; the next lines are collected
unfoldable pub begins_macro : FileLine ℕ → List ℕ → List (List ℕ) → Config → Rewriting
begins_macro place name parameters c =
    unless (is_some (macro_named c.names name) || is_some (spelling_of name)) fault.Redefined place
    (Goes (record c { mode = InMacro name parameters [] 0 }))

-- the call of a macro: its body comes next
unfoldable pub begins_expansion : FileLine ℕ → List Row → SubstitutionTexts → Config → Rewriting
begins_expansion place body arguments c =
    unless (is_full c) fault.Depth place (Goes (record (source_opened Expanded (last_place place body) body c) { names = called arguments c.names }))

-- the innermost file, expansion or turn that passes the test is left: its lines are dropped; where none is
-- open that passes, StrayEnd
abbrev pub leaves : (Kind → Bool) → FileLine ℕ → Config → Rewriting
leaves test place c = elim (left_through test c.lines c.frame c.outer c.names c) [ None ↦ Faults place fault.StrayEnd | Some rest ↦ Goes rest ]

-- how many turns a count asks for: none if it is negative
abbrev pub turns_of : ℤ → ℕ
turns_of (pos n) = n
turns_of (negsuc n) = 0

-- a loop of so many turns begins: the next lines are collected
abbrev pub collects : FileLine ℕ → ℕ → Config → Rewriting
collects place turns c = unless (is_full c) fault.Depth place (Goes (record c { mode = InLoop turns [] 0 }))

-- `.loop`: without a count it makes 1,024 turns
unfoldable pub begins_loop : Table → FileLine ℕ → Option Tree → Config → Rewriting
begins_loop s place None c = collects place 1024 c
begins_loop s place (Some e) c = needed s place e (λ number. collects place (turns_of number) c)

-- `.break`, which must stand in a loop, and leaves it if the condition is true
abbrev pub breaks_if : Bool → FileLine ℕ → Config → Rewriting
breaks_if true_so place c =
    unless (not (stands_in is_turn c)) fault.StrayEnd place (if true_so then leaves is_turn place c else Goes c)

-- `.break`: without a condition it leaves the loop
unfoldable pub breaks : Table → FileLine ℕ → Option Tree → Config → Rewriting
breaks s place None c = breaks_if true place c
breaks s place (Some e) c = needed s place e (λ number. breaks_if (not (is_zero number)) place c)

-- ---- texts and files

-- `.eval`: the name stands for the number in decimal
unfoldable pub evaluates : Table → FileLine ℕ → Tree → List ℕ → Config → Rewriting
evaluates s place e name c = needed s place e (λ number. Goes (record c { names = assigned name (signed_decimal number) c.names }))

-- `.copy` by the text of the file, if there is such a file: its lines come next
abbrev pub copies_by : Option (List ℕ) → ℕ → FileLine ℕ → List ℕ → Config → Rewriting
copies_by None file place name c = Misses place name
copies_by (Some text) file place name c =
    unless (is_full c) fault.Depth place (Goes (source_opened Copied (last_place place (rows_of file text)) (rows_of file text) c))

-- `.copy` and `.include`
unfoldable pub copies : Files → FileLine ℕ → List ℕ → Config → Rewriting
copies files place name c = copies_by (text_named files name) (file_number files name) place name c

-- `.end`: no lines are left and all blocks are closed
unfoldable pub ends_all : FileLine ℕ → Config → Rewriting
ends_all place c = Goes (record c { lines = []; frame = record { kind = Copied; last = place; branches = [] }; outer = []; names = record c.names { expansions = [] } })

-- the result of what a line asks for
unfoldable pub acts : Files → Table → FileLine ℕ → ExpansionAct → Config → Rewriting
acts files s place (If e) c = begins_if s place e c
acts files s place (ElseIf e) c = elseif_by s place e c.frame.branches c
acts files s place Else c = else_by place c.frame.branches c
acts files s place EndIf c = endif_by place c.frame.branches c
acts files s place (Define name parameters) c = begins_macro place name parameters c
acts files s place Stray c = Faults place fault.StrayEnd
acts files s place Exit c = leaves is_expansion place c
acts files s place (Loop count) c = begins_loop s place count c
acts files s place (Break condition) c = breaks s place condition c
acts files s place (Assign text name) c = Goes (record c { names = assigned name text c.names })
acts files s place (Evaluate e name) c = evaluates s place e name c
acts files s place (Copy name) c = copies files place name c
acts files s place End c = ends_all place c
acts files s place (Call body arguments) c = begins_expansion place body arguments c

-- ---- lines that are used: neither skipped nor collected

-- a line's label is given as a line of its own, and what the line asks for is done after that
abbrev pub labelled : Files → Table → FileLine ℕ → Option (List ℕ) → ExpansionAct → Config → Rewriting
labelled files s place None act c = acts files s place act c
labelled files s place (Some name) act c = Gives (record { place = place; text = name }) (record c { mode = Acting place act })

-- a line that asks something of expansion, or its fault
abbrev pub consumed : Files → Table → FileLine ℕ → Result Order FaultKind → Config → Rewriting
consumed files s place (Err kind) c = Faults place kind
consumed files s place (Ok order) c = labelled files s place order.label order.act c

-- the macro that the mnemonic field names, if it does
abbrev pub macro_of : Option (List ℕ) → Dictionary → Option Macro
macro_of word names = option_and_then (macro_named names) word

-- a line without a directive of expansion: a macro is called, or else the line is given as it is
abbrev pub calls : Files → Table → Row → Option Macro → Config → Rewriting
calls files s row None c = Gives row c
calls files s row (Some m) c = consumed files s row.place (call_of m row.text) c

-- a line after substitution, with this directive or none
abbrev pub uses : Files → Table → Row → Option Directive → Config → Rewriting
uses files s row (Some d) c = consumed files s row.place (order_of d row.text) c
uses files s row None c = calls files s row (macro_of (first_word row.text) c.names) c

-- the directive that the mnemonic field holds, if it does
abbrev pub directive_in : Option (List ℕ) → Option Directive
directive_in word = option_and_then directive_of word

-- a line after substitution; its directive before substitution decides how much of the line is substituted
abbrev pub substituted_as : Option Directive → Dictionary → List ℕ → Result (List ℕ) LongLine
substituted_as (Some directive.Macro) names text = unsubstituted text
substituted_as (Some directive.Assign) names text = substituted_before_comma (seen names) (number_of names.expansions) text
substituted_as (Some directive.Evaluate) names text = substituted_before_comma (seen names) (number_of names.expansions) text
substituted_as _ names text = substituted (seen names) (number_of names.expansions) text

-- what follows with a substituted line, or LongLine
abbrev pub unless_long : FileLine ℕ → Result (List ℕ) LongLine → (List ℕ → Rewriting) → Rewriting
unless_long place (Err e) next = Faults place fault.LongLine
unless_long place (Ok text) next = next text

-- a line that is used, with this directive before substitution; its mnemonic field after substitution decides
-- what it does
unfoldable pub used : Files → Table → Row → Option Directive → Config → Rewriting
used files s row raw c = unless_long row.place (substituted_as raw c.names row.text) (λ text.
    uses files s (record { place = row.place; text = text }) (directive_in (first_word text)) c)

-- a line that ends or goes on with an `.if` whose lines are skipped; its directive before substitution
-- decides what it does
unfoldable pub resumes : Files → Table → Row → Directive → Config → Rewriting
resumes files s row d c = unless_long row.place (substituted_as (Some d) c.names row.text) (λ text.
    consumed files s row.place (order_of d text) c)

-- ---- lines that are skipped

-- `nested` `.if`s are open inside the skipped lines of the innermost `.if`
abbrev pub nests : ℕ → Branch → List Branch → Config → Rewriting
nests nested b bs c = Goes (with_branches (record b { nested = nested } ∷ bs) c)

-- a line whose mnemonic field is `.elseif` before substitution: its operand is looked at only where a true
-- condition is still sought
abbrev pub reads_elseif : Files → Table → Row → Branch → List Branch → Config → Rewriting
reads_elseif files s row b bs c = elseif_in b.phase row.place (enters b bs c) (resumes files s row directive.ElseIf c)

-- a skipped line with this directive, where no `.if` is open inside the skipped lines
abbrev pub skips_outer : Files → Table → Row → Option Directive → Branch → List Branch → Config → Rewriting
skips_outer files s row (Some directive.If) b bs c = nests 1 b bs c
skips_outer files s row (Some directive.ElseIf) b bs c = reads_elseif files s row b bs c
skips_outer files s row (Some directive.Else) b bs c = else_in b.phase row.place (λ phase. resumes files s row directive.Else c)
skips_outer files s row (Some directive.EndIf) b bs c = resumes files s row directive.EndIf c
skips_outer files s row _ b bs c = Goes c

-- a skipped line with this directive, inside an `.if` of the skipped lines: only `.if` and `.endif` count
abbrev pub skips_nested : Option Directive → Branch → List Branch → Config → Rewriting
skips_nested (Some directive.If) b bs c = nests (b.nested + 1) b bs c
skips_nested (Some directive.EndIf) b bs c = nests (b.nested - 1) b bs c
skips_nested _ b bs c = Goes c

-- a skipped line with this directive
unfoldable pub skips : Files → Table → Row → Option Directive → Branch → List Branch → Config → Rewriting
skips files s row d b bs c = if b.nested == 0 then skips_outer files s row d b bs c else skips_nested d b bs c

-- a line with this directive in lines that are taken
abbrev pub takes : Files → Table → Row → Option Directive → Branch → List Branch → Config → Rewriting
takes files s row (Some directive.ElseIf) b bs c = reads_elseif files s row b bs c
takes files s row d b bs c = used files s row d c

-- a line with this directive, by the `.if`s that are open in its file, expansion or turn
abbrev pub reads_by : Files → Table → Row → Option Directive → List Branch → Config → Rewriting
reads_by files s row d [] c = used files s row d c
reads_by files s row d (b ∷ bs) c = if takes_lines b.phase then takes files s row d b bs c else skips files s row d b bs c

-- ---- lines that are collected

-- a line of a macro's body: `.endm` defines the macro, unless a macro in the body is open; any other line is
-- added to the body
unfoldable pub in_macro : Row → Option Directive → List ℕ → List (List ℕ) → List Row → ℕ → Config → Rewriting
in_macro row (Some directive.Macro) name parameters body nested c = Goes (record c { mode = InMacro name parameters (body ++ row ∷ []) (nested + 1) })
in_macro row (Some directive.EndMacro) name parameters body nested c =
    if nested == 0
    then Goes (record c { mode = Reading; names = record c.names { macros = with_name c.names.macros name (record { parameters = parameters; body = body }) } })
    else Goes (record c { mode = InMacro name parameters (body ++ row ∷ []) (nested - 1) })
in_macro row _ name parameters body nested c = Goes (record c { mode = InMacro name parameters (body ++ row ∷ []) nested })

-- the first turn of a loop whose lines were collected, if it makes any
abbrev pub turns_begin : FileLine ℕ → ℕ → List Row → Config → Rewriting
turns_begin place turns body c = if turns == 0 then Goes c else Goes (source_opened (Turn body (turns - 1)) (last_place place body) body c)

-- a line of a loop's body: `.endloop` begins the turns, unless a loop in the body is open; any other line is
-- added to the body
unfoldable pub in_loop : Row → Option Directive → ℕ → List Row → ℕ → Config → Rewriting
in_loop row (Some directive.Loop) turns body nested c = Goes (record c { mode = InLoop turns (body ++ row ∷ []) (nested + 1) })
in_loop row (Some directive.EndLoop) turns body nested c =
    if nested == 0 then turns_begin row.place turns body (record c { mode = Reading })
    else Goes (record c { mode = InLoop turns (body ++ row ∷ []) (nested - 1) })
in_loop row _ turns body nested c = Goes (record c { mode = InLoop turns (body ++ row ∷ []) nested })
