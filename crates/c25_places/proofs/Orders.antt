-- A line that expansion refuses has a part where it is refused.
use Rattle.std.proofs.Common.{◌≡◌, ℕ, ◌+◌, ◌-◌, ◌<◌, Bool, true, false, cond, List, [], ◌∷◌, length, take, drop, map, Option, Some, None, Result, Ok, Err, refl, sym, ap, subst, ◌∙◌, inl, inr, arith}
use Rattle.std.specs.Prelude.{find, IsSome, IfErr, ◌⊎◌, nat_lt, slice_get, slice_index, unwrap_or}
use Rattle.std.specs.List.{list_any}
use Rattle.std.specs.Map.{lookup}
use Rattle.std.specs.Option.{ok_or, option_map, option_or}
use Rattle.std.specs.Str.{bytes_eq, str_eq_ignore_ascii_case, str_to_ascii_lowercase}
use Rattle.std.proofs.lemmas.Bool.{false≢true, ltb-true}
use Rattle.std.proofs.lemmas.Slice.Eq.{bytes_eq-Decides}
use Rattle.c25_meaning_assembly.specs.AssemblyLine.{directive_among, directive_in, directive_of, directives, ignored, is_ignored, or_ignored}
use Rattle.c25_meaning_assembly.specs.declared.assembly.Directive.{Directive as Other}
use Rattle.c25_meaning_assembly.specs.declared.assembly.Directive.TheVariants as other
use Rattle.c25_meaning_common.specs.Bytes.{is_blank, is_field, is_visible}
use Rattle.c25_meaning_common.specs.Results.{◌>>=◌, told}
use Rattle.c25_meaning_expansion.specs.Acts as expansion
use Rattle.c25_meaning_expansion.specs.Acts.{ExpansionAct, Break, Call, Define, Else, ElseIf, End, EndIf, Evaluate, Exit, If, Loop, Stray, Macro, Order, act_of, assignment_in, call_of, copy_in, definition_in, evaluation_in, label_for, last_of_two, order_of, with_condition, with_option, without}
use Rattle.c25_meaning_expansion.specs.declared.expansion.Directive.{Directive}
use Rattle.c25_meaning_expansion.specs.declared.expansion.Directive.TheVariants as directive
use Rattle.c25_meaning_instructions.specs.Spellings.{spelling_of, spellings}
use Rattle.c25_meaning_instructions.specs.Table.{spelling_text}
use Rattle.c25_meaning_instructions.specs.declared.mnemonic.Spelling.{Spelling}
use Rattle.c25_meaning_language.specs.Arguments.{arguments, string_text}
use Rattle.c25_meaning_language.specs.DirectiveOperands.{expression_in, is_name, name_in, names_in, string_in}
use Rattle.c25_meaning_language.specs.Forms.{is_expression}
use Rattle.c25_meaning_language.specs.Line as line
use Rattle.c25_meaning_language.specs.Line.{Parts, Piece, first_word, is_comment_line, line_of, some_text, word_end, word_of, word_start}
use Rattle.c25_meaning_language.specs.Operands.{is_quoted, line_fault, operands_of, written_of}
use Rattle.c25_meaning_language.specs.Statement.{expression_fault}
use Rattle.c25_meaning_language.specs.Reading.{tree_in}
use Rattle.c25_meaning_language.specs.Tree.{Tree, mark_of}
use Rattle.c25_meaning_language.specs.declared.expression.ExpressionFault.{ExpressionFault}
use Rattle.c25_meaning_language.specs.declared.expression.ExpressionFault.TheVariants as expression
use Rattle.c25_meaning_language.specs.declared.line.LineFault.{LineFault}
use Rattle.c25_meaning_language.specs.declared.statement.FaultKind.{FaultKind}
use Rattle.c25_meaning_language.specs.declared.statement.FaultKind.TheVariants as fault
use Rattle.c25_places.specs.Refused.{expansion_part, first_part, instruction_in, operand_part, operation_in, part_by, part_in, part_of, refused_part, statement_part, unread_part, word_part}
use Rattle.c25_places.specs.declared.part.Part.{Part}
use Rattle.c25_places.specs.declared.wanted.Operation.{Operation}
use Rattle.c25_places.specs.declared.wanted.Operation.TheVariants.{Runs}
use Rattle.c25_places.proofs.Acts.{bound}
use Rattle.c25_places.proofs.Refusals.{Reads, at_some, err_kept, err_of, got_some, operand_some, placed, reads_text, same_err, some_right, tokens_some, unread_some}
use Rattle.c25_places.proofs.TextParts.{text_refused}
use Rattle.c25_places.proofs.Words.{first_word_some, parts_some, same_word}

-- ---- no directive of expansion is another directive or a mnemonic

-- the directive and the mnemonic of a word by its letters in lower case
abbrev among_low : List ℕ → List (List ℕ × Other) → Option Other
among_low low [] = None
among_low low (d ∷ ds) = cond (bytes_eq low (str_to_ascii_lowercase d.0)) (Some d.1) (among_low low ds)

abbrev or_low : Option Other → List ℕ → Option Other
or_low (Some d) low = Some d
or_low None low = cond (list_any (λ n. bytes_eq low (str_to_ascii_lowercase n)) ignored) (Some other.Ignored) None

abbrev spelled_low : List ℕ → Option Spelling
spelled_low low = find (λ s. bytes_eq low (str_to_ascii_lowercase (spelling_text s))) spellings

same_among : (word : List ℕ) (ds : List (List ℕ × Other)) → directive_among word ds ≡ among_low (str_to_ascii_lowercase word) ds
same_among word [] = refl
same_among word (d ∷ ds) = ap (λ (o : Option Other). cond (str_eq_ignore_ascii_case word d.0) (Some d.1) o) (same_among word ds)

same_or : (o : Option Other) (word : List ℕ) → or_ignored o word ≡ or_low o (str_to_ascii_lowercase word)
unfolding is_ignored
same_or None word = refl
same_or (Some d) word = refl

directive_low : (word : List ℕ) → directive_of word ≡ or_low (among_low (str_to_ascii_lowercase word) directives) (str_to_ascii_lowercase word)
unfolding directive_of
directive_low word = same_or (directive_among word directives) word ∙ ap (λ (o : Option Other). or_low o (str_to_ascii_lowercase word)) (same_among word directives)

spelling_low : (word : List ℕ) → spelling_of word ≡ spelled_low (str_to_ascii_lowercase word)
unfolding spelling_of
spelling_low word = refl

-- a word in lower case is neither a directive of sections nor a mnemonic
abbrev Neither : List ℕ → Type 0
Neither low = (or_low (among_low low directives) low ≡ None) × (spelled_low low ≡ None)

-- each of these directives is
abbrev EachNeither : List (List ℕ × Directive) → Type 0
EachNeither [] = Unit {0}
EachNeither (r ∷ rows) = Neither (str_to_ascii_lowercase r.0) × EachNeither rows

neither : EachNeither expansion.directives
unfolding spellings
neither = ((refl, refl), ((refl, refl), ((refl, refl), ((refl, refl), ((refl, refl), ((refl, refl), ((refl, refl), ((refl, refl), ((refl, refl), ((refl, refl), ((refl, refl), ((refl, refl), ((refl, refl), ((refl, refl), ((refl, refl), tt)))))))))))))))

of_low : (word low : List ℕ) → str_to_ascii_lowercase word ≡ low → Neither low → (directive_of word ≡ None) × (spelling_of word ≡ None)
of_low word low e h =
    (directive_low word ∙ ap (λ (l : List ℕ). or_low (among_low l directives) l) e ∙ h.0, spelling_low word ∙ ap spelled_low e ∙ h.1)

among : (word : List ℕ) (rows : List (List ℕ × Directive)) (d : Directive) → lookup (str_eq_ignore_ascii_case word) rows ≡ Some d → EachNeither rows
    → (directive_of word ≡ None) × (spelling_of word ≡ None)
among word [] d e h = absurd (cc)
among word (r ∷ rows) d e h = by (str_eq_ignore_ascii_case word r.0) refl e (λ found. among word rows d found h.1)
  where
    by : (b : Bool) → str_eq_ignore_ascii_case word r.0 ≡ b → cond b (Some r.1) (lookup (str_eq_ignore_ascii_case word) rows) ≡ Some d
        → (lookup (str_eq_ignore_ascii_case word) rows ≡ Some d → (directive_of word ≡ None) × (spelling_of word ≡ None)) → (directive_of word ≡ None) × (spelling_of word ≡ None)
    by true t e more = of_low word (str_to_ascii_lowercase r.0) ((bytes_eq-Decides (str_to_ascii_lowercase word) (str_to_ascii_lowercase r.0)).0 t) h.0
    by false t e more = more e

no_other : (word : List ℕ) (d : Directive) → expansion.directive_of word ≡ Some d → (directive_of word ≡ None) × (spelling_of word ≡ None)
unfolding expansion.directive_of
no_other word d e = among word expansion.directives d e neither

-- ---- the operands of a line that is refused

-- there is a first operand
abbrev HasFirst : List (List Piece) → Type 0
HasFirst [] = ⊥
HasFirst (o ∷ os) = Unit {0}

-- what is known of the operands where a line is refused with a fault
abbrev Shown : List (List Piece) → FaultKind → Type 0
Shown os fault.OperandCount = Unit {0}
Shown os fault.TooManyParameters = IsSome (slice_get os 32)
Shown os fault.OperandForm = HasFirst os
Shown os fault.BadExpression = HasFirst os
Shown os fault.TooDeep = HasFirst os
Shown os _ = ⊥

expression_shown : (o : List Piece) (os : List (List Piece)) → IfErr (expression_in o) (Shown (o ∷ os))
expression_shown o os = by (is_expression (written_of o)) (tree_in (map mark_of o))
  where
    by : (b : Bool) (r : Result Tree ExpressionFault) → IfErr (let x : Result Tree FaultKind = cond b (told expression_fault r) (Err fault.OperandForm) in x) (Shown (o ∷ os))
    by false r = tt
    by true (Ok x) = tt
    by true (Err expression.BadExpression) = tt
    by true (Err expression.TooDeep) = tt

name_refused : (P : FaultKind → Type 0) (o : List Piece) → P fault.OperandForm → IfErr (name_in o) P
name_refused P [] f = f
name_refused P (p ∷ []) f = by (is_name p.kind)
  where
    by : (b : Bool) → IfErr (let x : Result (List ℕ) FaultKind = cond b (Ok p.text) (Err fault.OperandForm) in x) P
    by true = tt
    by false = f
name_refused P (p ∷ q ∷ ps) f = f

string_refused : (P : FaultKind → Type 0) (o : List Piece) → P fault.OperandForm → IfErr (string_in o) P
string_refused P [] f = f
string_refused P (p ∷ []) f = by (is_quoted p.kind)
  where
    by : (b : Bool) → IfErr (let x : Result (List ℕ) FaultKind = cond b (Ok (string_text p.text)) (Err fault.OperandForm) in x) P
    by true = tt
    by false = f
string_refused P (p ∷ q ∷ ps) f = f

names_refused : (P : FaultKind → Type 0) (os : List (List Piece)) → P fault.OperandForm → IfErr (names_in os) P
names_refused P [] f = tt
names_refused P (o ∷ os) f = bound P (name_in o) _ (name_refused P o f) (λ _ _. bound P (names_in os) _ (names_refused P os f) (λ _ _. tt))

-- names that are read are as many as their operands
names_long : (os : List (List Piece)) (names : List (List ℕ)) → names_in os ≡ Ok names → length names ≡ length os
names_long [] names h = let same : [] ≡ names = cc in ap length (sym same)
names_long (o ∷ os) names h = by (name_in o) (names_in os) (names_long os) h
  where
    by : (n : Result (List ℕ) FaultKind) (r : Result (List (List ℕ)) FaultKind) → ((ns : List (List ℕ)) → r ≡ Ok ns → length ns ≡ length os)
        → (n >>= λ name. r >>= λ ns. Ok (name ∷ ns)) ≡ Ok names → length names ≡ length (o ∷ os)
    by (Err e) r more h = absurd (cc)
    by (Ok name) (Err e) more h = absurd (cc)
    by (Ok name) (Ok ns) more h =
        let same : name ∷ ns ≡ names = cc in
        omega (arith, ap length (sym same), more ns refl)

definition_shown : (parts : Parts) (os : List (List Piece)) → IfErr (definition_in parts os) (Shown os)
definition_shown parts [] = tt
definition_shown parts (o ∷ os) =
    bound (Shown (o ∷ os)) (names_in (o ∷ os)) _ (names_refused (Shown (o ∷ os)) (o ∷ os) tt) (λ names is. by names (names_long (o ∷ os) names is) (nat_lt 32 (length names)) refl)
  where
    by : (names : List (List ℕ)) → length names ≡ length (o ∷ os) → (b : Bool) → nat_lt 32 (length names) ≡ b
        → IfErr (let x : Result ExpansionAct FaultKind = cond b (Err fault.TooManyParameters) (Ok (Define (unwrap_or parts.label []) names)) in x) (Shown (o ∷ os))
    by names long true more = got_some (o ∷ os) 32 (omega (arith, long, ltb-true 32 (length names) more))
    by names long false more = tt

last_counted : (o : List Piece) (os : List (List Piece)) (last : Option (List Piece)) → IfErr (ok_or last fault.OperandCount) (Shown (o ∷ os))
last_counted o os None = tt
last_counted o os (Some last) = tt

assignment_shown : (text : List ℕ) (os : List (List Piece)) → IfErr (assignment_in text os) (Shown os)
assignment_shown text [] = tt
assignment_shown text (o ∷ os) =
    bound (Shown (o ∷ os)) (ok_or (last_of_two (o ∷ os)) fault.OperandCount) _ (last_counted o os (last_of_two (o ∷ os)))
    (λ last _. bound (Shown (o ∷ os)) (name_in last) _ (name_refused (Shown (o ∷ os)) last tt) (λ _ _. tt))

evaluation_shown : (os : List (List Piece)) → IfErr (evaluation_in os) (Shown os)
evaluation_shown [] = tt
evaluation_shown (o ∷ []) = tt
evaluation_shown (o ∷ p ∷ []) = by (is_expression (written_of o))
  where
    by : (b : Bool) → IfErr (let x : Result ExpansionAct FaultKind = cond b (name_in p >>= λ name. expression_in o >>= λ e. Ok (Evaluate e name)) (Err fault.OperandForm) in x) (Shown (o ∷ p ∷ []))
    by false = tt
    by true =
        bound (Shown (o ∷ p ∷ [])) (name_in p) _ (name_refused (Shown (o ∷ p ∷ [])) p tt)
        (λ _ _. bound (Shown (o ∷ p ∷ [])) (expression_in o) _ (expression_shown o (p ∷ [])) (λ _ _. tt))
evaluation_shown (o ∷ p ∷ q ∷ os) = tt

copy_shown : (os : List (List Piece)) → IfErr (copy_in os) (Shown os)
copy_shown [] = tt
copy_shown (o ∷ []) = bound (Shown (o ∷ [])) (string_in o) _ (string_refused (Shown (o ∷ [])) o tt) (λ _ _. tt)
copy_shown (o ∷ p ∷ os) = tt

without_shown : (act : ExpansionAct) (os : List (List Piece)) → IfErr (without act os) (Shown os)
without_shown act [] = tt
without_shown act (o ∷ os) = tt

condition_shown : (act : Tree → ExpansionAct) (os : List (List Piece)) → IfErr (with_condition act os) (Shown os)
condition_shown act [] = tt
condition_shown act (o ∷ []) = bound (Shown (o ∷ [])) (expression_in o) _ (expression_shown o []) (λ _ _. tt)
condition_shown act (o ∷ p ∷ os) = tt

option_shown : (act : Option Tree → ExpansionAct) (os : List (List Piece)) → IfErr (with_option act os) (Shown os)
option_shown act [] = tt
option_shown act (o ∷ []) = bound (Shown (o ∷ [])) (expression_in o) _ (expression_shown o []) (λ _ _. tt)
option_shown act (o ∷ p ∷ os) = tt

act_shown : (d : Directive) (text : List ℕ) (parts : Parts) (os : List (List Piece)) → IfErr (act_of d text parts os) (Shown os)
unfolding act_of
act_shown directive.If text parts os = condition_shown If os
act_shown directive.ElseIf text parts os = condition_shown ElseIf os
act_shown directive.Else text parts os = without_shown Else os
act_shown directive.EndIf text parts os = without_shown EndIf os
act_shown directive.Macro text parts os = definition_shown parts os
act_shown directive.EndMacro text parts os = without_shown Stray os
act_shown directive.ExitMacro text parts os = without_shown Exit os
act_shown directive.Loop text parts os = option_shown Loop os
act_shown directive.Break text parts os = option_shown Break os
act_shown directive.EndLoop text parts os = without_shown Stray os
act_shown directive.Assign text parts os = assignment_shown text os
act_shown directive.Evaluate text parts os = evaluation_shown os
act_shown directive.Copy text parts os = copy_shown os
act_shown directive.End text parts os = without_shown End os

-- ---- the part

form_part : (ps : List Piece) → HasFirst (operands_of ps) → IsSome (part_of ps)
form_part [] h = absurd h
form_part (p ∷ ps) h = tokens_some p ps

first_found : (ps : List Piece) → HasFirst (operands_of ps) → IsSome (first_part ps (operands_of ps))
first_found ps h = by (operands_of ps) refl h
  where
    by : (os : List (List Piece)) → operands_of ps ≡ os → HasFirst os → IsSome (first_part ps os)
    by [] e h = absurd h
    by (o ∷ os) e h = operand_some ps 0 o (ap (λ (xs : List (List Piece)). slice_get xs 0) e)

-- a line has a part with this fault, with which expansion reads it
abbrev Refused : List ℕ → FaultKind → Result Parts LineFault → Type 0
Refused text kind r = Reads kind × IsSome (part_by r kind None text)

order_part : (kind : FaultKind) (text : List ℕ) (parts : Parts) → operation_in None parts.word ≡ None → IsSome (word_part text) → Shown (operands_of parts.pieces) kind → Refused text kind (Ok parts)
order_part fault.OperandCount text parts none w h = (tt, some_right (part_of parts.pieces) (word_part text) w)
order_part fault.TooManyParameters text parts none w h = (tt, at_some parts.pieces 32 h)
order_part fault.OperandForm text parts none w h = (tt, rw none (form_part parts.pieces h))
order_part fault.BadExpression text parts none w h = (tt, rw none (first_found parts.pieces h))
order_part fault.TooDeep text parts none w h = (tt, rw none (first_found parts.pieces h))
order_part _ text parts none w h = absurd h

-- a line whose text has a fault
text_part : {A : Type 0} (kind : FaultKind) (text : List ℕ) (f : LineFault) → line_of text ≡ Err f → (let r : Result A FaultKind = Err (line_fault f) in r) ≡ Err kind → Refused text kind (Err f)
text_part kind text f l h = subst (λ (k : FaultKind). Refused text k (Err f)) (same_err (line_fault f) kind h) (reads_text f, unread_some text f l)

no_instruction : (text word : List ℕ) (parts : Parts) → line_of text ≡ Ok parts → first_word text ≡ Some word → spelling_of word ≡ None → operation_in None parts.word ≡ None
no_instruction text word parts l was none = by parts.word refl
  where
    by : (o : Option line.Part) → parts.word ≡ o → operation_in None o ≡ None
    by None has = refl
    by (Some w) has =
        let unknown : spelling_of w.text ≡ None = ap spelling_of (same_word text parts w word l has was) ∙ none in
        ap (λ (s : Option Spelling). option_map Runs s) unknown

-- ---- lines

abbrev made : Directive → Parts → ExpansionAct → Order
made d parts act = record { label = label_for d parts.label; act = act }

read_part : (kind : FaultKind) (d : Directive) (text word : List ℕ) (r : Result Parts LineFault) → line_of text ≡ r → first_word text ≡ Some word → spelling_of word ≡ None
    → (told line_fault r >>= λ parts. act_of d text parts (operands_of parts.pieces) >>= λ act. Ok (made d parts act)) ≡ Err kind → Refused text kind r
read_part kind d text word (Err f) l was none h = text_part kind text f l h
read_part kind d text word (Ok parts) l was none h =
    let os : List (List Piece) = operands_of parts.pieces in
    let stops : act_of d text parts os ≡ Err kind = err_kept (act_of d text parts os) (made d parts) kind h in
    order_part kind text parts (no_instruction text word parts l was none) (first_word_some text word was) (err_of (Shown os) (act_of d text parts os) kind stops (act_shown d text parts os))

blank_has_part : (text : List ℕ) (r : Result Parts LineFault) → line_of text ≡ r → is_blank (slice_index text 0) ≡ true → IsSome (part_by r fault.BadLabel None text)
blank_has_part text (Err f) l b = text_refused text f l
blank_has_part text (Ok parts) l b = rw b refl

macro_part : (kind : FaultKind) (text word : List ℕ) (b : Bool) → is_blank (slice_index text 0) ≡ b → first_word text ≡ Some word → spelling_of word ≡ None
    → (cond b (let x : Result Parts FaultKind = Err fault.BadLabel in x) (told line_fault (line_of text)) >>= λ parts. act_of directive.Macro text parts (operands_of parts.pieces) >>= λ act. Ok (made directive.Macro parts act)) ≡ Err kind
    → Refused text kind (line_of text)
macro_part kind text word true b was none h =
    let is : fault.BadLabel ≡ kind = cc in
    subst (λ (k : FaultKind). Refused text k (line_of text)) is (tt, blank_has_part text (line_of text) refl b)
macro_part kind text word false b was none h = read_part kind directive.Macro text word (line_of text) refl was none h

by_directive : (kind : FaultKind) (d : Directive) (text word : List ℕ) → first_word text ≡ Some word → spelling_of word ≡ None → order_of d text ≡ Err kind → Refused text kind (line_of text)
unfolding order_of
by_directive kind directive.Macro text word was none h = macro_part kind text word (is_blank (slice_index text 0)) refl was none h
by_directive kind d text word was none h = read_part kind d text word (line_of text) refl was none h

part_without : (text : List ℕ) (kind : FaultKind) → directive_in (first_word text) ≡ None → Refused text kind (line_of text) → IsSome (refused_part text kind)
unfolding part_in
part_without text kind none h =
    let part : IsSome (part_in kind (directive_in (first_word text)) text) = rw none h.1 in
    placed text kind h.0 part

pub order_has_part : (text word : List ℕ) (d : Directive) (kind : FaultKind) → first_word text ≡ Some word → expansion.directive_of word ≡ Some d → order_of d text ≡ Err kind → IsSome (refused_part text kind)
order_has_part text word d kind was is h =
    let neither_of = no_other word d is in
    part_without text kind (ap directive_in was ∙ neither_of.0) (by_directive kind d text word was neither_of.1 h)

call_part : (text : List ℕ) (kind : FaultKind) (m : Macro) (r : Result Parts LineFault) → line_of text ≡ r → (told line_fault r >>= λ parts. Ok (let o : Order = record { label = parts.label; act = Call m.body (arguments m.parameters text) } in o)) ≡ Err kind
    → Refused text kind r
call_part text kind m (Err f) l h = text_part kind text f l h
call_part text kind m (Ok parts) l h = absurd (cc)

pub call_has_part : (text : List ℕ) (m : Macro) (kind : FaultKind) → directive_in (first_word text) ≡ None → call_of m text ≡ Err kind → IsSome (refused_part text kind)
unfolding call_of
call_has_part text m kind none h = part_without text kind none (call_part text kind m (line_of text) refl h)
