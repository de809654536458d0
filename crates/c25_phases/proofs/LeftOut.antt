-- What is kept of a line that is left out: its label.
use Rattle.std.proofs.Common.{◌≡◌, ℕ, Bool, true, false, cond, ◌&&◌, List, [], ◌∷◌, ◌++◌, drop, Option, Some, None, Result, Ok, Err, refl, sym, ap, ◌∙◌, subst}
use Rattle.std.specs.Prelude.{slice_index}
use Rattle.std.specs.Str.{bytes_eq}
use Rattle.std.proofs.lemmas.Slice.Eq.{bytes_eq-Decides}
use Rattle.c25_meaning_assembly.specs.AllFaults.{address_label, address_label_by, is_last_kind, labelled, labelled_by}
use Rattle.c25_meaning_assembly.specs.AssemblyLine.{AssemblyAct, Statement, act_by, directive_in, label_for, names_label, parts_for, read_statement, statement_by}
use Rattle.c25_meaning_assembly.specs.Sections.{Progress, allowed, define, here, label, stands}
use Rattle.c25_meaning_assembly.specs.declared.assembly.Directive.{Directive}
use Rattle.c25_meaning_common.specs.Bytes.{is_blank}
use Rattle.c25_meaning_common.specs.Results.{◌>>=◌, told}
use Rattle.c25_meaning_common.specs.declared.failure.Failure.{Failure}
use Rattle.c25_meaning_common.specs.declared.failure.Failure.TheVariants.{NoMemory, Fault}
use Rattle.c25_meaning_language.specs.DirectiveOperands.{parts_in}
use Rattle.c25_meaning_language.specs.Operands.{line_fault}
use Rattle.c25_meaning_language.specs.Line.{Part, Parts, Scan, comment_line, first_word, is_comment_line, label_in, line_of, part_from, scan_from, statement_of, stop_of, word_end, word_in}
use Rattle.c25_meaning_language.specs.Line as line
use Rattle.c25_meaning_language.specs.declared.line.LineFault.{LineFault}
use Rattle.c25_meaning_language.specs.declared.statement.FaultKind.{FaultKind}
use Rattle.c25_meaning_language.specs.declared.statement.FaultKind.TheVariants as fault
use Rattle.c25_meaning_language.specs.declared.value.Value.{Value}
use Rattle.c25_phases.proofs.Declared.{stands_with}
use Rattle.c25_phases.specs.Refused.{IsLabelled, IsUndone}
use Rattle.c25_phases.specs.Steps.{begun}

-- ---- the label of a statement is that of its line

module _ (d : Option Directive) (text : List ℕ) (parts : Parts) where
  none_for : label_for d None ≡ None
  none_for = on (names_label d)
    where
      on : (b : Bool) → ◌≡◌ {A = Option (List ℕ)} (cond b None None) None
      on true = refl
      on false = refl

  by_stop : (name : Option (List ℕ)) (word : Option Part) (operands : Scan) (stop : Result ℕ LineFault)
      → (stop >>= λ n. Ok (record { label = name; word = word; pieces = operands.pieces; comment = part_from n (drop n text) })) ≡ Ok parts
      → label_for d parts.label ≡ label_for d name
  by_stop name word operands (Ok n) h =
      let same : record { label = name; word = word; pieces = operands.pieces; comment = part_from n (drop n text) } ≡ parts = cc in
      sym (ap (λ (p : Parts). label_for d p.label) same)
  by_stop name word operands (Err f) h = absurd (cc)

  by_word : (name : Option (List ℕ)) (word : Result (Option Part) LineFault) (operands : Scan) → line.statement_by (Ok name) word operands text ≡ Ok parts
      → label_for d parts.label ≡ label_for d name
  by_word name (Ok word) operands h = by_stop name word operands (stop_of operands) h
  by_word name (Err f) operands h = absurd (cc)

  by_label : (name : Result (Option (List ℕ)) LineFault) (word : Result (Option Part) LineFault) (operands : Scan) → line.statement_by name word operands text ≡ Ok parts
      → label_for d parts.label ≡ address_label_by d name
  by_label (Ok name) word operands h = by_word name word operands h
  by_label (Err f) word operands h = absurd (cc)

  by_comment : (b : Bool) → cond b (Ok (comment_line text)) (statement_of text) ≡ Ok parts → label_for d parts.label ≡ cond b None (address_label_by d (label_in text))
  unfolding statement_of
  by_comment true h =
      let same : comment_line text ≡ parts = cc in
      sym (ap (λ (p : Parts). label_for d p.label) same) ∙ none_for
  by_comment false h = by_label (label_in text) (word_in text) (scan_from (word_end text) text) h

  by_line : (r : Result Parts LineFault) → told line_fault r ≡ Ok parts → r ≡ Ok parts
  by_line (Ok p) h = let same : p ≡ parts = cc in ap Ok same
  by_line (Err f) h = absurd (cc)

  by_blank : (b : Bool) (r : Result Parts FaultKind) → cond b (Err fault.BadLabel) r ≡ Ok parts → r ≡ Ok parts
  by_blank true r h = absurd (cc)
  by_blank false r h = h

  of_parts : (b : Bool) → cond b (Err fault.BadLabel) (parts_in text) ≡ Ok parts → label_for d parts.label ≡ cond (is_comment_line text) None (address_label_by d (label_in text))
  of_parts b h = by_comment (is_comment_line text) (by_line (line_of text) (by_blank b (parts_in text) h))

by_act : (label : Option (List ℕ)) (s : Statement) (r : Result AssemblyAct FaultKind) → (r >>= λ a. Ok (record { label = label; act = a })) ≡ Ok s → s.label ≡ label
by_act label s (Ok a) h = let same : record { label = label; act = a } ≡ s = cc in sym (ap (λ (x : Statement). x.label) same)
by_act label s (Err f) h = absurd (cc)

by_parts : (d : Option Directive) (text : List ℕ) (s : Statement) (r : Result Parts FaultKind) → parts_for d text ≡ r
    → (r >>= λ parts. act_by d parts >>= λ a. Ok (record { label = label_for d parts.label; act = a })) ≡ Ok s
    → s.label ≡ cond (is_comment_line text) None (address_label_by d (label_in text))
by_parts d text s (Ok parts) is h = by_act (label_for d parts.label) s (act_by d parts) h ∙ of_parts d text parts (names_label d && is_blank (slice_index text 0)) is
by_parts d text s (Err f) is h = absurd (cc)

-- the label of what a line says is the one that the line has whatever else is wrong with it
pub label_is : (text : List ℕ) (s : Statement) → read_statement text ≡ Ok s → s.label ≡ address_label text
unfolding statement_by address_label
label_is text s h = by_parts (directive_in (first_word text)) text s (parts_for (directive_in (first_word text)) text) refl h

-- ---- a label that is defined

itself : (name : List ℕ) → bytes_eq name name ≡ true
itself name = (bytes_eq-Decides name name).1 refl

defined_by : (name : List ℕ) (value : Value) (p q : Progress) (b : Bool) → stands p.names name ≡ b
    → cond b (Err fault.Defined) (Ok (record p { names = p.names ++ (name, value) ∷ [] })) ≡ Ok q → stands q.names name ≡ true
defined_by name value p q true is h = absurd (cc)
defined_by name value p q false is h =
    let same : record p { names = p.names ++ (name, value) ∷ [] } ≡ q = cc in
    ap (λ (x : Progress). stands x.names name) (sym same) ∙ stands_with p.names name name value is ∙ itself name

-- a name that was defined stands for something
pub stands_then : (name : List ℕ) (value : Value) (p q : Progress) → define name value p ≡ Ok q → stands q.names name ≡ true
unfolding define
stands_then name value p q h = defined_by name value p q (stands p.names name) refl h

-- a name that stands for something is not defined again
pub not_again : (name : List ℕ) (value : Value) (p : Progress) → stands p.names name ≡ true → define name value p ≡ Err fault.Defined
unfolding define
not_again name value p h = ap (λ b. cond b (Err fault.Defined) (Ok (record p { names = p.names ++ (name, value) ∷ [] }))) h

-- a name that stands for nothing is defined
pub defined_anew : (name : List ℕ) (value : Value) (p : Progress) → stands p.names name ≡ false → define name value p ≡ Ok (record p { names = p.names ++ (name, value) ∷ [] })
unfolding define
defined_anew name value p h = ap (λ b. cond b (Err fault.Defined) (Ok (record p { names = p.names ++ (name, value) ∷ [] }))) h

-- a label that was defined is not defined once more
pub twice : (name : Option (List ℕ)) (p q : Progress) → label name p ≡ Ok q → labelled name q ≡ labelled name p
twice None p q h = let same : p ≡ q = cc in sym same
twice (Some name) p q h =
    ap (λ r. labelled_by r q) (not_again name (here q) q (stands_then name (here p) p q h)) ∙ sym (ap (λ r. labelled_by r p) h)

-- ---- a line that is refused

by_check : (name : Option (List ℕ)) (p q : Progress) (r : Result (Unit {0}) FaultKind) → (r >>= λ _. label name p) ≡ Ok q → label name p ≡ Ok q
by_check name p q (Ok u) h = h
by_check name p q (Err f) h = absurd (cc)

-- its act has changed nothing after its label was defined
pub in_act : {T : Type 0} (name : Option (List ℕ)) (a : AssemblyAct) (old mid new : Progress) (r : Result T (Failure FaultKind)) → begun name a old ≡ Ok mid → IsUndone mid r new
    → IsLabelled name old r new
in_act name a old mid new (Ok x) begins undone = tt
in_act name a old mid new (Err (NoMemory n)) begins undone = tt
in_act name a old mid new (Err (Fault kind)) begins undone = λ more. ap (labelled name) (undone more) ∙ twice name old mid (by_check name old mid (allowed a old) begins)

-- the same of another label
pub same_label : {T : Type 0} (name other : Option (List ℕ)) (old new : Progress) (r : Result T (Failure FaultKind)) → name ≡ other → IsLabelled name old r new → IsLabelled other old r new
same_label {T = T} name other old new r same h = subst (λ (x : Option (List ℕ)). IsLabelled {T = T} x old r new) same h
