-- A line for which there is no room has a part where it is refused: a line that says nothing takes no room.
use Rattle.std.proofs.Common.{◌≡◌, ℕ, ◌<◌, ◌≤◌, Bool, true, false, cond, List, [], ◌∷◌, length, take, Option, Some, None, Result, Ok, Err, MatchBool, inl, inr, refl, sym, ap, subst, ◌∙◌, arith}
use Rattle.std.specs.Prelude.{IsSome, ◌⊎◌}
use Rattle.std.specs.Option.{option_or}
use Rattle.std.proofs.lemmas.Bool.{cases_lt, false≢true, lt-ltb}
use Rattle.c25_meaning_assembly.specs.AssemblyLine.{AssemblyAct, Nothing, Statement, act_by, act_without, directive_in, label_for, read_statement, statement_by}
use Rattle.c25_meaning_assembly.specs.Emission.{at_origin}
use Rattle.c25_meaning_assembly.specs.ModuleOfSource.{origin_of, read_and_pass}
use Rattle.c25_meaning_assembly.specs.Sections.{Progress, few, pass}
use Rattle.c25_meaning_assembly.specs.declared.assembly.Directive.{Directive}
use Rattle.c25_meaning_common.specs.Results.{◌>>=◌, told}
use Rattle.c25_meaning_common.specs.declared.placed.FileLine.{FileLine}
use Rattle.c25_meaning_expansion.specs.ExpansionAnswers.{ExpandedLine}
use Rattle.c25_meaning_language.specs.ExpansionFault.{Faulty}
use Rattle.c25_meaning_language.specs.Line as line
use Rattle.c25_meaning_language.specs.Line.{IsStatement, Parts, comment_line, first_word, is_comment_line, label_end, label_of, line_of}
use Rattle.c25_meaning_language.specs.Operands.{line_fault, operands_of}
use Rattle.c25_meaning_language.specs.declared.line.LineFault.{LineFault}
use Rattle.c25_meaning_language.specs.declared.statement.FaultKind.{FaultKind}
use Rattle.c25_meaning_language.specs.declared.statement.FaultKind.TheVariants as fault
use Rattle.c25_text.proofs.Splits.{parts_are}
use Rattle.c25_places.specs.Refused.{label_part, lacks_label, operation_in, part_by, part_in, refused_part, room_part, word_or_label, word_part}
use Rattle.c25_places.specs.declared.part.Part.{Part}
use Rattle.c25_places.proofs.Refusals.{has_part, some_right}
use Rattle.c25_places.proofs.Words.{first_word_some, parts_some}

some_none : {A : Type 0} (o : Option A) → o ≡ None → IsSome o → ⊥
some_none {A = X} o none some = false≢true (subst (λ (x : Option X). IsSome x) none some)

-- ---- a line with neither a mnemonic field nor a label

no_first_word : (text : List ℕ) → word_part text ≡ None → first_word text ≡ None
no_first_word text none = by (first_word text) refl
  where
    by : (o : Option (List ℕ)) → first_word text ≡ o → o ≡ None
    by None e = refl
    by (Some w) e = absurd (some_none (word_part text) none (first_word_some text w e))

no_word : (text : List ℕ) (parts : Parts) → word_part text ≡ None → line_of text ≡ Ok parts → parts.word ≡ None
no_word text parts none l = by parts.word refl
  where
    by : (o : Option line.Part) → parts.word ≡ o → o ≡ None
    by None e = refl
    by (Some w) e = absurd (some_none (word_part text) none (parts_some text parts w l e))

empty_label : (text : List ℕ) → label_part text ≡ None → label_end text ≡ 0
empty_label text none = by (cases_lt 0 (label_end text))
  where
    by : (0 < label_end text) ⊎ (label_end text ≤ 0) → label_end text ≡ 0
    by (inl l) = absurd (some_none (label_part text) none (rw (lt-ltb 0 (label_end text) l) refl))
    by (inr l) = omega (arith, l)

label_by : (text : List ℕ) (parts : Parts) (b : Bool) → label_end text ≡ 0 → MatchBool b (parts ≡ comment_line text) ((stop : ℕ) × IsStatement text parts stop) → parts.label ≡ None
label_by text parts true end is = ap (λ (p : Parts). p.label) is
label_by text parts false end is =
    let none : label_of (take (label_end text) text) ≡ Ok None = ap (λ (n : ℕ). label_of (take n text)) end in
    let same : (let r : Result (Option (List ℕ)) LineFault = Ok parts.label in r) ≡ Ok None = sym is.1.label ∙ none in
    cc

no_label : (text : List ℕ) (parts : Parts) → label_part text ≡ None → line_of text ≡ Ok parts → parts.label ≡ None
no_label text parts none l = label_by text parts (is_comment_line text) (empty_label text none) ((parts_are text parts).1 l)

-- what a line says that says nothing
abbrev nothing : Statement
nothing = record { label = None; act = Nothing }

abbrev said : Parts → AssemblyAct → Statement
said parts act = record { label = label_for None parts.label; act = act }

quiet : (text : List ℕ) (s : Statement) (r : Result Parts LineFault) → line_of text ≡ r → word_part text ≡ None → label_part text ≡ None
    → (told line_fault r >>= λ parts. act_by None parts >>= λ act. Ok (said parts act)) ≡ Ok s → s ≡ nothing
quiet text s (Err f) l w b h = absurd (cc)
quiet text s (Ok parts) l w b h =
    let word : parts.word ≡ None = no_word text parts w l in
    let is : (act_without parts.word (operands_of parts.pieces) >>= λ act. Ok (said parts act)) ≡ Ok (said parts Nothing) = rw word refl in
    let both : (let x : Result Statement FaultKind = Ok (said parts Nothing) in x) ≡ Ok s = sym is ∙ h in
    let same : said parts Nothing ≡ s = cc in
    sym same ∙ ap (λ (o : Option (List ℕ)). let q : Statement = record { label = o; act = Nothing } in q) (no_label text parts b l)

quiet_by : (text : List ℕ) (s : Statement) (d : Option Directive) → d ≡ None → word_part text ≡ None → label_part text ≡ None → statement_by d text ≡ Ok s → s ≡ nothing
unfolding statement_by
quiet_by text s None none w b h = quiet text s (line_of text) refl w b h
quiet_by text s (Some d) none w b h = absurd (cc)

-- ---- room

counted : (r : Result (Unit {0}) FaultKind) (p : Progress) → r ≡ Ok tt → (r >>= λ _. Ok p) ≡ Ok p
counted r p h = rw h refl

-- such a line takes no room
passes : (origin : FileLine (List ℕ)) (s : Statement) (p : Progress) → s ≡ nothing → few p ≡ Ok tt → pass origin s p ≡ Ok p
unfolding pass
passes origin s p is room = subst (λ (q : Statement). pass origin q p ≡ Ok p) (sym is) (counted (few p) p room)

full_by : (text : List ℕ) (d : Option Directive) (r : Result Parts LineFault) → IsSome (word_or_label text) → IsSome (part_by r fault.TooLarge d text)
full_by text d (Err f) h = h
full_by text d (Ok parts) h = some_right (room_part (operation_in d parts.word) parts.pieces) (word_or_label text) h

full_part : (text : List ℕ) → IsSome (word_or_label text) → IsSome (refused_part text fault.TooLarge)
unfolding part_in
full_part text h = by (lacks_label (directive_in (first_word text)) text)
  where
    by : (b : Bool) → IsSome (cond b (Some (let q : Part = record { start = 0; end = 1 } in q)) (part_by (line_of text) fault.TooLarge (directive_in (first_word text)) text))
    by true = refl
    by false = full_by text (directive_in (first_word text)) (line_of text) h

said_full : (origin : FileLine (List ℕ)) (text : List ℕ) (p : Progress) (s : Statement) → few p ≡ Ok tt → read_statement text ≡ Ok s → pass origin s p ≡ Err fault.TooLarge → IsSome (refused_part text fault.TooLarge)
said_full origin text p s room is h = by (word_part text) (label_part text) refl refl
  where
    by : (w b : Option Part) → word_part text ≡ w → label_part text ≡ b → IsSome (refused_part text fault.TooLarge)
    by (Some q) b word label = full_part text (rw word refl)
    by None (Some q) word label = full_part text (rw (word, label) refl)
    by None None word label =
        let says : s ≡ nothing = quiet_by text s (directive_in (first_word text)) (ap directive_in (no_first_word text word)) word label is in
        let passed : pass origin s p ≡ Ok p = passes origin s p says room in
        absurd (cc)

full_text : (origin : FileLine (List ℕ)) (text : List ℕ) (p : Progress) → few p ≡ Ok tt → (read_statement text >>= λ s. pass origin s p) ≡ Err fault.TooLarge → IsSome (refused_part text fault.TooLarge)
full_text origin text p room h = by (read_statement text) refl h
  where
    by : (r : Result Statement FaultKind) → read_statement text ≡ r → (r >>= λ s. pass origin s p) ≡ Err fault.TooLarge → IsSome (refused_part text fault.TooLarge)
    by (Err e) is h =
        let same : e ≡ fault.TooLarge = cc in
        has_part text fault.TooLarge (is ∙ ap (λ (k : FaultKind). let r : Result Statement FaultKind = Err k in r) same)
    by (Ok s) is h = said_full origin text p s room is h

pub full_has_part : (l : ExpandedLine) (p : Progress) → few p ≡ Ok tt → read_and_pass l p ≡ Err (Faulty l.file l.line fault.TooLarge) → IsSome (refused_part l.text fault.TooLarge)
full_has_part l p room h = by (read_statement l.text >>= λ s. pass (origin_of l) s p) refl h
  where
    by : (r : Result Progress FaultKind) → (read_statement l.text >>= λ s. pass (origin_of l) s p) ≡ r → at_origin (origin_of l) r ≡ Err (Faulty l.file l.line fault.TooLarge) → IsSome (refused_part l.text fault.TooLarge)
    by (Ok q) is h = absurd (cc)
    by (Err e) is h =
        let same : e ≡ fault.TooLarge = cc in
        full_text (origin_of l) l.text p room (is ∙ ap (λ (k : FaultKind). let r : Result Progress FaultKind = Err k in r) same)
