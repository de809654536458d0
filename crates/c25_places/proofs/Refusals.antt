-- A refused line has a part where it is refused, and each part lies within its line.
use Rattle.std.proofs.Common.{◌≡◌, ℕ, zero, suc, ◌+◌, ◌-◌, ◌<◌, ◌≤◌, Bool, true, false, cond, List, [], ◌∷◌, drop, length, get_or, Option, Some, None, Result, Ok, Err, inl, inr, refl, sym, ap, subst, ◌∙◌, arith}
use Rattle.std.specs.Fmt.Cut.{floor_char_boundary}
use Rattle.std.specs.Prelude.{IsSome, IfErr, ◌⊎◌, nat_lt, slice_get, unwrap_or}
use Rattle.std.specs.List.{prefix_len, slice_split, onto_first}
use Rattle.std.specs.Option.{ok_or, option_map, option_and_then, option_or}
use Rattle.std.proofs.lemmas.Bool.{and_parts, cases_lt, false≢true, le-ltb, lt-ltb}
use Rattle.std.proofs.lemmas.List.Sums.{prefix_len-le-length}
use Rattle.c25_meaning_common.specs.Bytes.{is_blank}
use Rattle.c25_meaning_common.specs.Results.{◌>>=◌, told}
use Rattle.c25_meaning_assembly.specs.AssemblyLine.{AssemblyAct, Put, Statement, act_by, act_of, act_without, directive_in, instructing, label_for, names_label, read_statement, statement_by}
use Rattle.c25_meaning_assembly.specs.StatementLine.{Operation as Made, operation_of, spelled}
use Rattle.c25_meaning_assembly.specs.declared.assembly.Directive.{Directive}
use Rattle.c25_meaning_assembly.specs.declared.assembly.Target.TheVariants as target
use Rattle.c25_meaning_instructions.specs.Spellings.{spelling_of}
use Rattle.c25_meaning_instructions.specs.declared.mnemonic.Spelling.{Spelling}
use Rattle.c25_meaning_language.specs.Line as line
use Rattle.c25_meaning_language.specs.Line.{Parts, Piece, first_word, label_end, line_of}
use Rattle.c25_meaning_language.specs.Operands.{is_comma, line_fault, operands_of}
use Rattle.c25_meaning_language.specs.declared.line.LineFault.{LineFault}
use Rattle.c25_meaning_language.specs.declared.line.LineFault.TheVariants as lexical
use Rattle.c25_meaning_language.specs.declared.statement.FaultKind.{FaultKind}
use Rattle.c25_meaning_language.specs.declared.statement.FaultKind.TheVariants as fault
use Rattle.c25_places.specs.Refused.{AreWithin, IsWithin, comma_at, expansion_part, filled_part, first_part, first_refused, has_opener, label_part, lacks_label, long_part, opener_part, operand_at, operand_part, operation_in, operation_part, part_between, part_by, part_in, part_of, piece_part, refused_in, refused_part, room_index, room_part, section_part, statement_part, tokens_part, unread_part, word_or_label, word_part}
use Rattle.c25_places.specs.Wanted.{has_fault, wants}
use Rattle.c25_places.specs.declared.part.Part.{Part}
use Rattle.c25_places.specs.declared.wanted.Operation.{Operation}
use Rattle.c25_places.specs.declared.wanted.Operation.TheVariants.{Does, Runs}
use Rattle.c25_places.proofs.Acts.{Found, act_found, bound, if_err_map, operation_found}
use Rattle.c25_places.proofs.Characters.{floor_before}
use Rattle.c25_places.proofs.Pieces.{AllWithin, PartWithin, Within, between_within, comma_within, operands_within, within_line}
use Rattle.c25_places.proofs.TextParts.{text_refused, text_within}
use Rattle.c25_places.proofs.TokenFacts.{found_within}
use Rattle.c25_places.proofs.Words.{directive_some, field_end, parts_some, word_within}

-- ---- options

some_left : {A : Type 0} (a b : Option A) → IsSome a → IsSome (option_or a b)
some_left None b h = absurd (false≢true h)
some_left (Some x) b h = refl

pub some_right : {A : Type 0} (a b : Option A) → IsSome b → IsSome (option_or a b)
some_right None b h = h
some_right (Some x) b h = refl

some_mapped : {A B : Type 0} (f : A → B) (o : Option A) → IsSome o → IsSome (option_map f o)
some_mapped f None h = absurd (false≢true h)
some_mapped f (Some x) h = refl

-- ---- commas

pub got_some : {A : Type 0} (ps : List A) (k : ℕ) → k < length ps → IsSome (slice_get ps k)
got_some [] k l = absurd (omega (arith, l))
got_some (p ∷ ps) zero l = refl
got_some (p ∷ ps) (suc k) l = got_some ps k (omega (arith, l))

abbrev split : List Piece → List (List Piece)
split ps = slice_split (λ (q : Piece). is_comma q.kind) ps

onto_long : (p : Piece) (os : List (List Piece)) (k : ℕ) → suc k < length (onto_first p os) → suc k < length os
onto_long p [] k l = absurd (omega (arith, l))
onto_long p (o ∷ os) k l = omega (arith, l)

-- an operand that is not the last has a comma after it
comma_after : (k : ℕ) (ps : List Piece) → suc k < length (split ps) → IsSome (comma_at k ps)
comma_after k [] l = absurd (omega (arith, l))
comma_after zero (p ∷ ps) l = by (is_comma p.kind) (comma_after zero ps) l
  where
    by : (b : Bool) → (suc zero < length (split ps) → IsSome (comma_at zero ps)) → suc zero < length (cond b ([] ∷ split ps) (onto_first p (split ps))) → IsSome (cond b (Some p) (comma_at zero ps))
    by true more l = refl
    by false more l = more (onto_long p (split ps) zero l)
comma_after (suc k) (p ∷ ps) l = by (is_comma p.kind) (comma_after k ps) (comma_after (suc k) ps) l
  where
    by : (b : Bool) → (suc k < length (split ps) → IsSome (comma_at k ps)) → (suc (suc k) < length (split ps) → IsSome (comma_at (suc k) ps))
        → suc (suc k) < length (cond b ([] ∷ split ps) (onto_first p (split ps))) → IsSome (cond b (comma_at k ps) (comma_at (suc k) ps))
    by true one more l = one (omega (arith, l))
    by false one more l = more (onto_long p (split ps) (suc k) l)

got_within : (os : List (List Piece)) (k : ℕ) (o : List Piece) → slice_get os k ≡ Some o → k < length os
got_within [] k o h = absurd (cc)
got_within (q ∷ os) zero o h = omega arith
got_within (q ∷ os) (suc k) o h = omega (arith, got_within os k o h)

-- a first operand without tokens has a comma after it
first_empty : (p : Piece) (ps : List Piece) → slice_get (split (p ∷ ps)) 0 ≡ Some [] → IsSome (comma_at 0 (p ∷ ps))
first_empty p ps h = by (is_comma p.kind) h
  where
    onto : (os : List (List Piece)) → slice_get (onto_first p os) 0 ≡ Some [] → ⊥
    onto [] h = cc
    onto (o ∷ os) h = cc

    by : (b : Bool) → slice_get (cond b ([] ∷ split ps) (onto_first p (split ps))) 0 ≡ Some [] → IsSome (cond b (Some p) (comma_at zero ps))
    by true h = refl
    by false h = absurd (onto (split ps) h)

pub tokens_some : (p : Piece) (ps : List Piece) → IsSome (part_of (p ∷ ps))
tokens_some p ps = by (slice_get (p ∷ ps) (length (p ∷ ps) - 1)) (got_some (p ∷ ps) (length (p ∷ ps) - 1) (omega arith))
  where
    by : (o : Option Piece) → IsSome o → IsSome (part_between (Some p) o)
    by None h = absurd (false≢true h)
    by (Some q) h = refl

-- each operand of a line has a part
pub operand_some : (ps : List Piece) (k : ℕ) (o : List Piece) → slice_get (operands_of ps) k ≡ Some o → IsSome (operand_part ps k o)
operand_some [] k o h = absurd (cc)
operand_some (p ∷ ps) k (q ∷ qs) h = some_left (part_of (q ∷ qs)) _ (tokens_some q qs)
operand_some (p ∷ ps) zero [] h = some_mapped piece_part _ (some_left (comma_at 0 (p ∷ ps)) _ (first_empty p ps h))
operand_some (p ∷ ps) (suc k) [] h =
    let before : suc k - 1 ≡ k = omega arith in
    let comma : IsSome (comma_at (suc k - 1) (p ∷ ps)) = subst (λ (j : ℕ). IsSome (comma_at j (p ∷ ps))) (sym before) (comma_after k (p ∷ ps) (got_within (split (p ∷ ps)) (suc k) [] h)) in
    some_mapped piece_part _ (some_right (comma_at (suc k) (p ∷ ps)) (comma_at (suc k - 1) (p ∷ ps)) comma)

-- an operand that is there has a part
pub at_some : (ps : List Piece) (k : ℕ) → IsSome (slice_get (operands_of ps) k) → IsSome (operand_at k ps)
at_some ps k h = by (slice_get (operands_of ps) k) refl h
  where
    by : (x : Option (List Piece)) → slice_get (operands_of ps) k ≡ x → IsSome x → IsSome (option_and_then (operand_part ps k) x)
    by None e h = absurd (false≢true h)
    by (Some o) e h = operand_some ps k o e

-- ---- the operand that is refused

-- the operand that is found has its index
pub record IsAt (k : ℕ) (os : List (List Piece)) (r : ℕ × List Piece) : Type 0 where
  pub index : ℕ
  pub place : r.0 ≡ k + index
  pub got : slice_get os index ≡ Some r.1

refused_at : (kind : FaultKind) (op : Operation) (k : ℕ) (os : List (List Piece)) (r : ℕ × List Piece) → first_refused kind op k os ≡ Some r → IsAt k os r
unfolding first_refused
refused_at kind op k [] r e = absurd (cc)
refused_at kind op k (o ∷ os) r e = by (has_fault kind (wants op k) o) (refused_at kind op (k + 1) os r) e
  where
    by : (b : Bool) → (first_refused kind op (k + 1) os ≡ Some r → IsAt (k + 1) os r) → cond b (Some (let q : ℕ × List Piece = (k, o) in q)) (first_refused kind op (k + 1) os) ≡ Some r → IsAt k (o ∷ os) r
    by true more e =
        let same : (let q : ℕ × List Piece = (k, o) in q) ≡ r = cc in
        subst (IsAt k (o ∷ os)) same (record { index = 0; place = omega arith; got = refl })
    by false more e = let at = more e in record { index = suc at.index; place = omega (arith, at.place); got = at.got }

found_part : (kind : FaultKind) (op : Operation) (ps : List Piece) → IsSome (first_refused kind op 0 (operands_of ps)) → IsSome (refused_in kind op ps)
found_part kind op ps h = by (first_refused kind op 0 (operands_of ps)) refl h
  where
    by : (o : Option (ℕ × List Piece)) → first_refused kind op 0 (operands_of ps) ≡ o → IsSome o → IsSome (option_and_then (λ r. operand_part ps r.0 r.1) o)
    by None e h = absurd (false≢true h)
    by (Some r) e h =
        let at = refused_at kind op 0 (operands_of ps) r e in
        let same : at.index ≡ r.0 = omega (arith, at.place) in
        operand_some ps r.0 r.1 (subst (λ (k : ℕ). slice_get (operands_of ps) k ≡ Some r.1) same at.got)

-- ---- statements

-- an operation that is refused
operates : (kind : FaultKind) (d : Option Directive) (text : List ℕ) (parts : Parts) (op : Operation) → operation_in d parts.word ≡ Some op → IsSome (word_part text) → Found op 0 (operands_of parts.pieces) kind → IsSome (statement_part kind d text parts)
operates fault.OperandCount d text parts op e w h = some_right (part_of parts.pieces) (word_part text) w
operates fault.OperandForm d text parts op e w h = rw e (some_left _ (section_part fault.OperandForm parts.pieces) (found_part fault.OperandForm op parts.pieces h))
operates fault.BadExpression d text parts op e w h = rw e (some_left _ (section_part fault.BadExpression parts.pieces) (found_part fault.BadExpression op parts.pieces h))
operates fault.TooDeep d text parts op e w h = rw e (some_left _ (section_part fault.TooDeep parts.pieces) (found_part fault.TooDeep op parts.pieces h))
operates _ d text parts op e w h = absurd h

pub err_of : {A : Type 0} (P : FaultKind → Type 0) (r : Result A FaultKind) (kind : FaultKind) → r ≡ Err kind → IfErr r P → P kind
err_of P r kind e h = subst (λ r. IfErr r P) e h

-- the fault of a step that only hands a value on
pub err_kept : {A B : Type 0} (r : Result A FaultKind) (g : A → B) (kind : FaultKind) → (r >>= λ a. Ok (g a)) ≡ Err kind → r ≡ Err kind
err_kept {A = X} (Ok x) g kind h = absurd (cc)
err_kept {A = X} (Err e) g kind h = let same : e ≡ kind = cc in ap (λ k. let r : Result X FaultKind = Err k in r) same

pub same_err : {A : Type 0} (e k : FaultKind) → (let r : Result A FaultKind = Err e in r) ≡ Err k → e ≡ k
same_err {A = X} e k h = cc

abbrev put : Made → AssemblyAct
put o = Put (target.Instruction o.form) o.trees

spelled_part : (kind : FaultKind) (text : List ℕ) (parts : Parts) (w : line.Part) (o : Option Spelling) → parts.word ≡ Some w → spelling_of w.text ≡ o → IsSome (word_part text)
    → instructing w.text (operands_of parts.pieces) ≡ Err kind → IsSome (statement_part kind None text parts)
spelled_part kind text parts w None has is some h =
    let stops : instructing w.text (operands_of parts.pieces) ≡ Err fault.UnknownMnemonic = rw is refl in
    let unknown : fault.UnknownMnemonic ≡ kind = same_err fault.UnknownMnemonic kind (sym stops ∙ h) in
    subst (λ (k : FaultKind). IsSome (statement_part k None text parts)) unknown some
spelled_part kind text parts w (Some s) has is some h =
    let os : List (List Piece) = operands_of parts.pieces in
    let runs : operation_in None parts.word ≡ Some (Runs s) = rw (has, is) refl in
    let goes_on : instructing w.text os ≡ (operation_of s os >>= λ o. Ok (put o)) = rw is refl in
    let refused : operation_of s os ≡ Err kind = err_kept (operation_of s os) put kind (sym goes_on ∙ h) in
    operates kind None text parts (Runs s) runs some (err_of (Found (Runs s) 0 os) (operation_of s os) kind refused (operation_found s os))

-- ---- the text of a line

-- a line whose text has a fault has a part with it
pub unread_some : (t : List ℕ) (f : LineFault) → line_of t ≡ Err f → IsSome (unread_part (line_fault f) t)
unread_some t lexical.BadLabel l = text_refused t lexical.BadLabel l
unread_some t lexical.BadConstant l = text_refused t lexical.BadConstant l
unread_some t lexical.OpenQuote l = text_refused t lexical.OpenQuote l
unread_some t lexical.StrayText l = text_refused t lexical.StrayText l

-- a fault with which a line is read, or with which expansion reads it: the others are found when it is acted on
abbrev pub Reads : FaultKind → Type 0
Reads fault.OpenBlock = ⊥
Reads fault.StrayEnd = ⊥
Reads fault.Depth = ⊥
Reads fault.Lines = ⊥
Reads fault.Redefined = ⊥
Reads fault.LongLine = ⊥
Reads _ = Unit {0}

pub reads_text : (f : LineFault) → Reads (line_fault f)
reads_text lexical.BadLabel = tt
reads_text lexical.BadConstant = tt
reads_text lexical.OpenQuote = tt
reads_text lexical.StrayText = tt

-- such a fault has its part in the line's text or its statement
pub placed : (t : List ℕ) (kind : FaultKind) → Reads kind → IsSome (part_in kind (directive_in (first_word t)) t) → IsSome (refused_part t kind)
placed t fault.OpenBlock r h = absurd r
placed t fault.StrayEnd r h = absurd r
placed t fault.Depth r h = absurd r
placed t fault.Lines r h = absurd r
placed t fault.Redefined r h = absurd r
placed t fault.LongLine r h = absurd r
placed t _ r h = h

found_reads : (op : Operation) (k : ℕ) (os : List (List Piece)) (e : FaultKind) → Found op k os e → Reads e
found_reads op k os fault.OperandCount h = tt
found_reads op k os fault.OperandForm h = tt
found_reads op k os fault.BadExpression h = tt
found_reads op k os fault.TooDeep h = tt
found_reads op k os _ h = absurd h

spelled_reads : (o : Option Spelling) → IfErr (ok_or o fault.UnknownMnemonic) Reads
spelled_reads None = tt
spelled_reads (Some s) = tt

instruction_reads : (word : List ℕ) (os : List (List Piece)) → IfErr (instructing word os) Reads
instruction_reads word os =
    bound Reads (spelled word) _ (spelled_reads (spelling_of word))
    (λ s _. bound Reads (operation_of s os) _ (if_err_map (Found (Runs s) 0 os) Reads (operation_of s os) (found_reads (Runs s) 0 os) (operation_found s os)) (λ _ _. tt))

act_reads : (d : Option Directive) (parts : Parts) → IfErr (act_by d parts) Reads
act_reads (Some d) parts =
    let label : List ℕ = unwrap_or parts.label [] in
    let os : List (List Piece) = operands_of parts.pieces in
    if_err_map (Found (Does d) 0 os) Reads (act_of d label os) (found_reads (Does d) 0 os) (act_found d label os)
act_reads None parts = by parts.word
  where
    by : (o : Option line.Part) → IfErr (act_without o (operands_of parts.pieces)) Reads
    by None = tt
    by (Some w) = instruction_reads w.text (operands_of parts.pieces)

-- ---- lines

act_part : (kind : FaultKind) (d : Option Directive) (text : List ℕ) (parts : Parts) → line_of text ≡ Ok parts → directive_in (first_word text) ≡ d → act_by d parts ≡ Err kind → IsSome (statement_part kind d text parts)
act_part kind (Some d) text parts l is h =
    let label : List ℕ = unwrap_or parts.label [] in
    operates kind (Some d) text parts (Does d) refl (directive_some text d is)
    (err_of (Found (Does d) 0 (operands_of parts.pieces)) (act_of d label (operands_of parts.pieces)) kind h (act_found d label (operands_of parts.pieces)))
act_part kind None text parts l is h = by parts.word refl h
  where
    by : (o : Option line.Part) → parts.word ≡ o → act_without o (operands_of parts.pieces) ≡ Err kind → IsSome (statement_part kind None text parts)
    by None has h = absurd (cc)
    by (Some w) has h = spelled_part kind text parts w (spelling_of w.text) has refl (parts_some text parts w l has) h

abbrev made : Option Directive → Parts → AssemblyAct → Statement
made d parts act = record { label = label_for d parts.label; act = act }

line_part : (kind : FaultKind) (d : Option Directive) (text : List ℕ) (lacks : Bool) (r : Result Parts LineFault) → directive_in (first_word text) ≡ d → line_of text ≡ r
    → (cond lacks (let x : Result Parts FaultKind = Err fault.BadLabel in x) (told line_fault r) >>= λ parts. act_by d parts >>= λ act. Ok (made d parts act)) ≡ Err kind
    → IsSome (cond lacks (Some (let p : Part = record { start = 0; end = 1 } in p)) (part_by r kind d text))
line_part kind d text true r is l h = refl
line_part kind d text false (Err f) is l h = subst (λ (k : FaultKind). IsSome (unread_part k text)) (same_err (line_fault f) kind h) (unread_some text f l)
line_part kind d text false (Ok parts) is l h = act_part kind d text parts l is (err_kept (act_by d parts) (made d parts) kind h)

line_reads : (d : Option Directive) (lacks : Bool) (r : Result Parts LineFault)
    → IfErr (cond lacks (let x : Result Parts FaultKind = Err fault.BadLabel in x) (told line_fault r) >>= λ parts. act_by d parts >>= λ act. Ok (made d parts act)) Reads
line_reads d true r = tt
line_reads d false (Err f) = reads_text f
line_reads d false (Ok parts) = bound Reads (act_by d parts) _ (act_reads d parts) (λ _ _. tt)

pub has_part : (text : List ℕ) (kind : FaultKind) → read_statement text ≡ Err kind → IsSome (refused_part text kind)
unfolding statement_by part_in
has_part text kind h =
    let d : Option Directive = directive_in (first_word text) in
    let lacks : Bool = lacks_label d text in
    placed text kind (err_of Reads (read_statement text) kind h (line_reads d lacks (line_of text))) (line_part kind d text lacks (line_of text) refl refl h)

-- ---- each part lies within its line

whole : (text : List ℕ) (p : Part) → PartWithin (length text) p → IsWithin text p
whole text p h = record { some = h.some; within = h.within }

comma_part_within : (n : ℕ) (o : Option Piece) (p : Part) → ((q : Piece) → o ≡ Some q → Within 0 n q) → option_map piece_part o ≡ Some p → PartWithin n p
comma_part_within n None p w h = absurd (cc)
comma_part_within n (Some q) p w h =
    let same : piece_part q ≡ p = cc in
    let within = w q refl in
    subst (PartWithin n) same (record { some = within.some; within = within.within })

either_comma : (n : ℕ) (a b : Option Piece) (q : Piece) → (a ≡ Some q → Within 0 n q) → (b ≡ Some q → Within 0 n q) → option_or a b ≡ Some q → Within 0 n q
either_comma n None b q f g h = g h
either_comma n (Some x) b q f g h = f h

operand_within : (n : ℕ) (ps : List Piece) (k : ℕ) (o : List Piece) (p : Part) → AreWithin 0 n ps → AreWithin 0 n o → operand_part ps k o ≡ Some p → PartWithin n p
operand_within n ps k o p all own h = by (part_of o) refl h
  where
    by : (x : Option Part) → part_of o ≡ x → option_or x (option_map piece_part (option_or (comma_at k ps) (comma_at (k - 1) ps))) ≡ Some p → PartWithin n p
    by None e h = comma_part_within n (option_or (comma_at k ps) (comma_at (k - 1) ps)) p (λ q. either_comma n (comma_at k ps) (comma_at (k - 1) ps) q (comma_within 0 n k ps q all) (comma_within 0 n (k - 1) ps q all)) h
    by (Some x) e h = between_within n o (length o - 1) p own (e ∙ h)

refused_within : (n : ℕ) (kind : FaultKind) (op : Operation) (ps : List Piece) (p : Part) → AreWithin 0 n ps → refused_in kind op ps ≡ Some p → PartWithin n p
refused_within n kind op ps p all h = by (first_refused kind op 0 (operands_of ps)) refl h
  where
    by : (x : Option (ℕ × List Piece)) → first_refused kind op 0 (operands_of ps) ≡ x → option_and_then (λ r. operand_part ps r.0 r.1) x ≡ Some p → PartWithin n p
    by None e h = absurd (cc)
    by (Some r) e h = operand_within n ps r.0 r.1 p all (found_within n kind op 0 (operands_of ps) r (operands_within n ps all) e) h

either_part : (n : ℕ) (a b : Option Part) (p : Part) → (a ≡ Some p → PartWithin n p) → (b ≡ Some p → PartWithin n p) → option_or a b ≡ Some p → PartWithin n p
either_part n None b p f g h = g h
either_part n (Some x) b p f g h = f h

first_within : (n : ℕ) (ps : List Piece) (os : List (List Piece)) (p : Part) → AreWithin 0 n ps → AllWithin 0 n os → first_part ps os ≡ Some p → PartWithin n p
first_within n ps [] p all own h = absurd (cc)
first_within n ps (o ∷ os) p all own h = operand_within n ps 0 o p all own.0 h

section_within : (n : ℕ) (kind : FaultKind) (ps : List Piece) (p : Part) → AreWithin 0 n ps → section_part kind ps ≡ Some p → PartWithin n p
section_within n fault.OperandForm ps p all h = first_within n ps (operands_of ps) p all (operands_within n ps all) h
section_within n _ ps p all h = absurd (cc)

expansion_within : (n : ℕ) (kind : FaultKind) (ps : List Piece) (p : Part) → AreWithin 0 n ps → expansion_part kind ps ≡ Some p → PartWithin n p
expansion_within n fault.OperandForm ps p all h = between_within n ps (length ps - 1) p all h
expansion_within n fault.BadExpression ps p all h = first_within n ps (operands_of ps) p all (operands_within n ps all) h
expansion_within n fault.TooDeep ps p all h = first_within n ps (operands_of ps) p all (operands_within n ps all) h
expansion_within n fault.Undefined ps p all h = first_within n ps (operands_of ps) p all (operands_within n ps all) h
expansion_within n fault.DivideByZero ps p all h = first_within n ps (operands_of ps) p all (operands_within n ps all) h
expansion_within n fault.NotAbsolute ps p all h = first_within n ps (operands_of ps) p all (operands_within n ps all) h
expansion_within n fault.ValueRange ps p all h = first_within n ps (operands_of ps) p all (operands_within n ps all) h
expansion_within n _ ps p all h = absurd (cc)

operands_part : (n : ℕ) (kind : FaultKind) (o : Option Operation) (ps : List Piece) (p : Part) → AreWithin 0 n ps → operation_part kind ps o ≡ Some p → PartWithin n p
operands_part n kind None ps p all h = expansion_within n kind ps p all h
operands_part n kind (Some op) ps p all h =
    either_part n (refused_in kind op ps) (section_part kind ps) p (refused_within n kind op ps p all) (section_within n kind ps p all) h

got_all : (n : ℕ) (os : List (List Piece)) (k : ℕ) (o : List Piece) → AllWithin 0 n os → slice_get os k ≡ Some o → AreWithin 0 n o
got_all n [] k o all e = absurd (cc)
got_all n (q ∷ os) zero o all e = let same : q ≡ o = cc in subst (AreWithin 0 n) same all.0
got_all n (q ∷ os) (suc k) o all e = got_all n os k o all.1 e

at_within : (n : ℕ) (ps : List Piece) (k : ℕ) (p : Part) → AreWithin 0 n ps → operand_at k ps ≡ Some p → PartWithin n p
at_within n ps k p all h = by (slice_get (operands_of ps) k) refl h
  where
    by : (x : Option (List Piece)) → slice_get (operands_of ps) k ≡ x → option_and_then (operand_part ps k) x ≡ Some p → PartWithin n p
    by None e h = absurd (cc)
    by (Some o) e h = operand_within n ps k o p all (got_all n (operands_of ps) k o (operands_within n ps all) e) h

room_within : (n : ℕ) (o : Option Operation) (ps : List Piece) (p : Part) → AreWithin 0 n ps → room_part o ps ≡ Some p → PartWithin n p
room_within n o ps p all h = by (option_and_then room_index o) h
  where
    by : (x : Option ℕ) → option_and_then (λ k. operand_at k ps) x ≡ Some p → PartWithin n p
    by None h = absurd (cc)
    by (Some k) h = at_within n ps k p all h

-- ---- parts that are no operands

either_within : (text : List ℕ) (a b : Option Part) (p : Part) → (a ≡ Some p → IsWithin text p) → (b ≡ Some p → IsWithin text p) → option_or a b ≡ Some p → IsWithin text p
either_within text None b p f g h = g h
either_within text (Some x) b p f g h = f h

-- a part between two places of a line, if the first is before the second
from_within : (text : List ℕ) (first last : ℕ) (p : Part) → last ≤ length text → cond (nat_lt first last) (Some (let q : Part = record { start = first; end = last } in q)) None ≡ Some p → IsWithin text p
from_within text first last p short = by (cases_lt first last)
  where
    by : (first < last) ⊎ (last ≤ first) → cond (nat_lt first last) (Some (let q : Part = record { start = first; end = last } in q)) None ≡ Some p → IsWithin text p
    by (inl l) h =
        let is : Some (let q : Part = record { start = first; end = last } in q) ≡ Some p = sym (rw (lt-ltb first last l) refl) ∙ h in
        let same : (let q : Part = record { start = first; end = last } in q) ≡ p = cc in
        subst (IsWithin text) same (record { some = l; within = short })
    by (inr l) h =
        let none : cond (nat_lt first last) (Some (let q : Part = record { start = first; end = last } in q)) None ≡ None = rw (le-ltb first last l) refl in
        absurd (cc)

label_within : (text : List ℕ) (p : Part) → label_part text ≡ Some p → IsWithin text p
label_within text p h = from_within text 0 (label_end text) p (field_end 0 text (omega arith)) h

word_or_label_within : (text : List ℕ) (p : Part) → word_or_label text ≡ Some p → IsWithin text p
word_or_label_within text p h = either_within text (word_part text) (label_part text) p (word_within text p) (label_within text p) h

opener_within : (text : List ℕ) (p : Part) → opener_part text ≡ Some p → IsWithin text p
opener_within text p h = by (has_opener (first_word text)) h
  where
    by : (b : Bool) → cond b (word_part text) None ≡ Some p → IsWithin text p
    by true h = word_within text p h
    by false h = absurd (cc)

filled_within : (text : List ℕ) (p : Part) → filled_part text ≡ Some p → IsWithin text p
filled_within text p h = from_within text (prefix_len is_blank text) (length text) p (omega arith) h

long_within : (text : List ℕ) (p : Part) → long_part text ≡ Some p → IsWithin text p
long_within text p = by (cases_lt 1024 (length text))
  where
    by : (1024 < length text) ⊎ (length text ≤ 1024) → long_part text ≡ Some p → IsWithin text p
    by (inl l) h =
        let is : Some (let q : Part = record { start = floor_char_boundary text 1024; end = length text } in q) ≡ Some p = sym (rw (lt-ltb 1024 (length text) l) refl) ∙ h in
        let same : (let q : Part = record { start = floor_char_boundary text 1024; end = length text } in q) ≡ p = cc in
        subst (IsWithin text) same (record { some = omega (arith, l, floor_before text 1024); within = omega arith })
    by (inr l) h =
        let is : filled_part text ≡ Some p = sym (rw (le-ltb 1024 (length text) l) refl) ∙ h in
        filled_within text p is

count_within : (text : List ℕ) (ps : List Piece) (x : Option Part) (p : Part) → AreWithin 0 (length text) ps → part_of ps ≡ x → option_or x (word_part text) ≡ Some p → IsWithin text p
count_within text ps None p all e h = word_within text p h
count_within text ps (Some q) p all e h = whole text p (between_within (length text) ps (length ps - 1) p all (e ∙ h))

blank_long : (text : List ℕ) → is_blank (get_or text 0 0) ≡ true → 0 < length text
blank_long [] h = absurd (false≢true h)
blank_long (b ∷ bs) h = omega arith

first_column : (text : List ℕ) (p : Part) → 0 < length text → Some (let q : Part = record { start = 0; end = 1 } in q) ≡ Some p → IsWithin text p
first_column text p long h =
    let same : (let q : Part = record { start = 0; end = 1 } in q) ≡ p = cc in
    subst (IsWithin text) same (record { some = omega arith; within = omega (arith, long) })

blank_within : (text : List ℕ) (b : Bool) (p : Part) → is_blank (get_or text 0 0) ≡ b → cond b (Some (let q : Part = record { start = 0; end = 1 } in q)) None ≡ Some p → IsWithin text p
blank_within text true p is h = first_column text p (blank_long text is) h
blank_within text false p is h = absurd (cc)

tokens_within : (kind : FaultKind) (text : List ℕ) (o : Option Operation) (ps : List Piece) (p : Part) → AreWithin 0 (length text) ps → tokens_part kind text o ps ≡ Some p → IsWithin text p
tokens_within fault.OperandCount text o ps p all h = count_within text ps (part_of ps) p all refl h
tokens_within fault.NoFile text o ps p all h = whole text p (at_within (length text) ps 0 p all h)
tokens_within fault.TooManyParameters text o ps p all h = whole text p (at_within (length text) ps 32 p all h)
tokens_within fault.TooLarge text o ps p all h =
    either_within text (room_part o ps) (word_or_label text) p (λ e. whole text p (room_within (length text) o ps p all e)) (word_or_label_within text p) h
tokens_within fault.BadBlock text o ps p all h = whole text p (at_within (length text) ps 1 p all h)
tokens_within kind text o ps p all h = whole text p (operands_part (length text) kind o ps p all h)

statement_within : (kind : FaultKind) (d : Option Directive) (text : List ℕ) (parts : Parts) (p : Part) → AreWithin 0 (length text) parts.pieces → statement_part kind d text parts ≡ Some p → IsWithin text p
statement_within fault.BadLabel d text parts p all h = blank_within text (is_blank (get_or text 0 0)) p refl h
statement_within fault.UnknownMnemonic d text parts p all h = word_within text p h
statement_within kind d text parts p all h = tokens_within kind text (operation_in d parts.word) parts.pieces p all h

unread_within : (kind : FaultKind) (text : List ℕ) (p : Part) → unread_part kind text ≡ Some p → IsWithin text p
unread_within fault.BadLabel text p h = text_within text p h
unread_within fault.BadConstant text p h = text_within text p h
unread_within fault.OpenQuote text p h = text_within text p h
unread_within fault.StrayText text p h = text_within text p h
unread_within kind text p h = word_or_label_within text p h

by_parts : (kind : FaultKind) (d : Option Directive) (text : List ℕ) (r : Result Parts LineFault) (p : Part) → line_of text ≡ r → part_by r kind d text ≡ Some p → IsWithin text p
by_parts kind d text (Err f) p l h = unread_within kind text p h
by_parts kind d text (Ok parts) p l h = statement_within kind d text parts p (within_line text parts l) h

by_label : (kind : FaultKind) (d : Option Directive) (text : List ℕ) (lacks : Bool) (p : Part) → lacks_label d text ≡ lacks → cond lacks (Some (let q : Part = record { start = 0; end = 1 } in q)) (part_by (line_of text) kind d text) ≡ Some p → IsWithin text p
by_label kind d text true p is h =
    let both = and_parts (names_label d) (is_blank (get_or text 0 0)) is in
    first_column text p (blank_long text both.1) h
by_label kind d text false p is h = by_parts kind d text (line_of text) p refl h

pub lies_within : (text : List ℕ) (kind : FaultKind) (p : Part) → refused_part text kind ≡ Some p → IsWithin text p
unfolding part_in
lies_within text fault.OpenBlock p h = opener_within text p h
lies_within text fault.StrayEnd p h = word_or_label_within text p h
lies_within text fault.Depth p h = word_or_label_within text p h
lies_within text fault.Lines p h = absurd (cc)
lies_within text fault.Redefined p h = label_within text p h
lies_within text fault.LongLine p h = long_within text p h
lies_within text kind p h = by_label kind (directive_in (first_word text)) text (lacks_label (directive_in (first_word text)) text) p refl h
