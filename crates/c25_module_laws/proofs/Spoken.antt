-- What a line says: its names are names, those of its sections are names of sections, its strings are of bytes, and its
-- operands are no more than there may be.
use Rattle.std.proofs.Common.{◌≡◌, ℕ, zero, suc, ◌+◌, ◌-◌, ◌<◌, ◌^◌, Bool, true, false, cond, not, ◌&&◌, ◌||◌, eqb, leb, List, [], ◌∷◌, ◌++◌, length, take, drop, slice_index, Option, Some, None, IfSome, unwrap_or, Result, Ok, Err, refl, sym, ap, ◌∙◌, subst, arith}
use Rattle.std.specs.List.{AllByRecursion, list_all, prefix_len, slice_split, onto_first, take_while}
use Rattle.std.proofs.lemmas.Bool.{and_parts, and_from, or_parts, cond_both, le-leb, not_from_false, true≢false, false≢true}
use Rattle.std.proofs.lemmas.Bool.Decides.{nat_tests}
use Rattle.c25_meaning_language.specs.DirectiveOperands.{name_in, names_in, string_in, parts_in}
use Rattle.c25_meaning_language.specs.Arguments.{folded, past_quote, before_quote, string_text}
use Rattle.c25_meaning_assembly.specs.AssemblyLine as line
use Rattle.c25_meaning_assembly.specs.AssemblyLine.{AssemblyAct, Statement, statement_by, directive_in, read_statement, section_in, said_in, as_section, later_in, entering, reserving, reserving_in, some_names, expressions_in, with_expression, loading, without, act_of, act_without, act_by, instructing, parts_for, label_for, names_label, directive_of}
use Rattle.c25_meaning_common.specs.Bytes.{is_blank, is_field, is_letter, begins_name, goes_on_name, is_digit, is_letter_or_digit, is_plain}
use Rattle.c25_meaning_language.specs.Constant.{is_constant}
use Rattle.c25_meaning_language.specs.Lexeme.{name_of, constant_of, character_of, quoted_by, quoted_len, double_sign, single_sign, sign_by, dotted_of, lexeme}
use Rattle.c25_meaning_language.specs.Line.{Piece, Part, Parts, Scan, before, covered, scan, scan_from, is_name, is_label, without_colon, label_of, label_in, word_in, statement_of, line_of, is_comment_line, first_word}
use Rattle.c25_meaning_language.specs.Line as parts
use Rattle.c25_meaning_objects.specs.Module.{is_section_name, is_symbol_name}
use Rattle.c25_meaning_language.specs.Operands.{operands_of, is_comma, line_fault}
use Rattle.c25_meaning_common.specs.Results.{◌>>=◌, told}
use Rattle.c25_meaning_assembly.specs.StatementLine.{spelled, operation_of}
use Rattle.c25_meaning_language.specs.Tree.{Tree}
use Rattle.c25_meaning_assembly.specs.declared.assembly.DataWidth.TheVariants as width
use Rattle.c25_meaning_assembly.specs.declared.assembly.Directive.{Directive}
use Rattle.c25_meaning_assembly.specs.declared.assembly.Directive.TheVariants as directive
use Rattle.c25_meaning_assembly.specs.declared.assembly.Target.TheVariants as target
use Rattle.c25_meaning_language.specs.declared.line.LineFault.{LineFault}
use Rattle.c25_meaning_language.specs.declared.line.LineFault.TheVariants as fault
use Rattle.c25_meaning_language.specs.declared.line.Lexeme.{Lexeme}
use Rattle.c25_meaning_language.specs.declared.line.Lexeme.TheVariants.{Blank, Comment, Token, Fault}
use Rattle.c25_meaning_language.specs.declared.line.Sign.{Sign}
use Rattle.c25_meaning_language.specs.declared.line.TokenKind.{TokenKind}
use Rattle.c25_meaning_language.specs.declared.line.TokenKind.TheVariants as kind
use Rattle.c25_meaning_language.specs.declared.statement.FaultKind.{FaultKind}
use Rattle.c25_meaning_language.specs.declared.statement.FaultKind.TheVariants as refused
use Rattle.c25_module_laws.proofs.Counted.{IsCount, operation_counted}
use Rattle.c25_module_laws.proofs.ResultSteps.{bound, permitted}

-- ---- names

some_bytes : (name : List ℕ) → begins_name (slice_index name 0) ≡ true → leb 1 (length name) ≡ true
some_bytes [] h = absurd (cc)
some_bytes (b ∷ bs) h = le-leb 1 (length (b ∷ bs)) (omega arith)

symbol_name : (name : List ℕ) → begins_name (slice_index name 0) ≡ true → list_all goes_on_name name ≡ true → leb (length name) 128 ≡ true → is_symbol_name name ≡ true
symbol_name name first all few = and_from _ _ (and_from _ _ (and_from _ _ (some_bytes name first) few) first) all

-- ---- tokens

abbrev pub AreBytes : List ℕ → Type 0
AreBytes text = AllByRecursion (λ b. b < 256) text

-- what holds of a token of a kind: a name is a symbol's, and a string is of bytes
abbrev pub Says : TokenKind → List ℕ → Type 0
Says kind.Name text = is_symbol_name text ≡ true
Says kind.Quoted text = AreBytes text
Says _ text = Unit {0}

-- a token at the front of a text
Begins : List ℕ → Lexeme → Type 0
Begins text l = (k : TokenKind) (len : ℕ) → l ≡ Token k len → Says k (take len text)

prefix_passes : (p : ℕ → Bool) (xs : List ℕ) → list_all p (take (prefix_len p xs) xs) ≡ true
prefix_passes p [] = refl
prefix_passes p (x ∷ xs) = on (p x) refl (prefix_passes p xs)
  where
    on : (b : Bool) → p x ≡ b → list_all p (take (prefix_len p xs) xs) ≡ true → list_all p (take (cond b (1 + prefix_len p xs) 0) (x ∷ xs)) ≡ true
    on true e h = let n : 1 + prefix_len p xs ≡ suc (prefix_len p xs) = omega arith in rw n (and_from (p x) (list_all p (take (prefix_len p xs) xs)) e h)
    on false e h = refl

prefix_within : (p : ℕ → Bool) (xs : List ℕ) → length (take (prefix_len p xs) xs) ≡ prefix_len p xs
prefix_within p [] = refl
prefix_within p (x ∷ xs) = on (p x) (prefix_within p xs)
  where
    on : (b : Bool) → length (take (prefix_len p xs) xs) ≡ prefix_len p xs → length (take (cond b (1 + prefix_len p xs) 0) (x ∷ xs)) ≡ cond b (1 + prefix_len p xs) 0
    on true h = let n : 1 + prefix_len p xs ≡ suc (prefix_len p xs) = omega arith in rw n (ap suc h)
    on false h = refl

begins_goes_on : (l d u s : Bool) → (l || u) ≡ true → (l || d || u || s) ≡ true
begins_goes_on true d u s h = refl
begins_goes_on false true u s h = refl
begins_goes_on false false true s h = refl
begins_goes_on false false false s h = absurd (cc)

front_named : (text : List ℕ) → begins_name (slice_index text 0) ≡ true → leb (prefix_len goes_on_name text) 128 ≡ true → is_symbol_name (take (prefix_len goes_on_name text) text) ≡ true
front_named [] first few = absurd (cc)
front_named (b ∷ bs) first few =
    let go : goes_on_name b ≡ true = begins_goes_on (is_letter b) (is_digit b) (eqb b 95) (eqb b 36) first in
    let n : 1 + prefix_len goes_on_name bs ≡ suc (prefix_len goes_on_name bs) = omega arith in
    let begins : begins_name (slice_index (take (prefix_len goes_on_name (b ∷ bs)) (b ∷ bs)) 0) ≡ true = rw (go, n) first in
    symbol_name (take (prefix_len goes_on_name (b ∷ bs)) (b ∷ bs)) begins (prefix_passes goes_on_name (b ∷ bs)) (rw (prefix_within goes_on_name (b ∷ bs)) few)

-- a token of this kind and length
front_token : (text : List ℕ) (k : TokenKind) (len : ℕ) → Says k (take len text) → Begins text (Token k len)
unfolding Begins
front_token text k len h = λ j n e.
    let a : k ≡ j = cc in
    let b : len ≡ n = cc in
    subst (λ (x : TokenKind). Says x (take n text)) a (subst (λ (m : ℕ). Says k (take m text)) b h)

front_fault : (text : List ℕ) (f : LineFault) → Begins text (Fault f)
unfolding Begins
front_fault text f = λ j n e. absurd (cc)

front_none : (text : List ℕ) (l : Lexeme) → ((k : TokenKind) (len : ℕ) → l ≡ Token k len → ⊥) → Begins text l
unfolding Begins
front_none text l h = λ j n e. absurd (h j n e)

either : (text : List ℕ) (b : Bool) (l m : Lexeme) → Begins text l → Begins text m → Begins text (cond b l m)
either text true l m g h = g
either text false l m g h = h

name_begins : (text : List ℕ) → begins_name (slice_index text 0) ≡ true → Begins text (name_of (prefix_len goes_on_name text))
name_begins text first = on (leb (prefix_len goes_on_name text) 128) refl
  where
    on : (b : Bool) → leb (prefix_len goes_on_name text) 128 ≡ b → Begins text (cond b (Token kind.Name (prefix_len goes_on_name text)) (Fault fault.BadLabel))
    on true few = front_token text kind.Name (prefix_len goes_on_name text) (front_named text first few)
    on false few = front_fault text fault.BadLabel

constant_begins : (text run : List ℕ) → Begins text (constant_of run)
constant_begins text run = either text (is_constant run) (Token kind.Constant (length run)) (Fault fault.BadConstant) (front_token text kind.Constant (length run) tt) (front_fault text fault.BadConstant)

character_begins : (text : List ℕ) (c d e : ℕ) → Begins text (character_of c d e)
character_begins text c d e =
    either text (eqb c 39 && eqb d 39 && eqb e 39) (Token kind.Character 4) (cond (is_plain c && not (eqb c 39) && eqb d 39) (Token kind.Character 3) (Fault fault.OpenQuote)) (front_token text kind.Character 4 tt)
    (either text (is_plain c && not (eqb c 39) && eqb d 39) (Token kind.Character 3) (Fault fault.OpenQuote) (front_token text kind.Character 3 tt) (front_fault text fault.OpenQuote))

plain_byte : (b : ℕ) → is_plain b ≡ true → b < 256
plain_byte b h = grind (arith, nat_tests)

plain_bytes : (xs : List ℕ) → list_all is_plain xs ≡ true → AreBytes xs
plain_bytes [] h = tt
plain_bytes (x ∷ xs) h = let p = and_parts (is_plain x) (list_all is_plain xs) h in (plain_byte x p.0, plain_bytes xs p.1)

quoted_bytes : (text : List ℕ) (n : ℕ) → eqb (slice_index text 0) 34 ≡ true → list_all is_plain (take n (drop 1 text)) ≡ true → AreBytes (take (n + 1) text)
quoted_bytes [] n first h = absurd (cc)
quoted_bytes (b ∷ bs) n first h =
    let e : n + 1 ≡ suc n = omega arith in
    let l : b < 256 = grind (arith, nat_tests) in
    rw e (l, plain_bytes (take n bs) h)

quoted_begins : (text : List ℕ) (o : Option ℕ) → eqb (slice_index text 0) 34 ≡ true → Begins text (quoted_by o (drop 1 text))
quoted_begins text None first = front_fault text fault.OpenQuote
quoted_begins text (Some n) first = on (list_all is_plain (take n (drop 1 text))) refl
  where
    on : (b : Bool) → list_all is_plain (take n (drop 1 text)) ≡ b → Begins text (cond b (Token kind.Quoted (n + 1)) (Fault fault.StrayText))
    on true plain = front_token text kind.Quoted (n + 1) (quoted_bytes text n first plain)
    on false plain = front_fault text fault.StrayText

dotted_begins : (text rest : List ℕ) → Begins text (dotted_of rest)
dotted_begins text rest = either text (begins_name (slice_index rest 0)) (Token kind.DottedName (prefix_len goes_on_name rest + 1)) (Fault fault.StrayText) (front_token text kind.DottedName (prefix_len goes_on_name rest + 1) tt) (front_fault text fault.StrayText)

sign_begins : (text : List ℕ) (two one : Option Sign) → Begins text (sign_by two one)
sign_begins text (Some s) one = front_token text (kind.Sign s) 2 tt
sign_begins text None (Some s) = front_token text (kind.Sign s) 1 tt
sign_begins text None None = front_fault text fault.StrayText

lexeme_begins : (text : List ℕ) → Begins text (lexeme text)
unfolding lexeme
lexeme_begins text =
    cond_both (is_blank (slice_index text 0)) _ _ (Begins text) (λ _. front_none text Blank (λ k len h. cc)) (λ _.
    cond_both (eqb (slice_index text 0) 59) _ _ (Begins text) (λ _. front_none text Comment (λ k len h. cc)) (λ _.
    cond_both (begins_name (slice_index text 0)) _ _ (Begins text) (λ first. name_begins text first) (λ _.
    cond_both (is_digit (slice_index text 0)) _ _ (Begins text) (λ _. constant_begins text (take_while is_letter_or_digit text)) (λ _.
    cond_both (eqb (slice_index text 0) 39) _ _ (Begins text) (λ _. character_begins text (slice_index text 1) (slice_index text 2) (slice_index text 3)) (λ _.
    cond_both (eqb (slice_index text 0) 34) _ _ (Begins text) (λ first. quoted_begins text (quoted_len true (drop 1 text)) first) (λ _.
    cond_both (eqb (slice_index text 0) 46) _ _ (Begins text) (λ _. dotted_begins text (drop 1 text)) (λ _. sign_begins text (double_sign (slice_index text 0) (slice_index text 1)) (single_sign (slice_index text 0)))))))))

-- a token that says what its kind asks for
abbrev Good : Piece → Type 0
Good p = Says p.kind p.text

before_good : (l : Lexeme) (at : ℕ) (text : List ℕ) (more : Scan) → Begins text l → AllByRecursion Good more.pieces → AllByRecursion Good (before l at text more).pieces
unfolding Begins
before_good Blank at text more begins rest = rest
before_good Comment at text more begins rest = tt
before_good (Token k len) at text more begins rest = (begins k len refl, rest)
before_good (Fault f) at text more begins rest = tt

scan_good : (skip at : ℕ) (text : List ℕ) → AllByRecursion Good (scan skip at text).pieces
unfolding scan
scan_good skip at [] = tt
scan_good (suc skip) at (b ∷ rest) = scan_good skip (at + 1) rest
scan_good zero at (b ∷ rest) =
    before_good (lexeme (b ∷ rest)) at (b ∷ rest) (scan (covered (lexeme (b ∷ rest))) (at + 1) rest) (lexeme_begins (b ∷ rest)) (scan_good (covered (lexeme (b ∷ rest))) (at + 1) rest)

-- ---- operands

abbrev AreGood : List (List Piece) → Type 0
AreGood os = AllByRecursion (λ o. AllByRecursion Good o) os

onto_good : (p : Piece) (os : List (List Piece)) → Good p → AreGood os → AreGood (onto_first p os)
onto_good p [] g h = ((g, tt), tt)
onto_good p (o ∷ os) g h = ((g, h.0), h.1)

split_good : (ps : List Piece) → AllByRecursion Good ps → AreGood (slice_split (λ q. is_comma q.kind) ps)
split_good [] h = (tt, tt)
split_good (p ∷ ps) h = on (is_comma p.kind) (split_good ps h.1)
  where
    on : (b : Bool) → AreGood (slice_split (λ q. is_comma q.kind) ps) → AreGood (cond b ([] ∷ slice_split (λ q. is_comma q.kind) ps) (onto_first p (slice_split (λ q. is_comma q.kind) ps)))
    on true r = (tt, r)
    on false r = onto_good p _ h.0 r

operands_good : (ps : List Piece) → AllByRecursion Good ps → AreGood (operands_of ps)
operands_good [] h = tt
operands_good (p ∷ ps) h = split_good (p ∷ ps) h

abbrev pub IsSymbol : List ℕ → Type 0
IsSymbol name = is_symbol_name name ≡ true

abbrev pub IsSection : List ℕ → Type 0
IsSection name = is_section_name name ≡ true

name_good : (o : List Piece) (name : List ℕ) → AllByRecursion Good o → name_in o ≡ Ok name → IsSymbol name
name_good [] name h e = absurd (cc)
name_good (p ∷ []) name h e = on p.kind h.0 e
  where
    on : (k : TokenKind) → Says k p.text → name_in (record p { kind = k } ∷ []) ≡ Ok name → IsSymbol name
    on kind.Name says e = let q : p.text ≡ name = cc in subst IsSymbol q says
    on _ says e = absurd (cc)
name_good (p ∷ q ∷ ps) name h e = absurd (cc)

names_good : (os : List (List Piece)) (names : List (List ℕ)) → AreGood os → names_in os ≡ Ok names → AllByRecursion IsSymbol names
names_good [] names h e = let q : [] ≡ names = cc in subst (λ (ns : List (List ℕ)). AllByRecursion IsSymbol ns) q tt
names_good (o ∷ os) names h e =
    let a = bound (name_in o) (λ name. names_in os >>= λ names. Ok (name ∷ names)) names e in
    let b = bound (names_in os) (λ names. Ok (a.0 ∷ names)) names a.2 in
    let q : a.0 ∷ b.0 ≡ names = let last = b.2 in cc in
    subst (λ (ns : List (List ℕ)). AllByRecursion IsSymbol ns) q (name_good o a.0 h.0 a.1, names_good os b.0 h.1 b.1)

section_good : (o : List Piece) (section : List ℕ) → section_in o ≡ Ok section → IsSection section
section_good o section e =
    let a = bound (said_in o) as_section section e in
    let b = permitted (is_section_name a.0) a.0 _ section a.2 in
    subst IsSection b.1 b.0

-- ---- strings

taken_bytes : (n : ℕ) (text : List ℕ) → AreBytes text → AreBytes (take n text)
taken_bytes n [] h = all_none n
  where
    all_none : (n : ℕ) → AreBytes (take n [])
    all_none zero = tt
    all_none (suc n) = tt
taken_bytes zero (b ∷ bs) h = tt
taken_bytes (suc n) (b ∷ bs) h = (h.0, taken_bytes n bs h.1)

rest_bytes : (text : List ℕ) → AreBytes text → AreBytes (drop 1 text)
rest_bytes [] h = tt
rest_bytes (b ∷ bs) h = h.1

folded_bytes : (again : Bool) (text : List ℕ) → AreBytes text → AreBytes (folded again text)
unfolding folded
folded_bytes again [] h = tt
folded_bytes again (b ∷ rest) h = cond_both (again && eqb b 34) (folded false rest) (b ∷ folded (eqb b 34) rest) AreBytes (λ _. folded_bytes false rest h.1) (λ _. (h.0, folded_bytes (eqb b 34) rest h.1))

string_bytes : (token : List ℕ) → AreBytes token → AreBytes (string_text token)
string_bytes token h =
    let p : AreBytes (past_quote token) = cond_both (eqb (slice_index token 0) 34) (drop 1 token) token AreBytes (λ _. rest_bytes token h) (λ _. h) in
    let text = past_quote token in
    let q : AreBytes (before_quote text) = cond_both (eqb (slice_index text (length text - 1)) 34) (take (length text - 1) text) text AreBytes (λ _. taken_bytes (length text - 1) text p) (λ _. p) in
    folded_bytes false (before_quote text) q

abbrev pub AreWords : List ℕ → Type 0
AreWords words = AllByRecursion (λ w. w < 2 ^ 16) words

packed_words : (text : List ℕ) → AreBytes text → AreWords (line.packed text)
packed_words [] h = tt
packed_words (a ∷ []) h = let l : a < 256 = h.0 in (omega (arith, l), tt)
packed_words (a ∷ b ∷ rest) h = let l : a < 256 = h.0 in let k : b < 256 = h.1.0 in (omega (arith, l, k), packed_words rest h.1.1)

both_words : (xs ys : List ℕ) → AreWords xs → AreWords ys → AreWords (xs ++ ys)
both_words [] ys g h = h
both_words (x ∷ xs) ys g h = (g.0, both_words xs ys g.1 h)

string_good : (o : List Piece) (text : List ℕ) → AllByRecursion Good o → string_in o ≡ Ok text → AreBytes text
string_good [] text h e = absurd (cc)
string_good (p ∷ []) text h e = on p.kind h.0 e
  where
    on : (k : TokenKind) → Says k p.text → string_in (record p { kind = k } ∷ []) ≡ Ok text → AreBytes text
    on kind.Quoted says e = let q : string_text p.text ≡ text = cc in subst AreBytes q (string_bytes p.text says)
    on _ says e = absurd (cc)
string_good (p ∷ q ∷ ps) text h e = absurd (cc)

strings_good : (os : List (List Piece)) (words : List ℕ) → AreGood os → line.strings_in os ≡ Ok words → AreWords words
strings_good [] words h e = let q : [] ≡ words = cc in subst AreWords q tt
strings_good (o ∷ os) words h e =
    let a = bound (string_in o) (λ text. line.strings_in os >>= λ words. Ok (line.packed text ++ words)) words e in
    let b = bound (line.strings_in os) (λ words. Ok (line.packed a.0 ++ words)) words a.2 in
    let q : line.packed a.0 ++ b.0 ≡ words = let last = b.2 in cc in
    subst AreWords q (both_words (line.packed a.0) b.0 (packed_words a.0 (string_good o a.0 h.0 a.1)) (strings_good os b.0 h.1 b.1))

-- ---- what a line does

-- what holds of what a line does: its names are names, its operands as many as there may be, its words words
abbrev pub IsGoodAct : AssemblyAct → Type 0
IsGoodAct line.Nothing = Unit {0}
IsGoodAct (line.Enter section) = IsSection section
IsGoodAct (line.Reserve section name room) = IsSection section × IsSymbol name
IsGoodAct (line.Equate name value) = IsSymbol name
IsGoodAct (line.Put target operands) = IsCount target (length operands)
IsGoodAct (line.Load words) = AreWords words
IsGoodAct (line.Space bits) = Unit {0}
IsGoodAct (line.Declare names) = AllByRecursion IsSymbol names
IsGoodAct (line.Export names) = Unit {0}
IsGoodAct (line.Label name) = IsSymbol name
IsGoodAct line.Registers = Unit {0}

given : (a act : AssemblyAct) → ◌≡◌ {A = Result AssemblyAct FaultKind} (Ok a) (Ok act) → IsGoodAct a → IsGoodAct act
given a act e h = let q : a ≡ act = cc in subst IsGoodAct q h

without_good : (a act : AssemblyAct) (os : List (List Piece)) → IsGoodAct a → without a os ≡ Ok act → IsGoodAct act
without_good a act [] h e = given a act e h
without_good a act (o ∷ os) h e = absurd (cc)

entering_good : (os : List (List Piece)) (act : AssemblyAct) → entering os ≡ Ok act → IsGoodAct act
entering_good [] act e = absurd (cc)
entering_good (o ∷ []) act e =
    let a = bound (section_in o) (λ section. Ok (line.Enter section)) act e in
    given (line.Enter a.0) act a.2 (section_good o a.0 a.1)
entering_good (o ∷ p ∷ os) act e = absurd (cc)

reserving_good : (os : List (List Piece)) (act : AssemblyAct) → AreGood os → reserving os ≡ Ok act → IsGoodAct act
reserving_good [] act h e = absurd (cc)
reserving_good (o ∷ []) act h e = absurd (cc)
reserving_good (o ∷ p ∷ []) act h e =
    let a = bound (name_in o) _ act e in
    let b = bound (later_in p) _ act a.2 in
    given (line.Reserve _ a.0 (line.alone b.0)) act b.2 (refl, name_good o a.0 h.0 a.1)
reserving_good (o ∷ p ∷ q ∷ []) act h e =
    let a = bound (name_in o) _ act e in
    let b = bound (later_in p) _ act a.2 in
    let c = bound (later_in q) _ act b.2 in
    given (line.Reserve _ a.0 (line.flagged b.0 c.0)) act c.2 (refl, name_good o a.0 h.0 a.1)
reserving_good (o ∷ p ∷ q ∷ r ∷ os) act h e = absurd (cc)

reserving_in_good : (label : List ℕ) (os : List (List Piece)) (act : AssemblyAct) → IsSymbol label → reserving_in label os ≡ Ok act → IsGoodAct act
reserving_in_good label [] act h e = absurd (cc)
reserving_in_good label (o ∷ []) act h e = absurd (cc)
reserving_in_good label (o ∷ p ∷ []) act h e =
    let a = bound (section_in o) _ act e in
    let b = bound (later_in p) _ act a.2 in
    given (line.Reserve a.0 label (line.alone b.0)) act b.2 (section_good o a.0 a.1, h)
reserving_in_good label (o ∷ p ∷ q ∷ os) act h e = absurd (cc)

expression_good : (f : Tree → AssemblyAct) (os : List (List Piece)) (act : AssemblyAct) → ((e : Tree) → IsGoodAct (f e)) → with_expression f os ≡ Ok act → IsGoodAct act
expression_good f [] act h e = absurd (cc)
expression_good f (o ∷ []) act h e = let a = bound _ (λ t. Ok (f t)) act e in given (f a.0) act a.2 (h a.0)
expression_good f (o ∷ p ∷ os) act h e = absurd (cc)

declaring_good : (os : List (List Piece)) (names : List (List ℕ)) → AreGood os → some_names os ≡ Ok names → AllByRecursion IsSymbol names
declaring_good [] names h e = absurd (cc)
declaring_good (o ∷ os) names h e = names_good (o ∷ os) names h e

loading_good : (os : List (List Piece)) (act : AssemblyAct) → AreGood os → loading os ≡ Ok act → IsGoodAct act
loading_good [] act h e = absurd (cc)
loading_good (o ∷ os) act h e = let a = bound (line.strings_in (o ∷ os)) (λ words. Ok (line.Load words)) act e in given (line.Load a.0) act a.2 (strings_good (o ∷ os) a.0 h a.1)

naming_good : (os : List (List Piece)) (act : AssemblyAct) → AreGood os → line.naming os ≡ Ok act → IsGoodAct act
naming_good [] act h e = absurd (cc)
naming_good (o ∷ []) act h e = let a = bound (name_in o) (λ name. Ok (line.Label name)) act e in given (line.Label a.0) act a.2 (name_good o a.0 h.0 a.1)
naming_good (o ∷ p ∷ os) act h e = absurd (cc)

act_good : (d : Directive) (label : List ℕ) (os : List (List Piece)) (act : AssemblyAct) → (names_label (Some d) ≡ true → IsSymbol label) → AreGood os → act_of d label os ≡ Ok act → IsGoodAct act
unfolding act_of
act_good directive.Text label os act l h e = without_good _ act os refl e
act_good directive.Data label os act l h e = without_good _ act os refl e
act_good directive.Sect label os act l h e = entering_good os act e
act_good directive.Bss label os act l h e = reserving_good os act h e
act_good directive.Usect label os act l h e = reserving_in_good label os act (l refl) e
act_good directive.Word label os act l h e = let a = bound (expressions_in os) (λ es. Ok (line.Put (target.Data width.Word) es)) act e in given (line.Put (target.Data width.Word) a.0) act a.2 tt
act_good directive.Byte label os act l h e = let a = bound (expressions_in os) (λ es. Ok (line.Put (target.Data width.Byte) es)) act e in given (line.Put (target.Data width.Byte) a.0) act a.2 tt
act_good directive.Characters label os act l h e = loading_good os act h e
act_good directive.Space label os act l h e = expression_good line.Space os act (λ _. tt) e
act_good directive.Set label os act l h e = expression_good (line.Equate label) os act (λ _. l refl) e
act_good directive.Global label os act l h e = let a = bound (some_names os) (λ names. Ok (line.Declare names)) act e in given (line.Declare a.0) act a.2 (declaring_good os a.0 h a.1)
act_good directive.Def label os act l h e = let a = bound (some_names os) (λ names. Ok (line.Export names)) act e in given (line.Export a.0) act a.2 tt
act_good directive.Label label os act l h e = naming_good os act h e
act_good directive.Registers label os act l h e = without_good _ act os tt e
act_good directive.Ignored label os act l h e = given line.Nothing act e tt

instruction_good : (word : Option Part) (os : List (List Piece)) (act : AssemblyAct) → act_without word os ≡ Ok act → IsGoodAct act
instruction_good None os act e = given line.Nothing act e tt
instruction_good (Some word) os act e =
    let a = bound (spelled word.text) _ act e in
    let b = bound (operation_of a.0 os) (λ o. Ok (line.Put (target.Instruction o.form) o.trees)) act a.2 in
    given (line.Put (target.Instruction b.0.form) b.0.trees) act b.2 (operation_counted a.0 os b.0 b.1)

-- ---- labels

label_good : (text : List ℕ) (label : Option (List ℕ)) → label_of text ≡ Ok label → IfSome label IsSymbol
label_good [] label e = let q : None ≡ label = cc in subst (λ (o : Option (List ℕ)). IfSome o IsSymbol) q tt
label_good (b ∷ rest) label e =
    let a = permitted (is_label (b ∷ rest)) (Some (without_colon (b ∷ rest))) _ label e in
    let p = and_parts _ _ a.0 in
    let q = and_parts _ _ p.0 in
    subst (λ (o : Option (List ℕ)). IfSome o IsSymbol) a.1 (symbol_name (without_colon (b ∷ rest)) q.0 q.1 p.1)

label_there : (b : ℕ) (rest : List ℕ) (label : Option (List ℕ)) → label_of (b ∷ rest) ≡ Ok label → IsSymbol (unwrap_or label [])
label_there b rest label e =
    let a = permitted (is_label (b ∷ rest)) (Some (without_colon (b ∷ rest))) _ label e in
    let p = and_parts _ _ a.0 in
    let q = and_parts _ _ p.0 in
    subst (λ (o : Option (List ℕ)). IsSymbol (unwrap_or o [])) a.1 (symbol_name (without_colon (b ∷ rest)) q.0 q.1 p.1)

-- a text that begins with neither a blank nor a comment has a label
label_begins : (b : ℕ) (bs : List ℕ) (label : Option (List ℕ)) → is_comment_line (b ∷ bs) ≡ false → is_blank b ≡ false → label_in (b ∷ bs) ≡ Ok label → IsSymbol (unwrap_or label [])
label_begins b bs label plain word e =
    let field : is_field b ≡ true = not_from_false (is_blank b || eqb b 59) (rw word (or_parts (eqb b 42) (eqb b 59) plain).1) in
    let n : 0 + (1 + prefix_len is_field bs) ≡ suc (prefix_len is_field bs) = omega arith in
    let h : label_of (b ∷ take (prefix_len is_field bs) bs) ≡ Ok label = rw (field, n) at e in
    label_there b (take (prefix_len is_field bs) bs) label h

-- ---- whole lines

-- the parts of a line
record ArePartsGood (text : List ℕ) (p : Parts) : Type 0 where
  pieces : AllByRecursion Good p.pieces
  label : IfSome p.label IsSymbol
  there : is_comment_line text ≡ false → is_blank (slice_index text 0) ≡ false → (text ≡ [] → ⊥) → IsSymbol (unwrap_or p.label [])

statement_good : (text : List ℕ) (p : Parts) → is_comment_line text ≡ false → statement_of text ≡ Ok p → ArePartsGood text p
unfolding statement_of
statement_good text p plain e =
    let a = bound (label_in text) _ p e in
    let b = bound (word_in text) _ p a.2 in
    let made : ℕ → Parts = λ stop. record { label = a.0; word = b.0; pieces = (scan_from (parts.word_end text) text).pieces; comment = parts.part_from stop (drop stop text) } in
    let c = bound (parts.stop_of (scan_from (parts.word_end text) text)) (λ stop. Ok (made stop)) p b.2 in
    let q : made c.0 ≡ p = let last = c.2 in cc in
    subst (λ (x : Parts). ArePartsGood text x) q (record {
      pieces = scan_good 0 (parts.word_end text) (drop (parts.word_end text) text);
      label = label_good (take (parts.label_end text) text) a.0 a.1;
      there = there text a.0 a.1;
    })
  where
    there : (text : List ℕ) (label : Option (List ℕ)) → label_in text ≡ Ok label → is_comment_line text ≡ false → is_blank (slice_index text 0) ≡ false → (text ≡ [] → ⊥) → IsSymbol (unwrap_or label [])
    there [] label e plain word some = absurd (some refl)
    there (b ∷ bs) label e plain word some = label_begins b bs label plain word e

parts_good : (text : List ℕ) (p : Parts) → line_of text ≡ Ok p → ArePartsGood text p
parts_good text p e = on (is_comment_line text) refl e
  where
    on : (b : Bool) → is_comment_line text ≡ b → cond b (Ok (parts.comment_line text)) (statement_of text) ≡ Ok p → ArePartsGood text p
    on true is e =
        let q : parts.comment_line text ≡ p = cc in
        subst (λ (x : Parts). ArePartsGood text x) q (record { pieces = tt; label = tt; there = λ plain _ _. absurd (true≢false (sym is ∙ plain)) })
    on false is e = statement_good text p is e

untold : (r : Result Parts LineFault) (p : Parts) → told line_fault r ≡ Ok p → r ≡ Ok p
untold (Ok x) p e = let q : x ≡ p = cc in ap Ok q
untold (Err f) p e = absurd (cc)

-- what a line says
pub record IsGood (s : Statement) : Type 0 where
  pub label : IfSome s.label IsSymbol
  pub act : IsGoodAct s.act

act_by_good : (d : Option Directive) (text : List ℕ) (p : Parts) (act : AssemblyAct) → ArePartsGood text p → (names_label d ≡ true → IsSymbol (unwrap_or p.label [])) → act_by d p ≡ Ok act → IsGoodAct act
act_by_good None text p act h l e = instruction_good p.word (operands_of p.pieces) act e
act_by_good (Some d) text p act h l e = act_good d (unwrap_or p.label []) (operands_of p.pieces) act l (operands_good p.pieces h.pieces) e

label_for_good : (d : Option Directive) (label : Option (List ℕ)) → IfSome label IsSymbol → IfSome (label_for d label) IsSymbol
label_for_good d label h = cond_both (names_label d) None label (λ o. IfSome o IsSymbol) (λ _. tt) (λ _. h)

by_good : (d : Option Directive) (text : List ℕ) (s : Statement) → (names_label d ≡ true → (is_comment_line text ≡ false) × (text ≡ [] → ⊥)) → statement_by d text ≡ Ok s → IsGood s
unfolding statement_by
by_good d text s some e =
    let a = bound (parts_for d text) _ s e in
    let b = bound (act_by d a.0) _ s a.2 in
    let q : record { label = label_for d a.0.label; act = b.0 } ≡ s = let last = b.2 in cc in
    let p = split (names_label d) (is_blank (slice_index text 0)) (parts_in text) a.0 a.1 in
    let h = parts_good text a.0 (untold (line_of text) a.0 p.1) in
    subst IsGood q (record {
      label = label_for_good d a.0.label h.label;
      act = act_by_good d text a.0 b.0 h (λ names. h.there (some names).0 (p.0 names) (some names).1) b.1;
    })
  where
    split : (n w : Bool) (r : Result Parts FaultKind) (p : Parts) → cond (n && w) (Err refused.BadLabel) r ≡ Ok p → (n ≡ true → w ≡ false) × (r ≡ Ok p)
    split true true r p e = absurd (cc)
    split true false r p e = (λ _. refl, e)
    split false w r p e = (λ n. absurd (false≢true n), e)

-- a directive stands on no comment line
word_there : (text : List ℕ) → names_label (directive_in (first_word text)) ≡ true → (is_comment_line text ≡ false) × (text ≡ [] → ⊥)
word_there [] h = absurd (cc)
word_there (b ∷ bs) h = (on (is_comment_line (b ∷ bs)) refl h, λ e. absurd (cc))
  where
    on : (c : Bool) → is_comment_line (b ∷ bs) ≡ c → names_label (directive_in (cond c None (parts.some_text (take_while is_field (drop (parts.past_blanks (parts.past_field 0 (b ∷ bs)) (b ∷ bs)) (b ∷ bs)))))) ≡ true → is_comment_line (b ∷ bs) ≡ false
    on true is h = absurd (cc)
    on false is h = is

-- each statement that is read is good
pub read_good : (text : List ℕ) (s : Statement) → read_statement text ≡ Ok s → IsGood s
read_good text s e = by_good (directive_in (first_word text)) text s (word_there text) e
