-- A line that has a mnemonic field has a part with it.
use Rattle.std.proofs.Common.{◌≡◌, ℕ, ◌-◌, ◌<◌, ◌≤◌, Bool, true, false, cond, List, [], ◌∷◌, length, take, drop, Option, Some, None, Result, Ok, Err, MatchBool, inl, inr, refl, sym, ap, subst, ◌∙◌, arith}
use Rattle.std.specs.Prelude.{IsSome, ◌⊎◌}
use Rattle.std.specs.List.{list_all, prefix_len, take_while}
use Rattle.std.proofs.lemmas.Bool.{lt-ltb, le-ltb, cases_lt}
use Rattle.std.proofs.lemmas.List.{length-drop, length-take}
use Rattle.std.proofs.lemmas.List.Sums.{prefix_len-le-length}
use Rattle.c25_meaning_assembly.specs.AssemblyLine.{directive_in}
use Rattle.c25_meaning_assembly.specs.declared.assembly.Directive.{Directive}
use Rattle.c25_meaning_common.specs.Bytes.{is_blank, is_field, is_visible}
use Rattle.c25_meaning_language.specs.Line as line
use Rattle.c25_meaning_language.specs.Line.{IsStatement, Parts, comment_line, first_word, is_comment_line, line_of, past_blanks, past_field, some_text, word_end, word_in, word_of, word_start}
use Rattle.c25_meaning_language.specs.declared.line.LineFault.{LineFault}
use Rattle.c25_meaning_language.specs.declared.line.LineFault.TheVariants as fault
use Rattle.c25_text.proofs.Splits.{parts_are}
use Rattle.c25_places.specs.Refused.{IsWithin, word_part}
use Rattle.c25_places.specs.declared.part.Part.{Part}

word_some : (text : List ℕ) → word_start text < word_end text → IsSome (word_part text)
word_some text h = rw (lt-ltb (word_start text) (word_end text) h) refl

some_long : (t w : List ℕ) → some_text t ≡ Some w → 0 < length t
some_long [] w h = absurd (cc)
some_long (b ∷ t) w h = omega arith

first_some : (b : Bool) (text w : List ℕ) → cond b None (some_text (take_while is_field (drop (word_start text) text))) ≡ Some w → IsSome (word_part text)
first_some true text w h = absurd (cc)
first_some false text w h =
    let some : 0 < length (take_while is_field (drop (word_start text) text)) = some_long (take_while is_field (drop (word_start text) text)) w h in
    word_some text (omega (arith, some, length-take (prefix_len is_field (drop (word_start text) text)) (drop (word_start text) text)))

-- a line with a first word
pub first_word_some : (text w : List ℕ) → first_word text ≡ Some w → IsSome (word_part text)
first_word_some text w h = first_some (is_comment_line text) text w h

-- a line with a directive
pub directive_some : (text : List ℕ) (d : Directive) → directive_in (first_word text) ≡ Some d → IsSome (word_part text)
directive_some text d = by (first_word text) refl
  where
    by : (o : Option (List ℕ)) → first_word text ≡ o → directive_in o ≡ Some d → IsSome (word_part text)
    by None was h = absurd (cc)
    by (Some w) was h = first_word_some text w was

word_long : (at : ℕ) (field : List ℕ) (w : line.Part) → word_of at field ≡ Ok (Some w) → 0 < length field
word_long at [] w h = absurd (cc)
word_long at (b ∷ rest) w h = omega arith

statement_some : (b : Bool) (text : List ℕ) (p : Parts) (w : line.Part) → p.word ≡ Some w → MatchBool b (p ≡ comment_line text) ((stop : ℕ) × IsStatement text p stop) → IsSome (word_part text)
statement_some true text p w h is = absurd (let none : p.word ≡ None = ap (λ (q : Parts). q.word) is in cc)
statement_some false text p w h is =
    let some = word_long (word_start text) (take (word_end text - word_start text) (drop (word_start text) text)) w (is.1.word ∙ ap (λ (o : Option line.Part). let r : Result (Option line.Part) LineFault = Ok o in r) h) in
    word_some text (omega (arith, some, length-take (word_end text - word_start text) (drop (word_start text) text)))

-- a line whose parts have a word
pub parts_some : (text : List ℕ) (p : Parts) (w : line.Part) → line_of text ≡ Ok p → p.word ≡ Some w → IsSome (word_part text)
parts_some text p w h is = statement_some (is_comment_line text) text p w is ((parts_are text p).1 h)

-- ---- the mnemonic field is the first word

word_text : (at : ℕ) (field : List ℕ) (w : line.Part) (word : List ℕ) → word_of at field ≡ Ok (Some w) → some_text field ≡ Some word → w.text ≡ word
word_text at [] w word h e = absurd (cc)
word_text at (b ∷ rest) w word h e = by (list_all is_visible (b ∷ rest)) h
  where
    by : (v : Bool) → cond v (let r : Result (Option line.Part) LineFault = Ok (Some (record { start = at; text = b ∷ rest })) in r) (Err fault.StrayText) ≡ Ok (Some w) → w.text ≡ word
    by true h =
        let same : (let p : line.Part = record { start = at; text = b ∷ rest } in p) ≡ w = cc in
        let is : b ∷ rest ≡ word = cc in
        ap (λ (p : line.Part). p.text) (sym same) ∙ is
    by false h = absurd (cc)

field_is : (text : List ℕ) → take_while is_field (drop (word_start text) text) ≡ take (word_end text - word_start text) (drop (word_start text) text)
field_is text =
    let same : prefix_len is_field (drop (word_start text) text) ≡ word_end text - word_start text = omega arith in
    ap (λ (n : ℕ). take n (drop (word_start text) text)) same

same_by : (b : Bool) (text : List ℕ) (p : Parts) (w : line.Part) (word : List ℕ) → p.word ≡ Some w → cond b None (some_text (take_while is_field (drop (word_start text) text))) ≡ Some word
    → MatchBool b (p ≡ comment_line text) ((stop : ℕ) × IsStatement text p stop) → w.text ≡ word
same_by true text p w word h e is = absurd (cc)
same_by false text p w word h e is =
    word_text (word_start text) (take (word_end text - word_start text) (drop (word_start text) text)) w word
    (is.1.word ∙ ap (λ (o : Option line.Part). let r : Result (Option line.Part) LineFault = Ok o in r) h)
    (ap some_text (sym (field_is text)) ∙ e)

-- the mnemonic field of a line's parts is its first word
pub same_word : (text : List ℕ) (p : Parts) (w : line.Part) (word : List ℕ) → line_of text ≡ Ok p → p.word ≡ Some w → first_word text ≡ Some word → w.text ≡ word
same_word text p w word h is e = same_by (is_comment_line text) text p w word is e ((parts_are text p).1 h)

-- ---- the part lies within the line

pub field_end : (at : ℕ) (text : List ℕ) → at ≤ length text → past_field at text ≤ length text
field_end at text l = omega (arith, l, prefix_len-le-length is_field (drop at text), length-drop at text)

blank_end : (at : ℕ) (text : List ℕ) → at ≤ length text → past_blanks at text ≤ length text
blank_end at text l = omega (arith, l, prefix_len-le-length is_blank (drop at text), length-drop at text)

pub word_within : (text : List ℕ) (p : Part) → word_part text ≡ Some p → IsWithin text p
word_within text p = by (cases_lt (word_start text) (word_end text))
  where
    end : word_end text ≤ length text
    end = field_end (word_start text) text (blank_end (past_field 0 text) text (field_end 0 text (omega arith)))

    by : (word_start text < word_end text) ⊎ (word_end text ≤ word_start text) → word_part text ≡ Some p → IsWithin text p
    by (inl l) h =
        let is : Some (let q : Part = record { start = word_start text; end = word_end text } in q) ≡ Some p = sym (rw (lt-ltb (word_start text) (word_end text) l) refl) ∙ h in
        let same : (let q : Part = record { start = word_start text; end = word_end text } in q) ≡ p = cc in
        subst (IsWithin text) same (record { some = l; within = end })
    by (inr l) h =
        let none : word_part text ≡ None = rw (le-ltb (word_start text) (word_end text) l) refl in
        absurd (cc)
