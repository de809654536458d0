-- The parts of a line are those of the relation, and so is its fault.
use Rattle.std.proofs.Common.{◌≡◌, ℕ, Bool, true, false, List, drop, Option, Some, None, Result, Ok, Err, MatchBool, cond, refl, sym, ap, ◌∙◌, subst, inl, inr}
use Rattle.std.specs.Prelude.{◌⊎◌, ◌↔◌}
use Rattle.c25_meaning_language.specs.Line.{Part, Parts, Piece, Scan, scan_from, part_from, is_comment_line, comment_line, label_in, word_in, word_end, statement_by, statement_of, line_of, FailsAt, Operands, IsStatement, IsLine, FailsBehind, HasFault}
use Rattle.c25_meaning_language.specs.declared.line.LineFault.{LineFault}
use Rattle.c25_text.proofs.Shown.{operands_shown}
use Rattle.c25_text.proofs.Unique.{scan_ends, scan_fails}

abbrev Label : Type 0
Label = Option (List ℕ)

abbrev Word : Type 0
Word = Option Part

abbrev value_or : {T : Type 0} → T → Result T LineFault → T
value_or d (Ok z) = z
value_or d (Err f) = d

abbrev fault_or : {T : Type 0} → LineFault → Result T LineFault → LineFault
fault_or d (Ok z) = d
fault_or d (Err f) = f

ok_same : {T : Type 0} (x y : T) → (let r : Result T LineFault = Ok x in r) ≡ Ok y → x ≡ y
ok_same x y h = ap (value_or x) h

err_same : {T : Type 0} (f g : LineFault) → (let r : Result T LineFault = Err f in r) ≡ Err g → f ≡ g
err_same f g h = ap (fault_or f) h

apart : {T : Type 0} (x : T) (f : LineFault) → (let r : Result T LineFault = Ok x in r) ≡ Err f → ⊥
apart x f h = cc

-- the scan of the operands of a line
abbrev operands : List ℕ → Scan
operands text = scan_from (word_end text) text

shown : (text : List ℕ) → Operands text (word_end text) (operands text) (operands text).fault
shown text = operands_shown text (word_end text)

-- ---- parts

parts_back : (text : List ℕ) (p : Parts) (stop : ℕ) → IsStatement text p stop → statement_by (label_in text) (word_in text) (operands text) text ≡ Ok p
parts_back text p stop h =
    ap (λ l. statement_by l (word_in text) (operands text) text) h.label
    ∙ ap (λ w. statement_by (Ok p.label) w (operands text) text) h.word
    ∙ ap (λ s. statement_by (Ok p.label) (Ok p.word) s text) (scan_ends text (word_end text) stop p.pieces h.tokens h.ends)
    ∙ ap (λ c. let r : Result Parts LineFault = Ok (record { label = p.label; word = p.word; pieces = p.pieces; comment = c }) in r) (sym h.comment)

parts_by : (text : List ℕ) (p : Parts) (l : Result Label LineFault) (w : Result Word LineFault) (f : Option LineFault) (ps : List Piece) (stop : ℕ)
    → label_in text ≡ l → word_in text ≡ w → Operands text (word_end text) (record { pieces = ps; fault = f; stop = stop }) f
    → statement_by l w (record { pieces = ps; fault = f; stop = stop }) text ≡ Ok p → (at : ℕ) × IsStatement text p at
parts_by text p (Err e) w f ps stop hl hw o h = absurd (apart p e (sym h))
parts_by text p (Ok a) (Err e) f ps stop hl hw o h = absurd (apart p e (sym h))
parts_by text p (Ok a) (Ok b) (Some e) ps stop hl hw o h = absurd (apart p e (sym h))
parts_by text p (Ok a) (Ok b) None ps stop hl hw o h =
    let q : Parts = record { label = a; word = b; pieces = ps; comment = part_from stop (drop stop text) } in
    let same : q ≡ p = ok_same q p h in
    (stop, subst (λ (x : Parts). IsStatement text x stop) same (record { label = hl; word = hw; tokens = o.0; ends = o.1; comment = refl }))

-- ---- faults

fault_by : (text : List ℕ) (e : LineFault) (l : Result Label LineFault) (w : Result Word LineFault) (f : Option LineFault) (ps : List Piece) (stop : ℕ)
    → label_in text ≡ l → word_in text ≡ w → Operands text (word_end text) (record { pieces = ps; fault = f; stop = stop }) f
    → statement_by l w (record { pieces = ps; fault = f; stop = stop }) text ≡ Err e
    → (label_in text ≡ Err e) ⊎ (((label : Label) × (label_in text ≡ Ok label) × (word_in text ≡ Err e)) ⊎ FailsBehind text e)
fault_by text e (Err g) w f ps stop hl hw o h = inl (hl ∙ ap (λ (x : LineFault). Err x) (err_same g e h))
fault_by text e (Ok a) (Err g) f ps stop hl hw o h = inr (inl (a, hl, hw ∙ ap (λ (x : LineFault). Err x) (err_same g e h)))
fault_by text e (Ok a) (Ok b) (Some g) ps stop hl hw o h =
    inr (inr (record { label = a; word = b; pieces = ps; place = stop; label_is = hl; word_is = hw; tokens = o.0; fails = subst (FailsAt text stop) (err_same g e h) o.1 }))
fault_by text e (Ok a) (Ok b) None ps stop hl hw o h =
    absurd (apart _ e h)

fault_back : (text : List ℕ) (e : LineFault) → (label_in text ≡ Err e) ⊎ (((label : Label) × (label_in text ≡ Ok label) × (word_in text ≡ Err e)) ⊎ FailsBehind text e)
    → statement_by (label_in text) (word_in text) (operands text) text ≡ Err e
fault_back text e (inl h) = ap (λ l. statement_by l (word_in text) (operands text) text) h
fault_back text e (inr (inl h)) =
    ap (λ l. statement_by l (word_in text) (operands text) text) h.1 ∙ ap (λ w. statement_by (Ok h.0) w (operands text) text) h.2
fault_back text e (inr (inr h)) =
    ap (λ l. statement_by l (word_in text) (operands text) text) h.label_is
    ∙ ap (λ w. statement_by (Ok h.label) w (operands text) text) h.word_is
    ∙ ap (λ s. statement_by (Ok h.label) (Ok h.word) s text) (scan_fails text (word_end text) h.place h.pieces e h.tokens h.fails)

-- ---- lines

abbrev line_by : Bool → List ℕ → Result Parts LineFault
line_by b text = cond b (Ok (comment_line text)) (statement_of text)

parts_to : (b : Bool) (text : List ℕ) (p : Parts) → line_by b text ≡ Ok p → MatchBool b (p ≡ comment_line text) ((stop : ℕ) × IsStatement text p stop)
unfolding statement_of
parts_to true text p h = sym (ok_same (comment_line text) p h)
parts_to false text p h = parts_by text p (label_in text) (word_in text) (operands text).fault (operands text).pieces (operands text).stop refl refl (shown text) h

parts_from : (b : Bool) (text : List ℕ) (p : Parts) → MatchBool b (p ≡ comment_line text) ((stop : ℕ) × IsStatement text p stop) → line_by b text ≡ Ok p
unfolding statement_of
parts_from true text p h = ap (λ (q : Parts). Ok q) (sym h)
parts_from false text p h = parts_back text p h.0 h.1

fault_to : (b : Bool) (text : List ℕ) (e : LineFault) → line_by b text ≡ Err e
    → MatchBool b ⊥ ((label_in text ≡ Err e) ⊎ (((label : Label) × (label_in text ≡ Ok label) × (word_in text ≡ Err e)) ⊎ FailsBehind text e))
unfolding statement_of
fault_to true text e h = apart (comment_line text) e h
fault_to false text e h = fault_by text e (label_in text) (word_in text) (operands text).fault (operands text).pieces (operands text).stop refl refl (shown text) h

fault_from : (b : Bool) (text : List ℕ) (e : LineFault)
    → MatchBool b ⊥ ((label_in text ≡ Err e) ⊎ (((label : Label) × (label_in text ≡ Ok label) × (word_in text ≡ Err e)) ⊎ FailsBehind text e)) → line_by b text ≡ Err e
unfolding statement_of
fault_from true text e h = absurd h
fault_from false text e h = fault_back text e h

-- a line has the parts that it is split into, and no others
pub parts_are : (text : List ℕ) (p : Parts) → IsLine text p ↔ (line_of text ≡ Ok p)
parts_are text p = (parts_from (is_comment_line text) text p, parts_to (is_comment_line text) text p)

-- a line has the fault that it is refused for, and no other
pub fault_is : (text : List ℕ) (e : LineFault) → HasFault text e ↔ (line_of text ≡ Err e)
fault_is text e = (fault_from (is_comment_line text) text e, fault_to (is_comment_line text) text e)
