-- Marks passed one by one: what the lines of those that are left finish.
use Rattle.std.proofs.Common.{◌≡◌, ℕ, suc, ◌+◌, ◌<◌, Bool, true, false, cond, nat_le, List, [], ◌∷◌, ◌++◌, length, filter, take, drop, get_or, refl, sym, ap, ◌∙◌, subst, append_assoc, arith}
use Rattle.std.proofs.lemmas.List.{append-nil}
use Rattle.std.proofs.Math.Seq.{drop-cons, take-nil}
use Rattle.std.specs.Ordering.{nat_cmp}
use Rattle.std.specs.FinMap as map
use Rattle.c25_meaning_image.specs.declared.mark.Mark.{Mark}
use Rattle.c25_meaning_debugger.specs.Texts.{AreLinesOf, IsLineOf, SourceLine, marks_from}

-- after what was there before, a text is the lines of the marks asked for, once the lines of the marks that
-- are left come after the line of the first
abbrev pub Finishes : map.FinMap nat_cmp ℕ → (ℕ → SourceLine) → List Mark → ℕ → ℕ → List ℕ → List Mark → ℕ → List ℕ → Type 0
Finishes words sources marks address count before more left text =
    (rest : List ℕ) → AreLinesOf words sources (marks_from more address left) rest → (lines : List ℕ) × AreLinesOf words sources (marks_from marks address count) lines × (text ++ rest ≡ before ++ lines)

-- after what was there before, a text is the lines of the marks asked for
abbrev pub AreListed : map.FinMap nat_cmp ℕ → (ℕ → SourceLine) → List Mark → ℕ → ℕ → List ℕ → List ℕ → Type 0
AreListed words sources marks address count before text =
    (lines : List ℕ) × AreLinesOf words sources (marks_from marks address count) lines × (text ≡ before ++ lines)

module _ (words : map.FinMap nat_cmp ℕ) (sources : ℕ → SourceLine) (marks : List Mark) (address count : ℕ) (before : List ℕ) where
  from_mark : (m : Mark) (more : List Mark) (left : ℕ) (text line next : List ℕ) → nat_le address m.address ≡ true → IsLineOf words sources m line → next ≡ text ++ line
      → Finishes words sources marks address count before (m ∷ more) (suc left) text → Finishes words sources marks address count before more left next
  from_mark m more left text line next there is e h = λ rest are.
      let test : Mark → Bool = λ n. nat_le address n.address in
      let shown : AreLinesOf words sources (take (suc left) (m ∷ filter test more)) (line ++ rest) = (line, rest, is, are, refl) in
      let r = h (line ++ rest) (subst (λ (b : Bool). AreLinesOf words sources (take (suc left) (cond b (m ∷ filter test more) (filter test more))) (line ++ rest)) (sym there) shown) in
      (r.0, r.1, ap (λ t. t ++ rest) e ∙ append_assoc text line rest ∙ r.2)

  past_mark : (m : Mark) (more : List Mark) (left : ℕ) (text : List ℕ) → nat_le address m.address ≡ false
      → Finishes words sources marks address count before (m ∷ more) left text → Finishes words sources marks address count before more left text
  past_mark m more left text away h = λ rest are.
      let test : Mark → Bool = λ n. nat_le address n.address in
      h rest (subst (λ (b : Bool). AreLinesOf words sources (take left (cond b (m ∷ filter test more) (filter test more))) rest) (sym away) are)

  split_at : (i left : ℕ) (text : List ℕ) (d : Mark) → i < length marks → Finishes words sources marks address count before (drop i marks) left text
      → Finishes words sources marks address count before (get_or marks i d ∷ drop (i + 1) marks) left text
  split_at i left text d lt h =
      let k : suc i ≡ i + 1 = omega arith in
      subst (λ (ms : List Mark). Finishes words sources marks address count before ms left text) (drop-cons marks i d lt ∙ ap (λ j. get_or marks i d ∷ drop j marks) k) h

  -- a mark from the address up is shown
  pub one_shown : (i left fewer : ℕ) (text line next : List ℕ) (d : Mark) → i < length marks → left ≡ suc fewer → nat_le address (get_or marks i d).address ≡ true
      → IsLineOf words sources (get_or marks i d) line → next ≡ text ++ line
      → Finishes words sources marks address count before (drop i marks) left text → Finishes words sources marks address count before (drop (i + 1) marks) fewer next
  one_shown i left fewer text line next d lt counted there is e h =
      from_mark (get_or marks i d) (drop (i + 1) marks) fewer text line next there is e
      (subst (λ (n : ℕ). Finishes words sources marks address count before (get_or marks i d ∷ drop (i + 1) marks) n text) counted (split_at i left text d lt h))

  -- a mark below the address is not shown
  pub one_passed : (i left same : ℕ) (text next : List ℕ) (d : Mark) → i < length marks → left ≡ same → nat_le address (get_or marks i d).address ≡ false → text ≡ next
      → Finishes words sources marks address count before (drop i marks) left text → Finishes words sources marks address count before (drop (i + 1) marks) same next
  one_passed i left same text next d lt counted away e h =
      let passed = past_mark (get_or marks i d) (drop (i + 1) marks) left text away (split_at i left text d lt h) in
      subst (λ (t : List ℕ). Finishes words sources marks address count before (drop (i + 1) marks) same t) e
      (subst (λ (n : ℕ). Finishes words sources marks address count before (drop (i + 1) marks) n text) counted passed)

  nothing_left : (more : List Mark) (left : ℕ) (text : List ℕ) → marks_from more address left ≡ [] → Finishes words sources marks address count before more left text → AreListed words sources marks address count before text
  nothing_left more left text none h =
      let r = h [] (subst (λ (ms : List Mark). AreLinesOf words sources ms []) (sym none) refl) in
      (r.0, r.1, sym (append-nil text) ∙ r.2)

  -- as many are shown as were asked for
  pub all_counted : (more : List Mark) (left : ℕ) (text : List ℕ) → left ≡ 0 → Finishes words sources marks address count before more left text → AreListed words sources marks address count before text
  all_counted more left text zeroed h = nothing_left more left text (ap (λ n. marks_from more address n) zeroed) h

  -- all marks are passed
  pub all_passed : (more : List Mark) (left : ℕ) (text : List ℕ) → more ≡ [] → Finishes words sources marks address count before more left text → AreListed words sources marks address count before text
  all_passed more left text passed h = nothing_left more left text (ap (λ ms. marks_from ms address left) passed ∙ take-nil left) h
