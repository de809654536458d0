-- Texts that grow at their ends.
use Rattle.std.proofs.Common.{◌≡◌, ℕ, suc, ◌+◌, Bool, List, [], ◌++◌, Option, Some, None, Result, Ok, Err, OnOk, refl, sym, ap, subst, ◌∙◌, append_assoc, arith}
use Rattle.std.specs.List.{slice_get}
use Rattle.std.proofs.lemmas.List.{append-nil}
use Rattle.c25_meaning_objects.specs.Module.{Contents, SectionData, words_at}
use Rattle.std.specs.Ordering.{nat_cmp}
use Rattle.std.specs.FinMap as map
use Rattle.c25_dis.specs.Sections.{AreTexts, IsPlace, IsSection, IsSectionAt, IsSectionBy, IsWordAt, is_second, labels_at}
use Rattle.c25_dis.specs.Words.{AreWords, IsAddressText, is_before, word_at}

-- after what stood there before, a text is those of the first n numbers
abbrev pub HasTexts : (ℕ → List ℕ → Type 0) → ℕ → List ℕ → List ℕ → Type 0
HasTexts Is n before text = (own : List ℕ) × AreTexts Is n own × (text ≡ before ++ own)

-- one number more
pub one_more : (Is : ℕ → List ℕ → Type 0) (n : ℕ) (before text last next : List ℕ) → Is n last → next ≡ text ++ last → HasTexts Is n before text → HasTexts Is (n + 1) before next
one_more Is n before text last next is e h =
    let k : suc n ≡ n + 1 = omega arith in
    let texts : AreTexts Is (suc n) (h.0 ++ last) = (h.0, last, h.1, is, refl) in
    (h.0 ++ last, subst (λ (j : ℕ). AreTexts Is j (h.0 ++ last)) k texts, e ∙ ap (λ (t : List ℕ). t ++ last) h.2 ∙ append_assoc before h.0 last)

-- one number more, where a text is that of the first n numbers alone
pub texts_more : (Is : ℕ → List ℕ → Type 0) (n : ℕ) (text last next : List ℕ) → Is n last → next ≡ text ++ last → AreTexts Is n text → AreTexts Is (n + 1) next
texts_more Is n text last next is e h =
    let k : suc n ≡ n + 1 = omega arith in
    let texts : AreTexts Is (suc n) next = (text, last, h, is, e) in
    subst (λ (j : ℕ). AreTexts Is j next) k texts

-- the section of a number, as it is found
pub section_at : (m : Contents) (number : ℕ) (s : SectionData) (text : List ℕ) → slice_get m.sections number ≡ Some s → IsSection m number s text → IsSectionAt m number text
section_at m number s text found is = subst (λ (o : Option SectionData). IsSectionBy m number o text) (sym found) is

-- ---- what stands at a place

-- no word stands there
pub place_without : (m : Contents) (section place : ℕ) → slice_get (words_at m.sections section) place ≡ None → IsPlace m section place (labels_at m section place)
place_without m section place none = record {
  line = [];
  word = subst (λ (o : Option ℕ). IsWordAt m section place o (is_second m section place) []) (sym none) refl;
  text_is = sym (append-nil (labels_at m section place));
}

-- a word stands there, in the line before or in a line of its own
pub place_with : (m : Contents) (section place first : ℕ) (inside : Bool) (line : List ℕ) → slice_get (words_at m.sections section) place ≡ Some first → is_second m section place ≡ inside
    → IsWordAt m section place (Some first) inside line → IsPlace m section place (labels_at m section place ++ line)
place_with m section place first inside line some test word = record {
  line = line;
  word =
      subst (λ (o : Option ℕ). IsWordAt m section place o (is_second m section place) line) (sym some)
      (subst (λ (b : Bool). IsWordAt m section place (Some first) b line) (sym test) word);
  text_is = refl;
}

-- what follows of what a call that succeeds has done
pub ok_then : {A E P Q : Type 0} (r : Result A E) → OnOk r P → (P → Q) → OnOk r Q
ok_then (Ok a) p f = f p
ok_then (Err e) p f = tt

-- ---- joined texts

-- a text after two
pub two_behind : (t a b x y : List ℕ) → x ≡ t ++ a → y ≡ x ++ b → y ≡ t ++ (a ++ b)
two_behind t a b x y ex ey = rw (ey, ex) (append_assoc t a b)

-- a text after three
pub three_behind : (t a b c x y z : List ℕ) → x ≡ t ++ a → y ≡ x ++ b → z ≡ y ++ c → z ≡ t ++ (a ++ b ++ c)
three_behind t a b c x y z ex ey ez = rw (ez, ey, ex) (simp append_assoc)

-- ---- addresses

-- one address more
pub one_address : (words : map.FinMap nat_cmp ℕ) (from n : ℕ) (was end : Option ℕ) (text last next : List ℕ)
    → IsAddressText (word_at words (from + n)) (word_at words (from + n + 1)) (is_before (from + n) was) (from + n) was end last → next ≡ text ++ last
    → AreWords words from n was text → AreWords words from (n + 1) end next
one_address words from n was end text last next is e h =
    let k : suc n ≡ n + 1 = omega arith in
    let texts : AreWords words from (suc n) end next = (was, text, last, h, is, e) in
    subst (λ (j : ℕ). AreWords words from j end next) k texts
