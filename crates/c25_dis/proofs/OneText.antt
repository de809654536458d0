-- A module has one text, and so have words: an instruction is read in one way.
use Rattle.std.proofs.Common.{◌≡◌, ℕ, zero, suc, ◌+◌, Bool, true, false, List, [], ◌∷◌, ◌++◌, length, Option, Some, None, option_to_list, refl, sym, ap, subst, ◌∙◌, codes, arith}
use Rattle.std.specs.FinMap as map
use Rattle.std.specs.List.{slice_get}
use Rattle.std.specs.Option.{unwrap_or}
use Rattle.std.specs.Ordering.{nat_cmp}
use Rattle.std.specs.Prelude.{IfSome}
use Rattle.c25_meaning_instructions.specs.Table.{Reads, opcode_word, second_word, words}
use Rattle.c25_meaning_instructions.specs.declared.insn.Insn.{Insn}
use Rattle.c25_meaning_instructions.proofs.Readings.{one_reading}
use Rattle.c25_meaning_objects.specs.Module.{Contents, SectionData, words_at}
use Rattle.c25_meaning_objects.specs.declared.object.ModuleMark.{ModuleMark}
use Rattle.c25_dis.specs.Lines.{IsCode, ReadAs, line_text}
use Rattle.c25_dis.specs.Sections.{AreTexts, IsLineAt, IsModuleText, IsPlace, IsReadBy, IsSectionAt, IsSectionBy, IsWordAt, heading, is_second, labels_at, mark_at, notes_by, second_at}
use Rattle.c25_dis.specs.Words.{AreWords, IsAddressText, IsTaken, IsWordLine, IsWordsText, gap_text, is_before, word_at}

-- ---- one reading

same_first : (a b : ℕ) (xs ys : List ℕ) → a ∷ xs ≡ b ∷ ys → a ≡ b
same_first a b xs ys h = ap (λ (zs : List ℕ). unwrap_or (slice_get zs 0) 0) h

same_rest : (a b : ℕ) (xs ys : List ℕ) → a ∷ xs ≡ b ∷ ys → xs ≡ ys
same_rest a b xs ys h = ap rest h
  where
    rest : List ℕ → List ℕ
    rest [] = []
    rest (z ∷ zs) = zs

second_read : (o : Option ℕ) (other : ℕ) (second : Option ℕ) → IfSome second (λ s. s ≡ other) → option_to_list o ≡ option_to_list second → IfSome o (λ w. w ≡ other)
second_read None other second is h = tt
second_read (Some w) other None is h = absurd (some_none w h)
  where
    some_none : (w : ℕ) → w ∷ [] ≡ [] → ⊥
    some_none w h = let e : 1 ≡ 0 = ap length h in omega (arith, e)
second_read (Some w) other (Some s) is h = same_first w s [] [] h ∙ is

-- the words of an instruction read as it
reads : (first other : ℕ) (second : Option ℕ) (i : Insn) → IfSome second (λ s. s ≡ other) → IsCode first second i → Reads first other i
reads first other second i is code = record {
  in_range = code.in_range;
  first_is = same_first (opcode_word i) first (option_to_list (second_word i)) (option_to_list second) code.words_are;
  second_is = second_read (second_word i) other second is (same_rest (opcode_word i) first (option_to_list (second_word i)) (option_to_list second) code.words_are);
}

itself : (second : Option ℕ) → IfSome second (λ s. s ≡ unwrap_or second 0)
itself None = tt
itself (Some s) = refl

one_code : (first : ℕ) (second : Option ℕ) (i j : Insn) → IsCode first second i → IsCode first second j → i ≡ j
one_code first second i j p q = one_reading first (unwrap_or second 0) i j (reads first (unwrap_or second 0) second i (itself second) p) (reads first (unwrap_or second 0) second j (itself second) q)

one_read : (first : ℕ) (second : Option ℕ) (a b : Option Insn) → ReadAs first second a → ReadAs first second b → a ≡ b
one_read first second (Some i) (Some j) p q = ap Some (one_code first second i j p q)
one_read first second (Some i) None p q = absurd (q i p)
one_read first second None (Some j) p q = absurd (p j q)
one_read first second None None p q = refl

-- ---- one text of a module

one_by : (mark : Option ModuleMark) (first : ℕ) (second : Option ℕ) (a b : Option Insn) → IsReadBy mark first second a → IsReadBy mark first second b → a ≡ b
one_by None first second a b p q = p ∙ sym q
one_by (Some mark) first second a b p q = one_read first second a b p q

one_line : (m : Contents) (section place first : ℕ) (t u : List ℕ) → IsLineAt m section place first t → IsLineAt m section place first u → t ≡ u
one_line m section place first t u p q =
    let second = second_at m section place in
    p.text_is
    ∙ ap (λ (o : Option Insn). line_text place first second o ++ notes_by second m section place ++ codes "\n") (one_by (mark_at m section place) first second p.insn q.insn p.read q.read)
    ∙ sym q.text_is

one_word : (m : Contents) (section place : ℕ) (o : Option ℕ) (b : Bool) (t u : List ℕ) → IsWordAt m section place o b t → IsWordAt m section place o b u → t ≡ u
one_word m section place None b t u p q = p ∙ sym q
one_word m section place (Some first) true t u p q = p ∙ sym q
one_word m section place (Some first) false t u p q = one_line m section place first t u p q

one_place : (m : Contents) (section place : ℕ) (t u : List ℕ) → IsPlace m section place t → IsPlace m section place u → t ≡ u
one_place m section place t u p q =
    p.text_is
    ∙ ap (λ (l : List ℕ). labels_at m section place ++ l) (one_word m section place (slice_get (words_at m.sections section) place) (is_second m section place) p.line q.line p.word q.word)
    ∙ sym q.text_is

each_one : (Is : ℕ → List ℕ → Type 0) → ((k : ℕ) (t u : List ℕ) → Is k t → Is k u → t ≡ u) → (n : ℕ) (t u : List ℕ) → AreTexts Is n t → AreTexts Is n u → t ≡ u
each_one Is one zero t u p q = p ∙ sym q
each_one Is one (suc n) t u p q =
    p.4 ∙ ap (λ (s : List ℕ). s ++ p.1) (each_one Is one n p.0 q.0 p.2 q.2) ∙ ap (λ (s : List ℕ). q.0 ++ s) (one n p.1 q.1 p.3 q.3) ∙ sym q.4

one_section : (m : Contents) (section : ℕ) (o : Option SectionData) (t u : List ℕ) → IsSectionBy m section o t → IsSectionBy m section o u → t ≡ u
one_section m section None t u p q = p ∙ sym q
one_section m section (Some s) t u p q =
    p.text_is ∙ ap (λ (l : List ℕ). heading s ++ l) (each_one (IsPlace m section) (one_place m section) _ p.places q.places p.each q.each) ∙ sym q.text_is

pub one_module_text : (m : Contents) (t u : List ℕ) → IsModuleText m t → IsModuleText m u → t ≡ u
one_module_text m t u p q = each_one (IsSectionAt m) (λ k. one_section m k (slice_get m.sections k)) (length m.sections) t u p q

-- ---- one text of words

-- the words of an instruction of two words begin with no instruction of one
one_size : (word second : ℕ) (i j : Insn) → IsCode word None i → IsCode word (Some second) j → ⊥
one_size word second i j p q =
    let same : i ≡ j = one_reading word second i j (reads word second None i tt p) (reads word second (Some second) j refl q) in
    let long : word ∷ [] ≡ word ∷ second ∷ [] = sym p.words_are ∙ ap words same ∙ q.words_are in
    let e : 1 ≡ 2 = ap length long in
    omega (arith, e)

one_taken : (word : ℕ) (next : Option ℕ) (a b : Option ℕ) (i j : Option Insn) → IsTaken word next a i → IsTaken word next b j → (a ≡ b) × (i ≡ j)
one_taken word next None None (Some i) (Some j) p q = (refl, ap Some (one_code word None i j p q))
one_taken word next None None (Some i) None p q = absurd ((q i).0 p)
one_taken word next None None None (Some j) p q = absurd ((p j).0 q)
one_taken word next None None None None p q = (refl, refl)
one_taken word next None (Some s) (Some i) (Some j) p q = absurd (one_size word s i j p q.1)
one_taken word next None (Some s) None (Some j) p q = absurd ((p j).1 s q.0 q.1)
one_taken word next None (Some s) i None p q = absurd q
one_taken word next (Some s) None (Some i) (Some j) p q = absurd (one_size word s j i q p.1)
one_taken word next (Some s) None (Some i) None p q = absurd ((q i).1 s p.0 p.1)
one_taken word next (Some s) b None j p q = absurd p
one_taken word next (Some s) (Some r) (Some i) None p q = absurd q
one_taken word next (Some s) (Some r) (Some i) (Some j) p q =
    let same : Some s ≡ Some r = sym p.0 ∙ q.0 in
    (same, ap Some (one_code word (Some r) i j (subst (λ (o : Option ℕ). IsCode word o i) same p.1) q.1))

one_word_line : (next : Option ℕ) (address word : ℕ) (was end last : Option ℕ) (t u : List ℕ) → IsWordLine next address word was end t → IsWordLine next address word was last u → (end ≡ last) × (t ≡ u)
one_word_line next address word was end last t u p q =
    let same = one_taken word next p.second q.second p.insn q.insn p.taken q.taken in (
      p.end_is ∙ ap (λ (o : Option ℕ). Some (address + length (word ∷ option_to_list o))) same.0 ∙ sym q.end_is,
      p.text_is ∙ ap (λ (o : Option ℕ). gap_text was address ++ line_text address word o p.insn ++ codes "\n") same.0
          ∙ ap (λ (o : Option Insn). gap_text was address ++ line_text address word q.second o ++ codes "\n") same.1 ∙ sym q.text_is,
    )

one_address_text : (here next : Option ℕ) (b : Bool) (address : ℕ) (was end last : Option ℕ) (t u : List ℕ) → IsAddressText here next b address was end t → IsAddressText here next b address was last u → (end ≡ last) × (t ≡ u)
one_address_text None next b address was end last t u p q = (p.0 ∙ sym q.0, p.1 ∙ sym q.1)
one_address_text (Some word) next true address was end last t u p q = (p.0 ∙ sym q.0, p.1 ∙ sym q.1)
one_address_text (Some word) next false address was end last t u p q = one_word_line next address word was end last t u p q

one_run : (words : map.FinMap nat_cmp ℕ) (from n : ℕ) (end last : Option ℕ) (t u : List ℕ) → AreWords words from n end t → AreWords words from n last u → (end ≡ last) × (t ≡ u)
one_run words from zero end last t u p q = (p.0 ∙ sym q.0, p.1 ∙ sym q.1)
one_run words from (suc n) end last t u p q =
    let before = one_run words from n p.0 q.0 p.1 q.1 p.3 q.3 in
    let address : ℕ = from + n in
    let here : IsAddressText (word_at words address) (word_at words (address + 1)) (is_before address q.0) address q.0 end p.2 =
    subst (λ (o : Option ℕ). IsAddressText (word_at words address) (word_at words (address + 1)) (is_before address o) address o end p.2) before.0 p.4 in
    let same = one_address_text (word_at words address) (word_at words (address + 1)) (is_before address q.0) address q.0 end last p.2 q.2 here q.4 in
    (same.0, p.5 ∙ ap (λ (s : List ℕ). s ++ p.2) before.1 ∙ ap (λ (s : List ℕ). q.1 ++ s) same.1 ∙ sym q.5)

pub one_words_text : (words : map.FinMap nat_cmp ℕ) (from : ℕ) (t u : List ℕ) → IsWordsText words from t → IsWordsText words from u → t ≡ u
one_words_text words from t u p q = (one_run words from _ p.0 q.0 t u p.1 q.1).1
