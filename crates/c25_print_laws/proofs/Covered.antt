-- What is printed of words, line by line.
use Rattle.std.proofs.Common.{◌≡◌, ℕ, zero, suc, ◌+◌, ◌/◌, ◌%◌, ◌<◌, ◌≤◌, ◌^◌, ◌==◌, ◌⊎◌, inl, inr, min, Bool, Ok, true, false, nat_lt, List, [], ◌∷◌, ◌++◌, length, map, take, drop, Option, Some, None, codes, refl, sym, ap, subst, ◌∙◌, arith, append_assoc, append-nil}
use Rattle.std.specs.Prelude.{option_to_list}
use Rattle.std.specs.List.{All, flat_map, list_all, slice_get}
use Rattle.std.specs.FinMap as map
use Rattle.std.specs.Ordering.{nat_cmp}
use Rattle.std.specs.Str.Lines.{lines}
use Rattle.std.proofs.lemmas.Bool.Decides.{nat_tests}
use Rattle.std.proofs.Math.Seq.{take-length}
use Rattle.c25_meaning_common.specs.Digits.{hex_digit, four_digits}
use Rattle.c25_meaning_instructions.specs.declared.insn.Insn.{Insn}
use Rattle.c25_meaning_assembly.specs.Sections.{is_file_name}
use Rattle.c25_meaning_expansion.specs.Files.{Files, text_named}
use Rattle.c25_meaning_assembly.specs.ModuleOfSource.{Assembled, assembled}
use Rattle.c25_dis.specs.Lines.{code_text, line_text}
use Rattle.c25_dis.specs.Words.{AreWords, IsAddressText, IsTaken, IsWordLine, IsWordsText, gap_text, is_before, word_at}
use Rattle.c25_print_laws.specs.Column.{lines_with, source_of_text}
use Rattle.c25_print_laws.specs.Source.{Code, IsInRange, IsTextOf, Printed, Word, source_of, text_of, words_in}
use Rattle.c25_print_laws.proofs.PrintedSources.{is_read, source_words}
use Rattle.c25_print_laws.proofs.SourceLines.{first_line}
use Rattle.c25_print_laws.proofs.Tokens.{is_quiet}

-- ---- one line

hex_quiet : (n : ℕ) → n < 16 → is_quiet (hex_digit n) ≡ true
hex_quiet n h = grind (arith, nat_tests)

four_quiet : (n : ℕ) (more : List ℕ) → list_all is_quiet more ≡ true → list_all is_quiet (four_digits n ++ more) ≡ true
four_quiet n more h = rw (hex_quiet (n / 256 / 16 % 16) (omega arith), hex_quiet (n / 256 % 16) (omega arith), hex_quiet (n / 16 % 16) (omega arith), hex_quiet (n % 16) (omega arith)) h

-- what a line shows
abbrev shown : ℕ → Option Insn → Printed
shown word None = Word word
shown word (Some i) = Code i

-- a line of words that read so
record IsShown (address word : ℕ) (second : Option ℕ) (insn : Option Insn) (p : Printed) : Type 0 where
  pub in_range : IsInRange p
  pub words_are : words_in p ≡ word ∷ option_to_list second
  pub text_is : drop 15 (line_text address word second insn) ≡ text_of p
  pub quiet : list_all is_quiet (line_text address word second insn) ≡ true

line_quiet : (address word : ℕ) (second : Option ℕ) (insn : Option Insn) → list_all is_quiet (code_text word second insn) ≡ true → list_all is_quiet (line_text address word second insn) ≡ true
line_quiet address word None insn h = four_quiet address (32 ∷ (four_digits word ++ 32 ∷ 32 ∷ 32 ∷ 32 ∷ 32 ∷ 32 ∷ code_text word None insn)) (four_quiet word (32 ∷ 32 ∷ 32 ∷ 32 ∷ 32 ∷ 32 ∷ code_text word None insn) h)
line_quiet address word (Some s) insn h = four_quiet address (32 ∷ (four_digits word ++ 32 ∷ (four_digits s ++ 32 ∷ code_text word (Some s) insn))) (four_quiet word (32 ∷ (four_digits s ++ 32 ∷ code_text word (Some s) insn)) (four_quiet s (32 ∷ code_text word (Some s) insn) h))

is_shown : (address word : ℕ) (next second : Option ℕ) (insn : Option Insn) → word < 2 ^ 16 → IsTaken word next second insn → IsShown address word second insn (shown word insn)
is_shown address word next None (Some i) small taken =
    record { in_range = taken.in_range; words_are = taken.words_are; text_is = refl; quiet = line_quiet address word None (Some i) (is_read (Code i) taken.in_range).quiet.quiet }
is_shown address word next (Some s) (Some i) small taken =
    record { in_range = taken.1.in_range; words_are = taken.1.words_are; text_is = refl; quiet = line_quiet address word (Some s) (Some i) (is_read (Code i) taken.1.in_range).quiet.quiet }
is_shown address word next None None small taken =
    record { in_range = small; words_are = refl; text_is = refl; quiet = line_quiet address word None None (is_read (Word word) small).quiet.quiet }
is_shown address word next (Some s) None small taken = absurd taken

-- ---- lines

abbrev joined : List (List ℕ) → List ℕ
joined [] = []
joined (l ∷ ls) = l ++ (10 ∷ joined ls)

abbrev AreQuiet : List (List ℕ) → Type 0
AreQuiet [] = Unit {0}
AreQuiet (l ∷ ls) = (list_all is_quiet l ≡ true) × AreQuiet ls

abbrev AreInRange : List Printed → Type 0
AreInRange [] = Unit {0}
AreInRange (p ∷ ps) = IsInRange p × AreInRange ps

joined_more : (ls : List (List ℕ)) (l : List ℕ) → joined ls ++ (l ++ 10 ∷ []) ≡ joined (ls ++ l ∷ [])
joined_more [] l = refl
joined_more (k ∷ ls) l = append_assoc k (10 ∷ joined ls) (l ++ 10 ∷ []) ∙ ap (λ t. k ++ (10 ∷ t)) (joined_more ls l)

quiet_more : (ls : List (List ℕ)) (l : List ℕ) → AreQuiet ls → list_all is_quiet l ≡ true → AreQuiet (ls ++ l ∷ [])
quiet_more [] l h q = (q, tt)
quiet_more (k ∷ ls) l h q = (h.0, quiet_more ls l h.1 q)

range_more : (ps : List Printed) (p : Printed) → AreInRange ps → IsInRange p → AreInRange (ps ++ p ∷ [])
range_more [] p h q = (q, tt)
range_more (o ∷ ps) p h q = (h.0, range_more ps p h.1 q)

map_more : {A B : Type 0} (f : A → B) (xs : List A) (x : A) → map f (xs ++ x ∷ []) ≡ map f xs ++ f x ∷ []
map_more f [] x = refl
map_more f (y ∷ xs) x = ap (λ r. f y ∷ r) (map_more f xs x)

words_more : (ps : List Printed) (p : Printed) → flat_map words_in (ps ++ p ∷ []) ≡ flat_map words_in ps ++ words_in p
words_more [] p = append-nil (words_in p)
words_more (o ∷ ps) p = ap (λ r. words_in o ++ r) (words_more ps p) ∙ sym (append_assoc (words_in o) (flat_map words_in ps) (words_in p))

-- the lines of quiet lines
joined_lines : (ls : List (List ℕ)) → AreQuiet ls → lines (joined ls) ≡ ls
joined_lines [] h = refl
joined_lines (l ∷ ls) h = first_line l (joined ls) h.0 ∙ ap (λ r. l ∷ r) (joined_lines ls h.1)

printed_source : (ps : List Printed) → lines_with (map text_of ps) ≡ source_of ps
printed_source [] = refl
printed_source (p ∷ ps) = ap (λ t. codes " " ++ text_of p ++ (codes "\n" ++ t)) (printed_source ps)

all_in_range : (ps : List Printed) → AreInRange ps → All IsInRange ps
all_in_range [] h k d lt = absurd (omega (arith, lt))
all_in_range (p ∷ ps) h zero d lt = h.0
all_in_range (p ∷ ps) h (suc k) d lt = all_in_range ps h.1 k d (omega (arith, lt))

-- ---- the words of a list, a few more at a time

one_more : (ws : List ℕ) (n w : ℕ) → slice_get ws n ≡ Some w → (take n ws ++ w ∷ [] ≡ take (suc n) ws) × (n < length ws)
one_more [] n w h = absurd (cc)
one_more (x ∷ ws) zero w h = let same : x ≡ w = cc in (ap (λ v. v ∷ []) (sym same), omega arith)
one_more (x ∷ ws) (suc n) w h = let rest = one_more ws n w h in (ap (λ r. x ∷ r) rest.0, let low = rest.1 in omega (arith, low))

none_more : (ws : List ℕ) (n : ℕ) → slice_get ws n ≡ None → length ws ≤ n
none_more [] n h = omega arith
none_more (x ∷ ws) zero h = absurd (cc)
none_more (x ∷ ws) (suc n) h = let rest = none_more ws n h in omega (arith, rest)

small_at : (ws : List ℕ) (n w : ℕ) → All (λ w. w < 2 ^ 16) ws → slice_get ws n ≡ Some w → w < 2 ^ 16
small_at [] n w h e = absurd (cc)
small_at (x ∷ ws) zero w h e = let same : x ≡ w = cc in subst (λ v. v < 2 ^ 16) same (h 0 x (omega arith))
small_at (x ∷ ws) (suc n) w h e = small_at ws n w (λ k d lt. h (suc k) d (omega (arith, lt))) e

-- the word at a place, and the one after it, where a line has two
abbrev Follows : List ℕ → ℕ → Option ℕ → Type 0
Follows ws n None = Unit {0}
Follows ws n (Some s) = slice_get ws (suc n) ≡ Some s

more_words : (ws : List ℕ) (n w : ℕ) (second : Option ℕ) → slice_get ws n ≡ Some w → Follows ws n second
    → (take n ws ++ (w ∷ option_to_list second) ≡ take (n + length (w ∷ option_to_list second)) ws) × (n + length (w ∷ option_to_list second) ≤ length ws)
more_words ws n w None h f =
    let one = one_more ws n w h in
    let next : suc n ≡ n + 1 = omega arith in
    (one.0 ∙ ap (λ k. take k ws) next, let low = one.1 in omega (arith, low))
more_words ws n w (Some s) h f =
    let one = one_more ws n w h in
    let two = one_more ws (suc n) s f in
    let next : suc (suc n) ≡ n + 2 = omega arith in
    (sym (append_assoc (take n ws) (w ∷ []) (s ∷ [])) ∙ ap (λ r. r ++ s ∷ []) one.0 ∙ two.0 ∙ ap (λ k. take k ws) next, let low = two.1 in omega (arith, low))

follows : (ws : List ℕ) (n word : ℕ) (next second : Option ℕ) (insn : Option Insn) → next ≡ slice_get ws (suc n) → IsTaken word next second insn → Follows ws n second
follows ws n word next None insn e taken = tt
follows ws n word next (Some s) (Some i) e taken = sym e ∙ taken.0
follows ws n word next (Some s) None e taken = absurd taken

-- ---- address by address

module _ (words : map.FinMap nat_cmp ℕ) (ws : List ℕ) (same : (k : ℕ) → word_at words k ≡ slice_get ws k) (small : All (λ w. w < 2 ^ 16) ws) where
  -- a text is lines that show the words up to where the last of them ends
  record Covered (n : ℕ) (end : Option ℕ) (text : List ℕ) : Type 0 where
    pub ps : List Printed
    pub ls : List (List ℕ)
    pub text_is : text ≡ joined ls
    pub quiet : AreQuiet ls
    pub cut : map (drop 15) ls ≡ map text_of ps
    pub ranges : AreInRange ps
    pub ended : ℕ
    pub words_are : flat_map words_in ps ≡ take ended ws
    pub end_is : ((end ≡ None) × (ended ≡ 0)) ⊎ (end ≡ Some ended)
    pub low : min n (length ws) ≤ ended
    pub within : ended ≤ length ws

  -- an address that adds nothing
  kept : (n : ℕ) (was end : Option ℕ) (before last text : List ℕ) (c : Covered n was before) → end ≡ was → last ≡ [] → text ≡ before ++ last → min (suc n) (length ws) ≤ c.ended → Covered (suc n) end text
  kept n was end before last text c stays none t low = record {
    ps = c.ps;
    ls = c.ls;
    text_is = t ∙ ap (λ l. before ++ l) none ∙ append-nil before ∙ c.text_is;
    quiet = c.quiet;
    cut = c.cut;
    ranges = c.ranges;
    ended = c.ended;
    words_are = c.words_are;
    end_is = subst (λ o. ((o ≡ None) × (c.ended ≡ 0)) ⊎ (o ≡ Some c.ended)) (sym stays) c.end_is;
    low = low;
    within = c.within;
  }

  -- an address within the last line, and after it
  inside : (n ended : ℕ) (was : Option ℕ) → (((was ≡ None) × (ended ≡ 0)) ⊎ (was ≡ Some ended)) → is_before n was ≡ true → n < ended
  inside n ended was (inl none) e = absurd (let f = sym (ap (is_before n) none.0) ∙ e in grind (arith, f))
  inside n ended was (inr some) e = let f : nat_lt n ended ≡ true = sym (ap (is_before n) some) ∙ e in grind (arith, nat_tests)

  beyond : (n ended : ℕ) (was : Option ℕ) → (((was ≡ None) × (ended ≡ 0)) ⊎ (was ≡ Some ended)) → n ≤ ended → is_before n was ≡ false → (ended ≡ n) × (gap_text was n ≡ [])
  beyond n ended was (inl none) low e = (let z = none.1 in omega (arith, low, z), ap (λ o. gap_text o n) none.0)
  beyond n ended was (inr some) low e =
      let f : nat_lt n ended ≡ false = sym (ap (is_before n) some) ∙ e in
      let at : ended ≡ n = grind (arith, nat_tests) in
      let here : (ended == n) ≡ true = grind (arith, nat_tests) in
      (at, ap (λ o. gap_text o n) some ∙ rw here refl)

  -- a line more
  added : (n word : ℕ) (was end : Option ℕ) (before last text : List ℕ) (c : Covered n was before) → slice_get ws n ≡ Some word → is_before n was ≡ false
      → IsWordLine (word_at words (n + 1)) n word was end last → text ≡ before ++ last → Covered (suc n) end text
  added n word was end before last text c here e line t =
      let more = one_more ws n word here in
      let below = more.1 in
      let lower = c.low in
      let at = beyond n c.ended was c.end_is (omega (arith, lower, below)) e in
      let next : n + 1 ≡ suc n = omega arith in
      let behind = follows ws n word (word_at words (n + 1)) line.second line.insn (same (n + 1) ∙ ap (slice_get ws) next) line.taken in
      let grown = more_words ws n word line.second here behind in
      let shows = is_shown n word (word_at words (n + 1)) line.second line.insn (small_at ws n word small here) line.taken in
      let l = line_text n word line.second line.insn in
      let p = shown word line.insn in
      record {
        ps = c.ps ++ p ∷ [];
        ls = c.ls ++ l ∷ [];
        text_is = t ∙ ap (λ r. before ++ r) line.text_is ∙ ap (λ g. before ++ (g ++ l ++ codes "\n")) at.1 ∙ ap (λ r. r ++ (l ++ codes "\n")) c.text_is ∙ joined_more c.ls l;
        quiet = quiet_more c.ls l c.quiet shows.quiet;
        cut = map_more (drop 15) c.ls l ∙ ap (λ r. r ++ drop 15 l ∷ []) c.cut ∙ ap (λ r. map text_of c.ps ++ r ∷ []) shows.text_is ∙ sym (map_more text_of c.ps p);
        ranges = range_more c.ps p c.ranges shows.in_range;
        ended = n + length (word ∷ option_to_list line.second);
        words_are = words_more c.ps p ∙ ap (λ r. r ++ words_in p) (c.words_are ∙ ap (λ k. take k ws) at.0) ∙ ap (λ r. take n ws ++ r) shows.words_are ∙ grown.0;
        end_is = inr line.end_is;
        low = omega arith;
        within = grown.1;
      }

  step : (n : ℕ) (was end : Option ℕ) (before last text : List ℕ) → Covered n was before → (o : Option ℕ) → word_at words n ≡ o → (b : Bool) → is_before n was ≡ b
      → IsAddressText o (word_at words (n + 1)) b n was end last → text ≡ before ++ last → Covered (suc n) end text
  step n was end before last text c None e b f at t =
      let above = none_more ws n (sym (same n) ∙ e) in
      let low = c.low in
      kept n was end before last text c at.0 at.1 t (omega (arith, above, low))
  step n was end before last text c (Some word) e true f at t =
      let low = inside n c.ended was c.end_is f in
      kept n was end before last text c at.0 at.1 t (omega (arith, low))
  step n was end before last text c (Some word) e false f at t = added n word was end before last text c (sym (same n) ∙ e) f at t

  covered : (n : ℕ) (end : Option ℕ) (text : List ℕ) → AreWords words 0 n end text → Covered n end text
  covered zero end text h = record { ps = []; ls = []; text_is = h.1; quiet = tt; cut = refl; ranges = tt; ended = 0; words_are = refl; end_is = inl (h.0, refl); low = omega arith; within = omega arith }
  covered (suc n) end text h =
      let here : 0 + n ≡ n = omega arith in
      step n h.0 end h.1 h.2 text (covered n h.0 h.1 h.3) (word_at words n) refl (is_before n h.0) refl
      (subst (λ k. IsAddressText (word_at words k) (word_at words (k + 1)) (is_before k h.0) k h.0 end h.2) here h.4) h.5

  -- the text of so many addresses, where all words are below
  source_as : (n : ℕ) (end : Option ℕ) (text : List ℕ) → AreWords words 0 n end text → length ws ≤ n → n ≤ 65536 → (files : Files) (name : List ℕ)
      → text_named files name ≡ Some (source_of_text text) → is_file_name name ≡ true → (a : Assembled) × (assembled files name ≡ Ok a) × IsTextOf ws a.contents
  source_as n end text h few most files name found named =
      let c = covered n end text h in
      let low = c.low in
      let within = c.within in
      let whole : c.ended ≡ length ws = omega (arith, low, within, few) in
      let all : flat_map words_in c.ps ≡ ws = c.words_are ∙ ap (λ k. take k ws) whole ∙ take-length ws in
      let count = ap length all in
      let source : source_of_text text ≡ source_of c.ps = ap source_of_text c.text_is ∙ ap (λ ls. lines_with (map (drop 15) ls)) (joined_lines c.ls c.quiet) ∙ ap lines_with c.cut ∙ printed_source c.ps in
      let made = source_words files name c.ps (found ∙ ap Some source) named (all_in_range c.ps c.ranges) (omega (arith, count, few, most)) in
      (made.0, made.1, subst (λ v. IsTextOf v made.0.contents) all made.2)

pub words_source : (words : map.FinMap nat_cmp ℕ) (ws text : List ℕ) (files : Files) (name : List ℕ) → ((k : ℕ) → word_at words k ≡ slice_get ws k) → All (λ w. w < 2 ^ 16) ws → IsWordsText words 0 text
    → text_named files name ≡ Some (source_of_text text) → is_file_name name ≡ true → (a : Assembled) × (assembled files name ≡ Ok a) × IsTextOf ws a.contents
words_source words ws text files name same small h found named =
    let none : word_at words 65536 ≡ None = refl in
    source_as words ws same small 65536 h.0 text h.1 (none_more ws 65536 (sym (same 65536) ∙ none)) (omega arith) files name found named
