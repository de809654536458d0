-- The lines of ascending words, read one after the other.
use Rattle.std.proofs.Common.{◌≡◌, ℕ, zero, suc, ◌+◌, ◌-◌, ◌*◌, ◌/◌, ◌%◌, ◌<◌, ◌≤◌, Bool, true, false, ◌&&◌, ◌||◌, cond, eqb, ltb, leb, not, List, [], ◌∷◌, ◌++◌, length, take, Ok, refl, sym, ap, subst, ◌∙◌, arith, inl, inr, lit<, lit≤, append_assoc}
use Rattle.std.specs.List.{list_any, flat_map}
use Rattle.std.specs.Ordering.{nat_cmp}
use Rattle.std.proofs.lemmas.Bool.{le-leb, le-ltb, cases_Bool, cond-true, cond-false, and_parts, leb-true, leb-false, ltb-true, eqb-true, eqb-false, not-true}
use Rattle.std.proofs.lemmas.List.{length-append, append-nil, take_at}
use Rattle.hex.specs.Hex.{IsBytes}
use Rattle.c25_hex.specs.Hex.{HexState, start, after_bytes, with_bytes, after_line, put_bytes, gives_again, has_odd_word}
use Rattle.c25_hex.specs.HexText.{Stretch, alone, goes_on, stretches, stretches_on, word_bytes, data_line, base_line, end_line, needs_base, lines_on, line_body, with_sum, hex_line}
use Rattle.c25_hex.proofs.Held.{Holds, AllBelow, entries_from, holds_words, below_words, below_more, none_again, no_odd_word, nothing_held}
use Rattle.c25_hex.proofs.Lines.{IsLine, line_taken}

-- ---- one line of data

-- numbers of 16 bits
abbrev pub AreWords : List ℕ → Type 0
AreWords [] = Unit {0}
AreWords (w ∷ ws) = (w < 65536) × AreWords ws

words_push : (ws : List ℕ) (w : ℕ) → AreWords ws → w < 65536 → AreWords (ws ++ w ∷ [])
words_push [] w h lt = (lt, tt)
words_push (x ∷ ws) w h lt = (h.0, words_push ws w h.1 lt)

words_fit : (ws : List ℕ) → AreWords ws → IsBytes (flat_map word_bytes ws)
words_fit [] h k = lit< tt
words_fit (w ∷ ws) h zero = let h0 : w < 65536 = h.0 in omega arith
words_fit (w ∷ ws) h (suc zero) = omega arith
words_fit (w ∷ ws) h (suc (suc k)) = words_fit ws h.1 k

length-words : (ws : List ℕ) → length (flat_map word_bytes ws) ≡ 2 * length ws
length-words [] = refl
length-words (w ∷ ws) = let ih = length-words ws in omega arith

-- the words of a line: eight at most, and within one half of the addresses
pub record IsStretch (t : Stretch) : Type 0 where
  pub some : 0 < length t.words
  pub few : length t.words ≤ 8
  pub inside : t.address + length t.words ≤ 65536
  pub half : t.address < 32768 → t.address + length t.words ≤ 32768
  pub words_in : AreWords t.words

taken_bytes : (s : HexState) (address place : ℕ) (bytes : List ℕ) → s.base + address ≡ place → address + length bytes ≤ 65536 → place + length bytes ≤ 131072
    → gives_again s.bytes place bytes ≡ false → with_bytes s address bytes ≡ Ok (record s { bytes = put_bytes s.bytes place bytes })
unfolding with_bytes
taken_bytes s address place bytes at in_base in_all free =
    let low : ltb 65536 (address + length bytes) ≡ false = le-ltb 65536 (address + length bytes) in_base in
    let all : ltb 131072 (place + length bytes) ≡ false = le-ltb 131072 (place + length bytes) in_all in
    rw (low, at, all, free) (elim (cases_Bool (ltb 0 (length bytes))) [ inl h ↦ rw h refl | inr h ↦ rw h refl ])

word_pair : (n : ℕ) → 256 * (n / 256) + n % 256 ≡ n
word_pair n = omega arith

data_effect : (s : HexState) (address : ℕ) (bytes : List ℕ) → after_bytes s (with_sum (line_body address 0 bytes)) ≡ with_bytes s address bytes
unfolding after_bytes
data_effect s address bytes =
    let front : take (length bytes) (bytes ++ ((256 - Rattle.std.specs.Prelude.sum (line_body address 0 bytes) % 256) % 256) ∷ []) ≡ bytes = take_at bytes _ (length bytes) refl in
    let at = word_pair address in
    rw (front, at) refl

-- the base that has been set
abbrev pub base_of : Bool → ℕ
base_of true = 65536
base_of false = 0

abbrev with_words : HexState → Stretch → HexState
with_words s t = record s { bytes = put_bytes s.bytes (2 * t.address) (flat_map word_bytes t.words) }

line_place : (set : Bool) (address : ℕ) → set ≡ leb 32768 address → address < 65536 → base_of set + 2 * address % 65536 ≡ 2 * address
line_place true address e lt = let h = leb-true 32768 address (sym e) in omega arith
line_place false address e lt = let h = leb-false 32768 address (sym e) in omega arith

line_room : (set : Bool) (address count : ℕ) → set ≡ leb 32768 address → 0 < count → address + count ≤ 65536 → (address < 32768 → address + count ≤ 32768)
    → 2 * address % 65536 + 2 * count ≤ 65536
line_room true address count e some inside half = let h = leb-true 32768 address (sym e) in omega arith
line_room false address count e some inside half = let h = leb-false 32768 address (sym e) in let g = half (omega arith) in omega arith

data_form : (t : Stretch) → IsStretch t → IsLine (2 * t.address % 65536) 0 (flat_map word_bytes t.words)
data_form t is = let len = length-words t.words in let few = is.few in record {
  address_in = omega arith;
  kind_in = omega arith;
  few = omega arith;
  fit = words_fit t.words is.words_in;
  count = refl;
}

-- the line of words puts them at their addresses
data_taken : (s : HexState) (set : Bool) (t : Stretch) (done : List (ℕ × ℕ)) → s.ended ≡ false → s.base ≡ base_of set → set ≡ leb 32768 t.address
    → Holds s.bytes done → AllBelow t.address done → IsStretch t → after_line s (data_line t) ≡ Ok (with_words s t)
data_taken s set t done running base set_is holds below is =
    let len = length-words t.words in
    let few = is.few in
    let some = is.some in
    let inside = is.inside in
    line_taken s (2 * t.address % 65536) 0 (flat_map word_bytes t.words) (data_form t is) running
    ∙ data_effect s (2 * t.address % 65536) (flat_map word_bytes t.words)
    ∙ taken_bytes s (2 * t.address % 65536) (2 * t.address) (flat_map word_bytes t.words)
    (ap (λ (n : ℕ). n + 2 * t.address % 65536) base ∙ line_place set t.address set_is (omega arith))
    (let room = line_room set t.address (length t.words) set_is is.some is.inside is.half in omega arith)
    (omega arith)
    (none_again s.bytes done t.address (2 * t.address) (flat_map word_bytes t.words) holds below (omega arith))

base_fits : IsBytes (0 ∷ 1 ∷ [])
base_fits zero = lit< tt
base_fits (suc zero) = lit< tt
base_fits (suc (suc k)) = lit< tt

base_form : IsLine 0 4 (0 ∷ 1 ∷ [])
base_form = record { address_in = lit< tt; kind_in = lit≤ tt; few = lit< tt; fit = base_fits; count = refl }

-- the base line sets the base of the upper half
base_taken : (s : HexState) → s.ended ≡ false → after_line s base_line ≡ Ok (record s { base = 65536 })
unfolding after_bytes
base_taken s running = line_taken s 0 4 (0 ∷ 1 ∷ []) base_form running

end_form : IsLine 0 1 []
end_form = record { address_in = lit< tt; kind_in = lit≤ tt; few = lit< tt; fit = λ k. lit< tt; count = refl }

-- the end line ends the text where each word has both bytes
end_taken : (s : HexState) → s.ended ≡ false → has_odd_word s.bytes ≡ false → after_line s end_line ≡ Ok (record s { ended = true })
unfolding after_bytes
end_taken s running even = line_taken s 0 1 [] end_form running ∙ rw even refl

-- ---- lines in a row

-- written lines that are read one after the other, from one state to another
pub record IsWritten (line : List ℕ) : Type 0 where
  pub address : ℕ
  pub kind : ℕ
  pub bytes : List ℕ
  pub form : IsLine address kind bytes
  pub same : line ≡ hex_line address kind bytes

abbrev pub Goes : HexState → List (List ℕ) → HexState → Type 0
Goes s [] t = s ≡ t
Goes s (line ∷ rest) t = (u : HexState) × (s.ended ≡ false) × IsWritten line × (after_line s line ≡ Ok u) × Goes u rest t

-- how far a text has been read after some words
record IsAt (s : HexState) (set : Bool) (done : List (ℕ × ℕ)) : Type 0 where
  running : s.ended ≡ false
  base : s.base ≡ base_of set
  holds : Holds s.bytes done

abbrev entries_of : Stretch → List (ℕ × ℕ)
entries_of t = entries_from t.address t.words

data_written : (t : Stretch) → IsStretch t → IsWritten (data_line t)
data_written t is = record { address = 2 * t.address % 65536; kind = 0; bytes = flat_map word_bytes t.words; form = data_form t is; same = refl }

base_written : IsWritten base_line
base_written = record { address = 0; kind = 4; bytes = 0 ∷ 1 ∷ []; form = base_form; same = refl }

-- the words of a line, the base being right
data_goes : (s v : HexState) (set : Bool) (t : Stretch) (done : List (ℕ × ℕ)) (rest : List (List ℕ)) → IsAt s set done → set ≡ leb 32768 t.address → AllBelow t.address done → IsStretch t
    → Goes (with_words s t) rest v → Goes s (data_line t ∷ rest) v
data_goes s v set t done rest at set_is below is goes =
    (with_words s t, at.running, data_written t is, data_taken s set t done at.running at.base set_is at.holds below is, goes)

data_at : (s : HexState) (set : Bool) (t : Stretch) (done : List (ℕ × ℕ)) → IsAt s set done → AllBelow t.address done → IsStretch t → IsAt (with_words s t) set (done ++ entries_of t)
data_at s set t done at below is = record { running = at.running; base = at.base; holds = holds_words s.bytes done t.address t.words at.holds below }

-- the state after a line of words and the base line before it
abbrev after_stretch : HexState → Bool → Stretch → HexState
after_stretch s set t = with_words (if_base (needs_base set t) s) t where
  if_base : Bool → HexState → HexState
  if_base true s = record s { base = 65536 }
  if_base false s = s

-- which base holds after a line of words
base_behind : (set b : Bool) (t : Stretch) → needs_base set t ≡ b → (set ≡ true → 32768 ≤ t.address) → (set || b) ≡ leb 32768 t.address
base_behind true true t e later = cc e
base_behind true false t e later = sym (le-leb 32768 t.address (later refl))
base_behind false true t e later = sym e
base_behind false false t e later = sym e

abbrev if_base : Bool → HexState → HexState
if_base true s = record s { base = 65536 }
if_base false s = s

base_at : (set b : Bool) (s : HexState) (t : Stretch) (done : List (ℕ × ℕ)) → needs_base set t ≡ b → IsAt s set done → IsAt (if_base b s) (set || b) done
base_at true true s t done e at = cc e
base_at true false s t done e at = at
base_at false true s t done e at = record { running = at.running; base = refl; holds = at.holds }
base_at false false s t done e at = at

abbrev base_lines : Bool → List (List ℕ)
base_lines b = cond b (base_line ∷ []) []

base_goes : (b : Bool) (s v : HexState) (rest : List (List ℕ)) → s.ended ≡ false → Goes (if_base b s) rest v → Goes s (base_lines b ++ rest) v
base_goes true s v rest running goes = (record s { base = 65536 }, running, base_written, base_taken s running, goes)
base_goes false s v rest running goes = goes

-- a line of words, and the base line before it where it is needed
stretch_goes : (b : Bool) (s v : HexState) (set : Bool) (t : Stretch) (done : List (ℕ × ℕ)) (rest : List (List ℕ)) → needs_base set t ≡ b → IsAt s set done
    → (set ≡ true → 32768 ≤ t.address) → AllBelow t.address done → IsStretch t → Goes (with_words (if_base b s) t) rest v → Goes s (base_lines b ++ data_line t ∷ rest) v
stretch_goes b s v set t done rest e at later below is goes =
    base_goes b s v (data_line t ∷ rest) at.running
    (data_goes (if_base b s) v (set || b) t done rest (base_at set b s t done e at) (base_behind set b t e later) below is goes)

stretch_at : (b : Bool) (s : HexState) (set : Bool) (t : Stretch) (done : List (ℕ × ℕ)) → needs_base set t ≡ b → IsAt s set done → AllBelow t.address done → IsStretch t
    → IsAt (with_words (if_base b s) t) (set || b) (done ++ entries_of t)
stretch_at b s set t done e at below is = data_at (if_base b s) (set || b) t done (base_at set b s t done e at) below is

-- ---- all words

-- ascending words of 16 bits, from an address on
abbrev pub Ascends : ℕ → List (ℕ × ℕ) → Type 0
Ascends n [] = Unit {0}
Ascends n (e ∷ es) = (n ≤ e.0) × (e.0 < 65536) × (e.1 < 65536) × Ascends (e.0 + 1) es

entries_push : (k : ℕ) (ws : List ℕ) (w : ℕ) (es : List (ℕ × ℕ)) → entries_from k (ws ++ w ∷ []) ++ es ≡ entries_from k ws ++ ((k + length ws, w) ∷ es)
entries_push k [] w es = let e : k ≡ k + 0 = omega arith in ap (λ (a : ℕ). (a, w) ∷ es) e
entries_push k (x ∷ ws) w es =
    let e : k + 1 + length ws ≡ k + length (x ∷ ws) = omega arith in
    ap (λ (t : List (ℕ × ℕ)). (k, x) ∷ t) (entries_push (k + 1) ws w es ∙ ap (λ (a : ℕ). entries_from (k + 1) ws ++ ((a, w) ∷ es)) e)

-- a text of words is read to its end, and gives these words
pub record Reads (s : HexState) (lines : List (List ℕ)) (all : List (ℕ × ℕ)) : Type 0 where
  pub last : HexState
  pub goes : Goes s lines last
  pub ended : last.ended ≡ true
  pub holds : Holds last.bytes all

end_reads : (s : HexState) (set : Bool) (done : List (ℕ × ℕ)) → IsAt s set done → Reads s (lines_on set []) done
unfolding lines_on
end_reads s set done at = record {
  last = record s { ended = true };
  goes = (record s { ended = true }, at.running, record { address = 0; kind = 1; bytes = []; form = end_form; same = refl }, end_taken s at.running (no_odd_word s.bytes done at.holds), refl);
  ended = refl;
  holds = at.holds;
}

one_more : (t : Stretch) (e : ℕ × ℕ) → IsStretch t → goes_on t e.0 ≡ true → e.0 < 65536 → e.1 < 65536 → IsStretch (record t { words = t.words ++ e.1 ∷ [] })
one_more t e is on in_a in_w =
    let parts = and_parts (eqb e.0 (t.address + length t.words) && ltb (length t.words) 8) (not (eqb e.0 32768)) on in
    let next = and_parts (eqb e.0 (t.address + length t.words)) (ltb (length t.words) 8) parts.0 in
    let at = eqb-true e.0 (t.address + length t.words) next.0 in
    let room = ltb-true (length t.words) 8 next.1 in
    let apart = eqb-false e.0 32768 (not-true (eqb e.0 32768) parts.1) in
    let len = length-append t.words (e.1 ∷ []) in record {
      some = omega arith;
      few = omega arith;
      inside = omega arith;
      half = λ low. let h = is.half low in omega arith;
      words_in = words_push t.words e.1 is.words_in in_w;
    }

next_at : (t : Stretch) (e : ℕ × ℕ) → goes_on t e.0 ≡ true → e.0 ≡ t.address + length t.words
next_at t e on =
    let parts = and_parts (eqb e.0 (t.address + length t.words) && ltb (length t.words) 8) (not (eqb e.0 32768)) on in
    let next = and_parts (eqb e.0 (t.address + length t.words)) (ltb (length t.words) 8) parts.0 in
    eqb-true e.0 (t.address + length t.words) next.0

alone_is : (e : ℕ × ℕ) → e.0 < 65536 → e.1 < 65536 → IsStretch (alone e)
alone_is e in_a in_w = record {
  some = lit< tt;
  few = lit≤ tt;
  inside = omega arith;
  half = λ low. omega arith;
  words_in = (in_w, tt);
}

ascends_at : (m n : ℕ) (es : List (ℕ × ℕ)) → m ≡ n → Ascends m es → Ascends n es
ascends_at m n es same h = let P : ℕ → Type 0 = λ k. Ascends k es in subst P same h

reads_all : (s : HexState) (lines : List (List ℕ)) (all same : List (ℕ × ℕ)) → all ≡ same → Reads s lines all → Reads s lines same
reads_all s lines all same e h = let P : List (ℕ × ℕ) → Type 0 = λ es. Reads s lines es in subst P e h

-- a line of words ends, and the lines after it are read
line_ends : (s : HexState) (set : Bool) (t : Stretch) (done rest : List (ℕ × ℕ)) (later_on : List Stretch) → IsAt s set done → (set ≡ true → 32768 ≤ t.address) → AllBelow t.address done → IsStretch t
    → Reads (with_words (if_base (needs_base set t) s) t) (lines_on (set || needs_base set t) later_on) ((done ++ entries_of t) ++ rest)
    → Reads s (lines_on set (t ∷ later_on)) (done ++ (entries_of t ++ rest))
unfolding lines_on
line_ends s set t done rest later_on at later below is more = record {
  last = more.last;
  goes = stretch_goes (needs_base set t) s more.last set t done (lines_on (set || needs_base set t) later_on) refl at later below is more.goes;
  ended = more.ended;
  holds = rw (append_assoc done (entries_of t) rest) at more.holds;
}

-- the lines of ascending words, the first line begun, are read, and give the words
all_reads : (es : List (ℕ × ℕ)) (t : Stretch) (s : HexState) (set : Bool) (done : List (ℕ × ℕ)) → IsAt s set done → (set ≡ true → 32768 ≤ t.address) → AllBelow t.address done → IsStretch t
    → Ascends (t.address + length t.words) es → Reads s (lines_on set (stretches_on t es)) (done ++ (entries_of t ++ es))
unfolding stretches_on
all_reads [] t s set done at later below is up =
    line_ends s set t done [] [] at later below is
    (reads_all _ _ (done ++ entries_of t) ((done ++ entries_of t) ++ []) (sym (append-nil (done ++ entries_of t)))
    (end_reads (with_words (if_base (needs_base set t) s) t) (set || needs_base set t) (done ++ entries_of t) (stretch_at (needs_base set t) s set t done refl at below is)))
all_reads (e ∷ es) t s set done at later below is up =
    let longer : Stretch = record t { words = t.words ++ e.1 ∷ [] } in
    let P : List Stretch → Type 0 = λ all. Reads s (lines_on set all) (done ++ (entries_of t ++ (e ∷ es))) in
    elim (cases_Bool (goes_on t e.0)) [
      | inl on ↦
          (let here = next_at t e on in
          let len = length-append t.words (e.1 ∷ []) in
          let same : entries_from t.address (t.words ++ e.1 ∷ []) ++ es ≡ entries_of t ++ (e ∷ es) =
          entries_push t.address t.words e.1 es ∙ ap (λ (a : ℕ). entries_of t ++ ((a, e.1) ∷ es)) (sym here) in
          subst P (sym (cond-true (goes_on t e.0) (stretches_on longer es) (t ∷ stretches_on (alone e) es) on))
          (reads_all s (lines_on set (stretches_on longer es)) (done ++ (entries_from t.address (t.words ++ e.1 ∷ []) ++ es)) (done ++ (entries_of t ++ (e ∷ es)))
          (ap (λ (all : List (ℕ × ℕ)). done ++ all) same)
          (all_reads es longer s set done at later below (one_more t e is on up.1 up.2)
          (ascends_at (e.0 + 1) (t.address + length (t.words ++ e.1 ∷ [])) es (omega arith) up.3))))
      | inr off ↦
          (let after = base_behind set (needs_base set t) t refl later in
          let here = up.0 in
          subst P (sym (cond-false (goes_on t e.0) (stretches_on longer es) (t ∷ stretches_on (alone e) es) off))
          (line_ends s set t done (e ∷ es) (stretches_on (alone e) es) at later below is
          (all_reads es (alone e) (with_words (if_base (needs_base set t) s) t) (set || needs_base set t) (done ++ entries_of t)
          (stretch_at (needs_base set t) s set t done refl at below is)
          (λ on. let h = leb-true 32768 t.address (sym after ∙ on) in omega arith)
          (below_more (t.address + length t.words) e.0 (done ++ entries_of t) up.0 (below_words done t.address t.words below))
          (alone_is e up.1 up.2) up.3)))
    ]

-- the lines of all words are read from the start, and give the words
pub written_reads : (es : List (ℕ × ℕ)) → Ascends 0 es → Reads start (lines_on false (stretches es)) es
written_reads [] up = end_reads start false [] (record { running = refl; base = refl; holds = nothing_held })
written_reads (e ∷ es) up =
    all_reads es (alone e) start false [] (record { running = refl; base = refl; holds = nothing_held }) (λ on. cc on) tt (alone_is e up.1 up.2) up.3
