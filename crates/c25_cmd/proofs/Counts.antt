-- Parts, ranges and sections take a token each, so there are no more of them than tokens.
use Rattle.std.proofs.Common.{◌≡◌, ℕ, zero, suc, ◌+◌, ◌<◌, ◌≤◌, ◌==◌, ◌||◌, not, arith, Bool, true, false, List, [], ◌∷◌, length, drop, Option, Some, None, is_some, Result, Ok, Err, refl, sym, ◌∙◌, length-drop, nat_lt, if◌then◌else◌}
use Rattle.std.specs.Prelude.{IfOk, codes, ok_or}
use Rattle.std.specs.List.{list_any}
use Rattle.std.specs.Str.{bytes_eq}
use Rattle.c25_meaning_linking.specs.declared.command_token.Sign.TheVariants as sign
use Rattle.c25_meaning_linking.specs.declared.command_token.Keyword.{Keyword}
use Rattle.c25_meaning_linking.specs.declared.command_token.Keyword.TheVariants as keyword
use Rattle.c25_meaning_linking.specs.declared.command_token.Want.{Want}
use Rattle.c25_meaning_linking.specs.declared.command_token.Want.TheVariants as want
use Rattle.c25_meaning_linking.specs.declared.command_fault.CommandFault.TheVariants.{Syntax, Twice, RangeSize, RangeOverlap}
use Rattle.c25_meaning_common.specs.declared.placed.Placed.{Placed}
use Rattle.c25_meaning_linking.specs.declared.command_fault.CommandFault.{CommandFault}
use Rattle.c25_meaning_linking.specs.Command.{RangeData, PlacingData, CommandData}
use Rattle.c25_meaning_linking.specs.CommandTokens.{Token}
use Rattle.c25_meaning_linking.specs.CommandGrammar.{Reading, fault_at, fault_if, passes, begins, wanted, past, repeated, up_to, CountIsEnough, number_of_kind, number_at, page_number_at, setting_at}
use Rattle.c25_meaning_linking.specs.CommandMemory.{page_at, attributes_at, is_range, overlaps, extent_at, range_at, Ranges, more_ranges, memory_at}
use Rattle.c25_meaning_linking.specs.CommandSections.{input_at, contents_at, place_at, target_at, section_page_at, run_at, placing_at, is_placing, more_placings, sections_at}
use Rattle.c25_meaning_linking.specs.CommandText.{entry_in, memory_in, sections_in, part_in}
use Rattle.c25_meaning_common.specs.Results.{◌>>=◌}
use Rattle.c25_cmd.proofs.Steps.{bound, after, chosen, wider}

-- fewer tokens stand after what is read than before it
abbrev Takes : {A : Type 0} → ℕ → Reading A → Type 0
Takes n r = IfOk r (λ x. length x.1 < n)

-- no more tokens stand after what is read than before it
abbrev Leaves : {A : Type 0} → ℕ → Reading A → Type 0
Leaves n r = IfOk r (λ x. length x.1 ≤ n)

-- fewer tokens stand after a reading that gives the tokens after it alone, and no more of them
abbrev TakesRest : ℕ → Result (List Token) (Placed ℕ CommandFault) → Type 0
TakesRest n r = IfOk r (λ ts. length ts < n)

abbrev LeavesRest : ℕ → Result (List Token) (Placed ℕ CommandFault) → Type 0
LeavesRest n r = IfOk r (λ ts. length ts ≤ n)

-- ---- single tokens

one_taken : (w : Want) (ts : List Token) → Takes (length ts) (wanted w ts)
unfolding wanted
one_taken w [] = tt
one_taken w (t ∷ ts) = let less : length ts < suc (length ts) = omega arith in chosen (λ x. length x.1 < suc (length ts)) (passes w t.kind) _ _ less tt

dropped : (b : Bool) (ts : List Token) → length (if b then drop 1 ts else ts) ≤ length ts
dropped true ts = omega (arith, length-drop 1 ts)
dropped false ts = omega arith

past_leaves : (w : Want) (ts : List Token) → length (past w ts) ≤ length ts
past_leaves w ts = dropped (begins w ts) ts

number_found : (n : Option ℕ) (t : Token) (ts : List Token) → Takes (length (t ∷ ts)) (ok_or n (fault_at Syntax (t ∷ ts)) >>= λ k. Ok (k, ts))
number_found None t ts = tt
number_found (Some n) t ts = omega arith

number_taken : (ts : List Token) → Takes (length ts) (number_at ts)
unfolding number_at
number_taken [] = tt
number_taken (t ∷ ts) = number_found (number_of_kind t.kind) t ts

page_number_taken : (ts : List Token) → Takes (length ts) (page_number_at ts)
unfolding page_number_at
page_number_taken ts = bound (λ n. length n.1 < length ts) _ (number_at ts) _ (number_taken ts) (λ n h. after _ (fault_if (nat_lt 1 n.0) Syntax ts) _ (λ _. h))

setting_taken : (k : Keyword) (ts : List Token) → TakesRest (length ts) (setting_at k ts)
unfolding setting_at
setting_taken k ts =
    bound (λ x. length x.1 < length ts) _ (wanted (want.Keyword k) ts) _ (one_taken (want.Keyword k) ts) (λ key h.
    bound (λ x. length x.1 < length key.1) _ (wanted (want.Sign sign.Equals) key.1) _ (one_taken (want.Sign sign.Equals) key.1) (λ equals l. omega arith))

-- ---- ranges

page_left : (page : ℕ) (ts : List Token) → Leaves (length ts) (page_at page ts)
unfolding page_at
page_left page ts =
    let fewer : length (drop 1 ts) ≤ length ts = omega (arith, length-drop 1 ts) in
    let same : length ts ≤ length ts = omega arith in
    chosen (λ x. length x.1 ≤ length ts) (begins (want.Keyword keyword.Page) ts) _ _
    (bound (λ n. length n.1 < length (drop 1 ts)) _ (page_number_at (drop 1 ts)) _ (page_number_taken (drop 1 ts)) (λ n h.
    bound (λ x. length x.1 < length n.1) _ (wanted (want.Sign sign.Colon) n.1) _ (one_taken (want.Sign sign.Colon) n.1) (λ colon l. omega arith)))
    same

attributes_left : (ts : List Token) → LeavesRest (length ts) (attributes_at ts)
unfolding attributes_at
attributes_left ts =
    let fewer : length (drop 1 ts) ≤ length ts = omega (arith, length-drop 1 ts) in
    let same : length ts ≤ length ts = omega arith in
    chosen (λ x. length x ≤ length ts) (begins (want.Sign sign.OpenParenthesis) ts) _ _
    (bound (λ x. length x.1 < length (drop 1 ts)) _ (wanted want.AnyWord (drop 1 ts)) _ (one_taken want.AnyWord (drop 1 ts)) (λ word h.
    bound (λ x. length x.1 < length word.1) _ (wanted (want.Sign sign.CloseParenthesis) word.1) _ (one_taken (want.Sign sign.CloseParenthesis) word.1) (λ close l. omega arith)))
    same

extent_taken : (page : ℕ) (before : List RangeData) (ts : List Token) → Takes (length ts) (extent_at page before ts)
unfolding extent_at
extent_taken page before ts =
    bound (λ x. length x < length ts) _ (setting_at keyword.Origin ts) _ (setting_taken keyword.Origin ts) (λ start h.
    bound (λ x. length x.1 < length start) _ (number_at start) _ (number_taken start) (λ origin i.
    let comma = past_leaves (want.Sign sign.Comma) origin.1 in
    bound (λ x. length x < length (past (want.Sign sign.Comma) origin.1)) _ (setting_at keyword.Length (past (want.Sign sign.Comma) origin.1)) _
    (setting_taken keyword.Length (past (want.Sign sign.Comma) origin.1)) (λ count j.
    bound (λ x. length x.1 < length count) _ (number_at count) _ (number_taken count) (λ size k.
    let less : length size.1 < length ts = omega (arith, comma) in
    after _ (fault_if (size.0 == 0 || nat_lt 65536 (origin.0 + size.0)) RangeSize count) _ (λ fits. after _ (fault_if (list_any (overlaps page origin.0 size.0) before) RangeOverlap count) _ (λ apart. less))))))

range_taken : (page : ℕ) (before : List RangeData) (ts : List Token) → Takes (length ts) (range_at page before ts)
unfolding range_at
range_taken page before ts =
    bound (λ x. length x.1 < length ts) _ (wanted want.Name ts) _ (one_taken want.Name ts) (λ name h.
    after _ (fault_if (list_any (is_range page name.0.text) before) Twice ts) _ (λ fresh.
    bound (λ x. length x ≤ length name.1) _ (attributes_at name.1) _ (attributes_left name.1) (λ rest i.
    bound (λ x. length x.1 < length rest) _ (wanted (want.Sign sign.Colon) rest) _ (one_taken (want.Sign sign.Colon) rest) (λ colon j.
    bound (λ x. length x.1 < length colon.1) _ (extent_at page before colon.1) _ (extent_taken page before colon.1) (λ extent k. omega arith)))))

more_ranges_take : (s : Ranges) (ts : List Token) → Takes (length ts) (more_ranges s ts)
unfolding more_ranges
more_ranges_take s ts =
    bound (λ x. length x.1 ≤ length ts) _ (page_at s.0 ts) _ (page_left s.0 ts) (λ page h.
    bound (λ x. length x.1 < length page.1) _ (range_at page.0 s.1 page.1) _ (range_taken page.0 s.1 page.1) (λ range i. omega arith))

-- ---- sections

input_left : (name : List ℕ) (ts : List Token) → LeavesRest (length ts) (input_at name ts)
unfolding input_at
input_left name ts =
    let fewer : length (drop 1 ts) ≤ length ts = omega (arith, length-drop 1 ts) in
    let same : length ts ≤ length ts = omega arith in
    chosen (λ x. length x ≤ length ts) (begins (want.Sign sign.Star) ts) _ _
    (bound (λ x. length x.1 < length (drop 1 ts)) _ (wanted (want.Sign sign.OpenParenthesis) (drop 1 ts)) _ (one_taken (want.Sign sign.OpenParenthesis) (drop 1 ts)) (λ paren h.
    bound (λ x. length x.1 < length paren.1) _ (wanted want.Name paren.1) _ (one_taken want.Name paren.1) (λ word i.
    after _ (fault_if (not (bytes_eq word.0.text name)) Syntax paren.1) _ (λ checked.
    bound (λ x. length x.1 < length word.1) _ (wanted (want.Sign sign.CloseParenthesis) word.1) _ (one_taken (want.Sign sign.CloseParenthesis) word.1) (λ close j. omega arith)))))
    same

contents_left : (name : List ℕ) (ts : List Token) → LeavesRest (length ts) (contents_at name ts)
unfolding contents_at
contents_left name ts =
    let fewer : length (drop 1 ts) ≤ length ts = omega (arith, length-drop 1 ts) in
    let same : length ts ≤ length ts = omega arith in
    chosen (λ x. length x ≤ length ts) (begins (want.Sign sign.OpenBrace) ts) _ _
    (bound (λ x. length x ≤ length (drop 1 ts)) _ (input_at name (drop 1 ts)) _ (input_left name (drop 1 ts)) (λ inner h.
    bound (λ x. length x.1 < length inner) _ (wanted (want.Sign sign.CloseBrace) inner) _ (one_taken (want.Sign sign.CloseBrace) inner) (λ close i. omega arith)))
    same

place_taken : (ts : List Token) → Takes (length ts) (place_at ts)
unfolding place_at
place_taken ts =
    chosen (λ x. length x.1 < length ts) (begins want.Name ts) _ _
    (bound (λ x. length x.1 < length ts) _ (wanted want.Name ts) _ (one_taken want.Name ts) (λ name h. h))
    (bound (λ x. length x.1 < length ts) _ (number_at ts) _ (number_taken ts) (λ n h. h))

target_left : (ts : List Token) → Leaves (length ts) (target_at ts)
unfolding target_at
target_left ts =
    let fewer : length (drop 1 ts) ≤ length ts = omega (arith, length-drop 1 ts) in
    let same : length ts ≤ length ts = omega arith in
    chosen (λ x. length x.1 ≤ length ts) (begins (want.Sign sign.Greater) ts) _ _
    (wider (λ x. length x.1 < length (drop 1 ts)) _ (place_at (drop 1 ts)) (λ x h. omega arith) (place_taken (drop 1 ts)))
    (chosen (λ x. length x.1 ≤ length ts) (begins (want.Keyword keyword.Load) ts) _ _
    (bound (λ x. length x.1 < length (drop 1 ts)) _ (wanted want.LoadSign (drop 1 ts)) _ (one_taken want.LoadSign (drop 1 ts)) (λ mark h.
    wider (λ x. length x.1 < length mark.1) _ (place_at mark.1) (λ x i. omega arith) (place_taken mark.1)))
    same)

section_page_left : (ts : List Token) → Leaves (length ts) (section_page_at ts)
unfolding section_page_at
section_page_left ts =
    let fewer : length (drop 1 ts) ≤ length ts = omega (arith, length-drop 1 ts) in
    let same : length ts ≤ length ts = omega arith in
    chosen (λ x. length x.1 ≤ length ts) (begins (want.Keyword keyword.Page) ts) _ _
    (bound (λ x. length x.1 < length (drop 1 ts)) _ (page_number_at (drop 1 ts)) _ (page_number_taken (drop 1 ts)) (λ n h. omega arith))
    same

run_left : (ts : List Token) → Leaves (length ts) (run_at ts)
unfolding run_at
run_left ts =
    let fewer : length (drop 1 ts) ≤ length ts = omega (arith, length-drop 1 ts) in
    let same : length ts ≤ length ts = omega arith in
    chosen (λ x. length x.1 ≤ length ts) (begins (want.Keyword keyword.Run) ts) _ _
    (bound (λ x. length x.1 < length (drop 1 ts)) _ (wanted (want.Sign sign.Equals) (drop 1 ts)) _ (one_taken (want.Sign sign.Equals) (drop 1 ts)) (λ equals h.
    bound (λ x. length x.1 < length equals.1) _ (number_at equals.1) _ (number_taken equals.1) (λ n i. omega (arith, past_leaves (want.Sign sign.Comma) n.1))))
    same

placing_left : (name : List ℕ) (ts : List Token) → Leaves (length ts) (placing_at name ts)
unfolding placing_at
placing_left name ts =
    bound (λ x. length x ≤ length ts) _ (contents_at name ts) _ (contents_left name ts) (λ rest h.
    bound (λ x. length x.1 ≤ length rest) _ (target_at rest) _ (target_left rest) (λ target i.
    bound (λ x. length x.1 ≤ length target.1) _ (section_page_at target.1) _ (section_page_left target.1) (λ page j.
    let comma = past_leaves (want.Sign sign.Comma) page.1 in
    bound (λ x. length x.1 ≤ length (past (want.Sign sign.Comma) page.1)) _ (run_at (past (want.Sign sign.Comma) page.1)) _
    (run_left (past (want.Sign sign.Comma) page.1)) (λ run k. omega (arith, comma)))))

more_placings_take : (before : List PlacingData) (ts : List Token) → Takes (length ts) (more_placings before ts)
unfolding more_placings
more_placings_take before ts =
    bound (λ x. length x.1 < length ts) _ (wanted want.Name ts) _ (one_taken want.Name ts) (λ name h.
    after _ (fault_if (list_any (is_placing name.0.text) before) Twice ts) _ (λ fresh.
    bound (λ x. length x.1 < length name.1) _ (wanted (want.Sign sign.Colon) name.1) _ (one_taken (want.Sign sign.Colon) name.1) (λ colon i.
    bound (λ x. length x.1 ≤ length colon.1) _ (placing_at name.0.text colon.1) _ (placing_left name.0.text colon.1) (λ placing j. omega arith))))

-- ---- up to what ends them

module _ {S : Type 0} (last : Want) (one : S → List Token → Reading S) (takes : (s : S) (ts : List Token) → Takes (length ts) (one s ts))
    (none_at_end : (s : S) → one s [] ≡ Err (fault_at Syntax [])) where
  -- the rest of at_most, after all of them
  close : Reading S → Reading S
  close r = r >>= λ all. wanted last all.1 >>= λ end. Ok (all.0, end.1)

  at_end : (n : ℕ) (s : S) → close (repeated last one n s []) ≡ Err (fault_at Syntax [])
  unfolding repeated wanted close
  at_end zero s = refl
  at_end (suc n) s = rw none_at_end refl

  -- where a step leaves no more tokens than either count, both go on alike
  onward : (n m k : ℕ) (r : Reading S) → IfOk r (λ x. length x.1 < k) → k ≤ suc n → k ≤ suc m
      → ((s : S) (ts : List Token) → length ts ≤ n → length ts ≤ m → close (repeated last one n s ts) ≡ close (repeated last one m s ts))
      → close (r >>= λ next. repeated last one n next.0 next.1) ≡ close (r >>= λ next. repeated last one m next.0 next.1)
  onward n m k (Ok x) h l l' more = more x.0 x.1 (omega (arith, h, l)) (omega (arith, h, l'))
  onward n m k (Err e) h l l' more = refl

  enough : (n m : ℕ) (s : S) (ts : List Token) → length ts ≤ n → length ts ≤ m → close (repeated last one n s ts) ≡ close (repeated last one m s ts)
  unfolding repeated
  enough n m s [] h k = at_end n s ∙ sym (at_end m s)
  enough zero m s (t ∷ ts) h k = absurd (omega arith)
  enough (suc n) zero s (t ∷ ts) h k = absurd (omega arith)
  enough (suc n) (suc m) s (t ∷ ts) h k = by_first (begins last (t ∷ ts)) (enough n m) where
    by_first : (b : Bool) → ((s : S) (ts : List Token) → length ts ≤ n → length ts ≤ m → close (repeated last one n s ts) ≡ close (repeated last one m s ts))
        → close (if b then Ok (s, t ∷ ts) else (one s (t ∷ ts) >>= λ next. repeated last one n next.0 next.1))
        ≡ close (if b then Ok (s, t ∷ ts) else (one s (t ∷ ts) >>= λ next. repeated last one m next.0 next.1))
    by_first true more = refl
    by_first false more = onward n m (length (t ∷ ts)) (one s (t ∷ ts)) (takes s (t ∷ ts)) (omega arith) (omega arith) more

  pub count_is_enough : CountIsEnough last one
  unfolding close
  count_is_enough n s ts h = enough n (length ts) s ts h (omega arith)

-- ---- the three

no_range : (s : Ranges) → more_ranges s [] ≡ Err (fault_at Syntax [])
unfolding more_ranges page_at range_at wanted
no_range s = refl

pub ranges_counted : CountIsEnough (want.Sign sign.CloseBrace) more_ranges
ranges_counted = count_is_enough (want.Sign sign.CloseBrace) more_ranges more_ranges_take no_range

no_section : (before : List PlacingData) → more_placings before [] ≡ Err (fault_at Syntax [])
unfolding more_placings wanted
no_section before = refl

pub sections_counted : CountIsEnough (want.Sign sign.CloseBrace) more_placings
sections_counted = count_is_enough (want.Sign sign.CloseBrace) more_placings more_placings_take no_section

repeated_leaves : {S : Type 0} (last : Want) (one : S → List Token → Reading S) → ((s : S) (ts : List Token) → Takes (length ts) (one s ts))
    → (n : ℕ) (s : S) (ts : List Token) → Leaves (length ts) (repeated last one n s ts)
unfolding repeated
repeated_leaves last one takes zero s ts = omega arith
repeated_leaves last one takes (suc n) s ts =
    let same : length ts ≤ length ts = omega arith in
    chosen (λ x. length x.1 ≤ length ts) (begins last ts) _ _ same
    (bound (λ x. length x.1 < length ts) _ (one s ts) _ (takes s ts) (λ next h. wider (λ x. length x.1 ≤ length next.1) _ (repeated last one n next.0 next.1) (λ x i. omega arith) (repeated_leaves last one takes n next.0 next.1)))

up_to_takes : {S : Type 0} (last : Want) (one : S → List Token → Reading S) → ((s : S) (ts : List Token) → Takes (length ts) (one s ts))
    → (s : S) (ts : List Token) → Takes (length ts) (up_to last one s ts)
up_to_takes last one takes s ts =
    bound (λ x. length x.1 ≤ length ts) _ (repeated last one (length ts) s ts) _ (repeated_leaves last one takes (length ts) s ts) (λ all h.
    bound (λ x. length x.1 < length all.1) _ (wanted last all.1) _ (one_taken last all.1) (λ end i. omega arith))

memory_taken : (ts : List Token) → Takes (length ts) (memory_at ts)
unfolding memory_at
memory_taken ts =
    bound (λ x. length x.1 < length ts) _ (wanted (want.Sign sign.OpenBrace) ts) _ (one_taken (want.Sign sign.OpenBrace) ts) (λ brace h.
    bound (λ x. length x.1 < length brace.1) _ (up_to (want.Sign sign.CloseBrace) more_ranges (0, []) brace.1) _
    (up_to_takes (want.Sign sign.CloseBrace) more_ranges more_ranges_take (0, []) brace.1) (λ ranges i. omega arith))

sections_taken : (ts : List Token) → Takes (length ts) (sections_at ts)
unfolding sections_at
sections_taken ts =
    bound (λ x. length x.1 < length ts) _ (wanted (want.Sign sign.OpenBrace) ts) _ (one_taken (want.Sign sign.OpenBrace) ts) (λ brace h.
    wider (λ x. length x.1 < length brace.1) _ (up_to (want.Sign sign.CloseBrace) more_placings [] brace.1) (λ x i. omega arith)
    (up_to_takes (want.Sign sign.CloseBrace) more_placings more_placings_take [] brace.1))

entry_taken : (command : CommandData) (ts : List Token) → Takes (length ts) (entry_in command ts)
unfolding entry_in
entry_taken command ts =
    bound (λ x. length x.1 < length ts) _ (wanted want.Name ts) _ (one_taken want.Name ts) (λ word h.
    after _ (fault_if (not (bytes_eq word.0.text (codes "-e"))) Syntax ts) _ (λ option. after _ (fault_if (is_some command.entry) Twice ts) _ (λ fresh.
    bound (λ x. length x.1 < length word.1) _ (wanted want.Name word.1) _ (one_taken want.Name word.1) (λ name i. omega arith))))

memory_part_taken : (command : CommandData) (ts : List Token) → Takes (length ts) (memory_in command ts)
unfolding memory_in
memory_part_taken command ts =
    after _ (fault_if (is_some command.memory) Twice ts) _ (λ fresh.
    bound (λ x. length x.1 < length (drop 1 ts)) _ (memory_at (drop 1 ts)) _ (memory_taken (drop 1 ts)) (λ ranges h. omega (arith, length-drop 1 ts)))

sections_part_taken : (command : CommandData) (ts : List Token) → Takes (length ts) (sections_in command ts)
unfolding sections_in
sections_part_taken command ts =
    after _ (fault_if (is_some command.sections) Twice ts) _ (λ fresh.
    bound (λ x. length x.1 < length (drop 1 ts)) _ (sections_at (drop 1 ts)) _ (sections_taken (drop 1 ts)) (λ placings h. omega (arith, length-drop 1 ts)))

part_taken : (command : CommandData) (ts : List Token) → Takes (length ts) (part_in command ts)
unfolding part_in
part_taken command ts =
    chosen (λ x. length x.1 < length ts) (begins (want.Keyword keyword.Memory) ts) _ _ (memory_part_taken command ts)
    (chosen (λ x. length x.1 < length ts) (begins (want.Keyword keyword.Sections) ts) _ _ (sections_part_taken command ts) (entry_taken command ts))

no_part : (command : CommandData) → part_in command [] ≡ Err (fault_at Syntax [])
unfolding part_in entry_in wanted
no_part command = refl

pub parts_counted : CountIsEnough want.End part_in
parts_counted = count_is_enough want.End part_in part_taken no_part
