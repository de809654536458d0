-- What a command that a text spells keeps.
use Rattle.std.proofs.Common.{◌≡◌, ℕ, zero, suc, ◌+◌, ◌<◌, ◌≤◌, ◌==◌, ◌||◌, not, arith, Bool, true, false, List, [], ◌∷◌, ◌++◌, length, drop, is_some, Result, Ok, Err, refl, subst, nat_lt}
use Rattle.std.specs.Prelude.{IfOk, IfSome, codes, All}
use Rattle.std.specs.List.{list_any}
use Rattle.std.specs.Str.{bytes_eq}
use Rattle.std.proofs.lemmas.Bool.Decides.{nat_tests}
use Rattle.std.proofs.lemmas.List.Elements.{All-nil, All-cons, All-head, All-tail, All-push}
use Rattle.std.proofs.lemmas.Slice.Eq.{bytes_eq-Decides}
use Rattle.c25_meaning_linking.specs.declared.command_token.Sign.TheVariants as sign
use Rattle.c25_meaning_linking.specs.declared.command_token.Keyword.TheVariants as keyword
use Rattle.c25_meaning_linking.specs.declared.command_token.Want.{Want}
use Rattle.c25_meaning_linking.specs.declared.command_token.Want.TheVariants as want
use Rattle.c25_meaning_linking.specs.declared.command_fault.CommandFault.{CommandFault}
use Rattle.c25_meaning_linking.specs.declared.command_fault.CommandFault.TheVariants.{Syntax, Twice, RangeSize, RangeOverlap}
use Rattle.c25_meaning_common.specs.declared.placed.Placed.{Placed}
use Rattle.c25_meaning_linking.specs.Command.{RangeData, IsRange, PlacingData, CommandData, HasWord, AreApart, AreOthers, Pairwise, IsCommand, nothing}
use Rattle.c25_meaning_linking.specs.CommandTokens.{Token, tokens}
use Rattle.c25_meaning_linking.specs.CommandGrammar.{Reading, fault_if, begins, wanted, past, repeated, up_to, number_at, page_number_at, setting_at}
use Rattle.c25_meaning_linking.specs.CommandMemory.{page_at, attributes_at, is_range, overlaps, extent_at, range_at, Ranges, more_ranges, memory_at}
use Rattle.c25_meaning_linking.specs.CommandSections.{contents_at, target_at, section_page_at, run_at, placing_at, is_placing, more_placings, sections_at}
use Rattle.c25_meaning_linking.specs.CommandText.{entry_in, memory_in, sections_in, part_in, command_at, command_of}
use Rattle.c25_meaning_common.specs.Results.{told}
use Rattle.c25_cmd.proofs.Steps.{bound, after, chosen}

-- ---- lists

pairs_push : {A : Type 0} (holds : A → A → Type 0) (xs : List A) (y : A) → Pairwise holds xs → All (λ x. holds x y) xs → Pairwise holds (xs ++ y ∷ [])
pairs_push holds [] y pairs with_y = (All-nil (holds y), tt)
pairs_push holds (x ∷ xs) y pairs with_y =
    (All-push (holds x) xs y pairs.0 (All-head (λ z. holds z y) x xs with_y), pairs_push holds xs y pairs.1 (All-tail (λ z. holds z y) x xs with_y))

-- where no element passes a test, each has what follows from that
none_passes : {A : Type 0} (p : A → Bool) (P : A → Type 0) (xs : List A) → ((x : A) → p x ≡ false → P x) → list_any p xs ≡ false → All P xs
none_passes p P [] each h = All-nil P
none_passes p P (x ∷ xs) each h =
    let parts = either_false (p x) (list_any p xs) h in
    All-cons P x xs (each x parts.0) (none_passes p P xs each parts.1)
  where
    either_false : (a b : Bool) → (a || b) ≡ false → (a ≡ false) × (b ≡ false)
    either_false true b h = absurd cc
    either_false false b h = (refl, h)

both : {A : Type 0} (P Q R : A → Type 0) (xs : List A) → ((x : A) → P x → Q x → R x) → All P xs → All Q xs → All R xs
both P Q R xs more h k = λ i d l. more _ (h i d l) (k i d l)

-- ---- single steps

-- where no fault is reported, the test fails
test_fails : (b : Bool) (fault : CommandFault) (ts : List Token) → IfOk (fault_if b fault ts) (λ _. b ≡ false)
test_fails true fault ts = tt
test_fails false fault ts = refl

page_low : (ts : List Token) → IfOk (page_number_at ts) (λ x. x.0 ≤ 1)
unfolding page_number_at
page_low ts =
    after _ (number_at ts) _ (λ n. bound (λ _. nat_lt 1 n.0 ≡ false) _ (fault_if (nat_lt 1 n.0) Syntax ts) _ (test_fails (nat_lt 1 n.0) Syntax ts) (λ _ h. low n.0 h))
  where
    low : (n : ℕ) → nat_lt 1 n ≡ false → n ≤ 1
    low n h = grind (arith, nat_tests)

kept_by : {S : Type 0} (P : S → Type 0) (last : Want) (one : S → List Token → Reading S) → ((s : S) (ts : List Token) → P s → IfOk (one s ts) (λ x. P x.0))
    → (n : ℕ) (s : S) (ts : List Token) → P s → IfOk (repeated last one n s ts) (λ x. P x.0)
unfolding repeated
kept_by P last one keeps zero s ts h = h
kept_by P last one keeps (suc n) s ts h =
    chosen (λ x. P x.0) (begins last ts) _ _ h
    (bound (λ x. P x.0) _ (one s ts) _ (keeps s ts h) (λ next k. kept_by P last one keeps n next.0 next.1 k))

up_to_keeps : {S : Type 0} (P : S → Type 0) (last : Want) (one : S → List Token → Reading S) → ((s : S) (ts : List Token) → P s → IfOk (one s ts) (λ x. P x.0))
    → (s : S) (ts : List Token) → P s → IfOk (up_to last one s ts) (λ x. P x.0)
up_to_keeps P last one keeps s ts h =
    bound (λ x. P x.0) _ (repeated last one (length ts) s ts) _ (kept_by P last one keeps (length ts) s ts h) (λ all k. after _ (wanted last all.1) _ (λ end. k))

-- ---- ranges

record AreRanges (rs : List RangeData) : Type 0 where
  each : All IsRange rs
  apart : Pairwise AreApart rs

-- what is known of a range's place after others
record Fits (page : ℕ) (before : List RangeData) (origin size : ℕ) : Type 0 where
  words : 0 < size
  within : origin + size ≤ 65536
  free : list_any (overlaps page origin size) before ≡ false

extent_fits : (page : ℕ) (before : List RangeData) (ts : List Token) → IfOk (extent_at page before ts) (λ x. Fits page before x.0.0 x.0.1)
unfolding extent_at
extent_fits page before ts =
    after _ (setting_at keyword.Origin ts) _ (λ start.
    after _ (number_at start) _ (λ origin.
    after _ (setting_at keyword.Length (past (want.Sign sign.Comma) origin.1)) _ (λ count.
    after _ (number_at count) _ (λ size.
    bound (λ _. (size.0 == 0 || nat_lt 65536 (origin.0 + size.0)) ≡ false) _ (fault_if (size.0 == 0 || nat_lt 65536 (origin.0 + size.0)) RangeSize count) _ (test_fails (size.0 == 0 || nat_lt 65536 (origin.0 + size.0)) RangeSize count) (λ _ sized.
    bound (λ _. list_any (overlaps page origin.0 size.0) before ≡ false) _ (fault_if (list_any (overlaps page origin.0 size.0) before) RangeOverlap count) _ (test_fails (list_any (overlaps page origin.0 size.0) before) RangeOverlap count) (λ _ free.
    fitting origin.0 size.0 sized free))))))
  where
    some : (origin size : ℕ) → (size == 0 || nat_lt 65536 (origin + size)) ≡ false → 0 < size
    some origin size h = grind (arith, nat_tests)

    ends : (origin size : ℕ) → (size == 0 || nat_lt 65536 (origin + size)) ≡ false → origin + size ≤ 65536
    ends origin size h = grind (arith, nat_tests)

    fitting : (origin size : ℕ) → (size == 0 || nat_lt 65536 (origin + size)) ≡ false → list_any (overlaps page origin size) before ≡ false → Fits page before origin size
    fitting origin size sized free = record { words = some origin size sized; within = ends origin size sized; free = free }

same_name : (a b : List ℕ) → a ≡ b → bytes_eq a b ≡ true
same_name a b h = grind (arith, bytes_eq-Decides)

-- a range whose name and words are no earlier one's
apart_from : (r new : RangeData) → is_range new.page new.name r ≡ false → overlaps new.page new.origin new.size r ≡ false → AreApart r new
apart_from r new other free = record {
  names = λ page name. named (same_name r.name new.name name) page;
  words = λ page word here there. shared page word here there;
}
  where
    named : bytes_eq r.name new.name ≡ true → r.page ≡ new.page → ⊥
    named e page = grind (arith, nat_tests)

    shared : r.page ≡ new.page → (word : ℕ) → HasWord r word → HasWord new word → ⊥
    shared page word here there = grind (arith, nat_tests)

range_more : (page : ℕ) (before : List RangeData) (name : List ℕ) (origin size : ℕ) → page ≤ 1 → AreRanges before → list_any (is_range page name) before ≡ false
    → Fits page before origin size → AreRanges (before ++ record { page = page; name = name; origin = origin; size = size } ∷ [])
range_more page before name origin size low ranges fresh fits =
    let new : RangeData = record { page = page; name = name; origin = origin; size = size } in
    record {
      each = All-push IsRange before new ranges.each (record { page = low; words = fits.words; within = fits.within });
      apart = pairs_push AreApart before new ranges.apart (both (λ r. is_range page name r ≡ false) (λ r. overlaps page origin size r ≡ false) (λ r. AreApart r new) before
          (λ r other free. apart_from r new other free)
          (none_passes (is_range page name) (λ r. is_range page name r ≡ false) before (λ r h. h) fresh)
          (none_passes (overlaps page origin size) (λ r. overlaps page origin size r ≡ false) before (λ r h. h) fits.free));
    }

range_kept : (page : ℕ) (before : List RangeData) (ts : List Token) → page ≤ 1 → AreRanges before → IfOk (range_at page before ts) (λ x. AreRanges (before ++ x.0 ∷ []))
unfolding range_at
range_kept page before ts low ranges =
    after _ (wanted want.Name ts) _ (λ name.
    bound (λ _. list_any (is_range page name.0.text) before ≡ false) _ (fault_if (list_any (is_range page name.0.text) before) Twice ts) _ (test_fails (list_any (is_range page name.0.text) before) Twice ts) (λ _ fresh.
    after _ (attributes_at name.1) _ (λ rest.
    after _ (wanted (want.Sign sign.Colon) rest) _ (λ colon.
    bound (λ x. Fits page before x.0.0 x.0.1) _ (extent_at page before colon.1) _ (extent_fits page before colon.1) (λ extent fits.
    range_more page before name.0.text extent.0.0 extent.0.1 low ranges fresh fits)))))

page_kept : (page : ℕ) (ts : List Token) → page ≤ 1 → IfOk (page_at page ts) (λ x. x.0 ≤ 1)
unfolding page_at
page_kept page ts low =
    chosen (λ x. x.0 ≤ 1) (begins (want.Keyword keyword.Page) ts) _ _
    (bound (λ x. x.0 ≤ 1) _ (page_number_at (drop 1 ts)) _ (page_low (drop 1 ts)) (λ n h. after _ (wanted (want.Sign sign.Colon) n.1) _ (λ colon. h)))
    low

-- the page and the ranges so far
record Kept (s : Ranges) : Type 0 where
  page : s.0 ≤ 1
  ranges : AreRanges s.1

ranges_kept : (s : Ranges) (ts : List Token) → Kept s → IfOk (more_ranges s ts) (λ x. Kept x.0)
unfolding more_ranges
ranges_kept s ts kept =
    bound (λ x. x.0 ≤ 1) _ (page_at s.0 ts) _ (page_kept s.0 ts kept.page) (λ page low.
    bound (λ x. AreRanges (s.1 ++ x.0 ∷ [])) _ (range_at page.0 s.1 page.1) _ (range_kept page.0 s.1 page.1 low kept.ranges) (λ range ranges.
    record { page = low; ranges = ranges }))

memory_kept : (ts : List Token) → IfOk (memory_at ts) (λ x. AreRanges x.0)
unfolding memory_at
memory_kept ts =
    after _ (wanted (want.Sign sign.OpenBrace) ts) _ (λ brace.
    bound (λ x. Kept x.0) _ (up_to (want.Sign sign.CloseBrace) more_ranges (0, []) brace.1) _
    (up_to_keeps Kept (want.Sign sign.CloseBrace) more_ranges ranges_kept (0, []) brace.1 none) (λ ranges kept. kept.ranges))
  where
    none : Kept (0, [])
    none = record { page = omega arith; ranges = record { each = All-nil IsRange; apart = tt } }

-- ---- sections

abbrev HasPage : PlacingData → Type 0
HasPage p = IfSome p.page (λ n. n ≤ 1)

record AreSections (ps : List PlacingData) : Type 0 where
  apart : Pairwise AreOthers ps
  pages : All HasPage ps

section_page_kept : (ts : List Token) → IfOk (section_page_at ts) (λ x. IfSome x.0 (λ n. n ≤ 1))
unfolding section_page_at
section_page_kept ts =
    chosen (λ x. IfSome x.0 (λ n. n ≤ 1)) (begins (want.Keyword keyword.Page) ts) _ _
    (bound (λ x. x.0 ≤ 1) _ (page_number_at (drop 1 ts)) _ (page_low (drop 1 ts)) (λ n h. h))
    tt

-- a section that is read has the name that stands before it, and a page if one is named
record IsSection (name : List ℕ) (p : PlacingData) : Type 0 where
  named : p.name ≡ name
  page : HasPage p

placing_kept : (name : List ℕ) (ts : List Token) → IfOk (placing_at name ts) (λ x. IsSection name x.0)
unfolding placing_at
placing_kept name ts =
    after _ (contents_at name ts) _ (λ rest.
    after _ (target_at rest) _ (λ target.
    bound (λ x. IfSome x.0 (λ n. n ≤ 1)) _ (section_page_at target.1) _ (section_page_kept target.1) (λ page h.
    after _ (run_at (past (want.Sign sign.Comma) page.1)) _ (λ run.
    record { named = refl; page = h }))))

other_section : (name : List ℕ) (p new : PlacingData) → new.name ≡ name → is_placing name p ≡ false → AreOthers p new
other_section name p new named h same = let e : p.name ≡ name = cc in let found = same_name p.name name e in absurd cc

section_more : (name : List ℕ) (before : List PlacingData) (new : PlacingData) → AreSections before → list_any (is_placing name) before ≡ false → IsSection name new
    → AreSections (before ++ new ∷ [])
section_more name before new sections fresh is = record {
  apart = pairs_push AreOthers before new sections.apart (none_passes (is_placing name) (λ p. AreOthers p new) before (λ p h. other_section name p new is.named h) fresh);
  pages = All-push HasPage before new sections.pages is.page;
}

placings_kept : (before : List PlacingData) (ts : List Token) → AreSections before → IfOk (more_placings before ts) (λ x. AreSections x.0)
unfolding more_placings
placings_kept before ts sections =
    after _ (wanted want.Name ts) _ (λ name.
    bound (λ _. list_any (is_placing name.0.text) before ≡ false) _ (fault_if (list_any (is_placing name.0.text) before) Twice ts) _ (test_fails (list_any (is_placing name.0.text) before) Twice ts) (λ _ fresh.
    after _ (wanted (want.Sign sign.Colon) name.1) _ (λ colon.
    bound (λ x. IsSection name.0.text x.0) _ (placing_at name.0.text colon.1) _ (placing_kept name.0.text colon.1) (λ placing is.
    section_more name.0.text before placing.0 sections fresh is))))

sections_kept : (ts : List Token) → IfOk (sections_at ts) (λ x. AreSections x.0)
unfolding sections_at
sections_kept ts =
    after _ (wanted (want.Sign sign.OpenBrace) ts) _ (λ brace.
    up_to_keeps AreSections (want.Sign sign.CloseBrace) more_placings placings_kept [] brace.1 (record { apart = tt; pages = All-nil HasPage }))

-- ---- commands

entry_kept : (command : CommandData) (ts : List Token) → IsCommand command → IfOk (entry_in command ts) (λ x. IsCommand x.0)
unfolding entry_in
entry_kept command ts kept =
    after _ (wanted want.Name ts) _ (λ word.
    after _ (fault_if (not (bytes_eq word.0.text (codes "-e"))) Syntax ts) _ (λ option.
    after _ (fault_if (is_some command.entry) Twice ts) _ (λ fresh.
    after _ (wanted want.Name word.1) _ (λ name.
    record { ranges = kept.ranges; apart = kept.apart; sections = kept.sections; pages = kept.pages }))))

memory_part_kept : (command : CommandData) (ts : List Token) → IsCommand command → IfOk (memory_in command ts) (λ x. IsCommand x.0)
unfolding memory_in
memory_part_kept command ts kept =
    after _ (fault_if (is_some command.memory) Twice ts) _ (λ fresh.
    bound (λ x. AreRanges x.0) _ (memory_at (drop 1 ts)) _ (memory_kept (drop 1 ts)) (λ ranges h.
    record { ranges = h.each; apart = h.apart; sections = kept.sections; pages = kept.pages }))

sections_part_kept : (command : CommandData) (ts : List Token) → IsCommand command → IfOk (sections_in command ts) (λ x. IsCommand x.0)
unfolding sections_in
sections_part_kept command ts kept =
    after _ (fault_if (is_some command.sections) Twice ts) _ (λ fresh.
    bound (λ x. AreSections x.0) _ (sections_at (drop 1 ts)) _ (sections_kept (drop 1 ts)) (λ placings h.
    record { ranges = kept.ranges; apart = kept.apart; sections = h.apart; pages = h.pages }))

part_kept : (command : CommandData) (ts : List Token) → IsCommand command → IfOk (part_in command ts) (λ x. IsCommand x.0)
unfolding part_in
part_kept command ts kept =
    chosen (λ x. IsCommand x.0) (begins (want.Keyword keyword.Memory) ts) _ _ (memory_part_kept command ts kept)
    (chosen (λ x. IsCommand x.0) (begins (want.Keyword keyword.Sections) ts) _ _ (sections_part_kept command ts kept) (entry_kept command ts kept))

command_kept : (ts : List Token) → IfOk (command_at ts) IsCommand
unfolding command_at
command_kept ts =
    bound (λ x. IsCommand x.0) _ (up_to want.End part_in nothing ts) _
    (up_to_keeps IsCommand want.End part_in part_kept nothing ts (record { ranges = tt; apart = tt; sections = tt; pages = tt })) (λ parts kept. kept)

of_text : (as_other : Placed ℕ CommandFault → Placed ℕ CommandFault) (r : Result CommandData (Placed ℕ CommandFault)) (command : CommandData) → IfOk r IsCommand → told as_other r ≡ Ok command → IsCommand command
of_text as_other (Ok found) command kept e = let same : found ≡ command = cc in subst IsCommand same kept
of_text as_other (Err f) command kept e = absurd cc

-- what tokens spell
pub tokens_keep : (ts : List Token) (command : CommandData) → command_at ts ≡ Ok command → IsCommand command
tokens_keep ts command h = subst (λ r. IfOk r IsCommand) h (command_kept ts)

-- what a text spells
pub text_keeps : (text : List ℕ) (command : CommandData) → command_of text ≡ Ok command → IsCommand command
text_keeps text command h = of_text _ (command_at (tokens text)) command (command_kept (tokens text)) h
