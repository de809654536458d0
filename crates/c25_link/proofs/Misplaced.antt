-- The line next to the first mark that passes a test, and where the word of a relocation stands.
use Rattle.std.proofs.Common.{◌≡◌, ℕ, zero, suc, ◌+◌, ◌<◌, ◌≤◌, ◌^◌, Bool, true, false, ◌&&◌, cond, ltb, List, [], ◌∷◌, ◌++◌, length, get_or, take, find, Option, Some, None, refl, sym, ap, ◌∙◌, arith, add-one}
use Rattle.std.specs.List.{slice_get, zip}
use Rattle.std.specs.Option.{option_map, option_map_or}
use Rattle.std.proofs.lemmas.Bool.Decides.{nat_tests}
use Rattle.c25_meaning_linking.specs.Words.{section_base}
use Rattle.c25_meaning_objects.specs.Module.{Contents, Initialised, SectionBody, SectionData, SymbolData, Uninitialised, block_fits, body_size, body_words, each_fits, field_is_clear, file_fits, has_sections, is_module, line_fits, lists_fit, mark_fits, relocation_fits, section_fits, symbol_fits, told_by, words_at}
use Rattle.c25_meaning_objects.specs.declared.object.LineMark.{LineMark}
use Rattle.c25_meaning_objects.specs.declared.object.ModuleMark.{ModuleMark}
use Rattle.c25_meaning_objects.specs.declared.object.Relocation.{Relocation}
use Rattle.c25_meaning_objects.specs.declared.object.Version.{Version}
use Rattle.c25_meaning_linking.specs.Place.{Place, part_base}
use Rattle.c25_link.specs.Bases.{HasRoom}
use Rattle.c25_link.specs.Layout.{AreModules}
use Rattle.c25_link.proofs.Told.{pairs_ended}

-- ---- the line next to a mark

module _ {R : Type 0} (test : ModuleMark → Bool) (g : LineMark → R) where
  passed_over : (t : Bool) (x : ModuleMark × LineMark) (o : Option (ModuleMark × LineMark)) → cond t (Some x) o ≡ None → (t ≡ false) × (o ≡ None)
  passed_over true x o e = absurd cc
  passed_over false x o e = (refl, e)

  pub found_beside : (ms : List ModuleMark) (ls : List LineMark) (i : ℕ) (d : ModuleMark) → i < length ms → find (λ t. test t.0) (take i (zip ms ls)) ≡ None → test (get_or ms i d) ≡ true
      → option_map g (slice_get ls i) ≡ option_map (λ t. g t.1) (find (λ t. test t.0) (zip ms ls))
  found_beside [] ls i d lt before pass = absurd (omega arith)
  found_beside (m ∷ ms) [] i d lt before pass = refl
  found_beside (m ∷ ms) (l ∷ ls) zero d lt before pass = ap (λ b. option_map (λ (t : ModuleMark × LineMark). g t.1) (cond b (Some (m, l)) (find (λ t. test t.0) (zip ms ls)))) (sym pass)
  found_beside (m ∷ ms) (l ∷ ls) (suc i) d lt before pass =
      let over = passed_over (test m) (m, l) (find (λ t. test t.0) (take i (zip ms ls))) before in
      found_beside ms ls i d (omega arith) over.1 pass
      ∙ ap (λ b. option_map (λ (t : ModuleMark × LineMark). g t.1) (cond b (Some (m, l)) (find (λ t. test t.0) (zip ms ls)))) (sym over.0)

  none_after : (ms : List ModuleMark) (ls : List LineMark) (i : ℕ) (d : ModuleMark) → i < length ms → find (λ t. test t.0) (take i (zip ms ls)) ≡ None → test (get_or ms i d) ≡ false → find (λ t. test t.0) (take (suc i) (zip ms ls)) ≡ None
  none_after [] ls i d lt before fail = absurd (omega arith)
  none_after (m ∷ ms) [] i d lt before fail = refl
  none_after (m ∷ ms) (l ∷ ls) zero d lt before fail = ap (λ b. cond b (Some (m, l)) (find (λ t. test t.0) (take 0 (zip ms ls)))) fail
  none_after (m ∷ ms) (l ∷ ls) (suc i) d lt before fail =
      let over = passed_over (test m) (m, l) (find (λ t. test t.0) (take i (zip ms ls))) before in
      ap (λ b. cond b (Some (m, l)) (find (λ t. test t.0) (take (suc i) (zip ms ls)))) over.0 ∙ none_after ms ls i d (omega arith) over.1 fail

  pub none_beside : (ms : List ModuleMark) (ls : List LineMark) (i : ℕ) (d : ModuleMark) → i < length ms → find (λ t. test t.0) (take i (zip ms ls)) ≡ None → test (get_or ms i d) ≡ false → find (λ t. test t.0) (take (i + 1) (zip ms ls)) ≡ None
  none_beside ms ls i d lt before fail = ap (λ n. find (λ t. test t.0) (take n (zip ms ls))) (add-one i) ∙ none_after ms ls i d lt before fail

  pub none_beside_any : (ms : List ModuleMark) (ls : List LineMark) (i : ℕ) → length ms ≤ i → find (λ t. test t.0) (take i (zip ms ls)) ≡ None → None ≡ option_map (λ t. g t.1) (find (λ t. test t.0) (zip ms ls))
  none_beside_any ms ls i le none = ap (option_map (λ (t : ModuleMark × LineMark). g t.1)) (sym none ∙ ap (find (λ t. test t.0)) (pairs_ended ms ls i le))

-- ---- the word of a relocation

both : (a b : Bool) → (a && b) ≡ true → (a ≡ true) × (b ≡ true)
both true b h = (refl, h)
both false b h = absurd cc

-- what is asked of a module from a list on
abbrev from_files : Contents → Bool
from_files c = each_fits file_fits [] c.files && (each_fits (line_fits c.marks c.files) [] c.lines && (told_by c.version c && each_fits (block_fits c.sections) [] c.blocks))

abbrev from_relocations : Contents → Bool
from_relocations c = each_fits (relocation_fits c.version c.sections c.symbols) [] c.relocations && from_files c

abbrev from_symbols : Contents → Bool
from_symbols c = each_fits (symbol_fits c.version c.sections) [] c.symbols && from_relocations c

abbrev from_marks : Contents → Bool
from_marks c = each_fits (mark_fits c.sections) [] c.marks && from_symbols c

relocations_of_module : (c : Contents) → is_module c ≡ true → each_fits (relocation_fits c.version c.sections c.symbols) [] c.relocations ≡ true
relocations_of_module c h =
    let lists = (both (has_sections c) (lists_fit c) h).1 in
    let marks = (both (each_fits section_fits [] c.sections) (from_marks c) lists).1 in
    let symbols = (both (each_fits (mark_fits c.sections) [] c.marks) (from_symbols c) marks).1 in
    let relocations = (both (each_fits (symbol_fits c.version c.sections) [] c.symbols) (from_relocations c) symbols).1 in
    (both (each_fits (relocation_fits c.version c.sections c.symbols) [] c.relocations) (from_files c) relocations).0

within_words : (version : Version) (sections : List SectionData) (symbols : List SymbolData) (before : List Relocation) (r : Relocation) → relocation_fits version sections symbols before r ≡ true → r.offset < length (words_at sections r.section)
within_words version sections symbols before r h =
    let clear = both _ (field_is_clear (words_at sections r.section) r) h in
    let inside = both (ltb r.offset (length (words_at sections r.section))) _ clear.1 in
    grind (arith, nat_tests, inside.0)

each_within : (version : Version) (sections : List SectionData) (symbols : List SymbolData) (before rs : List Relocation) (i : ℕ) (d : Relocation) → each_fits (relocation_fits version sections symbols) before rs ≡ true → i < length rs
    → (get_or rs i d).offset < length (words_at sections (get_or rs i d).section)
each_within version sections symbols before [] i d h lt = absurd (omega arith)
each_within version sections symbols before (r ∷ rs) zero d h lt = within_words version sections symbols before r (both _ _ h).0
each_within version sections symbols before (r ∷ rs) (suc i) d h lt = each_within version sections symbols (before ++ r ∷ []) rs i d (both _ _ h).1 (omega arith)

words_fit : (b : SectionBody) → length (body_words b) ≤ body_size b
words_fit (Uninitialised size) = omega arith
words_fit (Initialised words) = omega arith

-- the words of a section, if there is one
abbrev words_of : Option SectionData → List ℕ
words_of o = elim o [ None ↦ [] | Some s ↦ body_words s.body ]

-- it stands in its page
pub word_below : (modules : List Contents) (places : List Place) (number : ℕ) (m : Contents) (i : ℕ) (d : Relocation) → AreModules modules → HasRoom modules places → slice_get modules number ≡ Some m → i < length m.relocations
    → section_base modules places number m (get_or m.relocations i d).section + (get_or m.relocations i d).offset < 2 ^ 16
word_below modules places number m i d are room is lt = by_section (slice_get m.sections r.section) refl where
  r : Relocation
  r = get_or m.relocations i d

  by_section : (o : Option SectionData) → slice_get m.sections r.section ≡ o → section_base modules places number m r.section + r.offset < 2 ^ 16
  by_section None e =
      let none : length (words_at m.sections r.section) ≡ 0 = ap (λ (o : Option SectionData). length (words_of o)) e in
      absurd (omega (arith, none, each_within m.version m.sections m.symbols [] m.relocations i d (relocations_of_module m (are number m is).lists) lt))
  by_section (Some s) e =
      let base : section_base modules places number m r.section ≡ part_base modules places number s.name = ap (λ (o : Option SectionData). option_map_or (λ t. part_base modules places number t.name) o 0) e in
      let words : length (words_at m.sections r.section) ≡ length (body_words s.body) = ap (λ (o : Option SectionData). length (words_of o)) e in
      let inside = each_within m.version m.sections m.symbols [] m.relocations i d (relocations_of_module m (are number m is).lists) lt in
      let upto = (room number r.section m s (record { owner_is = is; section_is = e })).within in
      omega (arith, base, words, inside, upto, words_fit s.body)
