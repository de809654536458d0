-- What is written is read back, and what begins it is not read.
use Rattle.std.proofs.Common.{◌≡◌, ◌≢◌, ℕ, ◌+◌, ◌*◌, false, List, [], ◌∷◌, ◌++◌, sym, ap, ◌∙◌}
use Rattle.std.specs.Ordering.{nat_cmp}
use Rattle.std.specs.FinMap as map
use Rattle.std.specs.Cmp.{nat_cmp_total}
use Rattle.std.specs.FinMap.{same_map, nat_cmp-IsAntisymmetric}
use Rattle.c25_hex.specs.Hex.{start, after_lines, word_of, SpellsWords}
use Rattle.c25_hex.specs.HexText.{stretches, lines_on, written}
use Rattle.c25_meaning_image.specs.WordMap.{IsWordMap}
use Rattle.c25_hex.proofs.Ascending.{word_map_ascends}
use Rattle.c25_hex.proofs.Cuts.{cut_text, lines_without_last, nothing_behind}
use Rattle.c25_hex.proofs.Held.{word_held}
use Rattle.c25_hex.proofs.Stretches.{written_reads}
use Rattle.c25_hex.proofs.Texts.{lines_back, goes_to}

-- the text that is written for words spells these words
pub read_back : (words : map.FinMap nat_cmp ℕ) → IsWordMap words → SpellsWords (written words) words
read_back words inside =
    let all = lines_on false (stretches (map.entries words)) in
    let reads = written_reads (map.entries words) (word_map_ascends words inside) in (
      reads.last.bytes,
      ap (λ (ls : List (List ℕ)). after_lines 0 start ls) (lines_back start reads.last all reads.goes) ∙ goes_to 0 start reads.last all reads.goes reads.ended,
      λ a. map.get-entries words a ∙ sym (word_held reads.last.bytes (map.entries words) a reads.holds),
    )

-- what begins a written text spells no words, the text without its last LF aside
pub cut_spells_none : (words other : map.FinMap nat_cmp ℕ) (front rest : List ℕ) → IsWordMap words → written words ≡ front ++ rest → rest ≢ [] → rest ≢ 10 ∷ [] → ¬ (SpellsWords front other)
cut_spells_none words other front rest inside joined some more spelled =
    let reads = written_reads (map.entries words) (word_map_ascends words inside) in
    cut_text 0 start reads.last (lines_on false (stretches (map.entries words))) front rest spelled.0 reads.goes (sym joined) some more spelled.1

-- the text without its last LF spells the same words
pub without_last : (words : map.FinMap nat_cmp ℕ) (front : List ℕ) → IsWordMap words → written words ≡ front ++ 10 ∷ [] → SpellsWords front words
without_last words front inside joined =
    let all = lines_on false (stretches (map.entries words)) in
    let reads = written_reads (map.entries words) (word_map_ascends words inside) in
    let some : written words ≢ [] = λ none. nothing_behind front (sym joined ∙ none) in
    let whole = read_back words inside in (
      whole.0,
      ap (λ (ls : List (List ℕ)). after_lines 0 start ls) (lines_without_last start reads.last all front reads.goes (sym joined) some ∙ sym (lines_back start reads.last all reads.goes)) ∙ whole.1,
      whole.2,
    )

-- one text spells no two maps of words
pub same_words : (text : List ℕ) (words other : map.FinMap nat_cmp ℕ) → SpellsWords text words → SpellsWords text other → words ≡ other
same_words text words other one two =
    let given : one.0 ≡ two.0 = cc (one.1, two.1) in
    same_map nat_cmp_total nat_cmp-IsAntisymmetric words other
    (λ a. one.2 a ∙ ap (λ (bytes : map.FinMap nat_cmp ℕ). word_of (map.get bytes (2 * a)) (map.get bytes (2 * a + 1))) given ∙ sym (two.2 a))
