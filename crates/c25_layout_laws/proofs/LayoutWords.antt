-- The program of the texts of a layout has its words and its marks.
use Rattle.std.proofs.Common.{◌≡◌, ℕ, suc, ◌+◌, ◌*◌, ◌<◌, ◌≤◌, List, [], ◌∷◌, ◌++◌, length, map, codes, Option, Some, None, Ok, refl, sym, ap, ◌∙◌, subst, arith, append_assoc}
use Rattle.std.specs.Prelude.{IfSome, String}
use Rattle.std.specs.List.{All, Contains, slice_get}
use Rattle.std.specs.declared.alloc.Global.{Global}
use Rattle.std.proofs.lemmas.List.{length-append}
use Rattle.c25_layout.specs.Layout.{Follow, item_words, rows_words}
use Rattle.c25_layout.specs.SourceText.{command_text, source_text}
use Rattle.c25_layout.specs.declared.layout.Part.{Part}
use Rattle.c25_layout.specs.declared.layout.Row.{Row}
use Rattle.c25_linking_laws.proofs.Members.{behind_in, first_in}
use Rattle.c25_meaning_assembly.specs.Emission.{section_of}
use Rattle.c25_meaning_assembly.specs.ModuleOfSource.{Assembled, assembled}
use Rattle.c25_meaning_assembly.specs.Sections.{Progress, Section}
use Rattle.c25_meaning_expansion.specs.Files.{Files, text_named}
use Rattle.c25_meaning_linking.specs.Command.{CommandData}
use Rattle.c25_meaning_linking.specs.CommandText.{command_of}
use Rattle.c25_meaning_linking.specs.GoodMap.{ArePlaced, IsGoodMap, ranges_for, requests}
use Rattle.c25_meaning_linking.specs.Linking.{ImageData, IsProgram}
use Rattle.c25_meaning_linking.specs.Place.{Place}
use Rattle.c25_meaning_objects.specs.Module.{Contents, SectionData}
use Rattle.c25_module_laws.proofs.Emitted.{Made, filled_from}
use Rattle.c25_laws.proofs.StatementsUnder.{ComesFrom, comes_from}
use Rattle.c25_laws.specs.ProgramStatements.{AreMarksOf, AreModulesOf, lines_in, lines_of, program_statements}
use Rattle.c25_laws.specs.SourceWords.{HasSourceWords}
use Rattle.c25_layout_laws.proofs.CommandRead.{AllFit, command_read}
use Rattle.c25_layout_laws.proofs.CommandTokens.{RunFits}
use Rattle.c25_layout_laws.proofs.PartLines as parts_of
use Rattle.c25_layout_laws.proofs.PartLines.{PartsRead, parts_are_read, parts_lines, parts_statements, row_lines, rows_lines, source_text_is}
use Rattle.c25_layout_laws.proofs.PartsDone.{all_items, all_names, all_pass, all_sections, begun, parts_done, sections_of}
use Rattle.c25_layout_laws.proofs.PartsMarks.{marks_are}
use Rattle.c25_layout_laws.proofs.PartsPlaced.{stands_at}
use Rattle.c25_layout_laws.proofs.PartsWords.{EachPart, EachRow, EachStands, each_part, no_store, parts_read, words_are}
use Rattle.c25_layout_laws.proofs.PlainSources.{source_passes}
use Rattle.c25_layout_laws.proofs.Tracked.{Tracks}
use Rattle.c25_layout.specs.Layouts.{IsLayout, address_of}
use Rattle.c25_layout_laws.specs.Layouts.{HasMarksOf, HasWordsOf, IsEmpty}
use Rattle.c25_layout_laws.specs.Listed.{command_for, placing_of}
use Rattle.c25_layout_laws.specs.Listed as listed

-- ---- how many lines there are

load_few : (r : Row) → length (row_lines r) ≤ 2
load_few r = go r.load_label
  where
    go : (l : Option (String Global)) → length (parts_of.load_lines l ++ parts_of.main_line r ∷ []) ≤ 2
    go None = omega arith
    go (Some text) = omega arith

rows_few : (value : List ℕ → Option ℕ) (rows : List Row) → EachRow value rows → length (rows_lines rows) ≤ 2 * length (rows_words rows)
rows_few value [] h = omega arith
rows_few value (r ∷ rows) h =
    let lines = length-append (row_lines r) (rows_lines rows) in
    let words = length-append (item_words r.item) (rows_words rows) in
    let few = load_few r in
    let some = (h.0).some in
    let rest = rows_few value rows h.1 in
    omega (arith, lines, words, few, some, rest)

pub parts_few : (value : List ℕ → Option ℕ) (from : ℕ) (parts : List Part) → EachPart value parts → Follow from parts → from ≤ 65536 → length (parts_lines parts) + 3 * from ≤ 3 * 65536
parts_few value from [] h follow low = omega (arith, low)
parts_few value from (p ∷ parts) h (least, some, inside, follow) low =
    let next = p.address + length (rows_words p.rows.items) in
    let lines = length-append (parts_of.part_lines p) (parts_lines parts) in
    let own = rows_few value p.rows.items h.0 in
    let rest = parts_few value next parts h.1 follow inside in
    omega (arith, lines, own, rest, least, some)

-- ---- addresses

fit_of : (from : ℕ) (parts : List Part) → Follow from parts → All (λ (p : Part). IfSome p.run (λ run. run < 65536)) parts → AllFit parts
fit_of from [] follow runs = tt
fit_of from (p ∷ parts) (least, some, inside, follow) runs = (
  omega (arith, some, inside),
  go p.run (runs 0 p (omega arith)),
  fit_of (p.address + length (rows_words p.rows.items)) parts follow (λ k d lt. runs (suc k) d (omega (arith, lt))),
)
  where
    go : (o : Option ℕ) → IfSome o (λ run. run < 65536) → RunFits o
    go None h = tt
    go (Some run) h = h

pub layout_command : (parts : List Part) → IsLayout parts → command_of (command_text parts) ≡ Ok (command_for parts)
layout_command parts layout = command_read parts layout.follow (fit_of 0 parts layout.follow layout.runs)

-- ---- the sections of the module

names_kept : (k : ℕ) (ss : List Section) (ms : List Made) → map (λ (s : SectionData). s.name) (map section_of (filled_from k ss ms)) ≡ map (λ (s : Section). s.name) ss
names_kept k [] ms = refl
names_kept k (s ∷ ss) ms = ap (λ (ns : List (List ℕ)). s.name ∷ ns) (names_kept (suc k) ss ms)

got_at : {X : Type 0} (before : List X) (x : X) (after : List X) (k : ℕ) → length before ≡ k → slice_get (before ++ x ∷ after) k ≡ Some x
got_at before x after k e = subst (λ (n : ℕ). slice_get (before ++ x ∷ after) n ≡ Some x) e (go before)
  where
    go : (before : List _) → slice_get (before ++ x ∷ after) (length before) ≡ Some x
    go [] = refl
    go (y ∷ before) = go before

module _ (parts : List Part) (follow : Follow 0 parts) (m : Contents) (command : CommandData) (places : List Place) (good_map : IsGoodMap (m ∷ []) command places) (command_is : command ≡ command_for parts) (sections : map (λ (s : SectionData). s.name) m.sections ≡ codes ".text" ∷ sections_of parts) where
  good : ArePlaced (ranges_for (command_for parts)) (requests (m ∷ []) (map placing_of parts)) places
  good = subst (λ (c : CommandData). IsGoodMap (m ∷ []) c places) command_is good_map

  pub each_stands : (k : ℕ) (before : List (List ℕ)) (ps : List Part) → length before ≡ k → codes ".text" ∷ sections_of parts ≡ before ++ sections_of ps → ((q : Part) → Contains ps q → Contains parts q) → EachStands places m k ps
  each_stands k before [] count are within = tt
  each_stands k before (q ∷ ps) count are within = (
    stands_at parts follow m (ranges_for (command_for parts)) places good k q (within q (first_in q ps)) (ap (λ (ns : List (List ℕ)). slice_get ns k) (sections ∙ are) ∙ got_at before (listed.section_of q.address) (sections_of ps) k count),
    each_stands (k + 1) (before ++ listed.section_of q.address ∷ []) ps (let more = length-append before (listed.section_of q.address ∷ []) in omega (arith, more, count))
        (are ∙ sym (append_assoc before (listed.section_of q.address ∷ []) (sections_of ps))) (λ r c. within r (behind_in q r ps c)),
  )

-- ---- the program

-- what laws say of sources and programs
pub record Laws : Type 0 where
  pub sources : (files : Files) (name : List ℕ) (a : Assembled) → assembled files name ≡ Ok a → lines_of files name ≡ Ok (lines_in files name)
  pub marks : (files : Files) (names : List (List ℕ)) (modules : List Contents) (command : CommandData) (image : ImageData) → AreModulesOf files names modules → (p : IsProgram modules command image)
      → AreMarksOf (program_statements files names modules p.places) image.marks image.run_marks
  pub pages : (files : Files) (names : List (List ℕ)) (modules : List Contents) (command : CommandData) (image : ImageData) → AreModulesOf files names modules → (p : IsProgram modules command image)
      → HasSourceWords files names modules p.places 0 image.program × HasSourceWords files names modules p.places 1 image.store

one_module : (laws : Laws) (files : Files) (name : List ℕ) (parts : List Part) (m : Contents) (command : CommandData) (image : ImageData) → text_named files name ≡ Some (source_text parts) → IsLayout parts
    → AreModulesOf files (name ∷ []) (m ∷ []) → command_of (command_text parts) ≡ Ok command → IsProgram (m ∷ []) command image → HasWordsOf parts image.program × IsEmpty image.store × HasMarksOf parts image.marks image.run_marks
one_module laws files name parts m command image there layout of read p =
    let a = (of.0).0 in
    let made = (of.0).1 in
    let e = each_part (address_of parts) parts layout.rows in
    let x = parts_read (address_of parts) parts e in
    let few = parts_few (address_of parts) 0 parts e layout.follow (omega arith) in
    let passes = source_passes files name (parts_lines parts) (parts_statements parts x) (lines_in files name) (there ∙ ap Some (sym (source_text_is parts))) (parts_are_read parts x) (omega (arith, few)) (laws.sources files name a made) in
    let tracks : Tracks (lines_in files name) (parts_done parts x begun) = all_pass parts x (lines_in files name) layout.follow passes in
    let from : ComesFrom files name m = subst (ComesFrom files name) (of.0).2 (comes_from files name a made) in
    let sections : map (λ (s : SectionData). s.name) m.sections ≡ codes ".text" ∷ sections_of parts =
    ap (λ (c : Contents). map (λ (s : SectionData). s.name) c.sections) from.module_is ∙ names_kept 0 (from.progress).sections from.made ∙ ap (λ (q : Progress). map (λ (s : Section). s.name) q.sections) (sym from.lines_are) ∙ tracks.sections ∙ all_sections parts x in
    let command_is : command ≡ command_for parts = let own = layout_command parts layout in cc in
    let stands = each_stands parts layout.follow m command p.places p.good command_is sections 1 (codes ".text" ∷ []) parts refl refl (λ q c. c) in
    let items = tracks.items ∙ all_items parts x in (
      words_are p.places m files name parts e (tracks.names ∙ all_names parts x) items stands image.program (laws.pages files (name ∷ []) (m ∷ []) command image of p).0,
      no_store p.places m files name parts e (tracks.names ∙ all_names parts x) items stands image.program (laws.pages files (name ∷ []) (m ∷ []) command image of p).0 image.store (laws.pages files (name ∷ []) (m ∷ []) command image of p).1,
      marks_are files name m p.places parts x image.marks image.run_marks items stands (laws.marks files (name ∷ []) (m ∷ []) command image of p),
    )

pub layout_words : Laws → (files : Files) (name : List ℕ) (parts : List Part) (modules : List Contents) (command : CommandData) (image : ImageData) → text_named files name ≡ Some (source_text parts) → IsLayout parts
    → AreModulesOf files (name ∷ []) modules → command_of (command_text parts) ≡ Ok command → IsProgram modules command image → HasWordsOf parts image.program × IsEmpty image.store × HasMarksOf parts image.marks image.run_marks
layout_words laws files name parts [] command image there layout of read p = absurd of
layout_words laws files name parts (m ∷ []) command image there layout of read p = one_module laws files name parts m command image there layout of read p
layout_words laws files name parts (m ∷ other ∷ more) command image there layout of read p = absurd of.1
