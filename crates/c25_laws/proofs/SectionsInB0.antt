-- Where block B0 holds the words of a section, its statements run there.
use Rattle.std.proofs.Common.{◌≡◌, ℕ, ◌+◌, ◌%◌, ◌^◌, ◌≤◌, Bool, true, false, ◌&&◌, eqb, List, [], ◌∷◌, length, map, filter, Option, Some, IfSome, refl, sym, ap, ◌∙◌, subst, arith, inl, inr}
use Rattle.std.specs.Prelude.{is_some, take, unwrap_or}
use Rattle.std.specs.FinMap as finite
use Rattle.std.specs.List.{Contains, slice_get}
use Rattle.std.specs.Option.{option_map_or}
use Rattle.std.specs.Ordering.{nat_cmp}
use Rattle.std.proofs.lemmas.Bool.{eq-eqb}
use Rattle.std.proofs.lemmas.List.Elements.{All-contains, Contains-append_left}
use Rattle.c25_run_laws.proofs.InB0.{held_runs}
use Rattle.c25_meaning_instructions.proofs.Readings.{one_reading}
use Rattle.c25_meaning_linking.proofs.Parts.{part_in_place}
use Rattle.c25_linking_laws.proofs.Members.{found_in, in_filter, in_front, in_map, in_reversed, nothing_in}
use Rattle.c25_meaning_assembly.specs.InstructionStatements.{Instruction}
use Rattle.c25_meaning_linking.specs.Command.{CommandData, RangeData}
use Rattle.c25_meaning_expansion.specs.Files.{Files}
use Rattle.c25_meaning_instructions.specs.Table.{Reads, size_of, words}
use Rattle.c25_meaning_language.proofs.Numbers.{size_of_form}
use Rattle.c25_meaning_linking.specs.Linking.{ImageData, IsProgram}
use Rattle.c25_meaning_objects.specs.Module.{Contents, Initialised, SectionBody, SectionData, Uninitialised, body_size, body_words}
use Rattle.c25_meaning_linking.specs.GoodMap.{Request, RunsAt, Stand, Stands, placings_for, ranges_for}
use Rattle.c25_meaning_linking.specs.Place.{IsPart, Place, page_of, part_base, part_run, place_named, run_base, runs_elsewhere, size_of_parts}
use Rattle.c25_meaning_processor.specs.State.{World, holds, program_at}
use Rattle.c25_meaning_processor.specs.Statements.{Copied, IsImageOf, loaded_statement, loaded_statements, run_mark_of, standing}
use Rattle.c25_meaning_instructions.specs.declared.insn.Insn.{Insn}
use Rattle.c25_meaning_instructions.specs.declared.insn.Insn.TheVariants as insn
use Rattle.c25_meaning_image.specs.declared.mark.RunMark.{RunMark}
use Rattle.c25_laws.proofs.ProgramMarks.{marks_are}
use Rattle.c25_laws.proofs.ProgramRuns.{reads_same}
use Rattle.c25_laws.proofs.ProgramWords.{each_placed, has_room, words_are}
use Rattle.c25_laws.proofs.RunsInB0.{Lies, lies, marked, one_run, runs_at, some_runs}
use Rattle.c25_laws.proofs.SheetStatements.{operand_numbers, placed_statement}
use Rattle.c25_laws.proofs.SourcesRead.{IsRead}
use Rattle.c25_laws.specs.ProgramStatements.{AreModulesOf, HoldsSection, PlacedStatement, ReadsAs, all_statements, as_copied, program_statements, runs_in_b0}

-- ---- the page of a section that runs elsewhere

stands_on_0 : (ranges : List RangeData) (before : List Place) (r : Request) (p : Place) (run : ℕ) → Stands ranges before r p → p.run ≡ Some run → p.page ≡ 0
stands_on_0 ranges before r p run s e =
    let may : RunsAt ranges before r run = subst (λ (o : Option ℕ). IfSome o (RunsAt ranges before r)) (sym s.run_is ∙ e) s.runs in
    s.page_is ∙ may.page

all_on_0 : (ranges : List RangeData) (rs : List Request) (ps : List Place) (p : Place) (run : ℕ) → Stand ranges rs ps → Contains ps p → p.run ≡ Some run → p.page ≡ 0
all_on_0 ranges [] [] p run s c e = absurd (nothing_in p c)
all_on_0 ranges [] (q ∷ ps) p run s c e = absurd s
all_on_0 ranges (r ∷ rs) [] p run s c e = absurd s
all_on_0 ranges (r ∷ rs) (q ∷ ps) p run s c e =
    elim (in_front q p ps c) [
      | inl same ↦ sym (ap (λ (x : Place). x.page) same) ∙ stands_on_0 ranges _ r q run s.0 (ap (λ (x : Place). x.run) same ∙ e)
      | inr later ↦ all_on_0 ranges rs ps p run s.1 later e
    ]

-- ---- where a statement stands in its section

-- a statement stands at an offset of the part that a module has of a section
record StandsIn (modules : List Contents) (places : List Place) (s : PlacedStatement) : Type 0 where
  number : ℕ
  index : ℕ
  owner : Contents
  section : SectionData
  offset : ℕ
  part : IsPart modules number index owner section
  name_is : s.section ≡ section.name
  page_is : s.page ≡ page_of section.name places
  load_is : s.load ≡ part_base modules places number section.name + offset
  run_is : s.run ≡ part_run modules places number section.name + offset
  elsewhere_is : s.elsewhere ≡ runs_elsewhere section.name places
  room : offset + size_of s.insn ≤ body_size section.body

body_room : (b : SectionBody) → length (body_words b) ≤ body_size b
body_room (Uninitialised size) = omega arith
body_room (Initialised words) = omega arith

stands_in : (modules : List Contents) (places : List Place) (number : ℕ) (m : Contents) (is : List Instruction) (i : Instruction) → slice_get modules number ≡ Some m → IsRead m is → Contains is i → StandsIn modules places (placed_statement modules places number m i)
stands_in modules places number m is i owner read c =
    let h = has_room m is i read.module_is read.said c in
    let d = h.section in
    let at = h.section_is in
    let size = size_of_form i.form (operand_numbers modules places number m i) in
    let room = h.room in
    let body = body_room d.body in
    record {
      number = number;
      index = i.section;
      owner = m;
      section = d;
      offset = i.offset;
      part = record { owner_is = owner; section_is = at };
      name_is = ap (λ (o : Option SectionData). option_map_or (λ s. s.name) o []) at;
      page_is = ap (λ (o : Option SectionData). option_map_or (λ s. page_of s.name places) o 0) at;
      load_is = ap (λ (o : Option SectionData). option_map_or (λ s. part_base modules places number s.name) o 0 + i.offset) at;
      run_is = ap (λ (o : Option SectionData). option_map_or (λ s. part_run modules places number s.name) o 0 + i.offset) at;
      elsewhere_is = ap (λ (o : Option SectionData). option_map_or (λ s. runs_elsewhere s.name places) o false) at;
      room = omega (arith, room, size, body);
    }

-- a statement of a section that runs elsewhere stands at the same offset where it is loaded and where it runs
record RunsIn (place : Place) (run : ℕ) (s : PlacedStatement) : Type 0 where
  offset : ℕ
  load_is : s.load ≡ place.base + offset
  run_is : s.run ≡ run + offset
  room : offset + size_of s.insn ≤ place.size
  copied : runs_in_b0 s ≡ true

-- ---- words

one_word : (a b : ℕ) (rest : Bool) → a ≡ b → rest ≡ true → (eqb a b && rest) ≡ true
one_word a b rest e r = rw (eq-eqb a b e) r

-- an instruction's words are there where words are that read as it
words_there : (w : World) (run x y : ℕ) (i : Insn) → Reads x y i → program_at true w run ≡ x → (size_of i ≡ 2 → program_at true w ((run + 1) % 2 ^ 16) ≡ y) → holds w run (words i) ≡ true
words_there w run x y (insn.Long name number high) r e f = one_word _ _ _ (e ∙ sym r.first_is) (one_word _ _ _ (f refl ∙ sym r.second_is) refl)
words_there w run x y (insn.LongMem name word a) r e f = one_word _ _ _ (e ∙ sym r.first_is) (one_word _ _ _ (f refl ∙ sym r.second_is) refl)
words_there w run x y (insn.Jump name word change next) r e f = one_word _ _ _ (e ∙ sym r.first_is) (one_word _ _ _ (f refl ∙ sym r.second_is) refl)
words_there w run x y i r e f = one_word _ _ _ (e ∙ sym r.first_is) refl

-- the words at one address read as one instruction, where the sizes are one
same_insn : (page : finite.FinMap nat_cmp ℕ) (c d : Copied) → ReadsAs page (loaded_statement c) → ReadsAs page (loaded_statement d) → run_mark_of c ≡ run_mark_of d → c.insn ≡ d.insn
same_insn page c d r s e =
    let load : c.load ≡ d.load = ap (λ (m : RunMark). m.load) e in
    let size : size_of c.insn ≡ size_of d.insn = ap (λ (m : RunMark). m.size) e in
    let first : r.first ≡ s.first = some_same (sym r.first_is ∙ ap (finite.get page) load ∙ s.first_is) in
    let second : size_of d.insn ≡ 2 → r.second ≡ s.second = λ two. some_same (sym (r.second_is (size ∙ two)) ∙ ap (λ n. finite.get page (n + 1)) load ∙ s.second_is two) in
    one_reading r.first r.second c.insn d.insn r.reads (reads_same d.insn s.first s.second r.first r.second first second s.reads)
  where
    some_same : {m n : ℕ} → ◌≡◌ {A = Option ℕ} (Some m) (Some n) → m ≡ n
    some_same g = cc

-- ---- the statement that runs

module _ (files : Files) (names : List (List ℕ)) (modules : List Contents) (command : CommandData) (image : ImageData) (of : AreModulesOf files names modules) (p : IsProgram modules command image) where
  runs_in : (section : Place) (run : ℕ) (s : PlacedStatement) → place_named section.name p.places ≡ Some section → section.run ≡ Some run → Contains (all_statements files names modules p.places) s → s.section ≡ section.name → RunsIn section run s
  runs_in section run s at elsewhere there name =
      let h = each_placed modules p.places (StandsIn modules p.places) (stands_in modules p.places) files names of s there in
      let d = h.section in
      let same : d.name ≡ section.name = sym h.name_is ∙ name in
      let found : place_named d.name p.places ≡ Some section = ap (λ n. place_named n p.places) same ∙ at in
      let i = part_in_place (ranges_for command) modules (placings_for command) p.places h.number h.index h.owner d p.good h.part in
      let place : i.place ≡ section = let e : Some i.place ≡ Some section = sym i.found ∙ found in cc in
      let before = size_of_parts d.name (take h.number modules) in
      let base : part_base modules p.places h.number d.name ≡ section.base + before = ap (λ (o : Option Place). option_map_or (λ x. x.base) o 0 + before) found in
      let moved : part_run modules p.places h.number d.name ≡ run + before =
      ap (λ (o : Option Place). option_map_or run_base o 0 + before) found ∙ ap (λ (o : Option ℕ). unwrap_or o section.base + before) elsewhere in
      let within : part_base modules p.places h.number d.name + body_size d.body ≤ section.base + section.size = subst (λ (x : Place). part_base modules p.places h.number d.name + body_size d.body ≤ x.base + x.size) place i.within in
      let among : Contains p.places section = (found_in _ p.places section at).0 in
      let on_0 : section.page ≡ 0 = all_on_0 (ranges_for command) _ _ section run p.good (in_reversed p.places section among) elsewhere in
      let page : s.page ≡ 0 = h.page_is ∙ ap (λ (o : Option Place). option_map_or (λ x. x.page) o 0) found ∙ on_0 in
      let other : s.elsewhere ≡ true = h.elsewhere_is ∙ ap (λ (o : Option Place). option_map_or (λ x. is_some x.run) o false) found ∙ ap is_some elsewhere in
      let load = h.load_is in
      let runs = h.run_is in
      let room = h.room in
      record {
        offset = before + h.offset;
        load_is = omega (arith, load, base);
        run_is = omega (arith, runs, moved);
        room = omega (arith, base, within, room);
        copied = rw (eq-eqb s.page 0 page, other) refl;
      }

  pub section_runs : (w : World) → IsImageOf (program_statements files names modules p.places) w → (section : Place) (run : ℕ) → place_named section.name p.places ≡ Some section → section.run ≡ Some run → HoldsSection w section run
      → (s : PlacedStatement) → Contains (all_statements files names modules p.places) s → s.section ≡ section.name → standing (program_statements files names modules p.places) true w s.run ≡ Some s.insn
  section_runs w im section run at elsewhere held s there name =
      let ss = program_statements files names modules p.places in
      let r = runs_in section run s at elsewhere there name in
      let own = as_copied s in
      let among : Contains ss.copied own = in_map as_copied (filter runs_in_b0 (all_statements files names modules p.places)) s (in_filter runs_in_b0 (all_statements files names modules p.places) s there r.copied) in
      let found = some_runs ss.copied own among in
      let c = found.0 in
      let runs = runs_at ss.copied s.run c found.1 in
      let are = marks_are files names modules command image of p in
      let read = words_are files names modules command image of p in
      let mark : (d : Copied) → Contains ss.copied d → Contains image.run_marks (run_mark_of d) = marked ss.copied image.run_marks are.copied in
      let reads : (d : Copied) → Contains ss.copied d → ReadsAs image.program (loaded_statement d) =
      λ d inside. All-contains (ReadsAs image.program) (loaded_statements ss) (loaded_statement d) read (Contains-append_left (map loaded_statement ss.copied) ss.plain (loaded_statement d) (in_map loaded_statement ss.copied d inside)) in
      let one : run_mark_of c ≡ run_mark_of own = one_run image.marks 0xFF00 image.run_marks (run_mark_of c) (run_mark_of own) are.fit (mark c runs.there) (mark own among) runs.run_is in
      let same : c.insn ≡ s.insn = same_insn image.program c own (reads c runs.there) (reads own among) one in
      let l : Lies 0xFF00 (run_mark_of c) = lies image.marks 0xFF00 image.run_marks (run_mark_of c) are.fit (mark c runs.there) in
      let load : c.load ≡ section.base + r.offset = ap (λ (m : RunMark). m.load) one ∙ r.load_is in
      let start : c.run ≡ run + r.offset = runs.run_is ∙ r.run_is in
      let size : size_of c.insn ≡ size_of s.insn = ap size_of same in
      let some = l.some in
      let room = r.room in
      let loaded_room = l.loaded in
      let run_room = l.room in
      let first : program_at true w c.run ≡ w.program c.load = ap (program_at true w) start ∙ held r.offset (omega (arith, some, size, room)) ∙ ap w.program (sym load) in
      let second : size_of c.insn ≡ 2 → program_at true w ((c.run + 1) % 2 ^ 16) ≡ w.program ((c.load + 1) % 2 ^ 16) = λ two.
      let there : (c.run + 1) % 2 ^ 16 ≡ run + (r.offset + 1) = omega (arith, two, run_room, start) in
      let loaded : section.base + (r.offset + 1) ≡ (c.load + 1) % 2 ^ 16 = omega (arith, two, loaded_room, load) in
      ap (program_at true w) there ∙ held (r.offset + 1) (omega (arith, two, size, room)) ∙ ap w.program loaded in
      held_runs ss w s.run c found.1 (words_there w c.run (w.program c.load) (w.program ((c.load + 1) % 2 ^ 16)) c.insn (im.copied_reads s.run c found.1) first second) ∙ ap Some same
