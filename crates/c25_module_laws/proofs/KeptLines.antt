-- Each line keeps what always holds, act by act.
use Rattle.std.proofs.Common.{◌≡◌, ℕ, zero, suc, ◌+◌, ◌/◌, ◌≤◌, Bool, true, false, cond, eqb, ltb, List, [], ◌∷◌, ◌++◌, length, Option, Some, None, Result, Ok, Err, codes, refl, sym, ap, ◌∙◌, subst, arith}
use Rattle.std.specs.List.{AllByRecursion, list_any, find, slice_get}
use Rattle.std.proofs.lemmas.Bool.{ltb-false, false≢true}
use Rattle.c25_meaning_assembly.specs.OperandFields.{target_size}
use Rattle.c25_meaning_assembly.specs.AssemblyLine as line
use Rattle.c25_meaning_assembly.specs.AssemblyLine.{AssemblyAct, Statement, read_statement}
use Rattle.c25_meaning_assembly.specs.Emission.{at_origin}
use Rattle.c25_meaning_expansion.specs.Expansion.{Config}
use Rattle.c25_meaning_expansion.specs.ExpansionAnswers.{ExpandedLine, given_by, fault_by}
use Rattle.c25_meaning_language.specs.ExpansionFault.{ExpansionFault}
use Rattle.c25_meaning_expansion.specs.ExpansionRuns.{first}
use Rattle.c25_meaning_expansion.specs.Files.{Files}
use Rattle.c25_meaning_objects.specs.Module.{each_fits}
use Rattle.c25_meaning_assembly.specs.ModuleOfSource.{LinesSoFar, no_lines, entry_of, origin_of, pass_line, passed, passed_by, passed_from, read_and_pass}
use Rattle.c25_meaning_common.specs.Results.{◌>>=◌, fold_ok}
use Rattle.c25_meaning_assembly.specs.Sections as meaning
use Rattle.c25_meaning_assembly.specs.Sections.{Definitions, Section, Content, Operands, Words, Zeros, Exported, PendingItem, Progress, changed, longer, with_block, with_mark, use_line, block, block_allowed, flag_in, is_in, are_distinct, once, all_once, stands, define, label, here, loaded_here, table, place_in, same_kind, of_kind, section_opened, grow, lay, with_item, size_at, size_by, is_called, count_in, reserve, reserve_room, register_names, define_pair, name_count, few, pass, allowed, act}
use Rattle.c25_meaning_language.specs.Statement.{valued, form_row}
use Rattle.c25_meaning_instructions.specs.Table.{size}
use Rattle.c25_meaning_language.specs.Tree.{Tree}
use Rattle.c25_meaning_assembly.specs.declared.assembly.Target.{Target}
use Rattle.c25_meaning_assembly.specs.declared.assembly.Target.TheVariants as target
use Rattle.c25_meaning_objects.specs.declared.object.Block.{Block}
use Rattle.c25_meaning_objects.specs.declared.object.ModuleMark.{ModuleMark}
use Rattle.c25_meaning_language.specs.declared.statement.FaultKind.{FaultKind}
use Rattle.c25_meaning_language.specs.declared.statement.FaultKind.TheVariants as fault
use Rattle.c25_meaning_language.specs.declared.statement.Form.{Form}
use Rattle.c25_meaning_language.specs.declared.value.Base.TheVariants.{Absolute}
use Rattle.std.specs.Int.{w32}
use Rattle.std.specs.Int.RustNames.{FitsSigned}
use Rattle.std.proofs.lemmas.List.{append-nil}
use Rattle.c25_module_laws.proofs.Counted.{IsCount}
use Rattle.c25_meaning_assembly.proofs.Distinct.{distinct_push}
use Rattle.c25_module_laws.proofs.Kept.{AllBut, AllKept, AreDeclared, AreNames, AreSections, AreTold, Each, Head, IsGoodContent, IsInside, IsKept, IsOrigin, IsTold, each_changed, head_fits, head_of, heads, heads_changed, is_code, laid_push, length_changed, mark_by, mark_here, mark_there, marks_in, marks_part, marks_push, marks_same, part_here, part_there, pushed, total, total_push, weaker, words_in}
use Rattle.c25_module_laws.proofs.KeptActs.{code_is, code_section, define_kept, label_kept, loaded_good, opened_kept, place_good, valued_good}
use Rattle.c25_module_laws.proofs.KeptFiles.{block_size, in_last, in_push, line_used, told_block, told_longer, told_mark}
use Rattle.c25_module_laws.proofs.ResultSteps.{bound, permitted, refused, unless}
use Rattle.c25_module_laws.proofs.Valued.{IsGoodValue, natural_fits}
use Rattle.c25_module_laws.proofs.Spoken.{IsGood, IsGoodAct, IsSection, IsSymbol, read_good}
use Rattle.c25_meaning_common.specs.declared.placed.FileLine.{FileLine}

-- ---- sections that change, but for their names and kinds

sections_changed : (f : Section → Section) (sections : List Section) (i current : ℕ) → ((s : Section) → head_of (f s) ≡ head_of s) → AreSections sections current → AreSections (changed f sections i) current
sections_changed f sections i current same h = record {
  fit = subst (λ (hs : List Head). each_fits head_fits [] hs ≡ true) (sym (heads_changed f sections i same)) h.fit;
  code = subst (λ (hs : List Head). is_code hs current ≡ true) (sym (heads_changed f sections i same)) h.code;
}

names_changed : (f : Section → Section) (sections : List Section) (i : ℕ) (names : Definitions) → AreNames (length sections) names → AreNames (length (changed f sections i)) names
names_changed f sections i names h = subst (λ (n : ℕ). AreNames n names) (sym (length_changed f sections i)) h

codes_changed : (f : Section → Section) (sections : List Section) (i : ℕ) (items : List PendingItem) → ((s : Section) → head_of (f s) ≡ head_of s)
    → AllByRecursion (λ i. is_code (heads sections) i.section ≡ true) items → AllByRecursion (λ j. is_code (heads (changed f sections i)) j.section ≡ true) items
codes_changed f sections i items same h =
    subst (λ (hs : List Head). AllByRecursion (λ (j : PendingItem). is_code hs j.section ≡ true) items) (sym (heads_changed f sections i same)) h

grow_files : (i n : ℕ) (p q : Progress) → grow i n p ≡ Ok q → q.files ≡ p.files
unfolding grow
grow_files i n p q e =
    let made : Progress = record p { sections = changed (longer n) p.sections i } in
    let a = refused (ltb 65536 (size_at p.sections i + n)) fault.TooLarge made q e in
    ap (λ (x : Progress). x.files) (sym a.1)

-- an uninitialised section grows
grow_kept : (i n : ℕ) (p q : Progress) → is_code (heads p.sections) i ≡ false → AllKept p → grow i n p ≡ Ok q → AllKept q × (q.sections ≡ changed (longer n) p.sections i)
unfolding grow
grow_kept i n p q bare kept e =
    let made : Progress = record p { sections = changed (longer n) p.sections i } in
    let a = refused (ltb 65536 (size_at p.sections i + n)) fault.TooLarge made q e in
    let room = ltb-false 65536 (size_at p.sections i + n) a.0 in
    subst (λ (x : Progress). AllKept x × (x.sections ≡ changed (longer n) p.sections i)) a.1 (
      record {
        sections = sections_changed (longer n) p.sections i p.current (λ _. refl) kept.sections;
        names = names_changed (longer n) p.sections i p.names kept.names;
        declared = kept.declared;
        items = record {
          each = each_changed (IsKept p.items p.items) (IsKept p.items p.items) (longer n) p.sections i kept.items.each
              (λ (s : Section) at (h : IsKept p.items p.items i s).
              let z : size_at p.sections i ≡ s.size = ap size_by at in
              record {
                small = omega (arith, room, z);
                laid = λ initialised. absurd (false≢true (sym bare ∙ code_is p.sections i s at ∙ initialised));
                marks = h.marks;
                words = h.words;
                relocations = h.relocations;
              })
              (λ k s other h. h);
          laid = kept.items.laid;
          good = kept.items.good;
          codes = codes_changed (longer n) p.sections i p.items (λ _. refl) kept.items.codes;
        };
        told = told_longer p.files p.sections i n kept.told;
      },
      refl,
    )

-- a block more in a section
block_kept : (b : Block) (i : ℕ) (p : Progress) → AreTold p.files (changed (with_block b) p.sections i) → AllKept p → AllKept (record p { sections = changed (with_block b) p.sections i })
block_kept b i p told kept = record {
  sections = sections_changed (with_block b) p.sections i p.current (λ _. refl) kept.sections;
  names = names_changed (with_block b) p.sections i p.names kept.names;
  declared = kept.declared;
  items = record {
    each = each_changed (IsKept p.items p.items) (IsKept p.items p.items) (with_block b) p.sections i kept.items.each
        (λ (s : Section) at (h : IsKept p.items p.items i s). record { small = h.small; laid = h.laid; marks = h.marks; words = h.words; relocations = h.relocations })
        (λ k s other h. h);
    laid = kept.items.laid;
    good = kept.items.good;
    codes = codes_changed (with_block b) p.sections i p.items (λ _. refl) kept.items.codes;
  };
  told = told;
}

-- words of an uninitialised section, which may have to lie in one page
room_kept : (flag : Bool) (i n : ℕ) (u : Unit {0}) (p q : Progress) → block_allowed flag n ≡ Ok u → is_code (heads p.sections) i ≡ false → AllKept p → grow i n p ≡ Ok q
    → AllKept (block flag i (size_at p.sections i) n q) × (length (block flag i (size_at p.sections i) n q).sections ≡ length p.sections)
room_kept false i n u p q allowed bare kept e =
    let g = grow_kept i n p q bare kept e in
    (g.0, ap (λ (xs : List Section). length xs) g.1 ∙ length_changed (longer n) p.sections i)
room_kept true i n u p q allowed bare kept e =
    let g = grow_kept i n p q bare kept e in
    let b : Block = record { section = i; offset = size_at p.sections i; size = n } in
    let size = block_size n u allowed in
    let uninitialised : (s : Section) → slice_get p.sections i ≡ Some s → s.initialised ≡ false = λ s at. sym (code_is p.sections i s at) ∙ bare in
    let told : AreTold p.files (changed (with_block b) q.sections i) =
    subst (λ (xs : List Section). AreTold p.files (changed (with_block b) xs i)) (sym g.1) (told_block p.files p.sections i n uninitialised size.0 size.1 kept.told) in (
      block_kept b i q (subst (λ (fs : List (List ℕ)). AreTold fs (changed (with_block b) q.sections i)) (sym (grow_files i n p q e)) told) g.0,
      length_changed (with_block b) q.sections i ∙ ap (λ (xs : List Section). length xs) g.1 ∙ length_changed (longer n) p.sections i,
    )

-- ---- content at the current place

-- what is laid begins where the words so far end
offset_is : (p : Progress) → AllKept p → size_at p.sections p.current ≡ 0 + total p.current p.items
offset_is p kept =
    let s = code_section p.sections p.current kept.sections.code in
    let a : size_at p.sections p.current ≡ (s.0).size = ap size_by s.1 in
    let b = (kept.items.each p.current s.0 s.1).laid s.2 in
    omega (arith, a, b)

-- an item at the current place
abbrev laid_item : FileLine (List ℕ) → Content → Progress → PendingItem
laid_item origin content p = record { origin = origin; section = p.current; offset = size_at p.sections p.current; content = content }

-- one item more, whose mark is still to come
record IsLaid (item : PendingItem) (p q : Progress) : Type 0 where
  kept : AllBut p.items q
  items : q.items ≡ p.items ++ item ∷ []
  current : q.current ≡ p.current

lay_kept : (origin : FileLine (List ℕ)) (content : Content) (n : ℕ) (p q : Progress) → words_in content ≡ n → IsGoodContent content → AllKept p → lay origin content n p ≡ Ok q → IsLaid (laid_item origin content p) p q
unfolding lay grow
lay_kept origin content n p q count good kept e =
    let c = p.current in
    let old = size_at p.sections c in
    let item = laid_item origin content p in
    let items = p.items ++ item ∷ [] in
    let made : Progress = record p { sections = changed (longer n) p.sections c; items = items } in
    let a = refused (ltb 65536 (old + n)) fault.TooLarge made q e in
    let room = ltb-false 65536 (old + n) a.0 in
    subst (λ (x : Progress). IsLaid item p x) a.1 (record {
      kept = record {
        sections = sections_changed (longer n) p.sections c c (λ _. refl) kept.sections;
        names = names_changed (longer n) p.sections c p.names kept.names;
        declared = kept.declared;
        items = record {
          each = each_changed (IsKept p.items p.items) (IsKept items p.items) (longer n) p.sections c kept.items.each
              (λ (s : Section) at (h : IsKept p.items p.items c s).
              let z : size_at p.sections c ≡ s.size = ap size_by at in
              record {
                small = omega (arith, room, z);
                laid = λ initialised. let x = h.laid initialised in let y = total_push c p.items item in let w = part_here c item refl in omega (arith, x, y, w, count);
                marks = h.marks;
                words = h.words;
                relocations = h.relocations;
              })
              (λ k (s : Section) other (h : IsKept p.items p.items k s). record {
                small = h.small;
                laid = λ initialised. let x = h.laid initialised in let y = total_push k p.items item in let w = part_there k item other in omega (arith, x, y, w);
                marks = h.marks;
                words = h.words;
                relocations = h.relocations;
              });
          laid = laid_push (λ k. 0) p.items item kept.items.laid (offset_is p kept);
          good = pushed (λ (i : PendingItem). IsGoodContent i.content) p.items item kept.items.good good;
          codes = codes_changed (longer n) p.sections c items (λ _. refl) (pushed (λ (i : PendingItem). is_code (heads p.sections) i.section ≡ true) p.items item kept.items.codes kept.sections.code);
        };
        told = told_longer p.files p.sections c n kept.told;
      };
      items = refl;
      current = refl;
    })

-- other items that have the same marks
remarked : (old new : List PendingItem) (p : Progress) → ((k : ℕ) → marks_in k old ≡ marks_in k new) → AllBut old p → AllBut new p
remarked old new p same kept = record {
  sections = kept.sections;
  names = kept.names;
  declared = kept.declared;
  items = record {
    each = λ k s at. let h = kept.items.each k s at in record { small = h.small; laid = h.laid; marks = h.marks ∙ same k; words = h.words; relocations = h.relocations };
    laid = kept.items.laid;
    good = kept.items.good;
    codes = kept.items.codes;
  };
  told = kept.told;
}

-- an item without a mark
unmarked : (item : PendingItem) (p q : Progress) → mark_by item item.content ≡ [] → IsLaid item p q → AllKept q
unmarked item p q none h =
    remarked p.items q.items q (λ k. sym (ap (marks_in k) h.items ∙ marks_same k p.items item none)) h.kept

-- an instruction's mark, and its line in one of these files
marked : (origin : FileLine (List ℕ)) (f : Form) (trees : List Tree) (files : List (List ℕ)) (p q : Progress) → AreTold files q.sections → IsOrigin files origin
    → IsLaid (laid_item origin (Operands (target.Instruction f) trees) p) p q
    → AllKept (record q { files = files; sections = changed (with_mark origin (record { section = p.current; offset = size_at p.sections p.current; size = size (form_row f) })) q.sections p.current })
marked origin f trees files p q told known h =
    let c = p.current in
    let item = laid_item origin (Operands (target.Instruction f) trees) p in
    let m : ModuleMark = record { section = c; offset = size_at p.sections c; size = size (form_row f) } in
    let more : (k : ℕ) → marks_in k q.items ≡ marks_in k p.items ++ marks_part k item = λ k. ap (marks_in k) h.items ∙ marks_push k p.items item in
    record {
      sections = sections_changed (with_mark origin m) q.sections c q.current (λ _. refl) h.kept.sections;
      names = names_changed (with_mark origin m) q.sections c q.names h.kept.names;
      declared = h.kept.declared;
      items = record {
        each = each_changed (IsKept q.items p.items) (IsKept q.items q.items) (with_mark origin m) q.sections c h.kept.items.each
            (λ (s : Section) at (k : IsKept q.items p.items c s). record {
              small = k.small;
              laid = k.laid;
              marks = ap (λ ms. ms ++ m ∷ []) k.marks ∙ sym (more c ∙ ap (λ ms. marks_in c p.items ++ ms) (mark_here c item refl));
              words = k.words;
              relocations = k.relocations;
            })
            (λ n (s : Section) other (k : IsKept q.items p.items n s). record {
              small = k.small;
              laid = k.laid;
              marks = k.marks ∙ sym (more n ∙ ap (λ ms. marks_in n p.items ++ ms) (mark_there n item other) ∙ append-nil (marks_in n p.items));
              words = k.words;
              relocations = k.relocations;
            });
        laid = h.kept.items.laid;
        good = h.kept.items.good;
        codes = codes_changed (with_mark origin m) q.sections c q.items (λ _. refl) h.kept.items.codes;
      };
      told = told_mark files origin m q.sections c known told;
    }

put_marked : (origin : FileLine (List ℕ)) (t : Target) (trees : List Tree) (p q r : Progress) → IsLaid (laid_item origin (Operands t trees) p) p q
    → meaning.mark origin t p.current (size_at p.sections p.current) (target_size t (length trees)) q ≡ Ok r → AllKept r
put_marked origin (target.Instruction f) trees p q r h e =
    let c = p.current in
    let m : ModuleMark = record { section = c; offset = size_at p.sections c; size = size (form_row f) } in
    let with_marks : Progress → Progress = λ x. record x { sections = changed (with_mark origin m) x.sections c } in
    let a = bound (use_line origin q) (λ x. Ok (with_marks x)) r e in
    let u = line_used origin q a.0 h.kept.told a.1 in
    let same : with_marks a.0 ≡ r = let last = a.2 in cc in
    subst AllKept (ap with_marks (sym u.same) ∙ same) (marked origin f trees (a.0).files p q u.told u.known h)
put_marked origin (target.Data w) trees p q r h e = let same : q ≡ r = cc in subst AllKept same (unmarked (laid_item origin (Operands (target.Data w) trees) p) p q refl h)

put_kept : (origin : FileLine (List ℕ)) (t : Target) (trees : List Tree) (p q : Progress) → IsCount t (length trees) → AllKept p → meaning.put origin t trees p ≡ Ok q → AllKept q
put_kept origin t trees p q few kept e =
    let n = target_size t (length trees) in
    let a = bound (lay origin (Operands t trees) n p) (λ r. meaning.mark origin t p.current (size_at p.sections p.current) n r) q e in
    put_marked origin t trees p a.0 q (lay_kept origin (Operands t trees) n p a.0 refl few kept a.1) a.2

-- content without a mark
lay_bare : (origin : FileLine (List ℕ)) (content : Content) (n : ℕ) (p q : Progress) → words_in content ≡ n → IsGoodContent content → mark_by (laid_item origin content p) content ≡ [] → AllKept p → lay origin content n p ≡ Ok q → AllKept q
lay_bare origin content n p q count good none kept e = unmarked (laid_item origin content p) p q none (lay_kept origin content n p q count good kept e)

-- ---- names that are declared

once_keeps : (names : List (List ℕ)) (n d : List ℕ) → is_in names d ≡ true → is_in (once names n) d ≡ true
once_keeps names n d h = on (is_in names n)
  where
    on : (b : Bool) → is_in (cond b names (names ++ n ∷ [])) d ≡ true
    on true = h
    on false = in_push names n d h

once_has : (names : List (List ℕ)) (n : List ℕ) → is_in (once names n) n ≡ true
once_has names n = on (is_in names n) refl
  where
    on : (b : Bool) → is_in names n ≡ b → is_in (cond b names (names ++ n ∷ [])) n ≡ true
    on true h = h
    on false h = in_last names n

declare_one : (declared exported : List (List ℕ)) (n : List ℕ) → IsSymbol n → AreDeclared declared exported → AreDeclared (once declared n) (once exported n)
declare_one declared exported n symbol h = on (is_in declared n) refl
  where
    seen : AllByRecursion (λ (d : List ℕ). is_in (once exported n) d ≡ true) declared
    seen = weaker (λ (d : List ℕ). is_in exported d ≡ true) (λ (d : List ℕ). is_in (once exported n) d ≡ true) (λ d g. once_keeps exported n d g) declared h.seen

    on : (b : Bool) → is_in declared n ≡ b → AreDeclared (cond b declared (declared ++ n ∷ [])) (once exported n)
    on true is = record { symbols = h.symbols; distinct = h.distinct; seen = seen }
    on false is = record {
      symbols = pushed IsSymbol declared n h.symbols symbol;
      distinct = distinct_push declared n h.distinct is;
      seen = pushed (λ (d : List ℕ). is_in (once exported n) d ≡ true) declared n seen (once_has exported n);
    }

declare_all : (ns declared exported : List (List ℕ)) → AllByRecursion IsSymbol ns → AreDeclared declared exported → AreDeclared (all_once declared ns) (all_once exported ns)
declare_all [] declared exported symbols h = h
declare_all (n ∷ ns) declared exported symbols h = declare_all ns (once declared n) (once exported n) symbols.1 (declare_one declared exported n symbols.0 h)

all_once_keeps : (ns names : List (List ℕ)) (d : List ℕ) → is_in names d ≡ true → is_in (all_once names ns) d ≡ true
all_once_keeps [] names d h = h
all_once_keeps (n ∷ ns) names d h = all_once_keeps ns (once names n) d (once_keeps names n d h)

declare_kept : (names : List (List ℕ)) (p q : Progress) → AllByRecursion IsSymbol names → AllKept p → meaning.declare names p ≡ Ok q → AllKept q
declare_kept names p q symbols kept e =
    let made : Progress = record p { declared = all_once p.declared names; exported = all_once p.exported names } in
    let a = refused (list_any meaning.is_predefined names) fault.Defined made q e in
    subst AllKept a.1 (record {
      sections = kept.sections;
      names = kept.names;
      declared = declare_all names p.declared p.exported symbols kept.declared;
      items = kept.items;
      told = kept.told;
    })

export_kept : (origin : FileLine (List ℕ)) (names : List (List ℕ)) (p q : Progress) → AllKept p → meaning.export origin names p ≡ Ok q → AllKept q
export_kept origin names p q kept e =
    let c = p.current in
    let item : PendingItem = record { origin = origin; section = c; offset = size_at p.sections c; content = Exported names } in
    let made : Progress = record p { exported = all_once p.exported names; items = p.items ++ item ∷ [] } in
    let a = refused (list_any meaning.is_predefined names) fault.Defined made q e in
    subst AllKept a.1 (record {
      sections = kept.sections;
      names = kept.names;
      declared = record {
        symbols = kept.declared.symbols;
        distinct = kept.declared.distinct;
        seen = weaker (λ (d : List ℕ). is_in p.exported d ≡ true) (λ (d : List ℕ). is_in (all_once p.exported names) d ≡ true) (λ d g. all_once_keeps names p.exported d g) p.declared kept.declared.seen;
      };
      items = record {
        each = λ k (s : Section) at.
            let h = kept.items.each k s at in
            record {
              small = h.small;
              laid = λ initialised. let x = h.laid initialised in let y = total_push k p.items item in let z = nothing (eqb c k) in omega (arith, x, y, z);
              marks = h.marks ∙ sym (marks_same k p.items item refl);
              words = h.words;
              relocations = h.relocations;
            };
        laid = laid_push (λ k. 0) p.items item kept.items.laid (offset_is p kept);
        good = pushed (λ (i : PendingItem). IsGoodContent i.content) p.items item kept.items.good tt;
        codes = pushed (λ (i : PendingItem). is_code (heads p.sections) i.section ≡ true) p.items item kept.items.codes kept.sections.code;
      };
      told = kept.told;
    })
  where
    nothing : (b : Bool) → ◌≡◌ {A = ℕ} (cond b 0 0) 0
    nothing true = refl
    nothing false = refl

-- ---- the other acts

fold_kept : (ps : Definitions) (p q : Progress) → AllByRecursion (λ e. IsSymbol e.0 × (e.1.base ≡ Absolute) × FitsSigned w32 e.1.offset) ps → AllKept p → fold_ok define_pair p ps ≡ Ok q → AllKept q
fold_kept [] p q h kept e = let same : p ≡ q = cc in subst AllKept same kept
fold_kept (x ∷ xs) p q h kept e =
    let a = bound (define x.0 x.1 p) (λ r. fold_ok define_pair r xs) q e in
    let inside : IsGoodValue (IsInside (length p.sections)) x.1 = (subst (IsInside (length p.sections)) (sym h.0.1) tt, h.0.2) in
    fold_kept xs a.0 q h.1 (define_kept x.0 x.1 p a.0 h.0.0 inside kept a.1).0 a.2

registers_kept : (p q : Progress) → AllKept p → meaning.registers p ≡ Ok q → AllKept q
unfolding meaning.registers
registers_kept p q kept e = on p.registers e
  where
    on : (b : Bool) → cond b (Ok p) (fold_ok define_pair (record p { registers = true }) register_names) ≡ Ok q → AllKept q
    on true e = let same : p ≡ q = cc in subst AllKept same kept
    on false e =
        fold_kept register_names (record p { registers = true }) q
        ((refl, refl, natural_fits 0 (omega arith)), ((refl, refl, natural_fits 1 (omega arith)), ((refl, refl, natural_fits 2 (omega arith)), ((refl, refl, natural_fits 3 (omega arith)), ((refl, refl, natural_fits 4 (omega arith)), ((refl, refl, natural_fits 5 (omega arith)), tt))))))
        (record { sections = kept.sections; names = kept.names; declared = kept.declared; items = kept.items; told = kept.told }) e

enter_kept : (section : List ℕ) (p q : Progress) → IsSection section → same_kind true (find (is_called section) p.sections) ≡ true → AllKept p → meaning.enter section p ≡ Ok q → AllKept q
enter_kept section p q name kind kept e =
    let a = bound (section_opened section true p) (λ o. Ok (record o.1 { current = o.0 })) q e in
    let made : Progress = record (a.0).1 { current = (a.0).0 } in
    let same : made ≡ q = let last = a.2 in cc in
    let o = opened_kept section true p a.0 name kind kept a.1 in
    subst AllKept same (record {
      sections = record { fit = o.kept.sections.fit; code = o.code };
      names = o.kept.names;
      declared = o.kept.declared;
      items = o.kept.items;
      told = o.kept.told;
    })

reserve_kept : (section name : List ℕ) (n : ℕ) (flag : Bool) (u : Unit {0}) (p q : Progress) → IsSection section → IsSymbol name → same_kind false (find (is_called section) p.sections) ≡ true
    → block_allowed flag n ≡ Ok u → AllKept p → reserve section name n flag p ≡ Ok q → AllKept q
unfolding reserve
reserve_kept section name n flag u p q is symbol kind allowed kept e =
    let a = bound (section_opened section false p) (λ o. grow o.0 n o.1 >>= λ r. define name (place_in o.1.sections o.0) (block flag o.0 (size_at o.1.sections o.0) n r)) q e in
    let i = (a.0).0 in
    let r = (a.0).1 in
    let b = bound (grow i n r) (λ x. define name (place_in r.sections i) (block flag i (size_at r.sections i) n x)) q a.2 in
    let o = opened_kept section false p a.0 is kind kept a.1 in
    let g = room_kept flag i n u r b.0 allowed o.code o.kept b.1 in
    let good = place_good r i (length r.sections) o.there o.kept in
    (define_kept name (place_in r.sections i) (block flag i (size_at r.sections i) n b.0) q symbol (subst (λ (n : ℕ). IsGoodValue (IsInside n) (place_in r.sections i)) (sym g.1) good) g.0 b.2).0

-- the section that an act names, if there is one, is of its kind
abbrev KindFits : AssemblyAct → List Section → Type 0
KindFits (line.Enter section) sections = same_kind true (find (is_called section) sections) ≡ true
KindFits (line.Reserve section name room) sections = same_kind false (find (is_called section) sections) ≡ true
KindFits line.Nothing sections = Unit {0}
KindFits (line.Equate name value) sections = Unit {0}
KindFits (line.Put t operands) sections = Unit {0}
KindFits (line.Load words) sections = Unit {0}
KindFits (line.Space bits) sections = Unit {0}
KindFits (line.Declare names) sections = Unit {0}
KindFits (line.Export names) sections = Unit {0}
KindFits (line.Label name) sections = Unit {0}
KindFits line.Registers sections = Unit {0}

kind_fits : (a : AssemblyAct) (p : Progress) (u : Unit {0}) → allowed a p ≡ Ok u → KindFits a p.sections
kind_fits (line.Enter section) p u e = (permitted (same_kind true (find (is_called section) p.sections)) tt fault.OperandForm u e).0
kind_fits (line.Reserve section name room) p u e =
    let a = bound (of_kind section false p) (λ _. room >>= λ t. Ok tt) u e in
    (permitted (same_kind false (find (is_called section) p.sections)) tt fault.OperandForm a.0 a.1).0
kind_fits line.Nothing p u e = tt
kind_fits (line.Equate name value) p u e = tt
kind_fits (line.Put t operands) p u e = tt
kind_fits (line.Load words) p u e = tt
kind_fits (line.Space bits) p u e = tt
kind_fits (line.Declare names) p u e = tt
kind_fits (line.Export names) p u e = tt
kind_fits (line.Label name) p u e = tt
kind_fits line.Registers p u e = tt

act_kept : (origin : FileLine (List ℕ)) (a : AssemblyAct) (p q : Progress) → IsGoodAct a → KindFits a p.sections → AllKept p → act origin a p ≡ Ok q → AllKept q
act_kept origin line.Nothing p q good kind kept e = let same : p ≡ q = cc in subst AllKept same kept
act_kept origin (line.Enter section) p q good kind kept e = enter_kept section p q good kind kept e
act_kept origin (line.Reserve section name room) p q good kind kept e =
    let r = unless (stands p.names name) fault.Defined (room >>= λ t. reserve_room section name t p) q e in
    let a = bound room (λ t. reserve_room section name t p) q r in
    let b = bound (count_in (table p) (a.0).count) (λ n. flag_in (table p) (a.0).flag >>= λ flag. block_allowed flag n >>= λ _. reserve section name n flag p) q a.2 in
    let c = bound (flag_in (table p) (a.0).flag) (λ flag. block_allowed flag b.0 >>= λ _. reserve section name b.0 flag p) q b.2 in
    let d = bound (block_allowed c.0 b.0) (λ _. reserve section name b.0 c.0 p) q c.2 in
    reserve_kept section name b.0 c.0 d.0 p q good.0 good.1 kind d.1 kept d.2
act_kept origin (line.Equate name value) p q good kind kept e =
    let r = unless (stands p.names name) fault.Defined (valued (table p) value >>= λ v. define name v p) q e in
    let a = bound (valued (table p) value) (λ v. define name v p) q r in
    (define_kept name a.0 p q good (valued_good p value a.0 kept a.1) kept a.2).0
act_kept origin (line.Put t operands) p q good kind kept e = put_kept origin t operands p q good kept e
act_kept origin (line.Load words) p q good kind kept e = lay_bare origin (Words words) (length words) p q refl good refl kept e
act_kept origin (line.Space bits) p q good kind kept e =
    let a = bound (count_in (table p) bits) (λ n. lay origin (Zeros ((n + 15) / 16)) ((n + 15) / 16) p) q e in
    lay_bare origin (Zeros ((a.0 + 15) / 16)) ((a.0 + 15) / 16) p q refl tt refl kept a.2
act_kept origin (line.Declare names) p q good kind kept e = declare_kept names p q good kept e
act_kept origin (line.Export names) p q good kind kept e = export_kept origin names p q kept e
act_kept origin (line.Label name) p q good kind kept e = (define_kept name (loaded_here p) p q good (loaded_good p kept) kept e).0
act_kept origin line.Registers p q good kind kept e = registers_kept p q kept e

-- ---- lines

-- all that holds, and how many names there are
pub record IsMade (p : Progress) : Type 0 where
  pub kept : AllKept p
  pub few : name_count p.names p.declared ≤ 65535

pass_kept : (origin : FileLine (List ℕ)) (s : Statement) (p q : Progress) → IsGood s → AllKept p → pass origin s p ≡ Ok q → IsMade q
unfolding pass
pass_kept origin s p q good kept e =
    let a = bound (allowed s.act p) (λ _. label s.label p >>= λ x. act origin s.act x >>= λ r. few r >>= λ _. Ok r) q e in
    let b = bound (label s.label p) (λ x. act origin s.act x >>= λ r. few r >>= λ _. Ok r) q a.2 in
    let c = bound (act origin s.act b.0) (λ r. few r >>= λ _. Ok r) q b.2 in
    let d = bound (few c.0) (λ _. Ok c.0) q c.2 in
    let same : c.0 ≡ q = let last = d.2 in cc in
    let labelled = label_kept s.label p b.0 good.label kept b.1 in
    let kind = subst (KindFits s.act) (sym labelled.1) (kind_fits s.act p a.0 a.1) in
    let count = refused (ltb 65535 (name_count (c.0).names (c.0).declared)) fault.TooLarge tt d.0 d.1 in
    subst IsMade same (record {
      kept = act_kept origin s.act b.0 c.0 good.act kind labelled.0 c.1;
      few = ltb-false 65535 (name_count (c.0).names (c.0).declared) count.0;
    })

untold : {A : Type 0} (origin : FileLine (List ℕ)) (r : Result A FaultKind) (x : A) → at_origin origin r ≡ Ok x → r ≡ Ok x
untold origin (Ok y) x e = let q : y ≡ x = cc in ap Ok q
untold origin (Err f) x e = absurd (cc)

line_made : (l : ExpandedLine) (a b : LinesSoFar) → IsMade a.progress → pass_line l a ≡ Ok b → IsMade b.progress
unfolding pass_line
line_made l a b made e =
    let with_entry : Progress → LinesSoFar = λ p. record { progress = p; entries = a.entries ++ entry_of l a.progress p ∷ [] } in
    let x = bound (read_and_pass l a.progress) (λ p. Ok (with_entry p)) b e in
    let y = untold (origin_of l) (read_statement l.text >>= λ s. pass (origin_of l) s a.progress) x.0 x.1 in
    let z = bound (read_statement l.text) (λ s. pass (origin_of l) s a.progress) x.0 y in
    let same : with_entry x.0 ≡ b = let last = x.2 in cc in
    subst (λ (w : LinesSoFar). IsMade w.progress) same (pass_kept (origin_of l) z.0 a.progress x.0 (read_good l.text z.0 z.1) made.kept z.2)

all_made : (files : Files) (n : ℕ) (c : Config) (a b : LinesSoFar) → IsMade a.progress → passed files n c a ≡ Ok b → IsMade b.progress
unfolding passed
all_made files zero c a b made e = let same : a ≡ b = cc in subst (λ (x : LinesSoFar). IsMade x.progress) same made
all_made files (suc n) c a b made e =
    on (fault_by files (first files (table a.progress) c)) (given_by files (first files (table a.progress) c)) (λ d x m h. all_made files n d x b m h) e
  where
    on : (f : Option ExpansionFault) (given : Option (ExpandedLine × Config)) → ((d : Config) (x : LinesSoFar) → IsMade x.progress → passed files n d x ≡ Ok b → IsMade b.progress)
        → passed_by f given (passed files n) a ≡ Ok b → IsMade b.progress
    on (Some f) given go e = absurd (cc)
    on None None go e = let same : a ≡ b = cc in subst (λ (x : LinesSoFar). IsMade x.progress) same made
    on None (Some l) go e =
        let x = bound (pass_line l.0 a) (λ w. passed files n l.1 w) b e in
        go l.1 x.0 (line_made l.0 a x.0 made x.1) x.2

begun : IsMade meaning.start
begun = record {
  kept = record {
    sections = record { fit = refl; code = refl };
    names = record { symbols = tt; distinct = refl };
    declared = record { symbols = tt; distinct = refl; seen = tt };
    items = record { each = first_section; laid = tt; codes = tt; good = tt };
    told = record { used = record { named = tt; distinct = refl; few = omega arith }; each = told_section };
  };
  few = omega arith;
}
  where
    first_section : Each (IsKept [] []) (meaning.start).sections
    first_section zero s at =
        let q : meaning.empty_section (codes ".text") true ≡ s = cc in
        subst (λ (x : Section). IsKept [] [] 0 x) q (record { small = omega arith; laid = λ _. refl; marks = refl; words = refl; relocations = refl })
    first_section (suc k) s at = absurd (cc)

    told_section : Each (IsTold []) (meaning.start).sections
    told_section zero s at =
        let q : meaning.empty_section (codes ".text") true ≡ s = cc in
        subst (λ (x : Section). IsTold [] 0 x) q (record { count = refl; origins = tt; blocks = omega arith; loaded = λ _. refl })
    told_section (suc k) s at = absurd (cc)

-- all that the lines of a source have made
pub source_made : (files : Files) (name : List ℕ) (o : Option Config) (a : LinesSoFar) → passed_from files name o ≡ Ok a → IsMade a.progress
source_made files name None a e = absurd (cc)
source_made files name (Some c) a e = all_made files 200001 c no_lines a begun e
