-- Each line keeps the lines of marks in the order of items, and its words are those of its entry in the listing.
use Rattle.std.proofs.Common.{◌≡◌, ℕ, zero, suc, ◌+◌, ◌-◌, ◌/◌, ◌<◌, Bool, true, false, cond, not, ◌||◌, eqb, leb, ltb, List, [], ◌∷◌, ◌++◌, length, map, filter, set, Option, Some, None, Result, Ok, Err, codes, refl, sym, ap, ◌∙◌, subst, arith, inl, inr}
use Rattle.std.specs.List.{AllByRecursion, find, list_any, position, prefix_len, slice_get}
use Rattle.std.proofs.lemmas.Bool.{eq-eqb, ltb-true, ne_eqb, not-true, false≢true}
use Rattle.std.proofs.lemmas.List.{append-nil, append_assoc, map-append}
use Rattle.std.proofs.lemmas.List.Elements.{filter-append}
use Rattle.c25_meaning_assembly.specs.OperandFields.{target_size}
use Rattle.c25_meaning_assembly.specs.AssemblyLine as line
use Rattle.c25_meaning_assembly.specs.AssemblyLine.{AssemblyAct, Room, Statement, read_statement}
use Rattle.c25_meaning_assembly.specs.Emission.{at_origin}
use Rattle.c25_meaning_assembly.specs.ItemPlaces.{words_in}
use Rattle.c25_meaning_assembly.specs.ModuleOfSource.{LinesSoFar, no_lines, entry_of, origin_of, pass_line, passed, passed_by, passed_from, read_and_pass}
use Rattle.c25_meaning_assembly.specs.Sections as meaning
use Rattle.c25_meaning_assembly.specs.Sections.{Definitions, Section, Content, Operands, Words, Zeros, Exported, PendingItem, Progress, changed, changed_by, longer, with_block, with_mark, use_file, use_line, block, block_allowed, flag_in, is_in, is_file_name, is_line_number, stands, define, label, here, loaded_here, table, place_in, same_kind, of_kind, section_opened, grow, lay, with_item, size_at, size_by, empty_section, is_called, count_in, reserve, reserve_room, register_names, define_pair, name_count, few, pass, allowed, act}
use Rattle.c25_meaning_common.specs.Results.{◌>>=◌, fold_ok}
use Rattle.c25_meaning_common.specs.declared.placed.FileLine.{FileLine}
use Rattle.c25_meaning_expansion.specs.Expansion.{Config}
use Rattle.c25_meaning_expansion.specs.ExpansionAnswers.{ExpandedLine, given_by, fault_by}
use Rattle.c25_meaning_expansion.specs.ExpansionRuns.{first}
use Rattle.c25_meaning_expansion.specs.Files.{Files}
use Rattle.c25_meaning_language.specs.ExpansionFault.{ExpansionFault}
use Rattle.c25_meaning_language.specs.Statement.{valued}
use Rattle.c25_meaning_language.specs.Tree.{Tree}
use Rattle.c25_meaning_assembly.specs.declared.assembly.Target.{Target}
use Rattle.c25_meaning_assembly.specs.declared.assembly.Target.TheVariants as target
use Rattle.c25_meaning_objects.specs.declared.object.Block.{Block}
use Rattle.c25_meaning_objects.specs.declared.object.ModuleMark.{ModuleMark}
use Rattle.c25_meaning_language.specs.declared.statement.FaultKind.{FaultKind}
use Rattle.c25_meaning_language.specs.declared.statement.FaultKind.TheVariants as fault
use Rattle.c25_meaning_language.specs.declared.value.Value.{Value}
use Rattle.c25_module_laws.proofs.Kept.{Each, Head, each_changed, get_before, get_last, get_push, head_of, heads, heads_changed, is_code, pushed, weaker}
use Rattle.c25_module_laws.proofs.KeptActs.{code_is, code_section, code_within}
use Rattle.c25_module_laws.proofs.ResultSteps.{bound, permitted, refused, unless}
use Rattle.c25_statement_laws.specs.ListedWords.{Extent, entry_extent, has_words, item_extent}

-- ---- the lines of marks

-- the line of an item that is an instruction
abbrev pub origin_by : PendingItem → Content → List (FileLine (List ℕ))
origin_by i (Operands (target.Instruction f) trees) = i.origin ∷ []
origin_by i _ = []

-- the line that an item has in a section
abbrev pub origins_part : ℕ → PendingItem → List (FileLine (List ℕ))
origins_part k i = cond (eqb i.section k) (origin_by i i.content) []

-- the lines that items have in a section
abbrev pub origins_in : ℕ → List PendingItem → List (FileLine (List ℕ))
origins_in k [] = []
origins_in k (i ∷ is) = origins_part k i ++ origins_in k is

origins_push : (k : ℕ) (is : List PendingItem) (i : PendingItem) → origins_in k (is ++ i ∷ []) ≡ origins_in k is ++ origins_part k i
origins_push k [] i = append-nil (origins_part k i)
origins_push k (j ∷ js) i = ap (λ os. origins_part k j ++ os) (origins_push k js i) ∙ sym (append_assoc (origins_part k j) (origins_in k js) (origins_part k i))

origin_here : (k : ℕ) (i : PendingItem) → i.section ≡ k → origins_part k i ≡ origin_by i i.content
origin_here k i e = ap (λ b. cond b (origin_by i i.content) []) (eq-eqb i.section k e)

origin_there : (k : ℕ) (i : PendingItem) → (k ≡ i.section → ⊥) → origins_part k i ≡ []
origin_there k i e = ap (λ b. cond b (origin_by i i.content) []) (ne_eqb i.section k (λ q. e (sym q)))

no_origin_by : (b : Bool) (i : PendingItem) → origin_by i i.content ≡ [] → cond b (origin_by i i.content) [] ≡ []
no_origin_by true i h = h
no_origin_by false i h = refl

-- an item that is no instruction
origins_same : (k : ℕ) (is : List PendingItem) (i : PendingItem) → origin_by i i.content ≡ [] → origins_in k (is ++ i ∷ []) ≡ origins_in k is
origins_same k is i h = origins_push k is i ∙ ap (λ os. origins_in k is ++ os) (no_origin_by (eqb i.section k) i h) ∙ append-nil (origins_in k is)

-- sections where lines go on in this one, with these items, of which these are marked
pub record Keeps (sections : List Section) (current : ℕ) (items marked : List PendingItem) : Type 0 where
  pub code : is_code (heads sections) current ≡ true
  pub codes : AllByRecursion (λ i. is_code (heads sections) i.section ≡ true) items
  pub origins : Each (λ k s. s.origins ≡ origins_in k marked) sections

abbrev pub Kept : Progress → Type 0
Kept p = Keeps p.sections p.current p.items p.items

-- ---- sections that change

codes_moved : (old new : List Section) (items : List PendingItem) → ((k : ℕ) → is_code (heads old) k ≡ true → is_code (heads new) k ≡ true)
    → AllByRecursion (λ i. is_code (heads old) i.section ≡ true) items → AllByRecursion (λ i. is_code (heads new) i.section ≡ true) items
codes_moved old new items same h = weaker (λ (i : PendingItem). is_code (heads old) i.section ≡ true) (λ (i : PendingItem). is_code (heads new) i.section ≡ true) (λ i. same i.section) items h

code_changed : (f : Section → Section) (sections : List Section) (i k : ℕ) → ((s : Section) → head_of (f s) ≡ head_of s) → is_code (heads sections) k ≡ true → is_code (heads (changed f sections i)) k ≡ true
code_changed f sections i k same h = subst (λ (hs : List Head). is_code hs k ≡ true) (sym (heads_changed f sections i same)) h

-- a change that leaves the lines of marks
quietly : (f : Section → Section) (sections : List Section) (i current : ℕ) (items marked : List PendingItem) → ((s : Section) → head_of (f s) ≡ head_of s) → ((s : Section) → (f s).origins ≡ s.origins)
    → Keeps sections current items marked → Keeps (changed f sections i) current items marked
quietly f sections i current items marked same own h = record {
  code = code_changed f sections i current same h.code;
  codes = codes_moved sections (changed f sections i) items (λ k. code_changed f sections i k same) h.codes;
  origins = each_changed (λ k s. s.origins ≡ origins_in k marked) (λ k s. s.origins ≡ origins_in k marked) f sections i h.origins (λ s at e. own s ∙ e) (λ k s other e. e);
}

size_set : (sections : List Section) (i : ℕ) (y s : Section) → slice_get sections i ≡ Some s → size_at (set sections i y) i ≡ y.size
size_set [] i y s at = absurd (cc)
size_set (x ∷ xs) zero y s at = refl
size_set (x ∷ xs) (suc i) y s at = size_set xs i y s at

size_apart : (sections : List Section) (i k : ℕ) (y : Section) → (k ≡ i → ⊥) → size_at (set sections i y) k ≡ size_at sections k
size_apart [] i k y other = refl
size_apart (x ∷ xs) zero zero y other = absurd (other refl)
size_apart (x ∷ xs) zero (suc k) y other = refl
size_apart (x ∷ xs) (suc i) zero y other = refl
size_apart (x ∷ xs) (suc i) (suc k) y other = size_apart xs i k y (λ e. other (ap suc e))

size_there : (f : Section → Section) (sections : List Section) (i k : ℕ) → (k ≡ i → ⊥) → size_at (changed f sections i) k ≡ size_at sections k
size_there f sections i k other = on (slice_get sections i)
  where
    on : (o : Option Section) → size_at (changed_by f sections i o) k ≡ size_at sections k
    on None = refl
    on (Some s) = size_apart sections i k (f s) other

size_here : (f : Section → Section) (sections : List Section) (i : ℕ) (s : Section) → slice_get sections i ≡ Some s → size_at (changed f sections i) i ≡ (f s).size
size_here f sections i s at = ap (λ (o : Option Section). size_at (changed_by f sections i o) i) at ∙ size_set sections i (f s) s at

-- a section longer, of which the section is there
size_longer : (n : ℕ) (sections : List Section) (i : ℕ) → is_code (heads sections) i ≡ true → size_at (changed (longer n) sections i) i ≡ size_at sections i + n
size_longer n sections i code =
    let s = code_section sections i code in
    size_here (longer n) sections i s.0 s.1 ∙ ap (λ k. k + n) (sym (ap size_by s.1))

-- a change that leaves sizes
size_same : (f : Section → Section) (sections : List Section) (i : ℕ) → ((s : Section) → (f s).size ≡ s.size) → size_at (changed f sections i) i ≡ size_at sections i
size_same f sections i same = on (slice_get sections i) refl
  where
    on : (o : Option Section) → slice_get sections i ≡ o → size_at (changed_by f sections i o) i ≡ size_at sections i
    on None is = refl
    on (Some s) is = size_set sections i (f s) s is ∙ same s ∙ sym (ap size_by is)

-- ---- what a line adds

-- the extent of a line whose section was and is so long
abbrev grown : FileLine (List ℕ) → ℕ → ℕ → ℕ → Extent
grown origin section old new = record { line = origin.line; section = section; offset = old; count = new - old }

-- the extents with words
abbrev pub with_words : List Extent → List Extent
with_words xs = filter has_words xs

-- a line adds the words by which it makes its section longer
abbrev Adds : FileLine (List ℕ) → Progress → Progress → Type 0
Adds origin p q =
    with_words (map item_extent q.items) ≡ with_words (map item_extent p.items) ++ with_words (grown origin p.current (size_at p.sections p.current) (size_at q.sections p.current) ∷ [])

-- a line keeps the lines of marks, and adds its words
record IsStep (origin : FileLine (List ℕ)) (p q : Progress) : Type 0 where
  kept : Kept q
  adds : Adds origin p q

none_grown : (origin : FileLine (List ℕ)) (section old new : ℕ) → new ≡ old → with_words (grown origin section old new ∷ []) ≡ []
none_grown origin section old new e =
    let z : new - old ≡ 0 = omega (arith, e) in
    ap (λ n. with_words (record { line = origin.line; section = section; offset = old; count = n } ∷ [])) z

-- the items are the same, and the section is as long
adds_none : (origin : FileLine (List ℕ)) (p q : Progress) → q.items ≡ p.items → size_at q.sections p.current ≡ size_at p.sections p.current → Adds origin p q
adds_none origin p q items size =
    ap (λ is. with_words (map item_extent is)) items ∙ sym (append-nil (with_words (map item_extent p.items)))
    ∙ ap (λ xs. with_words (map item_extent p.items) ++ xs) (sym (none_grown origin p.current (size_at p.sections p.current) (size_at q.sections p.current) size))

-- one item more, whose words are those by which the section is longer
adds_item : (origin : FileLine (List ℕ)) (content : Content) (n : ℕ) (p q : Progress) → words_in content ≡ n
    → q.items ≡ p.items ++ record { origin = origin; section = p.current; offset = size_at p.sections p.current; content = content } ∷ []
    → size_at q.sections p.current ≡ size_at p.sections p.current + n → Adds origin p q
adds_item origin content n p q count items size =
    let old = size_at p.sections p.current in
    let new = size_at q.sections p.current in
    let item : PendingItem = record { origin = origin; section = p.current; offset = old; content = content } in
    let m : words_in content ≡ new - old = omega (arith, count, size) in
    ap (λ is. with_words (map item_extent is)) items ∙ ap with_words (map-append item_extent p.items (item ∷ []))
    ∙ filter-append has_words (map item_extent p.items) (item_extent item ∷ [])
    ∙ ap (λ k. with_words (map item_extent p.items) ++ with_words (record { line = origin.line; section = p.current; offset = old; count = k } ∷ [])) m

-- nothing is changed of sections and items
record AreStill (p q : Progress) : Type 0 where
  sections : q.sections ≡ p.sections
  current : q.current ≡ p.current
  items : q.items ≡ p.items

still_kept : (p q : Progress) → AreStill p q → Kept p → Kept q
still_kept p q s h =
    subst (λ (is : List PendingItem). Keeps q.sections q.current is is) (sym s.items)
    (subst (λ (c : ℕ). Keeps q.sections c p.items p.items) (sym s.current) (subst (λ (ss : List Section). Keeps ss p.current p.items p.items) (sym s.sections) h))

still : (origin : FileLine (List ℕ)) (p q : Progress) → AreStill p q → Kept p → IsStep origin p q
still origin p q s h = record { kept = still_kept p q s h; adds = adds_none origin p q s.items (ap (λ (ss : List Section). size_at ss p.current) s.sections) }

same_still : (p q : Progress) → p ≡ q → AreStill p q
same_still p q e = record { sections = ap (λ (x : Progress). x.sections) (sym e); current = ap (λ (x : Progress). x.current) (sym e); items = ap (λ (x : Progress). x.items) (sym e) }

still_after : (p q r : Progress) → AreStill p q → AreStill q r → AreStill p r
still_after p q r a b = record { sections = b.sections ∙ a.sections; current = b.current ∙ a.current; items = b.items ∙ a.items }

-- ---- names

define_still : (name : List ℕ) (v : Value) (p q : Progress) → define name v p ≡ Ok q → AreStill p q
unfolding define
define_still name v p q e =
    let made : Progress = record p { names = p.names ++ (name, v) ∷ [] } in
    let a = refused (stands p.names name) fault.Defined made q e in
    let s = same_still made q a.1 in
    record { sections = s.sections; current = s.current; items = s.items }

label_still : (l : Option (List ℕ)) (p q : Progress) → label l p ≡ Ok q → AreStill p q
label_still None p q e = let same : p ≡ q = cc in same_still p q same
label_still (Some name) p q e = define_still name (here p) p q e

fold_still : (ps : Definitions) (p q : Progress) → fold_ok define_pair p ps ≡ Ok q → AreStill p q
fold_still [] p q e = let same : p ≡ q = cc in same_still p q same
fold_still (x ∷ xs) p q e =
    let a = bound (define x.0 x.1 p) (λ r. fold_ok define_pair r xs) q e in
    still_after p a.0 q (define_still x.0 x.1 p a.0 a.1) (fold_still xs a.0 q a.2)

registers_still : (p q : Progress) → meaning.registers p ≡ Ok q → AreStill p q
unfolding meaning.registers
registers_still p q e = on p.registers e
  where
    on : (b : Bool) → cond b (Ok p) (fold_ok define_pair (record p { registers = true }) register_names) ≡ Ok q → AreStill p q
    on true e = let same : p ≡ q = cc in same_still p q same
    on false e = let s = fold_still register_names (record p { registers = true }) q e in record { sections = s.sections; current = s.current; items = s.items }

declare_still : (names : List (List ℕ)) (p q : Progress) → meaning.declare names p ≡ Ok q → AreStill p q
declare_still names p q e =
    let made : Progress = record p { declared = meaning.all_once p.declared names; exported = meaning.all_once p.exported names } in
    let a = refused (list_any meaning.is_predefined names) fault.Defined made q e in
    let s = same_still made q a.1 in
    record { sections = s.sections; current = s.current; items = s.items }

file_still : (name : List ℕ) (p q : Progress) → use_file name p ≡ Ok q → AreStill p q
file_still name p q e = on (is_in p.files name) (leb 65535 (length p.files) || not (is_file_name name)) e
  where
    on : (a b : Bool) → cond a (Ok p) (cond b (Err fault.TooLarge) (Ok (record p { files = p.files ++ name ∷ [] }))) ≡ Ok q → AreStill p q
    on true b e = let same : p ≡ q = cc in same_still p q same
    on false true e = absurd (cc)
    on false false e =
        let made : Progress = record p { files = p.files ++ name ∷ [] } in
        let same : made ≡ q = cc in
        let s = same_still made q same in
        record { sections = s.sections; current = s.current; items = s.items }

line_still : (origin : FileLine (List ℕ)) (p q : Progress) → use_line origin p ≡ Ok q → AreStill p q
unfolding use_line
line_still origin p q e = on (is_line_number origin.line) e
  where
    on : (b : Bool) → cond b (use_file origin.file p) (Err fault.TooLarge) ≡ Ok q → AreStill p q
    on true e = file_still origin.file p q e
    on false e = absurd (cc)

-- ---- content at the current place

abbrev laid_item : FileLine (List ℕ) → Content → Progress → PendingItem
laid_item origin content p = record { origin = origin; section = p.current; offset = size_at p.sections p.current; content = content }

-- one item more, whose mark is still to come
record IsLaid (item : PendingItem) (n : ℕ) (p q : Progress) : Type 0 where
  kept : Keeps q.sections q.current q.items p.items
  items : q.items ≡ p.items ++ item ∷ []
  current : q.current ≡ p.current
  size : size_at q.sections p.current ≡ size_at p.sections p.current + n

lay_kept : (origin : FileLine (List ℕ)) (content : Content) (n : ℕ) (p q : Progress) → Kept p → lay origin content n p ≡ Ok q → IsLaid (laid_item origin content p) n p q
unfolding lay grow
lay_kept origin content n p q kept e =
    let c = p.current in
    let item = laid_item origin content p in
    let made : Progress = record p { sections = changed (longer n) p.sections c; items = p.items ++ item ∷ [] } in
    let a = refused (ltb 65536 (size_at p.sections c + n)) fault.TooLarge made q e in
    let k = quietly (longer n) p.sections c c p.items p.items (λ _. refl) (λ _. refl) kept in
    subst (λ (x : Progress). IsLaid item n p x) a.1 (record {
      kept = record {
        code = k.code;
        codes = pushed (λ (i : PendingItem). is_code (heads (changed (longer n) p.sections c)) i.section ≡ true) p.items item k.codes k.code;
        origins = k.origins;
      };
      items = refl;
      current = refl;
      size = size_longer n p.sections c kept.code;
    })

-- other items that have the same lines
remarked : (sections : List Section) (current : ℕ) (items old new : List PendingItem) → ((k : ℕ) → origins_in k old ≡ origins_in k new) → Keeps sections current items old → Keeps sections current items new
remarked sections current items old new same h = record { code = h.code; codes = h.codes; origins = λ k s at. h.origins k s at ∙ same k }

laid_bare : (origin : FileLine (List ℕ)) (content : Content) (n : ℕ) (p q : Progress) → words_in content ≡ n → origin_by (laid_item origin content p) content ≡ [] → IsLaid (laid_item origin content p) n p q → IsStep origin p q
laid_bare origin content n p q count none h = record {
  kept = remarked q.sections q.current q.items p.items q.items (λ k. sym (ap (origins_in k) h.items ∙ origins_same k p.items (laid_item origin content p) none)) h.kept;
  adds = adds_item origin content n p q count h.items h.size;
}

lay_step : (origin : FileLine (List ℕ)) (content : Content) (n : ℕ) (p q : Progress) → words_in content ≡ n → origin_by (laid_item origin content p) content ≡ [] → Kept p → lay origin content n p ≡ Ok q → IsStep origin p q
lay_step origin content n p q count none kept e = laid_bare origin content n p q count none (lay_kept origin content n p q kept e)

-- the line of an instruction's mark
marked : (origin : FileLine (List ℕ)) (m : ModuleMark) (item : PendingItem) (sections : List Section) (current c : ℕ) (items old new : List PendingItem) → item.section ≡ c → new ≡ old ++ item ∷ []
    → origin_by item item.content ≡ origin ∷ [] → Keeps sections current items old → Keeps (changed (with_mark origin m) sections c) current items new
marked origin m item sections current c items old new at is own h =
    let more : (k : ℕ) → origins_in k new ≡ origins_in k old ++ origins_part k item = λ k. ap (origins_in k) is ∙ origins_push k old item in
    record {
      code = code_changed (with_mark origin m) sections c current (λ _. refl) h.code;
      codes = codes_moved sections (changed (with_mark origin m) sections c) items (λ k. code_changed (with_mark origin m) sections c k (λ _. refl)) h.codes;
      origins = each_changed (λ k s. s.origins ≡ origins_in k old) (λ k s. s.origins ≡ origins_in k new) (with_mark origin m) sections c h.origins
          (λ s there e. ap (λ os. os ++ origin ∷ []) e ∙ sym (more c ∙ ap (λ os. origins_in c old ++ os) (origin_here c item at ∙ own)))
          (λ k s other e. e ∙ sym (more k ∙ ap (λ os. origins_in k old ++ os) (origin_there k item (λ q. other (q ∙ at))) ∙ append-nil (origins_in k old)));
    }

put_marked : (origin : FileLine (List ℕ)) (t : Target) (trees : List Tree) (p q r : Progress) → IsLaid (laid_item origin (Operands t trees) p) (target_size t (length trees)) p q
    → meaning.mark origin t p.current (size_at p.sections p.current) (target_size t (length trees)) q ≡ Ok r → IsStep origin p r
put_marked origin (target.Instruction f) trees p q r h e =
    let c = p.current in
    let n = target_size (target.Instruction f) (length trees) in
    let item = laid_item origin (Operands (target.Instruction f) trees) p in
    let m : ModuleMark = record { section = c; offset = size_at p.sections c; size = n } in
    let with_marks : Progress → Progress = λ x. record x { sections = changed (with_mark origin m) x.sections c } in
    let a = bound (use_line origin q) (λ x. Ok (with_marks x)) r e in
    let x = a.0 in
    let u = line_still origin q x a.1 in
    let same : with_marks x ≡ r = let last = a.2 in cc in
    let k : Keeps x.sections x.current x.items p.items =
    subst (λ (is : List PendingItem). Keeps x.sections x.current is p.items) (sym u.items)
    (subst (λ (c : ℕ). Keeps x.sections c q.items p.items) (sym u.current) (subst (λ (ss : List Section). Keeps ss q.current q.items p.items) (sym u.sections) h.kept)) in
    subst (IsStep origin p) same (record {
      kept = marked origin m item x.sections x.current c x.items p.items x.items refl (u.items ∙ h.items) refl k;
      adds = adds_item origin (Operands (target.Instruction f) trees) n p (with_marks x) refl (u.items ∙ h.items)
          (size_same (with_mark origin m) x.sections c (λ _. refl) ∙ ap (λ (ss : List Section). size_at ss c) u.sections ∙ h.size);
    })
put_marked origin (target.Data w) trees p q r h e =
    let same : q ≡ r = cc in
    subst (IsStep origin p) same (laid_bare origin (Operands (target.Data w) trees) (length trees) p q refl refl h)

put_step : (origin : FileLine (List ℕ)) (t : Target) (trees : List Tree) (p q : Progress) → Kept p → meaning.put origin t trees p ≡ Ok q → IsStep origin p q
put_step origin t trees p q kept e =
    let n = target_size t (length trees) in
    let a = bound (lay origin (Operands t trees) n p) (λ r. meaning.mark origin t p.current (size_at p.sections p.current) n r) q e in
    put_marked origin t trees p a.0 q (lay_kept origin (Operands t trees) n p a.0 kept a.1) a.2

export_step : (origin : FileLine (List ℕ)) (names : List (List ℕ)) (p q : Progress) → Kept p → meaning.export origin names p ≡ Ok q → IsStep origin p q
export_step origin names p q kept e =
    let item = laid_item origin (Exported names) p in
    let made : Progress = record p { exported = meaning.all_once p.exported names; items = p.items ++ item ∷ [] } in
    let a = refused (list_any meaning.is_predefined names) fault.Defined made q e in
    subst (IsStep origin p) a.1 (laid_bare origin (Exported names) 0 p made refl refl (record {
      kept = record { code = kept.code; codes = pushed (λ (i : PendingItem). is_code (heads p.sections) i.section ≡ true) p.items item kept.codes kept.code; origins = kept.origins };
      items = refl;
      current = refl;
      size = omega arith;
    }))

-- ---- sections that are opened

found_at : {X : Type 0} (p : X → Bool) (xs : List X) → prefix_len (λ x. not (p x)) xs < length xs → (s : X) × (slice_get xs (prefix_len (λ x. not (p x)) xs) ≡ Some s) × (find p xs ≡ Some s)
found_at p [] h = absurd (omega (arith, h))
found_at {X = X} p (x ∷ xs) h = on (p x) refl (found_at p xs) h
  where
    on : (b : Bool) → p x ≡ b → (prefix_len (λ x. not (p x)) xs < length xs → (s : X) × (slice_get xs (prefix_len (λ x. not (p x)) xs) ≡ Some s) × (find p xs ≡ Some s))
        → cond (not b) (1 + prefix_len (λ x. not (p x)) xs) 0 < length (x ∷ xs)
        → (s : X) × (slice_get (x ∷ xs) (cond (not b) (1 + prefix_len (λ x. not (p x)) xs) 0) ≡ Some s) × (cond b (Some x) (find p xs) ≡ Some s)
    on true is go h = (x, refl, refl)
    on false is go h =
        let a = go (omega (arith, h)) in
        let n : 1 + prefix_len (λ x. not (p x)) xs ≡ suc (prefix_len (λ x. not (p x)) xs) = omega arith in
        (a.0, rw n a.1, a.2)

position_found : {X : Type 0} (p : X → Bool) (xs : List X) (i : ℕ) → position p xs ≡ Some i → (s : X) × (slice_get xs i ≡ Some s) × (find p xs ≡ Some s)
position_found {X = X} p xs i h = on (ltb (prefix_len (λ x. not (p x)) xs) (length xs)) refl h
  where
    on : (b : Bool) → ltb (prefix_len (λ x. not (p x)) xs) (length xs) ≡ b → cond b (Some (prefix_len (λ x. not (p x)) xs)) None ≡ Some i → (s : X) × (slice_get xs i ≡ Some s) × (find p xs ≡ Some s)
    on true is h =
        let q : prefix_len (λ x. not (p x)) xs ≡ i = cc in
        subst (λ (k : ℕ). (s : X) × (slice_get xs k ≡ Some s) × (find p xs ≡ Some s)) q (found_at p xs (ltb-true (prefix_len (λ x. not (p x)) xs) (length xs) is))
    on false is h = absurd (cc)

of_this_kind : (initialised : Bool) (s : Section) → same_kind initialised (Some s) ≡ true → s.initialised ≡ initialised
of_this_kind true s h = h
of_this_kind false s h = not-true s.initialised h

code_pushed : (sections : List Section) (s : Section) (k : ℕ) → is_code (heads sections) k ≡ true → is_code (heads (sections ++ s ∷ [])) k ≡ true
code_pushed sections s k h =
    let x = code_section sections k h in
    code_is (sections ++ s ∷ []) k x.0 (get_before sections (s ∷ []) k x.0 x.1) ∙ x.2

none_there : (sections : List Section) (items : List PendingItem) → AllByRecursion (λ i. is_code (heads sections) i.section ≡ true) items → origins_in (length sections) items ≡ []
none_there sections [] h = refl
none_there sections (i ∷ is) h =
    let l = code_within sections i.section h.0 in
    ap (λ os. os ++ origins_in (length sections) is) (origin_there (length sections) i (λ e. omega (arith, l, e))) ∙ none_there sections is h.1

size_pushed : (sections : List Section) (s : Section) (k : ℕ) → is_code (heads sections) k ≡ true → size_at (sections ++ s ∷ []) k ≡ size_at sections k
size_pushed sections s k h =
    let x = code_section sections k h in
    ap size_by (get_before sections (s ∷ []) k x.0 x.1) ∙ sym (ap size_by x.1)

-- a section is there, and all else is as it was
record IsOpened (initialised : Bool) (p : Progress) (o : ℕ × Progress) : Type 0 where
  kept : Kept o.1
  code : is_code (heads o.1.sections) o.0 ≡ initialised
  current : o.1.current ≡ p.current
  items : o.1.items ≡ p.items
  size : size_at o.1.sections p.current ≡ size_at p.sections p.current

opened : (name : List ℕ) (initialised : Bool) (p : Progress) (o : ℕ × Progress) → same_kind initialised (find (is_called name) p.sections) ≡ true → Kept p
    → section_opened name initialised p ≡ Ok o → IsOpened initialised p o
unfolding section_opened
opened name initialised p o kind kept e = on (position (is_called name) p.sections) refl e
  where
    on : (i : Option ℕ) → position (is_called name) p.sections ≡ i → meaning.section_opened_by i name initialised p ≡ Ok o → IsOpened initialised p o
    on (Some i) is e =
        let f = position_found (is_called name) p.sections i is in
        let same : (i, p) ≡ o = cc in
        let kinds : same_kind initialised (Some f.0) ≡ true = subst (λ (x : Option Section). same_kind initialised x ≡ true) f.2 kind in
        subst (IsOpened initialised p) same (record { kept = kept; code = code_is p.sections i f.0 f.1 ∙ of_this_kind initialised f.0 kinds; current = refl; items = refl; size = refl })
    on None is e =
        let s = empty_section name initialised in
        let made : ℕ × Progress = (length p.sections, record p { sections = p.sections ++ s ∷ [] }) in
        let a = refused (leb 255 (length p.sections)) fault.TooLarge made o e in
        subst (IsOpened initialised p) a.1 (record {
          kept = record {
            code = code_pushed p.sections s p.current kept.code;
            codes = codes_moved p.sections (p.sections ++ s ∷ []) p.items (code_pushed p.sections s) kept.codes;
            origins = λ k x at. elim (get_push p.sections k s x at) [
              | inl h ↦ ap (λ (y : Section). y.origins) (sym h.1) ∙ sym (none_there p.sections p.items kept.codes) ∙ ap (λ n. origins_in n p.items) (sym h.0)
              | inr h ↦ kept.origins k x h
            ];
          };
          code = code_is (p.sections ++ s ∷ []) (length p.sections) s (get_last p.sections s);
          current = refl;
          items = refl;
          size = size_pushed p.sections s p.current kept.code;
        })

enter_step : (origin : FileLine (List ℕ)) (section : List ℕ) (p q : Progress) → same_kind true (find (is_called section) p.sections) ≡ true → Kept p → meaning.enter section p ≡ Ok q → IsStep origin p q
enter_step origin section p q kind kept e =
    let a = bound (section_opened section true p) (λ o. Ok (record o.1 { current = o.0 })) q e in
    let made : Progress = record (a.0).1 { current = (a.0).0 } in
    let same : made ≡ q = let last = a.2 in cc in
    let o = opened section true p a.0 kind kept a.1 in
    subst (IsStep origin p) same (record { kept = record { code = o.code; codes = o.kept.codes; origins = o.kept.origins }; adds = adds_none origin p made o.items o.size })

-- a section that holds no code longer, perhaps with a block
room_kept : (flag : Bool) (i n : ℕ) (p q : Progress) → is_code (heads p.sections) i ≡ false → Kept p → grow i n p ≡ Ok q
    → Kept (block flag i (size_at p.sections i) n q) × ((block flag i (size_at p.sections i) n q).items ≡ p.items)
    × (size_at (block flag i (size_at p.sections i) n q).sections p.current ≡ size_at p.sections p.current)
unfolding grow
room_kept flag i n p q bare kept e =
    let made : Progress = record p { sections = changed (longer n) p.sections i } in
    let a = refused (ltb 65536 (size_at p.sections i + n)) fault.TooLarge made q e in
    subst (λ (x : Progress). Kept (block flag i (size_at p.sections i) n x) × ((block flag i (size_at p.sections i) n x).items ≡ p.items)
    × (size_at (block flag i (size_at p.sections i) n x).sections p.current ≡ size_at p.sections p.current)) a.1 (by flag)
  where
    made : Progress
    made = record p { sections = changed (longer n) p.sections i }

    other : p.current ≡ i → ⊥
    other same = false≢true (sym bare ∙ ap (is_code (heads p.sections)) (sym same) ∙ kept.code)

    grown_kept : Kept made
    grown_kept = quietly (longer n) p.sections i p.current p.items p.items (λ _. refl) (λ _. refl) kept

    grown_size : size_at made.sections p.current ≡ size_at p.sections p.current
    grown_size = size_there (longer n) p.sections i p.current other

    by : (flag : Bool) → Kept (block flag i (size_at p.sections i) n made) × ((block flag i (size_at p.sections i) n made).items ≡ p.items)
        × (size_at (block flag i (size_at p.sections i) n made).sections p.current ≡ size_at p.sections p.current)
    by false = (grown_kept, refl, grown_size)
    by true =
        let b : Block = record { section = i; offset = size_at p.sections i; size = n } in (
          quietly (with_block b) made.sections i p.current p.items p.items (λ _. refl) (λ _. refl) grown_kept,
          refl,
          size_there (with_block b) made.sections i p.current other ∙ grown_size,
        )

reserve_step : (origin : FileLine (List ℕ)) (section name : List ℕ) (n : ℕ) (flag : Bool) (p q : Progress) → same_kind false (find (is_called section) p.sections) ≡ true → Kept p
    → reserve section name n flag p ≡ Ok q → IsStep origin p q
unfolding reserve
reserve_step origin section name n flag p q kind kept e =
    let a = bound (section_opened section false p) (λ o. grow o.0 n o.1 >>= λ r. define name (place_in o.1.sections o.0) (block flag o.0 (size_at o.1.sections o.0) n r)) q e in
    let i = (a.0).0 in
    let r = (a.0).1 in
    let b = bound (grow i n r) (λ x. define name (place_in r.sections i) (block flag i (size_at r.sections i) n x)) q a.2 in
    let o = opened section false p a.0 kind kept a.1 in
    let g = room_kept flag i n r b.0 o.code o.kept b.1 in
    let x = block flag i (size_at r.sections i) n b.0 in
    let s = define_still name (place_in r.sections i) x q b.2 in
    let size : size_at x.sections p.current ≡ size_at p.sections p.current = subst (λ (c : ℕ). size_at x.sections c ≡ size_at r.sections c) o.current g.2 ∙ o.size in
    record {
      kept = still_kept x q s g.0;
      adds = adds_none origin p q (s.items ∙ g.1 ∙ o.items) (ap (λ (ss : List Section). size_at ss p.current) s.sections ∙ size);
    }

-- ---- the acts

-- the section that an act names, if there is one, is of its kind
abbrev KindFits : AssemblyAct → List Section → Type 0
KindFits (line.Enter section) sections = same_kind true (find (is_called section) sections) ≡ true
KindFits (line.Reserve section name room) sections = same_kind false (find (is_called section) sections) ≡ true
KindFits line.Nothing sections = Unit {0}
KindFits (line.Equate name value) sections = Unit {0}
KindFits (line.Put t operands) sections = Unit {0}
KindFits (line.Load words) sections = Unit {0}
KindFits (line.Space bits) sections = Unit {0}
KindFits (line.Declare names) sections = Unit {0}
KindFits (line.Export names) sections = Unit {0}
KindFits (line.Label name) sections = Unit {0}
KindFits line.Registers sections = Unit {0}

kind_fits : (a : AssemblyAct) (p : Progress) (u : Unit {0}) → allowed a p ≡ Ok u → KindFits a p.sections
kind_fits (line.Enter section) p u e = (permitted (same_kind true (find (is_called section) p.sections)) tt fault.OperandForm u e).0
kind_fits (line.Reserve section name room) p u e =
    let a = bound (of_kind section false p) (λ _. room >>= λ t. Ok tt) u e in
    (permitted (same_kind false (find (is_called section) p.sections)) tt fault.OperandForm a.0 a.1).0
kind_fits line.Nothing p u e = tt
kind_fits (line.Equate name value) p u e = tt
kind_fits (line.Put t operands) p u e = tt
kind_fits (line.Load words) p u e = tt
kind_fits (line.Space bits) p u e = tt
kind_fits (line.Declare names) p u e = tt
kind_fits (line.Export names) p u e = tt
kind_fits (line.Label name) p u e = tt
kind_fits line.Registers p u e = tt

act_step : (origin : FileLine (List ℕ)) (a : AssemblyAct) (p q : Progress) → KindFits a p.sections → Kept p → act origin a p ≡ Ok q → IsStep origin p q
act_step origin line.Nothing p q kind kept e = let same : p ≡ q = cc in still origin p q (same_still p q same) kept
act_step origin (line.Enter section) p q kind kept e = enter_step origin section p q kind kept e
act_step origin (line.Reserve section name room) p q kind kept e =
    let r = unless (stands p.names name) fault.Defined (room >>= λ t. reserve_room section name t p) q e in
    let a = bound room (λ t. reserve_room section name t p) q r in
    let b = bound (count_in (table p) (a.0).count) (λ n. flag_in (table p) (a.0).flag >>= λ flag. block_allowed flag n >>= λ _. reserve section name n flag p) q a.2 in
    let c = bound (flag_in (table p) (a.0).flag) (λ flag. block_allowed flag b.0 >>= λ _. reserve section name b.0 flag p) q b.2 in
    let d = bound (block_allowed c.0 b.0) (λ _. reserve section name b.0 c.0 p) q c.2 in
    reserve_step origin section name b.0 c.0 p q kind kept d.2
act_step origin (line.Equate name value) p q kind kept e =
    let r = unless (stands p.names name) fault.Defined (valued (table p) value >>= λ v. define name v p) q e in
    let a = bound (valued (table p) value) (λ v. define name v p) q r in
    still origin p q (define_still name a.0 p q a.2) kept
act_step origin (line.Put t operands) p q kind kept e = put_step origin t operands p q kept e
act_step origin (line.Load words) p q kind kept e = lay_step origin (Words words) (length words) p q refl refl kept e
act_step origin (line.Space bits) p q kind kept e =
    let a = bound (count_in (table p) bits) (λ n. lay origin (Zeros ((n + 15) / 16)) ((n + 15) / 16) p) q e in
    lay_step origin (Zeros ((a.0 + 15) / 16)) ((a.0 + 15) / 16) p q refl refl kept a.2
act_step origin (line.Declare names) p q kind kept e = still origin p q (declare_still names p q e) kept
act_step origin (line.Export names) p q kind kept e = export_step origin names p q kept e
act_step origin (line.Label name) p q kind kept e = still origin p q (define_still name (loaded_here p) p q e) kept
act_step origin line.Registers p q kind kept e = still origin p q (registers_still p q e) kept

-- ---- lines

-- what a line adds, it adds to what is the same
adds_moved : (origin : FileLine (List ℕ)) (p x q : Progress) → AreStill p x → Adds origin x q → Adds origin p q
adds_moved origin p x q s h =
    subst (λ (is : List PendingItem). with_words (map item_extent q.items) ≡ with_words (map item_extent is) ++ with_words (grown origin p.current (size_at p.sections p.current) (size_at q.sections p.current) ∷ [])) s.items
    (subst (λ (ss : List Section). with_words (map item_extent q.items) ≡ with_words (map item_extent x.items) ++ with_words (grown origin p.current (size_at ss p.current) (size_at q.sections p.current) ∷ [])) s.sections
    (subst (λ (c : ℕ). with_words (map item_extent q.items) ≡ with_words (map item_extent x.items) ++ with_words (grown origin c (size_at x.sections c) (size_at q.sections c) ∷ [])) s.current h))

pass_step : (origin : FileLine (List ℕ)) (s : Statement) (p q : Progress) → Kept p → pass origin s p ≡ Ok q → IsStep origin p q
unfolding pass
pass_step origin s p q kept e =
    let a = bound (allowed s.act p) (λ _. label s.label p >>= λ x. act origin s.act x >>= λ r. few r >>= λ _. Ok r) q e in
    let b = bound (label s.label p) (λ x. act origin s.act x >>= λ r. few r >>= λ _. Ok r) q a.2 in
    let c = bound (act origin s.act b.0) (λ r. few r >>= λ _. Ok r) q b.2 in
    let d = bound (few c.0) (λ _. Ok c.0) q c.2 in
    let same : c.0 ≡ q = let last = d.2 in cc in
    let l = label_still s.label p b.0 b.1 in
    let kind = subst (KindFits s.act) (sym l.sections) (kind_fits s.act p a.0 a.1) in
    let h = act_step origin s.act b.0 c.0 kind (still_kept p b.0 l kept) c.1 in
    subst (IsStep origin p) same (record { kept = h.kept; adds = adds_moved origin p b.0 c.0 l h.adds })

untold : {A : Type 0} (origin : FileLine (List ℕ)) (r : Result A FaultKind) (x : A) → at_origin origin r ≡ Ok x → r ≡ Ok x
untold origin (Ok y) x e = let q : y ≡ x = cc in ap Ok q
untold origin (Err f) x e = absurd (cc)

-- the lines of marks, and the entries of the listing, which show the words of items
pub record AreListed (a : LinesSoFar) : Type 0 where
  pub kept : Kept a.progress
  pub entries : with_words (map entry_extent a.entries) ≡ with_words (map item_extent a.progress.items)

line_listed : (l : ExpandedLine) (a b : LinesSoFar) → AreListed a → pass_line l a ≡ Ok b → AreListed b
unfolding pass_line
line_listed l a b listed e =
    let with_entry : Progress → LinesSoFar = λ p. record { progress = p; entries = a.entries ++ entry_of l a.progress p ∷ [] } in
    let x = bound (read_and_pass l a.progress) (λ p. Ok (with_entry p)) b e in
    let y = untold (origin_of l) (read_statement l.text >>= λ s. pass (origin_of l) s a.progress) x.0 x.1 in
    let z = bound (read_statement l.text) (λ s. pass (origin_of l) s a.progress) x.0 y in
    let same : with_entry x.0 ≡ b = let last = x.2 in cc in
    let h = pass_step (origin_of l) z.0 a.progress x.0 listed.kept z.2 in
    let entry = entry_of l a.progress x.0 in
    subst AreListed same (record {
      kept = h.kept;
      entries = ap with_words (map-append entry_extent a.entries (entry ∷ []))
          ∙ filter-append has_words (map entry_extent a.entries) (entry_extent entry ∷ [])
          ∙ ap (λ xs. xs ++ with_words (entry_extent entry ∷ [])) listed.entries
          ∙ sym h.adds;
    })

all_listed : (files : Files) (n : ℕ) (c : Config) (a b : LinesSoFar) → AreListed a → passed files n c a ≡ Ok b → AreListed b
unfolding passed
all_listed files zero c a b listed e = let same : a ≡ b = cc in subst AreListed same listed
all_listed files (suc n) c a b listed e =
    on (fault_by files (first files (table a.progress) c)) (given_by files (first files (table a.progress) c)) (λ d x m h. all_listed files n d x b m h) e
  where
    on : (f : Option ExpansionFault) (given : Option (ExpandedLine × Config)) → ((d : Config) (x : LinesSoFar) → AreListed x → passed files n d x ≡ Ok b → AreListed b)
        → passed_by f given (passed files n) a ≡ Ok b → AreListed b
    on (Some f) given go e = absurd (cc)
    on None None go e = let same : a ≡ b = cc in subst AreListed same listed
    on None (Some l) go e =
        let x = bound (pass_line l.0 a) (λ w. passed files n l.1 w) b e in
        go l.1 x.0 (line_listed l.0 a x.0 listed x.1) x.2

begun : AreListed no_lines
begun = record {
  kept = record { code = refl; codes = tt; origins = sections };
  entries = refl;
}
  where
    sections : Each (λ k s. s.origins ≡ origins_in k []) (meaning.start).sections
    sections zero s at = let q : empty_section (codes ".text") true ≡ s = cc in ap (λ (x : Section). x.origins) (sym q)
    sections (suc k) s at = absurd (cc)

-- what the lines of a source have made
pub source_listed : (files : Files) (name : List ℕ) (o : Option Config) (a : LinesSoFar) → passed_from files name o ≡ Ok a → AreListed a
source_listed files name None a e = absurd (cc)
source_listed files name (Some c) a e = all_listed files 200001 c no_lines a begun e
