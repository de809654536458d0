-- Each line keeps what is reserved, and adds what it reserves itself.
use Rattle.std.proofs.Common.{◌≡◌, ℕ, zero, suc, ◌+◌, ◌/◌, ◌≤◌, ◌<◌, Bool, true, false, cond, not, ◌||◌, leb, ltb, List, [], ◌∷◌, ◌++◌, length, Option, Some, None, Result, Ok, Err, codes, refl, sym, ap, ◌∙◌, subst, arith}
use Rattle.std.specs.List.{Contains, find, list_any, position, prefix_len, slice_get}
use Rattle.std.proofs.lemmas.Bool.{le-ltb, ltb-false, ltb-true, not-true, false≢true}
use Rattle.std.proofs.lemmas.List.{append-nil, append_assoc}
use Rattle.std.proofs.lemmas.Option.{slice_get_within}
use Rattle.std.proofs.lemmas.Slice.Eq.{bytes_eq-Decides}
use Rattle.c25_meaning_assembly.proofs.Distinct.{neither}
use Rattle.c25_meaning_assembly.specs.OperandFields.{target_size}
use Rattle.c25_meaning_assembly.specs.AssemblyLine as line
use Rattle.c25_meaning_assembly.specs.AssemblyLine.{AssemblyAct, Room, Statement, read_statement}
use Rattle.c25_meaning_assembly.specs.Emission.{at_origin}
use Rattle.c25_meaning_assembly.specs.ModuleOfSource.{LinesSoFar, no_lines, entry_of, origin_of, pass_line, passed, passed_by, passed_from, read_and_pass}
use Rattle.c25_meaning_assembly.specs.Sections as meaning
use Rattle.c25_meaning_assembly.specs.Sections.{Definitions, Section, Content, Operands, Words, Zeros, Exported, PendingItem, Progress, changed, longer, with_block, with_mark, use_file, use_line, block, block_allowed, flag_in, is_in, is_file_name, is_line_number, stands, define, label, here, loaded_here, table, place, place_in, same_kind, of_kind, section_opened, grow, lay, with_item, size_at, size_by, empty_section, is_called, count_in, reserve, reserve_room, register_names, define_pair, name_count, few, pass, allowed, act}
use Rattle.c25_meaning_common.specs.Results.{◌>>=◌, fold_ok}
use Rattle.c25_meaning_common.specs.declared.placed.FileLine.{FileLine}
use Rattle.c25_meaning_expansion.specs.Expansion.{Config}
use Rattle.c25_meaning_expansion.specs.ExpansionAnswers.{ExpandedLine, given_by, fault_by}
use Rattle.c25_meaning_expansion.specs.ExpansionRuns.{first}
use Rattle.c25_meaning_expansion.specs.Files.{Files}
use Rattle.c25_meaning_language.specs.ExpansionFault.{ExpansionFault}
use Rattle.c25_meaning_language.specs.Statement.{valued}
use Rattle.c25_meaning_language.specs.Tree.{Tree}
use Rattle.c25_meaning_assembly.specs.declared.assembly.Target.{Target}
use Rattle.c25_meaning_assembly.specs.declared.assembly.Target.TheVariants as target
use Rattle.c25_meaning_objects.specs.declared.object.ModuleMark.{ModuleMark}
use Rattle.c25_meaning_language.specs.declared.statement.FaultKind.{FaultKind}
use Rattle.c25_meaning_language.specs.declared.statement.FaultKind.TheVariants as fault
use Rattle.c25_meaning_language.specs.declared.value.Value.{Value}
use Rattle.c25_module_laws.proofs.Kept.{changed_twice, get_last}
use Rattle.c25_module_laws.proofs.KeptFiles.{block_size}
use Rattle.c25_module_laws.proofs.ResultSteps.{bound, permitted, refused, unless}
use Rattle.c25_source_laws.specs.Reservations.{Reservation, found_in, reservation, reserved_by, reserved_from, reserved_on, reserved_since, reserved_with}
use Rattle.c25_source_laws.proofs.Reserving.{IsLater, IsNew, Reserved, last_in, reserved_changed, reserved_more, reserved_names, reserved_push}
use Rattle.std.proofs.lemmas.List.Elements.{Contains-append_left}

-- what is reserved so far
abbrev pub Keeps : List Reservation → Progress → Type 0
Keeps rs p = Reserved rs p.sections p.current p.names

-- ---- sections that are opened

none_found : {X : Type 0} (p : X → Bool) (xs : List X) → ltb (prefix_len (λ x. not (p x)) xs) (length xs) ≡ false → list_any p xs ≡ false
none_found p [] h = refl
none_found p (x ∷ xs) h = on (p x) (none_found p xs) h
  where
    on : (b : Bool) → (ltb (prefix_len (λ x. not (p x)) xs) (length xs) ≡ false → list_any p xs ≡ false)
        → ltb (cond (not b) (1 + prefix_len (λ x. not (p x)) xs) 0) (length (x ∷ xs)) ≡ false → (b || list_any p xs) ≡ false
    on true go h = absurd (let l = ltb-false 0 (length (x ∷ xs)) h in omega (arith, l))
    on false go h = let l = ltb-false (1 + prefix_len (λ x. not (p x)) xs) (length (x ∷ xs)) h in go (le-ltb (prefix_len (λ x. not (p x)) xs) (length xs) (omega (arith, l)))

no_position : {X : Type 0} (p : X → Bool) (xs : List X) → position p xs ≡ None → list_any p xs ≡ false
no_position p xs h = on (ltb (prefix_len (λ x. not (p x)) xs) (length xs)) refl h
  where
    on : (b : Bool) → ltb (prefix_len (λ x. not (p x)) xs) (length xs) ≡ b → cond b (Some (prefix_len (λ x. not (p x)) xs)) None ≡ None → list_any p xs ≡ false
    on true is h = absurd (cc)
    on false is h = none_found p xs is

-- the first that passes a test
pub record IsFound {X : Type 0} (p : X → Bool) (xs : List X) (i : ℕ) : Type 0 where
  pub one : X
  pub at : slice_get xs i ≡ Some one
  pub passes : p one ≡ true
  pub found : find p xs ≡ Some one

found_at : {X : Type 0} (p : X → Bool) (xs : List X) → prefix_len (λ x. not (p x)) xs < length xs → IsFound p xs (prefix_len (λ x. not (p x)) xs)
found_at {X = X} p [] h = absurd (omega (arith, h))
found_at {X = X} p (x ∷ xs) h =
    let a = on (p x) refl (found_at p xs) h in
    record { one = a.0; at = a.1; passes = a.2; found = a.3 }
  where
    on : (b : Bool) → p x ≡ b → (prefix_len (λ x. not (p x)) xs < length xs → IsFound p xs (prefix_len (λ x. not (p x)) xs))
        → cond (not b) (1 + prefix_len (λ x. not (p x)) xs) 0 < length (x ∷ xs)
        → (s : X) × (slice_get (x ∷ xs) (cond (not b) (1 + prefix_len (λ x. not (p x)) xs) 0) ≡ Some s) × (p s ≡ true) × (cond b (Some x) (find p xs) ≡ Some s)
    on true is go h = (x, refl, is, refl)
    on false is go h =
        let a = go (omega (arith, h)) in
        let n : 1 + prefix_len (λ x. not (p x)) xs ≡ suc (prefix_len (λ x. not (p x)) xs) = omega arith in
        (a.one, rw n a.at, a.passes, a.found)

position_found : {X : Type 0} (p : X → Bool) (xs : List X) (i : ℕ) → position p xs ≡ Some i → IsFound p xs i
position_found {X = X} p xs i h = on (ltb (prefix_len (λ x. not (p x)) xs) (length xs)) refl h
  where
    on : (b : Bool) → ltb (prefix_len (λ x. not (p x)) xs) (length xs) ≡ b → cond b (Some (prefix_len (λ x. not (p x)) xs)) None ≡ Some i → IsFound p xs i
    on true is h =
        let q : prefix_len (λ x. not (p x)) xs ≡ i = cc in
        subst (IsFound p xs) q (found_at p xs (ltb-true (prefix_len (λ x. not (p x)) xs) (length xs) is))
    on false is h = absurd (cc)

not_called : (name : List ℕ) (sections : List Section) → list_any (is_called name) sections ≡ false → IsNew name sections
not_called name [] h k s at e = absurd (cc)
not_called name (x ∷ xs) h zero s at e =
    let q : x ≡ s = cc in
    let same : is_called name x ≡ true = (bytes_eq-Decides name x.name).1 (sym (ap (λ (y : Section). y.name) q ∙ e)) in
    absurd (false≢true (sym h ∙ ap (λ b. b || list_any (is_called name) xs) same))
not_called name (x ∷ xs) h (suc k) s at e = not_called name xs (neither (is_called name x) (list_any (is_called name) xs) h).1 k s at e

-- a section of this name and kind is there, and what was reserved is still
pub record IsOpen (rs : List Reservation) (name : List ℕ) (initialised : Bool) (p : Progress) (o : ℕ × Progress) : Type 0 where
  pub keeps : Keeps rs o.1
  pub section : Section
  pub at : slice_get o.1.sections o.0 ≡ Some section
  pub name_is : section.name ≡ name
  pub kind_is : section.initialised ≡ initialised

of_this_kind : (initialised : Bool) (s : Section) → same_kind initialised (Some s) ≡ true → s.initialised ≡ initialised
of_this_kind true s h = h
of_this_kind false s h = not-true s.initialised h

opened : (rs : List Reservation) (name : List ℕ) (initialised : Bool) (p : Progress) (o : ℕ × Progress) → same_kind initialised (find (is_called name) p.sections) ≡ true → Keeps rs p
    → section_opened name initialised p ≡ Ok o → IsOpen rs name initialised p o
unfolding section_opened
opened rs name initialised p o kind keeps e = on (position (is_called name) p.sections) refl e
  where
    on : (i : Option ℕ) → position (is_called name) p.sections ≡ i → meaning.section_opened_by i name initialised p ≡ Ok o → IsOpen rs name initialised p o
    on (Some i) is e =
        let f = position_found (is_called name) p.sections i is in
        let same : (i, p) ≡ o = cc in
        let kinds : same_kind initialised (Some f.one) ≡ true = subst (λ (x : Option Section). same_kind initialised x ≡ true) f.found kind in
        subst (IsOpen rs name initialised p) same (record {
          keeps = keeps;
          section = f.one;
          at = f.at;
          name_is = sym ((bytes_eq-Decides name (f.one).name).0 f.passes);
          kind_is = of_this_kind initialised f.one kinds;
        })
    on None is e =
        let s = empty_section name initialised in
        let made : ℕ × Progress = (length p.sections, record p { sections = p.sections ++ s ∷ [] }) in
        let a = refused (leb 255 (length p.sections)) fault.TooLarge made o e in
        subst (IsOpen rs name initialised p) a.1 (record {
          keeps = reserved_push rs p.sections p.current p.names name initialised (not_called name p.sections (no_position (is_called name) p.sections is)) keeps;
          section = s;
          at = get_last p.sections s;
          name_is = refl;
          kind_is = refl;
        })

-- ---- names

defined_keeps : (rs : List Reservation) (name : List ℕ) (v : Value) (p q : Progress) → Keeps rs p → define name v p ≡ Ok q → Keeps rs q
unfolding define
defined_keeps rs name v p q keeps e =
    let made : Progress = record p { names = p.names ++ (name, v) ∷ [] } in
    let a = refused (stands p.names name) fault.Defined made q e in
    subst (Keeps rs) a.1 (reserved_names rs p.sections p.current p.names (name, v) keeps)

label_keeps : (rs : List Reservation) (l : Option (List ℕ)) (p q : Progress) → Keeps rs p → label l p ≡ Ok q → Keeps rs q × (q.sections ≡ p.sections)
unfolding define
label_keeps rs None p q keeps e = let same : p ≡ q = cc in subst (λ (x : Progress). Keeps rs x × (x.sections ≡ p.sections)) same (keeps, refl)
label_keeps rs (Some name) p q keeps e =
    let made : Progress = record p { names = p.names ++ (name, here p) ∷ [] } in
    let a = refused (stands p.names name) fault.Defined made q e in
    (defined_keeps rs name (here p) p q keeps e, ap (λ (x : Progress). x.sections) (sym a.1))

fold_keeps : (rs : List Reservation) (ps : Definitions) (p q : Progress) → Keeps rs p → fold_ok define_pair p ps ≡ Ok q → Keeps rs q
fold_keeps rs [] p q keeps e = let same : p ≡ q = cc in subst (Keeps rs) same keeps
fold_keeps rs (x ∷ xs) p q keeps e =
    let a = bound (define x.0 x.1 p) (λ r. fold_ok define_pair r xs) q e in
    fold_keeps rs xs a.0 q (defined_keeps rs x.0 x.1 p a.0 keeps a.1) a.2

registers_keep : (rs : List Reservation) (p q : Progress) → Keeps rs p → meaning.registers p ≡ Ok q → Keeps rs q
unfolding meaning.registers
registers_keep rs p q keeps e = on p.registers e
  where
    on : (b : Bool) → cond b (Ok p) (fold_ok define_pair (record p { registers = true }) register_names) ≡ Ok q → Keeps rs q
    on true e = let same : p ≡ q = cc in subst (Keeps rs) same keeps
    on false e = fold_keeps rs register_names (record p { registers = true }) q (record { there = keeps.there; code = keeps.code; distinct = keeps.distinct; sizes = keeps.sizes; set = keeps.set }) e

-- ---- content

longer_later : (n : ℕ) (s : Section) → IsLater s (longer n s)
longer_later n s = record { name = refl; kind = refl; blocks = λ b h. h }

marked_later : (origin : FileLine (List ℕ)) (m : ModuleMark) (s : Section) → IsLater s (with_mark origin m s)
marked_later origin m s = record { name = refl; kind = refl; blocks = λ b h. h }

lay_keeps : (rs : List Reservation) (origin : FileLine (List ℕ)) (content : Content) (n : ℕ) (p q : Progress) → Keeps rs p → lay origin content n p ≡ Ok q → Keeps rs q × (q.current ≡ p.current)
unfolding lay grow
lay_keeps rs origin content n p q keeps e =
    let c = p.current in
    let item : PendingItem = record { origin = origin; section = c; offset = size_at p.sections c; content = content } in
    let made : Progress = record p { sections = changed (longer n) p.sections c; items = p.items ++ item ∷ [] } in
    let a = refused (ltb 65536 (size_at p.sections c + n)) fault.TooLarge made q e in
    subst (λ (x : Progress). Keeps rs x × (x.current ≡ p.current)) a.1 (
      reserved_changed (longer n) rs p.sections c c p.names (longer_later n) (λ s at bare. absurd (false≢true (sym bare ∙ keeps.code s at))) keeps,
      refl,
    )

use_file_keeps : (rs : List Reservation) (name : List ℕ) (p q : Progress) → Keeps rs p → use_file name p ≡ Ok q → Keeps rs q
use_file_keeps rs name p q keeps e = on (is_in p.files name) (leb 65535 (length p.files) || not (is_file_name name)) e
  where
    on : (a b : Bool) → cond a (Ok p) (cond b (Err fault.TooLarge) (Ok (record p { files = p.files ++ name ∷ [] }))) ≡ Ok q → Keeps rs q
    on true b e = let same : p ≡ q = cc in subst (Keeps rs) same keeps
    on false true e = absurd (cc)
    on false false e =
        let made : Progress = record p { files = p.files ++ name ∷ [] } in
        let same : made ≡ q = cc in
        subst (Keeps rs) same (record { there = keeps.there; code = keeps.code; distinct = keeps.distinct; sizes = keeps.sizes; set = keeps.set })

use_line_keeps : (rs : List Reservation) (origin : FileLine (List ℕ)) (p q : Progress) → Keeps rs p → use_line origin p ≡ Ok q → Keeps rs q
unfolding use_line
use_line_keeps rs origin p q keeps e = on (is_line_number origin.line) e
  where
    on : (b : Bool) → cond b (use_file origin.file p) (Err fault.TooLarge) ≡ Ok q → Keeps rs q
    on true e = use_file_keeps rs origin.file p q keeps e
    on false e = absurd (cc)

mark_keeps : (rs : List Reservation) (origin : FileLine (List ℕ)) (t : Target) (section offset n : ℕ) (p q : Progress) → Keeps rs p → meaning.mark origin t section offset n p ≡ Ok q → Keeps rs q
mark_keeps rs origin (target.Instruction f) section offset n p q keeps e =
    let m : ModuleMark = record { section = section; offset = offset; size = n } in
    let with_marks : Progress → Progress = λ x. record x { sections = changed (with_mark origin m) x.sections section } in
    let a = bound (use_line origin p) (λ x. Ok (with_marks x)) q e in
    let x = a.0 in
    let k = use_line_keeps rs origin p x keeps a.1 in
    let same : with_marks x ≡ q = let last = a.2 in cc in
    subst (Keeps rs) same (reserved_changed (with_mark origin m) rs x.sections section x.current x.names (marked_later origin m) (λ s at bare. refl) k)
mark_keeps rs origin (target.Data w) section offset n p q keeps e = let same : p ≡ q = cc in subst (Keeps rs) same keeps

put_keeps : (rs : List Reservation) (origin : FileLine (List ℕ)) (t : Target) (trees : List Tree) (p q : Progress) → Keeps rs p → meaning.put origin t trees p ≡ Ok q → Keeps rs q
put_keeps rs origin t trees p q keeps e =
    let n = target_size t (length trees) in
    let a = bound (lay origin (Operands t trees) n p) (λ r. meaning.mark origin t p.current (size_at p.sections p.current) n r) q e in
    mark_keeps rs origin t p.current (size_at p.sections p.current) n a.0 q (lay_keeps rs origin (Operands t trees) n p a.0 keeps a.1).0 a.2

-- ---- the acts

enter_keeps : (rs : List Reservation) (section : List ℕ) (p q : Progress) → same_kind true (find (is_called section) p.sections) ≡ true → Keeps rs p → meaning.enter section p ≡ Ok q → Keeps rs q
enter_keeps rs section p q kind keeps e =
    let a = bound (section_opened section true p) (λ o. Ok (record o.1 { current = o.0 })) q e in
    let made : Progress = record (a.0).1 { current = (a.0).0 } in
    let same : made ≡ q = let last = a.2 in cc in
    let o = opened rs section true p a.0 kind keeps a.1 in
    subst (Keeps rs) same (record {
      there = slice_get_within (a.0).1.sections (a.0).0 o.section o.at;
      code = λ s at. let one : o.section ≡ s = let x = o.at in let y = at in cc in ap (λ (z : Section). z.initialised) (sym one) ∙ o.kind_is;
      distinct = o.keeps.distinct;
      sizes = o.keeps.sizes;
      set = o.keeps.set;
    })

declare_keeps : (rs : List Reservation) (names : List (List ℕ)) (p q : Progress) → Keeps rs p → meaning.declare names p ≡ Ok q → Keeps rs q
declare_keeps rs names p q keeps e =
    let made : Progress = record p { declared = meaning.all_once p.declared names; exported = meaning.all_once p.exported names } in
    let a = refused (list_any meaning.is_predefined names) fault.Defined made q e in
    subst (Keeps rs) a.1 (record { there = keeps.there; code = keeps.code; distinct = keeps.distinct; sizes = keeps.sizes; set = keeps.set })

export_keeps : (rs : List Reservation) (origin : FileLine (List ℕ)) (names : List (List ℕ)) (p q : Progress) → Keeps rs p → meaning.export origin names p ≡ Ok q → Keeps rs q
export_keeps rs origin names p q keeps e =
    let c = p.current in
    let item : PendingItem = record { origin = origin; section = c; offset = size_at p.sections c; content = Exported names } in
    let made : Progress = record p { exported = meaning.all_once p.exported names; items = p.items ++ item ∷ [] } in
    let a = refused (list_any meaning.is_predefined names) fault.Defined made q e in
    subst (Keeps rs) a.1 (record { there = keeps.there; code = keeps.code; distinct = keeps.distinct; sizes = keeps.sizes; set = keeps.set })

-- the section longer, with its block
with_room : (paged : Bool) (i offset n : ℕ) (s : Section) → Section
with_room true i offset n s = with_block (record { section = i; offset = offset; size = n }) (longer n s)
with_room false i offset n s = longer n s

room_later : (paged : Bool) (i offset n : ℕ) (s : Section) → IsLater s (with_room paged i offset n s)
unfolding with_room
room_later true i offset n s = record { name = refl; kind = refl; blocks = λ b h. Contains-append_left s.blocks (record { section = i; offset = offset; size = n } ∷ []) b h }
room_later false i offset n s = record { name = refl; kind = refl; blocks = λ b h. h }

room_size : (paged : Bool) (i offset n : ℕ) (s : Section) → (with_room paged i offset n s).size ≡ s.size + n
unfolding with_room
room_size true i offset n s = refl
room_size false i offset n s = refl

room_block : (paged : Bool) (i offset n : ℕ) (s : Section) → paged ≡ true → Contains (with_room paged i offset n s).blocks (record { section = i; offset = offset; size = n })
unfolding with_room
room_block true i offset n s e = last_in s.blocks (record { section = i; offset = offset; size = n })
room_block false i offset n s e = absurd (cc)

room_small : (paged : Bool) (n : ℕ) (u : Unit {0}) → block_allowed paged n ≡ Ok u → paged ≡ true → (1 ≤ n) × (n ≤ 128)
room_small true n u allowed e = block_size n u allowed
room_small false n u allowed e = absurd (cc)

grown : (paged : Bool) (i offset n : ℕ) (p q : Progress) → grow i n p ≡ Ok q → block paged i offset n q ≡ record p { sections = changed (with_room paged i offset n) p.sections i }
unfolding grow with_room
grown paged i offset n p q e =
    let made : Progress = record p { sections = changed (longer n) p.sections i } in
    let a = refused (ltb 65536 (size_at p.sections i + n)) fault.TooLarge made q e in
    ap (block paged i offset n) (sym a.1) ∙ by paged
  where
    by : (paged : Bool) → block paged i offset n (record p { sections = changed (longer n) p.sections i }) ≡ record p { sections = changed (with_room paged i offset n) p.sections i }
    by true = ap (λ (ss : List Section). record p { sections = ss }) (changed_twice (longer n) (with_block (record { section = i; offset = offset; size = n })) p.sections i)
    by false = refl

reserve_keeps : (rs : List Reservation) (section name : List ℕ) (n : ℕ) (paged : Bool) (u : Unit {0}) (p q : Progress) → same_kind false (find (is_called section) p.sections) ≡ true
    → block_allowed paged n ≡ Ok u → Keeps rs p → reserve section name n paged p ≡ Ok q → Keeps (rs ++ record { section = section; name = name; count = n; paged = paged } ∷ []) q
unfolding reserve define
reserve_keeps rs section name n paged u p q kind small keeps e =
    let a = bound (section_opened section false p) (λ o. grow o.0 n o.1 >>= λ r. define name (place_in o.1.sections o.0) (block paged o.0 (size_at o.1.sections o.0) n r)) q e in
    let i = (a.0).0 in
    let r = (a.0).1 in
    let size = size_at r.sections i in
    let b = bound (grow i n r) (λ x. define name (place_in r.sections i) (block paged i size n x)) q a.2 in
    let o = opened rs section false p a.0 kind keeps a.1 in
    let x = block paged i size n b.0 in
    let made : Progress = record x { names = x.names ++ (name, place i size) ∷ [] } in
    let d = refused (stands x.names name) fault.Defined made q b.2 in
    let g = grown paged i size n r b.0 b.1 in
    let is : size ≡ (o.section).size = ap size_by o.at in
    let one : Reservation = record { section = section; name = name; count = n; paged = paged } in
    let f = with_room paged i size n in
    let kept : Reserved (rs ++ one ∷ []) (changed f r.sections i) r.current (r.names ++ (name, place i (o.section).size) ∷ []) =
    reserved_more f rs r.sections i r.current r.names o.section one (room_later paged i size n) o.at o.name_is o.kind_is (room_size paged i size n o.section)
    (λ is_paged. subst (λ (k : ℕ). Contains (f o.section).blocks (record { section = i; offset = k; size = n })) is (room_block paged i size n o.section is_paged))
    (room_small paged n u small) o.keeps in
    let there : Reserved (rs ++ one ∷ []) (changed f r.sections i) r.current (r.names ++ (name, place i size) ∷ []) =
    subst (λ (k : ℕ). Reserved (rs ++ one ∷ []) (changed f r.sections i) r.current (r.names ++ (name, place i k) ∷ [])) (sym is) kept in
    subst (Keeps (rs ++ one ∷ [])) d.1 (subst (λ (y : Progress). Reserved (rs ++ one ∷ []) y.sections y.current (y.names ++ (name, place i size) ∷ [])) (sym g) there)

-- the section that an act names, if there is one, is of its kind
abbrev KindFits : AssemblyAct → List Section → Type 0
KindFits (line.Enter section) sections = same_kind true (find (is_called section) sections) ≡ true
KindFits (line.Reserve section name room) sections = same_kind false (find (is_called section) sections) ≡ true
KindFits line.Nothing sections = Unit {0}
KindFits (line.Equate name value) sections = Unit {0}
KindFits (line.Put t operands) sections = Unit {0}
KindFits (line.Load words) sections = Unit {0}
KindFits (line.Space bits) sections = Unit {0}
KindFits (line.Declare names) sections = Unit {0}
KindFits (line.Export names) sections = Unit {0}
KindFits (line.Label name) sections = Unit {0}
KindFits line.Registers sections = Unit {0}

kind_fits : (a : AssemblyAct) (p : Progress) (u : Unit {0}) → allowed a p ≡ Ok u → KindFits a p.sections
kind_fits (line.Enter section) p u e = (permitted (same_kind true (find (is_called section) p.sections)) tt fault.OperandForm u e).0
kind_fits (line.Reserve section name room) p u e =
    let a = bound (of_kind section false p) (λ _. room >>= λ t. Ok tt) u e in
    (permitted (same_kind false (find (is_called section) p.sections)) tt fault.OperandForm a.0 a.1).0
kind_fits line.Nothing p u e = tt
kind_fits (line.Equate name value) p u e = tt
kind_fits (line.Put t operands) p u e = tt
kind_fits (line.Load words) p u e = tt
kind_fits (line.Space bits) p u e = tt
kind_fits (line.Declare names) p u e = tt
kind_fits (line.Export names) p u e = tt
kind_fits (line.Label name) p u e = tt
kind_fits line.Registers p u e = tt

-- an act that reserves nothing
no_more : (rs : List Reservation) (q : Progress) → Keeps rs q → Keeps (rs ++ []) q
no_more rs q keeps = subst (λ (xs : List Reservation). Keeps xs q) (sym (append-nil rs)) keeps

act_keeps : (rs : List Reservation) (origin : FileLine (List ℕ)) (a : AssemblyAct) (p q : Progress) → KindFits a p.sections → Keeps rs p → act origin a p ≡ Ok q → Keeps (rs ++ reserved_by a p) q
act_keeps rs origin line.Nothing p q kind keeps e = let same : p ≡ q = cc in no_more rs q (subst (Keeps rs) same keeps)
act_keeps rs origin (line.Enter section) p q kind keeps e = no_more rs q (enter_keeps rs section p q kind keeps e)
act_keeps rs origin (line.Reserve section name room) p q kind keeps e =
    let r = unless (stands p.names name) fault.Defined (room >>= λ t. reserve_room section name t p) q e in
    let a = bound room (λ t. reserve_room section name t p) q r in
    let t = a.0 in
    let b = bound (count_in (table p) t.count) (λ n. flag_in (table p) t.flag >>= λ flag. block_allowed flag n >>= λ _. reserve section name n flag p) q a.2 in
    let n = b.0 in
    let c = bound (flag_in (table p) t.flag) (λ flag. block_allowed flag n >>= λ _. reserve section name n flag p) q b.2 in
    let d = bound (block_allowed c.0 n) (λ _. reserve section name n c.0 p) q c.2 in
    let one : Reservation = record { section = section; name = name; count = n; paged = c.0 } in
    let by_flag : (flag_in (table p) t.flag >>= λ paged. Ok (record { section = section; name = name; count = n; paged = paged })) ≡ Ok one =
    ap (λ (x : Result Bool FaultKind). x >>= λ paged. Ok (record { section = section; name = name; count = n; paged = paged })) c.1 in
    let by_count : reservation section name p t ≡ Ok one =
    ap (λ (x : Result ℕ FaultKind). x >>= λ n. flag_in (table p) t.flag >>= λ paged. Ok (record { section = section; name = name; count = n; paged = paged })) b.1 ∙ by_flag in
    let by_room : (room >>= λ t. reservation section name p t) ≡ Ok one = ap (λ (x : Result Room FaultKind). x >>= λ t. reservation section name p t) a.1 ∙ by_count in
    let found : found_in (room >>= λ t. reservation section name p t) (λ x. x ∷ []) ≡ one ∷ [] = ap (λ (x : Result Reservation FaultKind). found_in x (λ y. y ∷ [])) by_room in
    subst (λ (xs : List Reservation). Keeps (rs ++ xs) q) (sym found) (reserve_keeps rs section name n c.0 d.0 p q kind d.1 keeps d.2)
act_keeps rs origin (line.Equate name value) p q kind keeps e =
    let r = unless (stands p.names name) fault.Defined (valued (table p) value >>= λ v. define name v p) q e in
    let a = bound (valued (table p) value) (λ v. define name v p) q r in
    no_more rs q (defined_keeps rs name a.0 p q keeps a.2)
act_keeps rs origin (line.Put t operands) p q kind keeps e = no_more rs q (put_keeps rs origin t operands p q keeps e)
act_keeps rs origin (line.Load words) p q kind keeps e = no_more rs q (lay_keeps rs origin (Words words) (length words) p q keeps e).0
act_keeps rs origin (line.Space bits) p q kind keeps e =
    let a = bound (count_in (table p) bits) (λ n. lay origin (Zeros ((n + 15) / 16)) ((n + 15) / 16) p) q e in
    no_more rs q (lay_keeps rs origin (Zeros ((a.0 + 15) / 16)) ((a.0 + 15) / 16) p q keeps a.2).0
act_keeps rs origin (line.Declare names) p q kind keeps e = no_more rs q (declare_keeps rs names p q keeps e)
act_keeps rs origin (line.Export names) p q kind keeps e = no_more rs q (export_keeps rs origin names p q keeps e)
act_keeps rs origin (line.Label name) p q kind keeps e = no_more rs q (defined_keeps rs name (loaded_here p) p q keeps e)
act_keeps rs origin line.Registers p q kind keeps e = no_more rs q (registers_keep rs p q keeps e)

-- ---- lines

pass_keeps : (rs : List Reservation) (origin : FileLine (List ℕ)) (s : Statement) (p q : Progress) → Keeps rs p → pass origin s p ≡ Ok q → Keeps (rs ++ found_in (label s.label p) (λ x. reserved_by s.act x)) q
unfolding pass
pass_keeps rs origin s p q keeps e =
    let a = bound (allowed s.act p) (λ _. label s.label p >>= λ x. act origin s.act x >>= λ r. few r >>= λ _. Ok r) q e in
    let b = bound (label s.label p) (λ x. act origin s.act x >>= λ r. few r >>= λ _. Ok r) q a.2 in
    let c = bound (act origin s.act b.0) (λ r. few r >>= λ _. Ok r) q b.2 in
    let d = bound (few c.0) (λ _. Ok c.0) q c.2 in
    let same : c.0 ≡ q = let last = d.2 in cc in
    let labelled = label_keeps rs s.label p b.0 keeps b.1 in
    let kind = subst (KindFits s.act) (sym labelled.1) (kind_fits s.act p a.0 a.1) in
    let found : found_in (label s.label p) (λ x. reserved_by s.act x) ≡ reserved_by s.act b.0 = ap (λ (r : Result Progress FaultKind). found_in r (λ x. reserved_by s.act x)) b.1 in
    subst (λ (xs : List Reservation). Keeps (rs ++ xs) q) (sym found) (subst (Keeps (rs ++ reserved_by s.act b.0)) same (act_keeps rs origin s.act b.0 c.0 kind labelled.0 c.1))

untold : {A : Type 0} (origin : FileLine (List ℕ)) (r : Result A FaultKind) (x : A) → at_origin origin r ≡ Ok x → r ≡ Ok x
untold origin (Ok y) x e = let q : y ≡ x = cc in ap Ok q
untold origin (Err f) x e = absurd (cc)

line_keeps : (rs : List Reservation) (l : ExpandedLine) (a b : LinesSoFar) → Keeps rs a.progress → pass_line l a ≡ Ok b → Keeps (rs ++ reserved_on l a.progress) b.progress
unfolding pass_line
line_keeps rs l a b keeps e =
    let with_entry : Progress → LinesSoFar = λ p. record { progress = p; entries = a.entries ++ entry_of l a.progress p ∷ [] } in
    let x = bound (read_and_pass l a.progress) (λ p. Ok (with_entry p)) b e in
    let y = untold (origin_of l) (read_statement l.text >>= λ s. pass (origin_of l) s a.progress) x.0 x.1 in
    let z = bound (read_statement l.text) (λ s. pass (origin_of l) s a.progress) x.0 y in
    let same : with_entry x.0 ≡ b = let last = x.2 in cc in
    let found : reserved_on l a.progress ≡ found_in (label (z.0).label a.progress) (λ q. reserved_by (z.0).act q) =
    ap (λ (r : Result Statement FaultKind). found_in r (λ s. found_in (label s.label a.progress) (λ q. reserved_by s.act q))) z.1 in
    subst (λ (w : LinesSoFar). Keeps (rs ++ reserved_on l a.progress) w.progress) same
    (subst (λ (xs : List Reservation). Keeps (rs ++ xs) x.0) (sym found) (pass_keeps rs (origin_of l) z.0 a.progress x.0 keeps z.2))

all_keep : (rs : List Reservation) (files : Files) (n : ℕ) (c : Config) (a b : LinesSoFar) → Keeps rs a.progress → passed files n c a ≡ Ok b → Keeps (rs ++ reserved_from files n c a) b.progress
unfolding passed reserved_from
all_keep rs files zero c a b keeps e = let same : a ≡ b = cc in no_more rs b.progress (subst (λ (x : LinesSoFar). Keeps rs x.progress) same keeps)
all_keep rs files (suc n) c a b keeps e =
    on (fault_by files (first files (table a.progress) c)) (given_by files (first files (table a.progress) c)) (λ xs d x k h. all_keep xs files n d x b k h) e
  where
    on : (f : Option ExpansionFault) (given : Option (ExpandedLine × Config))
        → ((xs : List Reservation) (d : Config) (x : LinesSoFar) → Keeps xs x.progress → passed files n d x ≡ Ok b → Keeps (xs ++ reserved_from files n d x) b.progress)
        → passed_by f given (passed files n) a ≡ Ok b → Keeps (rs ++ reserved_with given (reserved_from files n) a) b.progress
    on (Some f) given go e = absurd (cc)
    on None None go e = let same : a ≡ b = cc in no_more rs b.progress (subst (λ (x : LinesSoFar). Keeps rs x.progress) same keeps)
    on None (Some l) go e =
        let x = bound (pass_line l.0 a) (λ w. passed files n l.1 w) b e in
        let own = reserved_on l.0 a.progress in
        let found : found_in (pass_line l.0 a) (reserved_from files n l.1) ≡ reserved_from files n l.1 x.0 = ap (λ (r : Result LinesSoFar ExpansionFault). found_in r (reserved_from files n l.1)) x.1 in
        let all = go (rs ++ own) l.1 x.0 (line_keeps rs l.0 a x.0 keeps x.1) x.2 in
        let same : (rs ++ own) ++ reserved_from files n l.1 x.0 ≡ rs ++ (own ++ found_in (pass_line l.0 a) (reserved_from files n l.1)) =
        append_assoc rs own (reserved_from files n l.1 x.0) ∙ ap (λ xs. rs ++ (own ++ xs)) (sym found) in
        subst (λ (xs : List Reservation). Keeps xs b.progress) same all

begun : Keeps [] meaning.start
begun = record {
  there = omega arith;
  code = λ s at. let q : empty_section (codes ".text") true ≡ s = cc in ap (λ (x : Section). x.initialised) (sym q);
  distinct = only;
  sizes = sized;
  set = tt;
}
  where
    only : (i k : ℕ) (s t : Section) → slice_get (meaning.start).sections i ≡ Some s → slice_get (meaning.start).sections k ≡ Some t → s.name ≡ t.name → i ≡ k
    only zero zero s t a b e = refl
    only zero (suc k) s t a b e = absurd (cc)
    only (suc i) k s t a b e = absurd (cc)

    sized : (k : ℕ) (s : Section) → slice_get (meaning.start).sections k ≡ Some s → s.initialised ≡ false → s.size ≡ 0
    sized zero s at bare = let q : empty_section (codes ".text") true ≡ s = cc in absurd (false≢true (sym bare ∙ ap (λ (x : Section). x.initialised) (sym q)))
    sized (suc k) s at bare = absurd (cc)

-- what the lines of a source have reserved
pub source_reserves : (files : Files) (o : Option Config) (name : List ℕ) (a : LinesSoFar) → passed_from files name o ≡ Ok a → Keeps (reserved_since files o) a.progress
source_reserves files None name a e = absurd (cc)
source_reserves files (Some c) name a e = all_keep [] files 200001 c no_lines a begun e
