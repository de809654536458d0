-- Each line of a layout passes: sections are new, names are apart, and there is room.
use Rattle.std.proofs.Common.{◌≡◌, ◌⊎◌, ℕ, zero, suc, ◌+◌, ◌<◌, ◌≤◌, Bool, true, false, cond, not, ◌||◌, ltb, List, [], ◌∷◌, ◌++◌, length, map, Option, Some, None, Ok, refl, sym, ap, ◌∙◌, subst, arith, inl, inr}
use Rattle.std.specs.Prelude.{nat_le, nat_lt}
use Rattle.std.specs.List.{AllByRecursion, find, list_any, prefix_len}
use Rattle.std.specs.Str.{bytes_eq}
use Rattle.std.proofs.lemmas.Bool.Decides.{nat_tests}
use Rattle.std.proofs.lemmas.List.{length-append}
use Rattle.std.proofs.lemmas.Slice.Eq.{bytes_eq-Decides}
use Rattle.c25_meaning_assembly.specs.AssemblyLine as line
use Rattle.c25_meaning_assembly.specs.AssemblyLine.{Statement}
use Rattle.c25_meaning_assembly.specs.OperandFields.{target_size}
use Rattle.c25_meaning_assembly.specs.Sections as meaning
use Rattle.c25_meaning_assembly.specs.Sections.{Definitions, Operands, PendingItem, Progress, Section, act, are_distinct, changed, define, empty_section, few, grow, here, is_called, is_file_name, is_in, is_line_number, label, lay, loaded_here, longer, name_count, of_kind, pass, section_opened, size_at, stands, use_file, use_line, with_mark}
use Rattle.c25_meaning_assembly.specs.declared.assembly.Target.{Target}
use Rattle.c25_meaning_assembly.specs.declared.assembly.Target.TheVariants as target
use Rattle.c25_meaning_common.specs.declared.placed.FileLine.{FileLine}
use Rattle.c25_meaning_language.specs.Tree.{Tree}
use Rattle.c25_meaning_language.specs.Value.{defined, predefined}
use Rattle.c25_module_laws.proofs.Kept.{changed_later}
use Rattle.c25_layout_laws.proofs.Tracked.{Done, Tracks, label_tracked, labelled, names_length}

-- ---- what lines need besides

-- a section is one of words, which are not known yet, without blocks
pub record IsPlain (s : Section) : Type 0 where
  pub initialised : s.initialised ≡ true
  pub blocks : s.blocks ≡ []
  pub words : s.words ≡ []
  pub relocations : s.relocations ≡ []

-- nothing is declared or exported, sections are plain, and only this file holds instructions
pub record IsGood (file : List ℕ) (p : Progress) : Type 0 where
  pub declared : p.declared ≡ []
  pub exported : p.exported ≡ []
  pub sections : AllByRecursion IsPlain p.sections
  pub used : (p.files ≡ []) ⊎ (p.files ≡ file ∷ [])

-- statements pass one after another, from any lines of a file, and no more is needed at the end
abbrev pub Passable : List ℕ → List Statement → Progress → Type 0
Passable file [] p = IsGood file p
Passable file (s ∷ ss) p = (origin : FileLine (List ℕ)) → origin.file ≡ file → is_line_number origin.line ≡ true → (r : Progress) × (pass origin s p ≡ Ok r) × Passable file ss r

-- a statement passes to such a progress
pub record Goes (file : List ℕ) (origin : FileLine (List ℕ)) (s : Statement) (p : Progress) : Type 0 where
  pub to : Progress
  pub passes : pass origin s p ≡ Ok to
  pub good : IsGood file to

plain_push : (ss : List Section) (s : Section) → AllByRecursion IsPlain ss → IsPlain s → AllByRecursion IsPlain (ss ++ s ∷ [])
plain_push [] s h g = (g, tt)
plain_push (x ∷ ss) s h g = (h.0, plain_push ss s h.1 g)

plain_changed : (f : Section → Section) (ss : List Section) (i : ℕ) → ((s : Section) → IsPlain s → IsPlain (f s)) → AllByRecursion IsPlain ss → AllByRecursion IsPlain (changed f ss i)
plain_changed f [] i keeps h = tt
plain_changed f (s ∷ ss) zero keeps h = (keeps s h.0, h.1)
plain_changed f (s ∷ ss) (suc i) keeps h = subst (AllByRecursion IsPlain) (sym (changed_later f s ss i)) (h.0, plain_changed f ss i keeps h.1)

few_names : (p : Progress) (n : ℕ) → p.declared ≡ [] → length p.names ≡ n → n ≤ 65535 → few p ≡ Ok tt
few_names p n declared count small =
    let none : nat_lt 65535 (length p.names + 0) ≡ false = grind (arith, nat_tests) in
    rw (declared, none) refl

-- ---- sections

no_position : (name : List ℕ) (ss : List Section) → list_any (bytes_eq name) (map (λ (s : Section). s.name) ss) ≡ false → (find (is_called name) ss ≡ None) × (prefix_len (λ (s : Section). not (is_called name s)) ss ≡ length ss)
no_position name [] h = (refl, refl)
no_position name (s ∷ ss) h = go (bytes_eq name s.name) refl h (no_position name ss)
  where
    go : (b : Bool) → bytes_eq name s.name ≡ b → (b || list_any (bytes_eq name) (map (λ (s : Section). s.name) ss)) ≡ false
        → (list_any (bytes_eq name) (map (λ (s : Section). s.name) ss) ≡ false → (find (is_called name) ss ≡ None) × (prefix_len (λ (s : Section). not (is_called name s)) ss ≡ length ss))
        → (cond b (Some s) (find (is_called name) ss) ≡ None) × (cond (not b) (1 + prefix_len (λ (s : Section). not (is_called name s)) ss) 0 ≡ length (s ∷ ss))
    go true e h rest = absurd (cc)
    go false e h rest = let r = rest h in let same = r.1 in (r.0, omega (arith, same))

pub enter_goes : (file : List ℕ) (origin : FileLine (List ℕ)) (name : List ℕ) (p : Progress) (d : Done) → Tracks p d → IsGood file p → list_any (bytes_eq name) d.sections ≡ false → length d.sections < 255 → length d.names ≤ 65535
    → Goes file origin (record { label = None; act = line.Enter name }) p
unfolding pass section_opened
enter_goes file origin name p d h good fresh room few_enough =
    let plain = plain_push p.sections (empty_section name true) good.sections (record { initialised = refl; blocks = refl; words = refl; relocations = refl }) in
    let none = no_position name p.sections (ap (list_any (bytes_eq name)) h.sections ∙ fresh) in
    let count = sym (names_length p.sections) ∙ ap length h.sections in
    let at = none.1 in
    let end : ltb (prefix_len (λ (s : Section). not (is_called name s)) p.sections) (length p.sections) ≡ false = grind (arith, nat_tests, at) in
    let space : nat_le 255 (length p.sections) ≡ false = grind (arith, nat_tests, count, room) in
    let made : Progress = record p { sections = p.sections ++ empty_section name true ∷ []; current = length p.sections } in
    record { to = made; passes = rw (none.0, end, space, few_names made (length d.names) good.declared (ap length h.names) few_enough) refl; good = record { declared = good.declared; exported = good.exported; sections = plain; used = good.used } }

-- ---- names

fresh_name : (names : Definitions) (name : List ℕ) → predefined name ≡ None → is_in (map (λ n. n.0) names) name ≡ false → stands names name ≡ false
fresh_name names name own apart = rw (own, none names apart) refl
  where
    none : (ns : Definitions) → is_in (map (λ n. n.0) ns) name ≡ false → defined ns name ≡ None
    none [] h = refl
    none (n ∷ ns) h = go (bytes_eq name n.0) h (none ns)
      where
        go : (b : Bool) → (b || is_in (map (λ n. n.0) ns) name) ≡ false → (is_in (map (λ n. n.0) ns) name ≡ false → defined ns name ≡ None) → cond b (Some n.1) (defined ns name) ≡ None
        go true h rest = absurd (cc)
        go false h rest = rest h

pub load_goes : (file : List ℕ) (origin : FileLine (List ℕ)) (name : List ℕ) (p : Progress) (d : Done) → Tracks p d → IsGood file p → predefined name ≡ None → is_in (map (λ n. n.0) d.names) name ≡ false → length d.names < 65535
    → Goes file origin (record { label = None; act = line.Label name }) p
unfolding pass define
load_goes file origin name p d h good own apart room =
    let fresh = fresh_name p.names name own (ap (λ (ns : Definitions). is_in (map (λ n. n.0) ns) name) h.names ∙ apart) in
    let made : Progress = record p { names = p.names ++ (name, loaded_here p) ∷ [] } in
    let count = ap length h.names in
    let more = length-append p.names ((name, loaded_here p) ∷ []) in
    record { to = made; passes = rw (fresh, few_names made (length d.names + 1) good.declared (omega (arith, count, more)) (omega (arith, room))) refl; good = record { declared = good.declared; exported = good.exported; sections = good.sections; used = good.used } }

-- ---- words

-- operands are put
record Puts (file : List ℕ) (origin : FileLine (List ℕ)) (t : Target) (es : List Tree) (p : Progress) : Type 0 where
  pub to : Progress
  puts : meaning.put origin t es p ≡ Ok to
  pub good : IsGood file to
  names : to.names ≡ p.names

small_size : (p : Progress) (d : Done) (n : ℕ) → Tracks p d → d.size + n ≤ 65536 → nat_lt 65536 (size_at p.sections p.current + n) ≡ false
small_size p d n h room = let size = ap meaning.size_by h.there ∙ h.size in grind (arith, nat_tests, size, room)

put_ok : (file : List ℕ) (origin : FileLine (List ℕ)) (t : Target) (es : List Tree) (p : Progress) (d : Done) → Tracks p d → IsGood file p → origin.file ≡ file → is_line_number origin.line ≡ true → is_file_name file ≡ true
    → d.size + target_size t (length es) ≤ 65536 → Puts file origin t es p
unfolding lay grow use_line
put_ok file origin (target.Data w) es p d h good at numbered named room =
    let small = small_size p d (length es) h room in
    let item : PendingItem = record { origin = origin; section = p.current; offset = size_at p.sections p.current; content = Operands (target.Data w) es } in
    record {
      to = record p { sections = changed (longer (length es)) p.sections p.current; items = p.items ++ item ∷ [] };
      puts = rw small refl;
      good = record { declared = good.declared; exported = good.exported; sections = plain_changed (longer (length es)) p.sections p.current (λ x g. record { initialised = g.initialised; blocks = g.blocks; words = g.words; relocations = g.relocations }) good.sections; used = good.used };
      names = refl;
    }
put_ok file origin (target.Instruction f) es p d h good at numbered named room = go good.used
  where
    n : ℕ
    n = target_size (target.Instruction f) (length es)

    marked : (ss : List Section) → AllByRecursion IsPlain ss → AllByRecursion IsPlain (changed (with_mark origin (record { section = p.current; offset = size_at p.sections p.current; size = n })) (changed (longer n) ss p.current) p.current)
    marked ss g =
        plain_changed (with_mark origin (record { section = p.current; offset = size_at p.sections p.current; size = n })) (changed (longer n) ss p.current) p.current (λ x g. record { initialised = g.initialised; blocks = g.blocks; words = g.words; relocations = g.relocations })
        (plain_changed (longer n) ss p.current (λ x g. record { initialised = g.initialised; blocks = g.blocks; words = g.words; relocations = g.relocations }) g)

    go : (p.files ≡ []) ⊎ (p.files ≡ file ∷ []) → Puts file origin (target.Instruction f) es p
    go (inl none) =
        let small = small_size p d n h room in
        let item : PendingItem = record { origin = origin; section = p.current; offset = size_at p.sections p.current; content = Operands (target.Instruction f) es } in
        let name_good : is_file_name origin.file ≡ true = ap is_file_name at ∙ named in
        record {
          to = record p {
            sections = changed (with_mark origin (record { section = p.current; offset = size_at p.sections p.current; size = n })) (changed (longer n) p.sections p.current) p.current;
            items = p.items ++ item ∷ [];
            files = origin.file ∷ [];
          };
          puts = rw (small, numbered, none, name_good) refl;
          good = record { declared = good.declared; exported = good.exported; sections = marked p.sections good.sections; used = inr (ap (λ (x : List ℕ). x ∷ []) at) };
          names = refl;
        }
    go (inr this) =
        let small = small_size p d n h room in
        let item : PendingItem = record { origin = origin; section = p.current; offset = size_at p.sections p.current; content = Operands (target.Instruction f) es } in
        let same : bytes_eq origin.file file ≡ true = (bytes_eq-Decides origin.file file).1 at in
        record {
          to = record p {
            sections = changed (with_mark origin (record { section = p.current; offset = size_at p.sections p.current; size = n })) (changed (longer n) p.sections p.current) p.current;
            items = p.items ++ item ∷ [];
            files = file ∷ [];
          };
          puts = rw (small, numbered, this, same) refl;
          good = record { declared = good.declared; exported = good.exported; sections = marked p.sections good.sections; used = inr refl };
          names = refl;
        }

-- a label
record Labels (file : List ℕ) (l : Option (List ℕ)) (p : Progress) (d : Done) : Type 0 where
  pub to : Progress
  labels : label l p ≡ Ok to
  pub good : IsGood file to
  tracks : Tracks to (labelled l d)

-- a label is new
abbrev pub IsNewLabel : Option (List ℕ) → Done → Type 0
IsNewLabel None d = Unit {0}
IsNewLabel (Some name) d = (predefined name ≡ None) × (is_in (map (λ n. n.0) d.names) name ≡ false)

label_ok : (file : List ℕ) (l : Option (List ℕ)) (p : Progress) (d : Done) → Tracks p d → IsGood file p → IsNewLabel l d → Labels file l p d
unfolding define
label_ok file None p d h good new = record { to = p; labels = refl; good = good; tracks = h }
label_ok file (Some name) p d h good new =
    let fresh = fresh_name p.names name new.0 (ap (λ (ns : Definitions). is_in (map (λ n. n.0) ns) name) h.names ∙ new.1) in
    let made : Progress = record p { names = p.names ++ (name, here p) ∷ [] } in
    let is : label (Some name) p ≡ Ok made = rw fresh refl in
    record { to = made; labels = is; good = record { declared = good.declared; exported = good.exported; sections = good.sections; used = good.used }; tracks = label_tracked (Some name) p made d h is }

pub put_goes : (file : List ℕ) (origin : FileLine (List ℕ)) (l : Option (List ℕ)) (t : Target) (es : List Tree) (p : Progress) (d : Done) → Tracks p d → IsGood file p → IsNewLabel l d → origin.file ≡ file → is_line_number origin.line ≡ true → is_file_name file ≡ true
    → (labelled l d).size + target_size t (length es) ≤ 65536 → length (labelled l d).names ≤ 65535 → Goes file origin (record { label = l; act = line.Put t es }) p
unfolding pass
put_goes file origin l t es p d h good new at numbered named room few_enough =
    let first = label_ok file l p d h good new in
    let put = put_ok file origin t es first.to (labelled l d) first.tracks first.good at numbered named room in
    let count = ap length (put.names ∙ (first.tracks).names) in
    record { to = put.to; passes = rw (first.labels, put.puts, few_names put.to (length (labelled l d).names) (put.good).declared count few_enough) refl; good = put.good }
