-- The lines of a source of printed instructions pass one after another, and their words are emitted.
use Rattle.std.proofs.Common.{◌≡◌, ℕ, ◌+◌, ◌≤◌, Bool, true, false, nat_lt, if◌then◌else◌, List, [], ◌∷◌, ◌++◌, length, reverse, None, Result, Ok, Err, refl, ap, ◌∙◌, arith, ◌⊎◌, inl, inr}
use Rattle.std.specs.Str.{bytes_eq}
use Rattle.std.proofs.lemmas.Bool.Decides.{nat_tests}
use Rattle.std.proofs.lemmas.Slice.Eq.{bytes_eq-Decides}
use Rattle.c25_meaning_common.specs.Results.{◌>>=◌, fold_ok}
use Rattle.c25_meaning_instructions.specs.Table.{size, words, size_of}
use Rattle.c25_meaning_instructions.specs.declared.insn.Insn.{Insn}
use Rattle.c25_meaning_instructions.specs.declared.insn.Insn.TheVariants as insn
use Rattle.c25_meaning_language.specs.Statement.{form_row}
use Rattle.c25_meaning_language.specs.Tree.{Tree}
use Rattle.c25_meaning_language.specs.declared.statement.Form.{Form}
use Rattle.c25_meaning_assembly.specs.Addresses.{ends_first, in_order, words_of}
use Rattle.c25_meaning_assembly.specs.AssemblyLine.{Put}
use Rattle.c25_meaning_assembly.specs.Emission.{emitted, emit_all, table_at}
use Rattle.c25_meaning_assembly.specs.OperandFields.{target_size}
use Rattle.c25_meaning_assembly.specs.Sections.{PendingItem, Operands, Progress, Section, is_file_name, is_line_number, lay, grow, pass, use_line}
use Rattle.c25_meaning_assembly.specs.declared.assembly.Address.{Address}
use Rattle.c25_meaning_assembly.specs.declared.assembly.DataWidth.{DataWidth}
use Rattle.c25_meaning_assembly.specs.declared.assembly.Target.{Target}
use Rattle.c25_meaning_assembly.specs.declared.assembly.Target.TheVariants.{Data, Instruction}
use Rattle.c25_meaning_objects.specs.declared.object.ModuleMark.{ModuleMark}
use Rattle.c25_print_laws.specs.Saying.{HasNumbers}
use Rattle.c25_meaning_common.specs.declared.placed.FileLine.{FileLine}

-- ---- sizes

pub size_words : (i : Insn) → size_of i ≡ length (words i)
size_words (insn.Mem name addr) = refl
size_words _ = refl

-- ---- what such lines have made: instructions in one section

abbrev pub text_section : ℕ → List ModuleMark → List (FileLine (List ℕ)) → Section
text_section n marks origins = record { name = 46 ∷ 116 ∷ 101 ∷ 120 ∷ 116 ∷ []; initialised = true; size = n; marks = marks; origins = origins; blocks = []; words = []; relocations = [] }

abbrev pub standing : ℕ → List ModuleMark → List (FileLine (List ℕ)) → List PendingItem → List (List ℕ) → Progress
standing n marks origins items files = record { sections = text_section n marks origins ∷ []; current = 0; names = []; declared = []; exported = []; registers = false; items = items; files = files }

-- an item more
abbrev pub item_at : FileLine (List ℕ) → ℕ → Target → List Tree → PendingItem
item_at origin n t es = record { origin = origin; section = 0; offset = n; content = Operands t es }

fits : (n k : ℕ) → n + k ≤ 65536 → nat_lt 65536 (n + k) ≡ false
fits n k h = grind (arith, nat_tests)

same_bytes : (name : List ℕ) → bytes_eq name name ≡ true
same_bytes name = (bytes_eq-Decides name name).1 refl

-- the files that hold instructions so far: none, or this one
abbrev pub IsUsed : List ℕ → List (List ℕ) → Type 0
IsUsed name names = (names ≡ []) ⊎ (names ≡ name ∷ [])

-- a line leads on to a state of instructions in one section
pub record Leads (origin : FileLine (List ℕ)) (t : Target) (es : List Tree) (n : ℕ) (items : List PendingItem) (p : Progress) : Type 0 where
  pub marks : List ModuleMark
  pub origins : List (FileLine (List ℕ))
  pub names : List (List ℕ)
  pub used : IsUsed origin.file names
  pub passes : pass origin (record { label = None; act = Put t es }) p ≡ Ok (standing (n + target_size t (length es)) marks origins (items ++ item_at origin n t es ∷ []) names)

module _ (origin : FileLine (List ℕ)) (es : List Tree) (n : ℕ) (marks : List ModuleMark) (origins : List (FileLine (List ℕ))) (items : List PendingItem) (numbered : is_line_number origin.line ≡ true) (named : is_file_name origin.file ≡ true) where
  abbrev mark_at : Form → ModuleMark
  mark_at f = record { section = 0; offset = n; size = size (form_row f) }

  first_passes : (f : Form) → n + size (form_row f) ≤ 65536 → pass origin (record { label = None; act = Put (Instruction f) es }) (standing n marks origins items [])
      ≡ Ok (standing (n + size (form_row f)) (marks ++ mark_at f ∷ []) (origins ++ origin ∷ []) (items ++ item_at origin n (Instruction f) es ∷ []) (origin.file ∷ []))
  unfolding pass lay grow use_line
  first_passes f h = rw (fits n (size (form_row f)) h, numbered, named) refl

  next_passes : (f : Form) → n + size (form_row f) ≤ 65536 → pass origin (record { label = None; act = Put (Instruction f) es }) (standing n marks origins items (origin.file ∷ []))
      ≡ Ok (standing (n + size (form_row f)) (marks ++ mark_at f ∷ []) (origins ++ origin ∷ []) (items ++ item_at origin n (Instruction f) es ∷ []) (origin.file ∷ []))
  unfolding pass lay grow use_line
  next_passes f h = rw (fits n (size (form_row f)) h, numbered, same_bytes origin.file) refl

  data_pass : (w : DataWidth) (names : List (List ℕ)) → n + length es ≤ 65536 → pass origin (record { label = None; act = Put (Data w) es }) (standing n marks origins items names)
      ≡ Ok (standing (n + length es) marks origins (items ++ item_at origin n (Data w) es ∷ []) names)
  unfolding pass lay grow
  data_pass w names h = rw (fits n (length es) h) refl

  -- a line leads on to a state of instructions in one section, whatever words it puts
  pub leads : (t : Target) (names : List (List ℕ)) → IsUsed origin.file names → n + target_size t (length es) ≤ 65536 → Leads origin t es n items (standing n marks origins items names)
  leads (Instruction f) names (inl none) h = record {
    marks = marks ++ mark_at f ∷ [];
    origins = origins ++ origin ∷ [];
    names = origin.file ∷ [];
    used = inr refl;
    passes = ap (λ ns. pass origin (record { label = None; act = Put (Instruction f) es }) (standing n marks origins items ns)) none ∙ first_passes f h;
  }
  leads (Instruction f) names (inr this) h = record {
    marks = marks ++ mark_at f ∷ [];
    origins = origins ++ origin ∷ [];
    names = origin.file ∷ [];
    used = inr refl;
    passes = ap (λ ns. pass origin (record { label = None; act = Put (Instruction f) es }) (standing n marks origins items ns)) this ∙ next_passes f h;
  }
  leads (Data w) names used h = record { marks = marks; origins = origins; names = names; used = used; passes = data_pass w names h }

-- ---- words

abbrev pub filled : Section → List ℕ → Section
filled s ws = record s { words = ws; relocations = [] }

-- the items give these words
abbrev pub Emits : List PendingItem → List ℕ → Type 0
Emits items ws = (s : Section) → emit_all [] (filled s [] ∷ []) items ≡ Ok (filled s ws ∷ [])

ok_is : {A E : Type 0} (a b : A) → ◌≡◌ {A = Result A E} (Ok a) (Ok b) → a ≡ b
ok_is a b e = cc

fold_more : {A B E : Type 0} (step : A → B → Result A E) (a : A) (xs : List B) (x : B) (b : A) (c : Result A E) → fold_ok step a xs ≡ Ok b → step b x ≡ c → fold_ok step a (xs ++ x ∷ []) ≡ (c >>= λ d. Ok d)
fold_more step a [] x b c h e = ap (λ y. step y x >>= λ d. Ok d) (ok_is a b h) ∙ ap (λ r. r >>= λ d. Ok d) e
fold_more {A = A} {B = B} {E = E} step a (y ∷ ys) x b c h e = of (step a y) (λ z. fold_more step z ys x b c) h where
  of : (r : Result A E) → ((z : A) → fold_ok step z ys ≡ Ok b → step b x ≡ c → fold_ok step z (ys ++ x ∷ []) ≡ (c >>= λ d. Ok d)) → (r >>= λ n. fold_ok step n ys) ≡ Ok b → (r >>= λ n. fold_ok step n (ys ++ x ∷ [])) ≡ (c >>= λ d. Ok d)
  of (Ok z) others rest = others z rest e
  of (Err k) others rest = absurd (cc)

no_order : (t : Target) → in_order t [] ≡ []
no_order t = of (ends_first t) where
  of : (b : Bool) → (if b then reverse {A = Address} [] else []) ≡ []
  of true = refl
  of false = refl

one_emitted : (origin : FileLine (List ℕ)) (n : ℕ) (t : Target) (es : List Tree) (ns ws : List ℕ) (s : Section) → HasNumbers t es ns
    → emitted [] (filled s ws ∷ []) (item_at origin n t es) ≡ Ok (filled s (ws ++ words_of t ns) ∷ [])
one_emitted origin n t es ns ws s h = rw (h (table_at [] 0 n), no_order t) refl

pub emits_more : (origin : FileLine (List ℕ)) (n : ℕ) (t : Target) (es : List Tree) (ns ws : List ℕ) (items : List PendingItem) → HasNumbers t es ns → Emits items ws
    → Emits (items ++ item_at origin n t es ∷ []) (ws ++ words_of t ns)
emits_more origin n t es ns ws items h before s =
    fold_more (emitted []) (filled s [] ∷ []) items (item_at origin n t es) (filled s ws ∷ []) (Ok (filled s (ws ++ words_of t ns) ∷ [])) (before s) (one_emitted origin n t es ns ws s h)
