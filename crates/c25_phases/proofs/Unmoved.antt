-- Words and relocations leave the lines of marks as they are.
use Rattle.std.proofs.Common.{◌≡◌, ℕ, zero, suc, Bool, true, false, cond, List, [], ◌∷◌, ◌++◌, set, replicate, Option, Some, None, Result, Ok, Err, refl, sym, ap, ◌∙◌}
use Rattle.std.specs.List.{flat_map, list_all, slice_get}
use Rattle.c25_meaning_assembly.specs.Addresses.{OperandValues, operand_values}
use Rattle.c25_meaning_assembly.specs.Emission.{at_origin, emit, emit_all, emitted, extended, is_here, lines_in, lines_of, table_at, with_operand_values}
use Rattle.c25_meaning_assembly.specs.Sections.{Content, Definitions, Exported, PendingItem, Operands, Section, Words, Zeros, changed, changed_by}
use Rattle.c25_meaning_common.specs.Results.{◌>>=◌, fold_ok}
use Rattle.c25_meaning_language.specs.declared.statement.FaultKind.{FaultKind}
use Rattle.c25_meaning_language.specs.declared.statement.FaultKind.TheVariants as fault
use Rattle.c25_meaning_objects.specs.declared.object.Relocation.{Relocation}
use Rattle.c25_meaning_common.specs.declared.placed.FileLine.{FileLine}

-- the lines of the marks of sections
lines : List Section → List (FileLine (List ℕ))
lines ss = flat_map (λ s. s.origins) ss

set_keeps : (ss : List Section) (i : ℕ) (words : List ℕ) (rs : List Relocation) (s : Section) → slice_get ss i ≡ Some s → lines (set ss i (extended words rs s)) ≡ lines ss
unfolding lines
set_keeps [] i words rs s at = absurd (cc)
set_keeps (x ∷ xs) zero words rs s at = let same : x ≡ s = cc in ap (λ (y : Section). y.origins ++ lines xs) (sym same)
set_keeps (x ∷ xs) (suc i) words rs s at = ap (λ os. x.origins ++ os) (set_keeps xs i words rs s at)

changed_keeps : (ss : List Section) (i : ℕ) (words : List ℕ) (rs : List Relocation) → lines (changed (extended words rs) ss i) ≡ lines ss
changed_keeps ss i words rs = on (slice_get ss i) refl
  where
    on : (o : Option Section) → slice_get ss i ≡ o → lines (changed_by (extended words rs) ss i o) ≡ lines ss
    on None is = refl
    on (Some s) is = set_keeps ss i words rs s is

emit_keeps : (names : Definitions) (section offset : ℕ) (ss out : List Section) (c : Content) → emit names section offset ss c ≡ Ok out → lines out ≡ lines ss
emit_keeps names section offset ss out (Operands t trees) e = on (operand_values t (table_at names section offset) trees) e
  where
    on : (r : Result OperandValues FaultKind) → (r >>= λ s. Ok (with_operand_values t section offset ss s)) ≡ Ok out → lines out ≡ lines ss
    on (Ok s) h = let same : with_operand_values t section offset ss s ≡ out = cc in ap lines (sym same) ∙ changed_keeps ss section _ _
    on (Err f) h = absurd (cc)
emit_keeps names section offset ss out (Words words) e = let same : changed (extended words []) ss section ≡ out = cc in ap lines (sym same) ∙ changed_keeps ss section words []
emit_keeps names section offset ss out (Zeros count) e =
    let same : changed (extended (replicate count 0) []) ss section ≡ out = cc in ap lines (sym same) ∙ changed_keeps ss section (replicate count 0) []
emit_keeps names section offset ss out (Exported exported) e = on (list_all (is_here names) exported) e
  where
    on : (b : Bool) → cond b (Ok ss) (Err fault.Undefined) ≡ Ok out → lines out ≡ lines ss
    on true h = let same : ss ≡ out = cc in ap lines (sym same)
    on false h = absurd (cc)

all_keep : (names : Definitions) (is : List PendingItem) (ss out : List Section) → fold_ok (emitted names) ss is ≡ Ok out → lines out ≡ lines ss
all_keep names [] ss out e = let same : ss ≡ out = cc in ap lines (sym same)
all_keep names (i ∷ is) ss out e = on (emit names i.section i.offset ss i.content) refl e (λ next. all_keep names is next out)
  where
    on : (r : Result (List Section) FaultKind) → emit names i.section i.offset ss i.content ≡ r → (at_origin i.origin r >>= λ next. fold_ok (emitted names) next is) ≡ Ok out
        → ((next : List Section) → fold_ok (emitted names) next is ≡ Ok out → lines out ≡ lines next) → lines out ≡ lines ss
    on (Ok next) was h go = go next h ∙ emit_keeps names i.section i.offset ss next i.content was
    on (Err f) was h go = absurd (cc)

-- the files and lines of marks stay as they are
pub lines_stay : (names : Definitions) (is : List PendingItem) (ss out : List Section) → emit_all names ss is ≡ Ok out → lines_in out ≡ lines_in ss
unfolding lines
lines_stay names is ss out e = ap lines_of (all_keep names is ss out e)
