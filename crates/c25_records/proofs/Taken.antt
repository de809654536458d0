-- A payload that is read is the payload that was written, and what was written is read again.
use Rattle.std.proofs.Common.{◌≡◌, ℕ, ℤ, zero, suc, ◌+◌, ◌^◌, ◌<◌, ◌≤◌, Bool, true, false, not, cond, ltb, eqb, List, [], ◌∷◌, ◌++◌, length, get_or, slice_index, take, drop, Option, Some, None, refl, sym, ap, subst, ◌∙◌, arith, inl, inr, drop-cons}
use Rattle.std.specs.Int.{w16, w32, to_be_bytes, cast_signed, cast_unsigned}
use Rattle.std.specs.Prelude.{FitsSigned}
use Rattle.std.specs.Option.{option_and_then, option_map}
use Rattle.std.proofs.lemmas.Bool.{cases_lt, ltb-false, le-ltb, eqb-true, eq-eqb}
use Rattle.std.proofs.lemmas.Bool.Decides.{nat_tests}
use Rattle.std.proofs.Math.Facts.{Fits-of_z}
use Rattle.std.proofs.lemmas.Int.{of_z-to_z, to_z-of_z}
use Rattle.std.proofs.lemmas.List.{length-take, length-drop, get_or-drop, get_or-take, get_or_past, nil_from_length}
use Rattle.std.proofs.lemmas.Nat.{be_bytes_2, be_bytes_4, from_be_bytes-to_be_bytes_2, from_be_bytes-to_be_bytes_4}
use Rattle.c25_meaning_objects.specs.declared.object.SymbolKind.{SymbolKind}
use Rattle.c25_meaning_objects.specs.declared.object.SymbolKind.TheVariants.{Absolute, InSection, Loaded, External}
use Rattle.c25_meaning_objects.specs.declared.object.Scope.{Scope}
use Rattle.c25_meaning_objects.specs.declared.object.Scope.TheVariants.{Local, Global}
use Rattle.c25_meaning_common.specs.declared.relocation.RelocationKind.{RelocationKind}
use Rattle.c25_meaning_common.specs.declared.relocation.RelocationKind.TheVariants.{Word16, Low7, Page9}
use Rattle.c25_meaning_objects.specs.declared.object.RelocationBase.{RelocationBase}
use Rattle.c25_meaning_objects.specs.declared.object.RelocationBase.TheVariants as base
use Rattle.c25_meaning_objects.specs.declared.object.ModuleMark.{ModuleMark}
use Rattle.c25_meaning_objects.specs.declared.object.Relocation.{Relocation}
use Rattle.c25_meaning_objects.specs.declared.object.LineMark.{LineMark}
use Rattle.c25_meaning_objects.specs.declared.object.Block.{Block}
use Rattle.c25_meaning_objects.specs.Module.{SymbolData}
use Rattle.c25_meaning_objects.specs.Records.{mark_payload, symbol_payload, relocation_payload, line_payload, block_payload, kind_code, kind_section, scope_code, field_code, base_code, base_index, counted}
use Rattle.c25_meaning_objects.specs.RecordReading.{short_at, long_at, mark_of, line_of, block_of, kind_of, scope_of, symbol_with, symbol_of, field_of, base_of, relocation_with, relocation_of}

abbrev pub IsBytes : List ℕ → Type 0
IsBytes bytes = (i : ℕ) → get_or bytes i 0 < 256

pub IsBytes-drop : (n : ℕ) (bytes : List ℕ) → IsBytes bytes → IsBytes (drop n bytes)
IsBytes-drop n bytes h i = rw get_or-drop (h (n + i))

pub IsBytes-take : (n : ℕ) (bytes : List ℕ) → IsBytes bytes → IsBytes (take n bytes)
IsBytes-take n bytes h i =
    elim (cases_lt i n) [
      | inl lt ↦ rw (get_or-take n bytes i 0 lt) (h i)
      | inr le ↦ rw (get_or_past (take n bytes) i 0 (omega (arith, length-take n bytes))) (omega arith)
    ]

-- ---- places of a payload

pub one : (at : ℕ) (bytes : List ℕ) → at < length bytes → slice_index bytes at ∷ drop (suc at) bytes ≡ drop at bytes
one at bytes lt = sym (drop-cons bytes at 0 lt)

pub same_drop : (m n : ℕ) (bytes : List ℕ) → m ≡ n → drop m bytes ≡ drop n bytes
same_drop m n bytes e = ap (λ (k : ℕ). drop k bytes) e

same_cell : (m n : ℕ) (bytes : List ℕ) → m ≡ n → slice_index bytes m ≡ slice_index bytes n
same_cell m n bytes e = ap (λ (k : ℕ). slice_index bytes k) e

two_cells : (at : ℕ) (bytes : List ℕ) → at + 2 ≤ length bytes → slice_index bytes at ∷ (slice_index bytes (at + 1) ∷ drop (at + 2) bytes) ≡ drop at bytes
two_cells at bytes le =
    let far : drop (suc (at + 1)) bytes ≡ drop (at + 2) bytes = same_drop (suc (at + 1)) (at + 2) bytes (omega arith) in
    let near : drop (suc at) bytes ≡ drop (at + 1) bytes = same_drop (suc at) (at + 1) bytes (omega arith) in
    let second : slice_index bytes (at + 1) ∷ drop (at + 2) bytes ≡ drop (suc at) bytes =
    ap (λ (r : List ℕ). slice_index bytes (at + 1) ∷ r) (sym far) ∙ one (at + 1) bytes (omega arith) ∙ sym near in
    ap (λ (r : List ℕ). slice_index bytes at ∷ r) second ∙ one at bytes (omega arith)

pub pair_fits : (a b : ℕ) → a < 256 → b < 256 → IsBytes (a ∷ (b ∷ []))
pair_fits a b p q zero = p
pair_fits a b p q (suc zero) = q
pair_fits a b p q (suc (suc i)) = omega arith

four_fit : (a b c d : ℕ) → a < 256 → b < 256 → c < 256 → d < 256 → IsBytes (a ∷ (b ∷ (c ∷ (d ∷ []))))
four_fit a b c d p q r s zero = p
four_fit a b c d p q r s (suc zero) = q
four_fit a b c d p q r s (suc (suc i)) = pair_fits c d r s i

pub two : (at : ℕ) (bytes : List ℕ) → IsBytes bytes → at + 2 ≤ length bytes → to_be_bytes w16 (short_at bytes at) ++ drop (at + 2) bytes ≡ drop at bytes
two at bytes fits le =
    let cells : to_be_bytes w16 (short_at bytes at) ≡ slice_index bytes at ∷ (slice_index bytes (at + 1) ∷ []) =
    be_bytes_2 (slice_index bytes at ∷ (slice_index bytes (at + 1) ∷ [])) _ refl (pair_fits _ _ (fits at) (fits (at + 1))) refl in
    ap (λ (r : List ℕ). r ++ drop (at + 2) bytes) cells ∙ two_cells at bytes le

pub four : (at : ℕ) (bytes : List ℕ) → IsBytes bytes → at + 4 ≤ length bytes → to_be_bytes w32 (long_at bytes at) ++ drop (at + 4) bytes ≡ drop at bytes
four at bytes fits le =
    let cells : to_be_bytes w32 (long_at bytes at) ≡ slice_index bytes at ∷ (slice_index bytes (at + 1) ∷ (slice_index bytes (at + 2) ∷ (slice_index bytes (at + 3) ∷ []))) =
    be_bytes_4 (slice_index bytes at ∷ (slice_index bytes (at + 1) ∷ (slice_index bytes (at + 2) ∷ (slice_index bytes (at + 3) ∷ [])))) _ refl
    (four_fit _ _ _ _ (fits at) (fits (at + 1)) (fits (at + 2)) (fits (at + 3))) refl in
    let same : drop (at + 2 + 2) bytes ≡ drop (at + 4) bytes = same_drop (at + 2 + 2) (at + 4) bytes (omega arith) in
    let third : slice_index bytes (at + 2 + 1) ≡ slice_index bytes (at + 3) = same_cell (at + 2 + 1) (at + 3) bytes (omega arith) in
    let later : slice_index bytes (at + 2) ∷ (slice_index bytes (at + 3) ∷ drop (at + 4) bytes) ≡ drop (at + 2) bytes = rw (← same, ← third) (two_cells (at + 2) bytes (omega arith)) in
    ap (λ (r : List ℕ). r ++ drop (at + 4) bytes) cells ∙ ap (λ (r : List ℕ). slice_index bytes at ∷ (slice_index bytes (at + 1) ∷ r)) later ∙ two_cells at bytes (omega arith)

long_small : (bytes : List ℕ) (at : ℕ) → IsBytes bytes → long_at bytes at < 2 ^ 32
long_small bytes at fits = omega (arith, fits at, fits (at + 1), fits (at + 2), fits (at + 3))

unsigned_small : (z : ℤ) → FitsSigned w32 z → cast_unsigned w32 z < 2 ^ 32
unsigned_small z fits = omega (arith, Fits-of_z {w = w32} {z = z} fits)

pub not_false : (b : Bool) → not b ≡ false → b ≡ true
not_false true e = refl
not_false false e = absurd cc

kind_takes : (code section : ℕ) (k : SymbolKind) → kind_of code section ≡ Some k → (code ≡ kind_code k) × (section ≡ kind_section k)
kind_takes code section k e = grind (arith, nat_tests)

scope_takes : (code : ℕ) (s : Scope) → scope_of code ≡ Some s → code ≡ scope_code s
scope_takes code s e = grind (arith, nat_tests)

field_takes : (code : ℕ) (k : RelocationKind) → field_of code ≡ Some k → code ≡ field_code k
field_takes code k e = grind (arith, nat_tests)

base_takes : (code index : ℕ) (b : RelocationBase) → base_of code index ≡ Some b → (code ≡ base_code b) × (index ≡ base_index b)
base_takes code index b e = grind (arith, nat_tests)

kind_again : (k : SymbolKind) → kind_of (kind_code k) (kind_section k) ≡ Some k
kind_again Absolute = refl
kind_again (InSection n) = refl
kind_again External = refl
kind_again (Loaded n) = refl

scope_again : (s : Scope) → scope_of (scope_code s) ≡ Some s
scope_again Local = refl
scope_again Global = refl

field_again : (k : RelocationKind) → field_of (field_code k) ≡ Some k
field_again Word16 = refl
field_again Low7 = refl
field_again Page9 = refl

base_again : (b : RelocationBase) → base_of (base_code b) (base_index b) ≡ Some b
base_again (base.Section n) = refl
base_again (base.External n) = refl
base_again (base.Loaded n) = refl

-- ---- options

pub and_then_some : {A B : Type 0} (f : A → Option B) (o : Option A) (y : B) → option_and_then f o ≡ Some y → (x : A) × (o ≡ Some x) × (f x ≡ Some y)
and_then_some f None y e = absurd cc
and_then_some f (Some x) y e = (x, refl, e)

pub mapped_some : {A B : Type 0} (f : A → B) (o : Option A) (y : B) → option_map f o ≡ Some y → (x : A) × (o ≡ Some x) × (f x ≡ y)
mapped_some f None y e = absurd cc
mapped_some f (Some x) y e = (x, refl, cc)

pub guarded : {A : Type 0} (b : Bool) (o : Option A) (y : A) → cond b o None ≡ Some y → (b ≡ true) × (o ≡ Some y)
guarded true o y e = (refl, e)
guarded false o y e = absurd cc

pub unguarded : {A : Type 0} (b : Bool) (o : Option A) (y : A) → cond b None o ≡ Some y → (b ≡ false) × (o ≡ Some y)
unguarded true o y e = absurd cc
unguarded false o y e = (refl, e)

abbrev some : {A : Type 0} → A → Option A
some x = Some x

pub some_is : {A : Type 0} (x y : A) → some x ≡ some y → x ≡ y
some_is x y e = cc

pub drop_whole : (n : ℕ) (bytes : List ℕ) → length bytes ≡ n → drop n bytes ≡ []
drop_whole n bytes e = nil_from_length (drop n bytes) (omega (arith, length-drop n bytes))

-- ---- marks

pub mark_takes : (bytes : List ℕ) (m : ModuleMark) → IsBytes bytes → mark_of bytes ≡ Some m → bytes ≡ mark_payload m
unfolding mark_of
mark_takes bytes m fits e =
    let g = guarded (eqb (length bytes) 5) (Some (record { section = short_at bytes 0; offset = short_at bytes 2; size = slice_index bytes 4 })) m e in
    let long : length bytes ≡ 5 = eqb-true _ _ g.0 in
    let last : slice_index bytes 4 ∷ [] ≡ drop 4 bytes = ap (λ (r : List ℕ). slice_index bytes 4 ∷ r) (sym (drop_whole 5 bytes long)) ∙ one 4 bytes (omega arith) in
    let second : to_be_bytes w16 (short_at bytes 2) ++ (slice_index bytes 4 ∷ []) ≡ drop 2 bytes = ap (λ (r : List ℕ). to_be_bytes w16 (short_at bytes 2) ++ r) last ∙ two 2 bytes fits (omega arith) in
    let first : to_be_bytes w16 (short_at bytes 0) ++ (to_be_bytes w16 (short_at bytes 2) ++ (slice_index bytes 4 ∷ [])) ≡ bytes = ap (λ (r : List ℕ). to_be_bytes w16 (short_at bytes 0) ++ r) second ∙ two 0 bytes fits (omega arith) in
    subst (λ (k : ModuleMark). bytes ≡ mark_payload k) (some_is _ m g.1) (sym first)

pub mark_again : (m : ModuleMark) → m.section < 2 ^ 16 → m.offset < 2 ^ 16 → mark_of (mark_payload m) ≡ Some m
unfolding mark_of
mark_again m p q =
    let a : short_at (mark_payload m) 0 ≡ m.section = from_be_bytes-to_be_bytes_2 m.section p in
    let b : short_at (mark_payload m) 2 ≡ m.offset = from_be_bytes-to_be_bytes_2 m.offset q in
    ap (λ (n : ℕ). Some (record { section = n; offset = short_at (mark_payload m) 2; size = m.size })) a
    ∙ ap (λ (n : ℕ). Some (record { section = m.section; offset = n; size = m.size })) b

-- ---- lines

pub line_takes : (bytes : List ℕ) (l : LineMark) → IsBytes bytes → line_of bytes ≡ Some l → bytes ≡ line_payload l
unfolding line_of
line_takes bytes l fits e =
    let g = guarded (eqb (length bytes) 6) (Some (record { file = short_at bytes 0; line = long_at bytes 2 })) l e in
    let long : length bytes ≡ 6 = eqb-true _ _ g.0 in
    let last : to_be_bytes w32 (long_at bytes 2) ≡ drop 2 bytes = ap (λ (t : List ℕ). to_be_bytes w32 (long_at bytes 2) ++ t) (sym (drop_whole 6 bytes long)) ∙ four 2 bytes fits (omega arith) in
    let first : to_be_bytes w16 (short_at bytes 0) ++ to_be_bytes w32 (long_at bytes 2) ≡ bytes = ap (λ (t : List ℕ). to_be_bytes w16 (short_at bytes 0) ++ t) last ∙ two 0 bytes fits (omega arith) in
    subst (λ (x : LineMark). bytes ≡ line_payload x) (some_is _ l g.1) (sym first)

pub line_again : (l : LineMark) → l.file < 2 ^ 16 → l.line < 2 ^ 32 → line_of (line_payload l) ≡ Some l
unfolding line_of
line_again l p q =
    let a : short_at (line_payload l) 0 ≡ l.file = from_be_bytes-to_be_bytes_2 l.file p in
    let b : long_at (line_payload l) 2 ≡ l.line = from_be_bytes-to_be_bytes_4 l.line q in
    ap (λ (n : ℕ). Some (record { file = n; line = long_at (line_payload l) 2 })) a
    ∙ ap (λ (n : ℕ). Some (record { file = l.file; line = n })) b

-- ---- blocks

pub block_takes : (bytes : List ℕ) (b : Block) → IsBytes bytes → block_of bytes ≡ Some b → bytes ≡ block_payload b
unfolding block_of
block_takes bytes b fits e =
    let g = guarded (eqb (length bytes) 5) (Some (record { section = short_at bytes 0; offset = short_at bytes 2; size = slice_index bytes 4 })) b e in
    let long : length bytes ≡ 5 = eqb-true _ _ g.0 in
    let last : slice_index bytes 4 ∷ [] ≡ drop 4 bytes = ap (λ (r : List ℕ). slice_index bytes 4 ∷ r) (sym (drop_whole 5 bytes long)) ∙ one 4 bytes (omega arith) in
    let second : to_be_bytes w16 (short_at bytes 2) ++ (slice_index bytes 4 ∷ []) ≡ drop 2 bytes = ap (λ (r : List ℕ). to_be_bytes w16 (short_at bytes 2) ++ r) last ∙ two 2 bytes fits (omega arith) in
    let first : to_be_bytes w16 (short_at bytes 0) ++ (to_be_bytes w16 (short_at bytes 2) ++ (slice_index bytes 4 ∷ [])) ≡ bytes = ap (λ (r : List ℕ). to_be_bytes w16 (short_at bytes 0) ++ r) second ∙ two 0 bytes fits (omega arith) in
    subst (λ (k : Block). bytes ≡ block_payload k) (some_is _ b g.1) (sym first)

pub block_again : (b : Block) → b.section < 2 ^ 16 → b.offset < 2 ^ 16 → block_of (block_payload b) ≡ Some b
unfolding block_of
block_again b p q =
    let s : short_at (block_payload b) 0 ≡ b.section = from_be_bytes-to_be_bytes_2 b.section p in
    let o : short_at (block_payload b) 2 ≡ b.offset = from_be_bytes-to_be_bytes_2 b.offset q in
    ap (λ (n : ℕ). Some (record { section = n; offset = short_at (block_payload b) 2; size = b.size })) s
    ∙ ap (λ (n : ℕ). Some (record { section = b.section; offset = n; size = b.size })) o

-- ---- relocations

pub relocation_takes : (bytes : List ℕ) (r : Relocation) → IsBytes bytes → relocation_of bytes ≡ Some r → bytes ≡ relocation_payload r
unfolding relocation_of
relocation_takes bytes r fits e =
    let g = guarded (eqb (length bytes) 12) (option_and_then (λ kind. option_map (λ base. relocation_with bytes kind base) (base_of (slice_index bytes 5) (short_at bytes 6))) (field_of (slice_index bytes 4))) r e in
    let long : length bytes ≡ 12 = eqb-true _ _ g.0 in
    let k = and_then_some (λ kind. option_map (λ base. relocation_with bytes kind base) (base_of (slice_index bytes 5) (short_at bytes 6))) (field_of (slice_index bytes 4)) r g.1 in
    let b = mapped_some (λ base. relocation_with bytes k.0 base) (base_of (slice_index bytes 5) (short_at bytes 6)) r k.2 in
    let kind_is = field_takes (slice_index bytes 4) k.0 k.1 in
    let base_is = base_takes (slice_index bytes 5) (short_at bytes 6) b.0 b.1 in
    let addend : to_be_bytes w32 (cast_unsigned w32 (cast_signed w32 (long_at bytes 8))) ≡ drop 8 bytes =
    ap (λ (n : ℕ). to_be_bytes w32 n) (of_z-to_z w32 (long_at bytes 8) (long_small bytes 8 fits)) ∙ ap (λ (t : List ℕ). to_be_bytes w32 (long_at bytes 8) ++ t) (sym (drop_whole 12 bytes long)) ∙ four 8 bytes fits (omega arith) in
    let index : to_be_bytes w16 (base_index b.0) ++ drop 8 bytes ≡ drop 6 bytes = rw (← base_is.1) (two 6 bytes fits (omega arith)) in
    let code : base_code b.0 ∷ drop 6 bytes ≡ drop 5 bytes = rw (← base_is.0) (one 5 bytes (omega arith)) in
    let field : field_code k.0 ∷ drop 5 bytes ≡ drop 4 bytes = rw (← kind_is) (one 4 bytes (omega arith)) in
    let offset : to_be_bytes w16 (short_at bytes 2) ++ drop 4 bytes ≡ drop 2 bytes = two 2 bytes fits (omega arith) in
    let section : to_be_bytes w16 (short_at bytes 0) ++ drop 2 bytes ≡ bytes = two 0 bytes fits (omega arith) in
    let whole : relocation_payload (relocation_with bytes k.0 b.0) ≡ bytes =
    ap (λ (t : List ℕ). to_be_bytes w16 (short_at bytes 0) ++ (to_be_bytes w16 (short_at bytes 2) ++ (field_code k.0 ∷ (base_code b.0 ∷ (to_be_bytes w16 (base_index b.0) ++ t))))) addend
    ∙ ap (λ (t : List ℕ). to_be_bytes w16 (short_at bytes 0) ++ (to_be_bytes w16 (short_at bytes 2) ++ (field_code k.0 ∷ (base_code b.0 ∷ t)))) index
    ∙ ap (λ (t : List ℕ). to_be_bytes w16 (short_at bytes 0) ++ (to_be_bytes w16 (short_at bytes 2) ++ (field_code k.0 ∷ t))) code
    ∙ ap (λ (t : List ℕ). to_be_bytes w16 (short_at bytes 0) ++ (to_be_bytes w16 (short_at bytes 2) ++ t)) field
    ∙ ap (λ (t : List ℕ). to_be_bytes w16 (short_at bytes 0) ++ t) offset ∙ section in
    subst (λ (x : Relocation). bytes ≡ relocation_payload x) b.2 (sym whole)

pub record IsSmall (r : Relocation) : Type 0 where
  pub section : r.section < 2 ^ 16
  pub offset : r.offset < 2 ^ 16
  pub index : base_index r.base < 2 ^ 16
  pub addend : FitsSigned w32 r.addend

pub relocation_again : (r : Relocation) → IsSmall r → relocation_of (relocation_payload r) ≡ Some r
unfolding relocation_of
relocation_again r small =
    let bytes = relocation_payload r in
    let a : short_at bytes 0 ≡ r.section = from_be_bytes-to_be_bytes_2 r.section small.section in
    let b : short_at bytes 2 ≡ r.offset = from_be_bytes-to_be_bytes_2 r.offset small.offset in
    let i : short_at bytes 6 ≡ base_index r.base = from_be_bytes-to_be_bytes_2 (base_index r.base) small.index in
    let v : long_at bytes 8 ≡ cast_unsigned w32 r.addend = from_be_bytes-to_be_bytes_4 (cast_unsigned w32 r.addend) (unsigned_small r.addend small.addend) in
    let z : cast_signed w32 (long_at bytes 8) ≡ r.addend = ap (λ (n : ℕ). cast_signed w32 n) v ∙ to_z-of_z w32 r.addend small.addend in
    let chosen : base_of (base_code r.base) (short_at bytes 6) ≡ Some r.base = ap (λ (n : ℕ). base_of (base_code r.base) n) i ∙ base_again r.base in
    let made : relocation_with bytes r.kind r.base ≡ r =
    ap (λ (n : ℕ). record { section = n; offset = short_at bytes 2; kind = r.kind; base = r.base; addend = cast_signed w32 (long_at bytes 8) }) a
    ∙ ap (λ (n : ℕ). record { section = r.section; offset = n; kind = r.kind; base = r.base; addend = cast_signed w32 (long_at bytes 8) }) b
    ∙ ap (λ (n : ℤ). record { section = r.section; offset = r.offset; kind = r.kind; base = r.base; addend = n }) z in
    ap (λ (o : Option RelocationKind). option_and_then (λ kind. option_map (λ base. relocation_with bytes kind base) (base_of (base_code r.base) (short_at bytes 6))) o) (field_again r.kind)
    ∙ ap (λ (o : Option RelocationBase). option_map (λ base. relocation_with bytes r.kind base) o) chosen
    ∙ ap (λ (x : Relocation). Some x) made

-- ---- symbols

pub symbol_takes : (bytes : List ℕ) (y : SymbolData) → IsBytes bytes → symbol_of bytes ≡ Some y → bytes ≡ symbol_payload y
unfolding symbol_of
symbol_takes bytes y fits e =
    let g = unguarded (ltb (length bytes) 9) _ y e in
    let long : 9 ≤ length bytes = ltb-false _ _ g.0 in
    let h = unguarded (not (eqb (slice_index bytes 8) (length (drop 9 bytes)))) _ y g.1 in
    let name_len : slice_index bytes 8 ≡ length (drop 9 bytes) = eqb-true _ _ (not_false _ h.0) in
    let k = and_then_some (λ kind. option_map (λ scope. symbol_with bytes kind scope) (scope_of (slice_index bytes 1))) (kind_of (slice_index bytes 0) (short_at bytes 2)) y h.1 in
    let s = mapped_some (λ scope. symbol_with bytes k.0 scope) (scope_of (slice_index bytes 1)) y k.2 in
    let kind_is = kind_takes (slice_index bytes 0) (short_at bytes 2) k.0 k.1 in
    let scope_is = scope_takes (slice_index bytes 1) s.0 s.1 in
    let name : counted (drop 9 bytes) ≡ drop 8 bytes = ap (λ (n : ℕ). n ∷ drop 9 bytes) (sym name_len) ∙ one 8 bytes (omega arith) in
    let value : to_be_bytes w32 (cast_unsigned w32 (cast_signed w32 (long_at bytes 4))) ++ drop 8 bytes ≡ drop 4 bytes =
    ap (λ (n : ℕ). to_be_bytes w32 n ++ drop 8 bytes) (of_z-to_z w32 (long_at bytes 4) (long_small bytes 4 fits)) ∙ four 4 bytes fits (omega arith) in
    let section : to_be_bytes w16 (kind_section k.0) ++ drop 4 bytes ≡ drop 2 bytes = rw (← kind_is.1) (two 2 bytes fits (omega arith)) in
    let scope : scope_code s.0 ∷ drop 2 bytes ≡ drop 1 bytes = rw (← scope_is) (one 1 bytes (omega arith)) in
    let kind : kind_code k.0 ∷ drop 1 bytes ≡ bytes = rw (← kind_is.0) (one 0 bytes (omega arith)) in
    let whole : symbol_payload (symbol_with bytes k.0 s.0) ≡ bytes =
    ap (λ (t : List ℕ). kind_code k.0 ∷ (scope_code s.0 ∷ (to_be_bytes w16 (kind_section k.0) ++ (to_be_bytes w32 (cast_unsigned w32 (cast_signed w32 (long_at bytes 4))) ++ t)))) name
    ∙ ap (λ (t : List ℕ). kind_code k.0 ∷ (scope_code s.0 ∷ (to_be_bytes w16 (kind_section k.0) ++ t))) value
    ∙ ap (λ (t : List ℕ). kind_code k.0 ∷ (scope_code s.0 ∷ t)) section
    ∙ ap (λ (t : List ℕ). kind_code k.0 ∷ t) scope ∙ kind in
    subst (λ (x : SymbolData). bytes ≡ symbol_payload x) s.2 (sym whole)

pub symbol_again : (y : SymbolData) → kind_section y.kind < 2 ^ 16 → FitsSigned w32 y.value → symbol_of (symbol_payload y) ≡ Some y
unfolding symbol_of
symbol_again y small fits =
    let bytes = symbol_payload y in
    let i : short_at bytes 2 ≡ kind_section y.kind = from_be_bytes-to_be_bytes_2 (kind_section y.kind) small in
    let v : long_at bytes 4 ≡ cast_unsigned w32 y.value = from_be_bytes-to_be_bytes_4 (cast_unsigned w32 y.value) (unsigned_small y.value fits) in
    let z : cast_signed w32 (long_at bytes 4) ≡ y.value = ap (λ (n : ℕ). cast_signed w32 n) v ∙ to_z-of_z w32 y.value fits in
    let chosen : kind_of (kind_code y.kind) (short_at bytes 2) ≡ Some y.kind = ap (λ (n : ℕ). kind_of (kind_code y.kind) n) i ∙ kind_again y.kind in
    let made : symbol_with bytes y.kind y.scope ≡ y = ap (λ (n : ℤ). record { kind = y.kind; scope = y.scope; value = n; name = y.name }) z in
    let named : eqb (length y.name) (length y.name) ≡ true = eq-eqb (length y.name) (length y.name) refl in
    let inner : option_and_then (λ kind. option_map (λ scope. symbol_with bytes kind scope) (scope_of (scope_code y.scope))) (kind_of (kind_code y.kind) (short_at bytes 2)) ≡ Some y =
    ap (λ (o : Option SymbolKind). option_and_then (λ kind. option_map (λ scope. symbol_with bytes kind scope) (scope_of (scope_code y.scope))) o) chosen
    ∙ ap (λ (o : Option Scope). option_map (λ scope. symbol_with bytes y.kind scope) o) (scope_again y.scope)
    ∙ ap (λ (x : SymbolData). Some x) made in
    let long : ltb (length bytes) 9 ≡ false = le-ltb _ _ (omega arith) in
    ap (λ (b : Bool). cond b None (cond (not (eqb (length y.name) (length y.name))) None (option_and_then (λ kind. option_map (λ scope. symbol_with bytes kind scope) (scope_of (scope_code y.scope))) (kind_of (kind_code y.kind) (short_at bytes 2))))) long
    ∙ ap (λ (b : Bool). cond (not b) None (option_and_then (λ kind. option_map (λ scope. symbol_with bytes kind scope) (scope_of (scope_code y.scope))) (kind_of (kind_code y.kind) (short_at bytes 2)))) named ∙ inner
