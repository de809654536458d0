-- Whether a file that is to be written may be an old one.
use Rattle.std.proofs.Common.{◌≡◌, ◌<◌, ◌≤◌, ◌+◌, ◌∙◌, ℕ, Bool, true, false, if◌then◌else◌, List, [], ◌∷◌, Option, None, Some, Result, Ok, Err, IfOk, ap, get_or, length, map, refl, string_bytes, subst, sym, drop}
use Rattle.std.proofs.lemmas.List.{drop_all, drop_more, get_or-map, length-map}
use Rattle.std.specs.List.{Any}
use Rattle.std.specs.Prelude.{String, bytes_eq}
use Rattle.std.specs.declared.alloc.Global.{Global}
use Rattle.c25_disk.specs.Held.{Held, IsAllOf}
use Rattle.c25_disk.specs.Written.{contents_of}
use Rattle.c25_disk.specs.declared.writing.Output.{Output}
use Rattle.c25_meaning_common.specs.declared.no_memory.NoMemory.{NoMemory}
use Rattle.c25_move.specs.declared.code_page.CodePage.{CodePage}
use Rattle.c25_move_files.specs.Files.{Old, old_of}
use Rattle.c25_move_files.specs.declared.old.OldFile.{OldFile}
use Rattle.c25_moving.specs.Moving.{AreOldBytes, MayBeOld, has_text}

-- the text of a file that was read with other spellings
pub as_read : (file : OldFile) (read : String Global) (shown text : List ℕ) (r : Bool) → file.unspelled ≡ Some read → shown ≡ string_bytes read → r ≡ bytes_eq shown text → r ≡ bytes_eq (old_of file).read text
as_read file read shown text r is same tested =
    tested ∙ ap (λ (t : List ℕ). bytes_eq t text) (same ∙ sym (ap (λ (o : Option (String Global)). elim o [ None ↦ string_bytes file.text | Some t ↦ string_bytes t ]) is))

-- the text of a file that has no other spellings
pub as_kept : (file : OldFile) (shown text : List ℕ) (r : Bool) → file.unspelled ≡ None → shown ≡ string_bytes file.text → r ≡ bytes_eq shown text → r ≡ bytes_eq (old_of file).read text
as_kept file shown text r is same tested =
    tested ∙ ap (λ (t : List ℕ). bytes_eq t text) (same ∙ sym (ap (λ (o : Option (String Global)). elim o [ None ↦ string_bytes file.text | Some t ↦ string_bytes t ]) is))

first_text : (f : Old) (fs : List Old) (text : List ℕ) → has_text (f ∷ fs) text ≡ (if bytes_eq f.read text then true else has_text fs text)
unfolding has_text
first_text f fs text = refl

no_text : (text : List ℕ) → has_text [] text ≡ false
unfolding has_text
no_text text = refl

-- the first of the files that are left, and the others
text_at : (files : List OldFile) (i : ℕ) (d f : OldFile) (text : List ℕ) (is : Bool) → i < length files → f ≡ get_or files i d → is ≡ bytes_eq (old_of f).read text
    → has_text (map old_of (drop i files)) text ≡ (if is then true else has_text (map old_of (drop (i + 1) files)) text)
text_at files i d f text is low at tested =
    let rest = has_text (map old_of (drop (i + 1) files)) text in
    ap (λ (fs : List OldFile). has_text (map old_of fs) text) (drop_more files i d low) ∙ first_text (old_of (get_or files i d)) (map old_of (drop (i + 1) files)) text
    ∙ ap (λ (b : Bool). if b then true else rest) (sym (tested ∙ ap (λ (g : OldFile). bytes_eq (old_of g).read text) at))

-- one file further
pub text_further : (files : List OldFile) (i : ℕ) (d f : OldFile) (text : List ℕ) (is : Bool) → i < length files → f ≡ get_or files i d → is ≡ bytes_eq (old_of f).read text → is ≡ false
    → has_text (map old_of (drop i files)) text ≡ has_text (map old_of files) text → has_text (map old_of (drop (i + 1) files)) text ≡ has_text (map old_of files) text
text_further files i d f text is low at tested not_so all =
    let rest = has_text (map old_of (drop (i + 1) files)) text in
    sym (text_at files i d f text is low at tested ∙ ap (λ (b : Bool). if b then true else rest) not_so) ∙ all

-- the file has the text
pub text_here : (files : List OldFile) (i : ℕ) (d f : OldFile) (text : List ℕ) (is : Bool) → i < length files → f ≡ get_or files i d → is ≡ bytes_eq (old_of f).read text → is ≡ true
    → has_text (map old_of (drop i files)) text ≡ has_text (map old_of files) text → true ≡ has_text (map old_of files) text
text_here files i d f text is low at tested so all =
    let rest = has_text (map old_of (drop (i + 1) files)) text in
    sym (text_at files i d f text is low at tested ∙ ap (λ (b : Bool). if b then true else rest) so) ∙ all

-- no file has the text
pub text_nowhere : (files : List OldFile) (i : ℕ) (text : List ℕ) → length files ≤ i → has_text (map old_of (drop i files)) text ≡ has_text (map old_of files) text → false ≡ has_text (map old_of files) text
text_nowhere files i text high all = sym (ap (λ (fs : List OldFile). has_text (map old_of fs) text) (drop_all i files high) ∙ no_text text) ∙ all

-- the bytes of a file that would be written are read
pub read_there : (held : Held) (page : CodePage) (olds : List Old) (file : List ℕ × List ℕ) (bytes shown : List ℕ) (r : Result Bool NoMemory) → shown ≡ bytes → IsAllOf (held file.0) bytes → IfOk r (λ b. b ≡ true → AreOldBytes page olds shown file)
    → IfOk r (λ b. b ≡ true → MayBeOld held page olds file)
read_there held page olds file bytes shown (Ok b) same all is = λ so. (shown, subst (IsAllOf (held file.0)) (sym same) all, is so)
read_there held page olds file bytes shown (Err e) same all is = tt

-- one of the files that would be written may be an old one
pub one_is_old : (held : Held) (page : CodePage) (olds : List Old) (outputs : List Output) (i : ℕ) (d o : Output) → i < length outputs → o ≡ get_or outputs i d → MayBeOld held page olds (contents_of o)
    → Any (MayBeOld held page olds) (map contents_of outputs)
one_is_old held page olds outputs i d o low at old = (
  i,
  contents_of o,
  subst (λ (n : ℕ). i < n) (sym (length-map outputs contents_of)) low,
  get_or-map contents_of outputs i d (contents_of o) low ∙ ap contents_of (sym at),
  old,
)
