-- The last parts of names, name after name.
use Rattle.std.proofs.Common.{◌≡◌, ◌<◌, ◌≤◌, ◌+◌, ◌∙◌, ℕ, Bool, true, false, if◌then◌else◌, List, [], ◌∷◌, ap, get_or, length, refl, string_bytes, sym, drop}
use Rattle.std.proofs.lemmas.List.{drop_all, drop_more}
use Rattle.std.specs.Prelude.{bytes_eq}
use Rattle.c25_move_files.specs.Files.{old_of}
use Rattle.c25_move_files.specs.Names.{last_part}
use Rattle.c25_move_files.specs.Refusals.{has_part, names_of}
use Rattle.c25_move_files.specs.declared.old.OldFile.{OldFile}

first_part : (n : List ℕ) (ns : List (List ℕ)) (part : List ℕ) → has_part (n ∷ ns) part ≡ (if bytes_eq (last_part n) part then true else has_part ns part)
unfolding has_part
first_part n ns part = refl

no_part : (part : List ℕ) → has_part [] part ≡ false
unfolding has_part
no_part part = refl

-- the first of the names that are left, and the others
part_at : (files : List OldFile) (i : ℕ) (d f : OldFile) (name last part : List ℕ) (is_same : Bool) → i < length files → f ≡ get_or files i d → name ≡ string_bytes f.name → last ≡ last_part name → is_same ≡ bytes_eq last part
    → has_part (names_of (drop i files)) part ≡ (if is_same then true else has_part (names_of (drop (i + 1) files)) part)
part_at files i d f name last part is_same low at named parted tested =
    let rest = has_part (names_of (drop (i + 1) files)) part in
    ap (λ (fs : List OldFile). has_part (names_of fs) part) (drop_more files i d low) ∙ first_part (old_of (get_or files i d)).name (names_of (drop (i + 1) files)) part
    ∙ ap (λ (b : Bool). if b then true else rest) (sym (tested ∙ ap (λ (l : List ℕ). bytes_eq l part) (parted ∙ ap last_part (named ∙ ap (λ (g : OldFile). string_bytes g.name) at))))

-- one name further
pub part_further : (files : List OldFile) (i : ℕ) (d f : OldFile) (name last part : List ℕ) (is_same : Bool) → i < length files → f ≡ get_or files i d → name ≡ string_bytes f.name → last ≡ last_part name → is_same ≡ bytes_eq last part
    → is_same ≡ false → has_part (names_of (drop i files)) part ≡ has_part (names_of files) part → has_part (names_of (drop (i + 1) files)) part ≡ has_part (names_of files) part
part_further files i d f name last part is_same low at named parted tested not_so all =
    let rest = has_part (names_of (drop (i + 1) files)) part in
    sym (part_at files i d f name last part is_same low at named parted tested ∙ ap (λ (b : Bool). if b then true else rest) not_so) ∙ all

-- the name has the part
pub part_here : (files : List OldFile) (i : ℕ) (d f : OldFile) (name last part : List ℕ) (is_same : Bool) → i < length files → f ≡ get_or files i d → name ≡ string_bytes f.name → last ≡ last_part name → is_same ≡ bytes_eq last part
    → is_same ≡ true → has_part (names_of (drop i files)) part ≡ has_part (names_of files) part → true ≡ has_part (names_of files) part
part_here files i d f name last part is_same low at named parted tested so all =
    let rest = has_part (names_of (drop (i + 1) files)) part in
    sym (part_at files i d f name last part is_same low at named parted tested ∙ ap (λ (b : Bool). if b then true else rest) so) ∙ all

-- no name has the part
pub part_nowhere : (files : List OldFile) (i : ℕ) (part : List ℕ) → length files ≤ i → has_part (names_of (drop i files)) part ≡ has_part (names_of files) part → false ≡ has_part (names_of files) part
part_nowhere files i part high all = sym (ap (λ (fs : List OldFile). has_part (names_of fs) part) (drop_all i files high) ∙ no_part part) ∙ all
