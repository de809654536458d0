-- What it is for items to fit: the lists of a module one by one, and the sizes of single items.
use Rattle.std.proofs.Common.{◌≡◌, ℕ, ◌<◌, ◌≤◌, ◌^◌, Bool, true, false, not, ◌&&◌, leb, ltb, List, [], ◌∷◌, ◌++◌, ◌+◌, length, slice_index, take, drop, get_or, refl, sym, ap, ◌∙◌}
use Rattle.std.specs.List.{flat_map, list_all}
use Rattle.std.specs.Str.{is_utf8}
use Rattle.std.proofs.lemmas.Bool.{ltb-true, leb-true}
use Rattle.std.proofs.lemmas.List.{append-nil, at_drop_more, take_more}
use Rattle.std.proofs.lemmas.List.Concat.{flat_map-cons, flat_map-append}
use Rattle.c25_meaning_common.specs.Bytes.{begins_name, goes_on_name}
use Rattle.c25_meaning_objects.specs.declared.object.Version.{Version}
use Rattle.c25_meaning_objects.specs.Module.{SectionData, SymbolData, Contents, body_size, section_fits, mark_fits, symbol_fits, relocation_fits, file_fits, line_fits, block_fits, each_fits, told_by, lists_fit, has_section, begins_sections, is_section_name, is_section_byte, place_fits, kind_allowed, has_symbol, has_file, is_symbol_name}
use Rattle.c25_module.proofs.Texts.{both}

pub and_true : (a b : Bool) → a ≡ true → b ≡ true → (a && b) ≡ true
and_true a b p q = rw (p, q) refl

pub one_more : {A : Type 0} (f : A → List ℕ) (xs : List A) (x : A) → flat_map f (xs ++ x ∷ []) ≡ flat_map f xs ++ f x
one_more f xs x = flat_map-append f xs (x ∷ []) ∙ ap (λ (t : List ℕ). flat_map f xs ++ t) (flat_map-cons f x [] ∙ append-nil (f x))

-- each list fits
pub record ListsFit (c : Contents) : Type 0 where
  pub sections : each_fits section_fits [] c.sections ≡ true
  pub marks : each_fits (mark_fits c.sections) [] c.marks ≡ true
  pub symbols : each_fits (symbol_fits c.version c.sections) [] c.symbols ≡ true
  pub relocations : each_fits (relocation_fits c.version c.sections c.symbols) [] c.relocations ≡ true
  pub files : each_fits file_fits [] c.files ≡ true
  pub lines : each_fits (line_fits c.marks c.files) [] c.lines ≡ true
  pub blocks : each_fits (block_fits c.sections) [] c.blocks ≡ true

pub lists_fit_all : (c : Contents) → ListsFit c → told_by c.version c ≡ true → lists_fit c ≡ true
lists_fit_all c h told =
    and_true _ _ h.sections (and_true _ _ h.marks (and_true _ _ h.symbols (and_true _ _ h.relocations
    (and_true _ _ h.files (and_true _ _ h.lines (and_true _ _ told h.blocks))))))

pub lists_fit_each : (c : Contents) → lists_fit c ≡ true → ListsFit c × (told_by c.version c ≡ true)
lists_fit_each c e =
    let a = both (each_fits section_fits [] c.sections) _ e in
    let b = both (each_fits (mark_fits c.sections) [] c.marks) _ a.1 in
    let d = both (each_fits (symbol_fits c.version c.sections) [] c.symbols) _ b.1 in
    let f = both (each_fits (relocation_fits c.version c.sections c.symbols) [] c.relocations) _ d.1 in
    let g = both (each_fits file_fits [] c.files) _ f.1 in
    let h = both (each_fits (line_fits c.marks c.files) [] c.lines) _ g.1 in
    let k = both (told_by c.version c) _ h.1 in
    (record { sections = a.0; marks = b.0; symbols = d.0; relocations = f.0; files = g.0; lines = h.0; blocks = k.1 }, k.0)

-- ---- the sizes of items that fit

pub section_small : (ss : List SectionData) (s : SectionData) → section_fits ss s ≡ true → (body_size s.body ≤ 65536) × (length s.name ≤ 32) × (length ss < 255)
section_small ss s e =
    let d = both _ (ltb (length ss) 255) e in
    let c = both _ (not (has_section ss s.name)) d.0 in
    let b = both _ (begins_sections ss s) c.0 in
    let a = both (is_section_name s.name) (leb (body_size s.body) 65536) b.0 in
    let n = both _ (list_all is_section_byte s.name) a.0 in
    let m = both (leb 1 (length s.name)) (leb (length s.name) 32) n.0 in
    (leb-true _ _ a.1, leb-true _ _ m.1, ltb-true _ _ d.1)

pub symbol_small : (version : Version) (ss : List SectionData) (ys : List SymbolData) (y : SymbolData) → symbol_fits version ss ys y ≡ true → (length y.name ≤ 128) × (length ys < 65535) × (place_fits ss y y.kind ≡ true)
symbol_small version ss ys y e =
    let c = both _ (ltb (length ys) 65535) e in
    let b = both _ (not (has_symbol ys y.name)) c.0 in
    let a = both _ (place_fits ss y y.kind) b.0 in
    let s = both (is_symbol_name y.name) (kind_allowed version y.kind) a.0 in
    let n = both _ (list_all goes_on_name y.name) s.0 in
    let m = both _ (begins_name (slice_index y.name 0)) n.0 in
    let k = both (leb 1 (length y.name)) (leb (length y.name) 128) m.0 in
    (leb-true _ _ k.1, ltb-true _ _ c.1, a.1)

pub file_short : (before : List (List ℕ)) (name : List ℕ) → file_fits before name ≡ true → length name < 2 ^ 32
file_short before name e =
    let b = both _ (not (has_file before name)) e in
    let a = both (is_utf8 name) (ltb (length name) (2 ^ 32)) b.0 in
    ltb-true _ _ a.1

-- ---- a list looked at item by item: those after a place are held against those before it

-- what is left of the list, with its first item
opened : {A : Type 0} (fits : List A → A → Bool) (xs : List A) (i : ℕ) (d : A) (b : Bool) → i < length xs → fits (take i xs) (get_or xs i d) ≡ b
    → each_fits fits (take i xs) (drop i xs) ≡ (b && each_fits fits (take i xs ++ get_or xs i d ∷ []) (drop (i + 1) xs))
opened {A} fits xs i d b lt here =
    at_drop_more (λ (r : List A). each_fits fits (take i xs) r) xs i d lt ∙ ap (λ (t : Bool). t && each_fits fits (take i xs ++ get_or xs i d ∷ []) (drop (i + 1) xs)) here

-- the item at a place fits
pub fits_more : {A : Type 0} (fits : List A → A → Bool) (xs : List A) (i : ℕ) (d : A) → i < length xs → each_fits fits (take i xs) (drop i xs) ≡ each_fits fits [] xs → fits (take i xs) (get_or xs i d) ≡ true
    → each_fits fits (take (i + 1) xs) (drop (i + 1) xs) ≡ each_fits fits [] xs
fits_more {A} fits xs i d lt so here = ap (λ (before : List A). each_fits fits before (drop (i + 1) xs)) (take_more xs i d lt) ∙ sym (opened fits xs i d true lt here) ∙ so

-- the item at a place does not fit
pub fits_not : {A : Type 0} (fits : List A → A → Bool) (xs : List A) (i : ℕ) (d : A) → i < length xs → each_fits fits (take i xs) (drop i xs) ≡ each_fits fits [] xs → fits (take i xs) (get_or xs i d) ≡ false
    → false ≡ each_fits fits [] xs
fits_not fits xs i d lt so here = sym (opened fits xs i d false lt here) ∙ so
