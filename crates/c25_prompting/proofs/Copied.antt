-- Copies of the texts of files are looked up as the texts are.
use Rattle.std.proofs.Common.{◌≡◌, ◌<◌, ◌+◌, ◌++◌, ℕ, Bool, true, false, cond, List, [], ◌∷◌, length, map, take, get_or, Option, Some, None, refl, sym, ap, ◌∙◌, arith}
use Rattle.std.proofs.lemmas.List.{take_all, take_more, map-append}
use Rattle.std.proofs.lemmas.Option.{slice_get-get_or}
use Rattle.std.proofs.lemmas.Slice.Eq.{bytes_eq-Decides}
use Rattle.std.specs.Option.{option_map}
use Rattle.std.specs.Prelude.{string_bytes}
use Rattle.std.specs.Str.{bytes_eq}
use Rattle.c25_meaning_expansion.specs.Files.{Files, file_name, text_named}
use Rattle.c25_prompt_lines.specs.SourceTexts.{files_of}
use Rattle.c25_prompt_lines.specs.declared.program.SourceText.{SourceText}
use Rattle.c25_prompting.specs.Texts.{or_nothing, text_or_nothing}

-- a file with the text that its name has among all files
abbrev pub copied : Files → (List ℕ × List ℕ) → List ℕ × List ℕ
copied all f = (f.0, text_or_nothing all f.0)

one_more : (all : Files) (name first : List ℕ) (text : List ℕ) (b : Bool) (found : Option (List ℕ)) (rest : Option (List ℕ)) → (b ≡ true → name ≡ first)
    → rest ≡ option_map (λ _. text_or_nothing all name) found → cond b (Some (text_or_nothing all first)) rest ≡ option_map (λ _. text_or_nothing all name) (cond b (Some text) found)
one_more all name first text true found rest same e = ap (λ x. Some (text_or_nothing all x)) (sym (same refl))
one_more all name first text false found rest same e = e

looked_up : (all files : Files) (name : List ℕ) → text_named (map (copied all) files) name ≡ option_map (λ _. text_or_nothing all name) (text_named files name)
looked_up all [] name = refl
looked_up all (f ∷ fs) name = one_more all name f.0 f.1 (bytes_eq name f.0) (text_named fs name) _ (λ e. (bytes_eq-Decides name f.0).0 e) (looked_up all fs name)

itself : (o : Option (List ℕ)) → option_map (λ _. or_nothing o) o ≡ o
itself None = refl
itself (Some text) = refl

-- copies of all files are looked up as they are
pub as_before : (files : Files) (texts : List SourceText) (name : List ℕ) → files_of texts ≡ map (copied files) files → text_named (files_of texts) name ≡ text_named files name
as_before files texts name are = ap (λ (fs : Files). text_named fs name) are ∙ looked_up files files name ∙ itself (text_named files name)

-- ---- one after another

no_file : List ℕ × List ℕ
no_file = ([], [])

name_at : (files : Files) (n : ℕ) → n < length files → file_name files n ≡ (get_or files n no_file).0
name_at files n below = ap (λ (o : Option (List ℕ × List ℕ)). elim o [ None ↦ [] | Some file ↦ file.0 ]) (slice_get-get_or files n no_file below)

-- one more file is copied
pub one_copied : (files : Files) (texts : List SourceText) (t : SourceText) (n : ℕ) → n < length files → files_of texts ≡ map (copied files) (take n files)
    → string_bytes t.name ≡ file_name files n → string_bytes t.text ≡ text_or_nothing files (file_name files n) → files_of (texts ++ t ∷ []) ≡ map (copied files) (take (n + 1) files)
one_copied files texts t n below so_far name text =
    let file = get_or files n no_file in
    let there : file_name files n ≡ file.0 = name_at files n below in
    let pair : List ℕ → List ℕ → List ℕ × List ℕ = λ a b. (a, b) in
    let copy : pair (string_bytes t.name) (string_bytes t.text) ≡ copied files file =
    ap (λ a. pair a (string_bytes t.text)) (name ∙ there) ∙ ap (λ b. pair file.0 b) (text ∙ ap (text_or_nothing files) there) in
    map-append (λ (x : SourceText). pair (string_bytes x.name) (string_bytes x.text)) texts (t ∷ [])
    ∙ ap (λ (fs : Files). fs ++ pair (string_bytes t.name) (string_bytes t.text) ∷ []) so_far
    ∙ ap (λ (f : List ℕ × List ℕ). map (copied files) (take n files) ++ f ∷ []) copy
    ∙ sym (map-append (copied files) (take n files) (file ∷ []))
    ∙ ap (map (copied files)) (sym (take_more files n no_file below))

-- copies of as many files as there are
pub all_copied : (files : Files) (texts : List SourceText) (n : ℕ) → n ≡ length files → files_of texts ≡ map (copied files) (take n files) → (name : List ℕ) → text_named (files_of texts) name ≡ text_named files name
all_copied files texts n all are name =
    as_before files texts name (are ∙ ap (λ (k : ℕ). map (copied files) (take k files)) all ∙ ap (map (copied files)) (take_all (length files) files (omega arith)))
