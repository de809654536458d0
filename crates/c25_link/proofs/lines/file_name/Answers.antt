use Rattle.std.proofs.Common.{◌≡◌, ℕ, List, [], length, Option, Some, None, refl, ap, sym, ◌∙◌}
use Rattle.std.specs.List.{slice_get}
use Rattle.std.specs.Option.{option_map}
use Rattle.std.specs.Prelude.{String, string_bytes, unwrap_or}
use Rattle.std.specs.declared.alloc.Global.{Global}
use Rattle.std.specs.declared.vec.Vec.{Vec}
use Rattle.std.proofs.lemmas.Option.{slice_get_past, slice_get_read, slice_get-map}
use Rattle.c25_module.specs.View.{files_data}
use Rattle.c25_link.specs.Lines.{file_at, files_view}
use Rattle.c25_link.proofs.lines.file_name.Goals as goal

-- the names of the files of a module
abbrev names_in : Vec (String Global) Global → List (List ℕ)
names_in v = files_data v.items

-- what stands at a number among the files of the module of a number
found_at : (files : List (Vec (String Global) Global)) (number index : ℕ) (v : Vec (String Global) Global) (o : Option (String Global)) → slice_get files number ≡ Some v → slice_get v.items index ≡ o
    → file_at (files_view files) number index ≡ unwrap_or (option_map string_bytes o) []
found_at files number index v o there here =
    ap (λ (names : Option (List (List ℕ))). unwrap_or (slice_get (unwrap_or names []) index) []) (slice_get-map names_in files number ∙ ap (option_map names_in) there)
    ∙ ap (λ (name : Option (List ℕ)). unwrap_or name []) (slice_get-map string_bytes v.items index ∙ ap (option_map string_bytes) here)

pub returns-in-None : goal.returns-in-None
returns-in-None c =
    let files = c.args.files.now in
    let none = slice_get-map names_in files c.args.number ∙ ap (option_map names_in) (slice_get_past files c.args.number c.in-None.ensures.lookup.3) in
    sym (ap (λ (names : Option (List (List ℕ))). unwrap_or (slice_get (unwrap_or names []) c.args.index) []) none)

pub returns-in-None-get : goal.returns-in-None-get
returns-in-None-get c =
    let files = c.args.files.now in
    let v = c.in-Some.names.now in
    let outer = c.in-Some.ensures.lookup in
    let past = ap (λ (names : List (String Global)). slice_get names c.args.index) (sym c.deref.ensures.value) ∙ slice_get_past c.deref.result.now c.args.index c.in-None-get.ensures.lookup.3 in
    sym (found_at files c.args.number c.args.index v None (slice_get_read files (length files) c.args.number v refl outer.3.0 outer.1) past)

pub returns-in-Some-get : goal.returns-in-Some-get
returns-in-Some-get c =
    let files = c.args.files.now in
    let v = c.in-Some.names.now in
    let name = c.in-Some-get.name.now in
    let outer = c.in-Some.ensures.lookup in
    let inner = c.in-Some-get.ensures.lookup in
    let here = ap (λ (names : List (String Global)). slice_get names c.args.index) (sym c.deref.ensures.value)
    ∙ slice_get_read c.deref.result.now (length c.deref.result.now) c.args.index name refl inner.3.0 inner.1 in
    c.deref-in-Some-get.ensures
    ∙ sym (found_at files c.args.number c.args.index v (Some name) (slice_get_read files (length files) c.args.number v refl outer.3.0 outer.1) here)
