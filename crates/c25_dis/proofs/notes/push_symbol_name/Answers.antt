use Rattle.std.proofs.Common.{◌≡◌, ◌++◌, List, [], length, map, Option, Some, None, ℕ, OnOk, refl, ap, sym, subst, ◌∙◌, string_bytes}
use Rattle.std.specs.List.{slice_get}
use Rattle.std.specs.Option.{option_map}
use Rattle.std.proofs.lemmas.List.{append-nil}
use Rattle.std.proofs.lemmas.Option.{slice_get_past, slice_get_read, slice_get-map}
use Rattle.c25_meaning_objects.specs.Module.{SymbolData}
use Rattle.c25_module.specs.View.{symbol_data}
use Rattle.c25_module.specs.declared.parts.Symbol.{Symbol}
use Rattle.c25_dis.proofs.notes.push_symbol_name.Goals as goal

-- the name that a symbol has, if there is one
abbrev name_of : Option SymbolData → List ℕ
name_of o = elim o [ None ↦ [] | Some x ↦ x.name ]

-- what stands at a number
found : (items all : List Symbol) (number place : ℕ) (o : Option Symbol) → items ≡ all → place ≡ number → slice_get items place ≡ o → name_of (option_map symbol_data o) ≡ name_of (slice_get (map symbol_data all) number)
found items all number place o same at is =
    sym (ap name_of (slice_get-map symbol_data all number ∙ ap (option_map symbol_data) (ap (λ (xs : List Symbol). slice_get xs number) (sym same) ∙ ap (slice_get items) (sym at) ∙ is)))

pub returns-in-None : goal.returns-in-None
returns-in-None c =
    let text = string_bytes c.args.text.now in
    let items = c.deref.result.now in
    let none = found items c.args.parts.now.symbols.items c.args.number c.from.result None c.deref.ensures.value c.from.ensures (slice_get_past items c.from.result c.in-None.ensures.lookup.3) in
    sym (append-nil text) ∙ ap (λ (name : List ℕ). text ++ name) none

pub returns-in-Some : goal.returns-in-Some
returns-in-Some c =
    let items = c.deref.result.now in
    let symbol = c.in-Some.symbol.now in
    let here = c.in-Some.ensures.lookup in
    let this = found items c.args.parts.now.symbols.items c.args.number c.from.result (Some symbol) c.deref.ensures.value c.from.ensures (slice_get_read items (length items) c.from.result symbol refl here.3.0 here.1) in
    subst (λ (name : List ℕ). OnOk c.push_text.result (string_bytes c.push_text.new.text ≡ string_bytes c.args.text.now ++ name)) (c.deref-in-Some.ensures ∙ this) c.push_text.ensures
