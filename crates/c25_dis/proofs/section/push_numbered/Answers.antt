use Rattle.std.proofs.Common.{◌≡◌, ◌++◌, List, length, Option, Some, None, ℕ, OnOk, refl, ap, sym, subst, ◌∙◌, string_bytes}
use Rattle.std.specs.List.{slice_get}
use Rattle.std.proofs.lemmas.List.{append-nil}
use Rattle.std.proofs.lemmas.Option.{slice_get_past, slice_get_read}
use Rattle.c25_module.specs.declared.parts.Symbol.{Symbol}
use Rattle.c25_dis.specs.Sections.{label_line}
use Rattle.c25_dis.specs.View.{label_in}
use Rattle.c25_dis.proofs.section.push_numbered.Goals as goal

pub returns-in-None : goal.returns-in-None
returns-in-None c =
    let text = string_bytes c.args.text.now in
    let none = slice_get_past c.args.symbols.now c.args.item.now.number c.in-None.ensures.lookup.3 in
    sym (ap (λ (o : Option Symbol). text ++ label_in c.args.place o) none ∙ append-nil text)

pub returns-in-Some : goal.returns-in-Some
returns-in-Some c =
    let symbols = c.args.symbols.now in
    let symbol = c.in-Some.symbol.now in
    let here = c.in-Some.ensures.lookup in
    let found : slice_get symbols c.args.item.now.number ≡ Some symbol = slice_get_read symbols (length symbols) c.args.item.now.number symbol refl here.3.0 here.1 in
    let line = ap (label_line c.args.place) c.deref.ensures ∙ sym (ap (label_in c.args.place) found) in
    subst (λ (own : List ℕ). OnOk c.push_label.result (string_bytes c.push_label.new.text ≡ string_bytes c.args.text.now ++ own)) line c.push_label.ensures
