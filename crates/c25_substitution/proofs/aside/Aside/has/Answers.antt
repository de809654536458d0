use Rattle.std.proofs.Common.{◌≡◌, ℕ, List, map, ◌++◌, ◌||◌, false, ap, sym, ◌∙◌, Bor}
use Rattle.std.proofs.lemmas.List.Folds.{list_any-append}
use Rattle.std.specs.List.{list_any}
use Rattle.std.specs.Str.{bytes_eq}
use Rattle.c25_substitution.proofs.Asides.{any_map}
use Rattle.c25_substitution.proofs.aside.Aside.has.Goals as goal

pub returns-else-is_among : goal.returns-else-is_among
returns-else-is_among c =
    let test = bytes_eq c.args.name.now in
    let read = λ (s : Bor (List ℕ)). s.now in
    let few = c.self.inside.few.items in
    let others = c.self.inside.others.keys in
    let found = λ (k : Bor (List ℕ)). test k.now in
    let none : list_any found few ≡ false =
    sym (any_map test read few) ∙ ap (λ (xs : List (Bor (List ℕ))). list_any test (map read xs)) (sym c.as_slice.ensures.value) ∙ sym c.is_among.ensures ∙ c.if-is_among.false in
    c.is_hashed.ensures ∙ ap (λ b. b || list_any found others) (sym none)
    ∙ sym (list_any-append found few others) ∙ sym (any_map test read (few ++ others)) ∙ ap (list_any test) c.self.view_is
