use Rattle.std.proofs.Common.{◌≡◌, ℕ, List, [], ◌∷◌, ◌++◌, map, false, cond, ap, sym, ◌∙◌, append_assoc, Bor}
use Rattle.std.proofs.lemmas.List.{map-append}
use Rattle.std.proofs.lemmas.List.Folds.{list_any-append}
use Rattle.std.specs.List.{list_any}
use Rattle.std.specs.Str.{bytes_eq}
use Rattle.c25_substitution.proofs.Asides.{any_map, not_second}
use Rattle.c25_substitution.proofs.aside.Aside.push.Goals as goal

pub returns-in_ok-insert : goal.returns-in_ok-insert
returns-in_ok-insert c =
    let test = bytes_eq c.args.name.now in
    let read = λ (s : Bor (List ℕ)). s.now in
    let few = c.self.inside.few.items in
    let others = c.self.inside.others.keys in
    let none : list_any (λ (k : Bor (List ℕ)). test k.now) others ≡ false =
    not_second _ _ (sym (list_any-append (λ (k : Bor (List ℕ)). test k.now) few others) ∙ sym (any_map test read (few ++ others)) ∙ ap (list_any test) c.self.view_is ∙ c.requires) in
    ap (λ ks. map read (few ++ ks)) (c.in_ok-insert.ensures.keys ∙ ap (λ b. cond b others (others ++ c.args.name ∷ [])) none)
    ∙ ap (map read) (sym (append_assoc few others (c.args.name ∷ []))) ∙ map-append read (few ++ others) (c.args.name ∷ []) ∙ ap (λ l. l ++ c.args.name.now ∷ []) c.self.view_is
