use Rattle.std.proofs.Common.{rules, tests, ◌≡◌, ◌∙◌, Bool, Option, None, Bor, ap, subst}
use Rattle.std.proofs.lemmas.Iterator.{YieldsList-from_slice}
use Rattle.std.proofs.lemmas.Iterator.Search.{find_from_yields_List}
use Rattle.std.specs.Prelude.{find, option_map}
use Rattle.c25_meaning_image.specs.declared.mark.Mark.{Mark}
use Rattle.c25_prompt_lines.specs.Addresses.{first_address, stands_at}
use Rattle.c25_prompt_lines.proofs.address.line_address.Goals as goal

pub returns-in-None : goal.returns-in-None
returns-in-None c =
    let test : Mark → Bool = λ m. stands_at c.args.image.now c.args.file.now c.args.line m.address in
    let found : option_map (λ r. r.now) c.find.result ≡ find test c.args.image.now.marks = find_from_yields_List test _ _ c.find.result c.find.ensures.ran (YieldsList-from_slice _ (c.iter.ensures.rest ∙ c.marks.ensures)) (λ x b q k. search (rules, tests)) in
    let none : None ≡ find test c.args.image.now.marks = subst (λ (o : Option (Bor Mark)). option_map (λ r. r.now) o ≡ find test c.args.image.now.marks) c.in-None.is found in
    c.copied_address.ensures ∙ ap (λ (o : Option Mark). first_address o (find (λ m. stands_at c.args.image.now c.args.file.now c.args.line m.load) c.args.image.now.run_marks)) none

pub returns-in-Some : goal.returns-in-Some
returns-in-Some c =
    let test : Mark → Bool = λ m. stands_at c.args.image.now c.args.file.now c.args.line m.address in
    let found : option_map (λ r. r.now) c.find.result ≡ find test c.args.image.now.marks = find_from_yields_List test _ _ c.find.result c.find.ensures.ran (YieldsList-from_slice _ (c.iter.ensures.rest ∙ c.marks.ensures)) (λ x b q k. search (rules, tests)) in
    let some = subst (λ (o : Option (Bor Mark)). option_map (λ r. r.now) o ≡ find test c.args.image.now.marks) c.in-Some.is found in
    ap (λ (o : Option Mark). first_address o (find (λ m. stands_at c.args.image.now c.args.file.now c.args.line m.load) c.args.image.now.run_marks)) some
