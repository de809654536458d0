use Rattle.std.proofs.Common.{rules, tests, ◌≡◌, ◌∙◌, Bool, Option, None, Bor, ap, subst}
use Rattle.std.proofs.lemmas.Iterator.{YieldsList-from_slice}
use Rattle.std.proofs.lemmas.Iterator.Search.{find_from_yields_List}
use Rattle.std.specs.Prelude.{find, option_map}
use Rattle.c25_meaning_image.specs.declared.mark.RunMark.{RunMark}
use Rattle.c25_prompt_lines.specs.Addresses.{run_address, stands_at}
use Rattle.c25_prompt_lines.proofs.address.copied_address.Goals as goal

pub returns-in-None : goal.returns-in-None
returns-in-None c =
    let test : RunMark → Bool = λ m. stands_at c.args.image.now c.args.file.now c.args.line m.load in
    let found : option_map (λ r. r.now) c.find.result ≡ find test c.args.image.now.run_marks = find_from_yields_List test _ _ c.find.result c.find.ensures.ran (YieldsList-from_slice _ (c.iter.ensures.rest ∙ c.run_marks.ensures)) (λ x b q k. search (rules, tests)) in
    let none : None ≡ find test c.args.image.now.run_marks = subst (λ (o : Option (Bor RunMark)). option_map (λ r. r.now) o ≡ find test c.args.image.now.run_marks) c.in-None.is found in
    ap (λ (o : Option RunMark). run_address o) none

pub returns-in-Some : goal.returns-in-Some
returns-in-Some c =
    let test : RunMark → Bool = λ m. stands_at c.args.image.now c.args.file.now c.args.line m.load in
    let found : option_map (λ r. r.now) c.find.result ≡ find test c.args.image.now.run_marks = find_from_yields_List test _ _ c.find.result c.find.ensures.ran (YieldsList-from_slice _ (c.iter.ensures.rest ∙ c.run_marks.ensures)) (λ x b q k. search (rules, tests)) in
    let some = subst (λ (o : Option (Bor RunMark)). option_map (λ r. r.now) o ≡ find test c.args.image.now.run_marks) c.in-Some.is found in
    ap (λ (o : Option RunMark). run_address o) some
