use Rattle.std.proofs.Common.{rules, tests, ◌≡◌, ◌∙◌, ℕ, Bool, List, Option, Some, Bor, refl, ap, subst}
use Rattle.std.proofs.lemmas.Iterator.{YieldsList-from_slice}
use Rattle.std.proofs.lemmas.Iterator.Search.{find_from_yields_List}
use Rattle.std.specs.Prelude.{option_map, string_bytes}
use Rattle.std.specs.Str.{bytes_eq}
use Rattle.c25_prompt_lines.specs.SourceTexts.{text_in}
use Rattle.c25_prompt_lines.specs.declared.program.SourceText.{SourceText}
use Rattle.c25_prompt_lines.proofs.FoundText.{found_text}
use Rattle.c25_prompt_lines.proofs.program.text_of.Goals as goal

pub returns-in-None : goal.returns-in-None
returns-in-None c =
    let name = c.args.name.now in
    let test : SourceText → Bool = λ t. bytes_eq name (string_bytes t.name) in
    let found : option_map (λ t. string_bytes t.now.text) c.find.result ≡ text_in c.args.texts.now name =
    found_text name test (λ t. refl) c.args.texts.now c.find.result
    (find_from_yields_List test _ _ c.find.result c.find.ensures.ran (YieldsList-from_slice _ c.iter.ensures.rest) (λ x b q k. search (rules, tests))) in
    subst (λ (o : Option (Bor SourceText)). option_map (λ t. string_bytes t.now.text) o ≡ text_in c.args.texts.now name) c.in-None.is found

pub returns-in-Some : goal.returns-in-Some
returns-in-Some c =
    let name = c.args.name.now in
    let test : SourceText → Bool = λ t. bytes_eq name (string_bytes t.name) in
    let found : option_map (λ t. string_bytes t.now.text) c.find.result ≡ text_in c.args.texts.now name =
    found_text name test (λ t. refl) c.args.texts.now c.find.result
    (find_from_yields_List test _ _ c.find.result c.find.ensures.ran (YieldsList-from_slice _ c.iter.ensures.rest) (λ x b q k. search (rules, tests))) in
    ap (λ (x : List ℕ). Some x) c.as_str.ensures.value ∙ subst (λ (o : Option (Bor SourceText)). option_map (λ t. string_bytes t.now.text) o ≡ text_in c.args.texts.now name) c.in-Some.is found
