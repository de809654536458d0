-- A text that is found by the name of its file.
use Rattle.std.proofs.Common.{◌≡◌, ℕ, Bool, true, false, cond, List, [], ◌∷◌, Option, Some, None, Bor, refl, ap, ◌∙◌}
use Rattle.std.specs.Prelude.{find, option_map, string_bytes}
use Rattle.std.specs.Str.{bytes_eq}
use Rattle.c25_prompt_lines.specs.SourceTexts.{text_in}
use Rattle.c25_prompt_lines.specs.declared.program.SourceText.{SourceText}

module _ (name : List ℕ) (test : SourceText → Bool) (is : (t : SourceText) → test t ≡ bytes_eq name (string_bytes t.name)) where
  one_more : (b : Bool) (t : SourceText) (found : Option SourceText) (rest : Option (List ℕ)) → option_map (λ x. string_bytes x.text) found ≡ rest
      → option_map (λ (x : SourceText). string_bytes x.text) (cond b (Some t) found) ≡ cond b (Some (string_bytes t.text)) rest
  one_more true t found rest e = refl
  one_more false t found rest e = e

  among : (texts : List SourceText) → option_map (λ (x : SourceText). string_bytes x.text) (find test texts) ≡ text_in texts name
  among [] = refl
  among (t ∷ ts) = one_more (test t) t _ _ (among ts) ∙ ap (λ b. cond b (Some (string_bytes t.text)) (text_in ts name)) (is t)

  -- the text of the file that is found
  pub found_text : (texts : List SourceText) (found : Option (Bor SourceText)) → option_map (λ t. t.now) found ≡ find test texts → option_map (λ t. string_bytes t.now.text) found ≡ text_in texts name
  found_text texts None e = ap (option_map (λ x. string_bytes x.text)) e ∙ among texts
  found_text texts (Some t) e = ap (option_map (λ x. string_bytes x.text)) e ∙ among texts
