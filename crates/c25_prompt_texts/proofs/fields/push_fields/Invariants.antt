use Rattle.std.proofs.Common.{◌≡◌, ◌++◌, map, take, string_bytes}
use Rattle.c25_prompt_texts.specs.Fields.{fields_text}
use Rattle.c25_prompt_texts.proofs.fields.push_fields.Given as goal

abbrev pub invariant-loop-name : goal.invariant-loop-name
invariant-loop-name l = string_bytes l.text ≡ string_bytes l.fn.text ++ fields_text (map (λ f. (f.0.now, f.1)) (take l.name-index l.fields))
