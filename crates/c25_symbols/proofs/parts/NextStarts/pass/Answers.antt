use Rattle.std.proofs.Common.{◌≡◌, ◌+◌, ◌%◌, ◌^◌, sym, ap, subst, ◌∙◌, [], ◌∷◌, ◌++◌, cond}
use Rattle.std.specs.Prelude.{unwrap_or}
use Rattle.std.specs.Str.{bytes_eq}
use Rattle.c25_meaning_linking.specs.Place.{base_of, run_base_of}
use Rattle.c25_module.specs.View.{section_data}
use Rattle.c25_symbols.specs.Parts.{BeginsAt, at_zero, next_of, size_of_sections}
use Rattle.c25_symbols.specs.View.{named}
use Rattle.c25_symbols.specs.declared.parts.PartStart.{PartStart}
use Rattle.c25_symbols.proofs.Next.{begins_next, found_part}
use Rattle.c25_symbols.proofs.parts.NextStarts.pass.Goals as goal

pub returns : goal.returns
returns c = λ places ss knows name.
    let s = section_data c.args.section.now in
    let key = c.as_str-name.result.now in
    let size = c.low_size-size.result in
    let after : PartStart = record { base = (c.get-part.result.base + size) % 2 ^ 32; run = (c.get-part.result.run + size) % 2 ^ 32 } in
    let after_is : after ≡ record { base = ((next_of c.args.self.now key).base + size) % 2 ^ 32; run = ((next_of c.args.self.now key).run + size) % 2 ^ 32 } =
    ap (λ (p : PartStart). record { base = (p.base + size) % 2 ^ 32; run = (p.run + size) % 2 ^ 32 }) c.get-part.ensures in
    let found : unwrap_or (named c.insert.new.self name) at_zero ≡ cond (bytes_eq key name) after (next_of c.args.self.now name) =
    ap (λ o. unwrap_or o at_zero) (c.in_ok-insert.ensures.updates.0 (record { ref_ptr = (0, 0); now = name })) ∙ found_part (bytes_eq key name) after (named c.args.self.now.found name) in
    subst (λ (p : PartStart). BeginsAt p (base_of name places + size_of_sections name (ss ++ s ∷ [])) (run_base_of name places + size_of_sections name (ss ++ s ∷ []))) (sym found)
    (begins_next places ss s (next_of c.args.self.now) after key size c.as_str-name.ensures.value c.low_size-size.ensures knows after_is name)
