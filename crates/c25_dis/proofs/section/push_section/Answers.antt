use Rattle.std.proofs.Common.{◌+◌, ◌++◌, ℕ, refl, subst, string_bytes}
use Rattle.c25_meaning_objects.specs.Module.{body_size}
use Rattle.c25_module.specs.View.{contents, section_data}
use Rattle.c25_module.specs.declared.parts.Parts.{Parts}
use Rattle.c25_dis.specs.Sections.{AreTexts, IsPlace, heading}
use Rattle.c25_dis.proofs.Passed.{ok_then, two_behind}
use Rattle.c25_dis.proofs.section.push_section.Goals as goal

pub returns : goal.returns
returns c =
    let s = section_data c.args.section.now in
    let places = c.in_ok-places.places in
    let is = c.in_ok-places.ensures in
    ok_then c.push_body.result c.push_body.ensures (λ own. (
      heading s ++ own.0,
      record {
        places = own.0;
        each = subst (λ (n : ℕ). AreTexts (IsPlace (contents c.args.parts.now) n) (body_size s.body + 1) own.0) is.2
            (subst (λ (p : Parts). AreTexts (IsPlace (contents p) places.section) (body_size s.body + 1) own.0) is.1 own.1);
        text_is = refl;
      },
      two_behind (string_bytes c.args.text.now) (heading s) own.0 (string_bytes c.push_heading.new.text) (string_bytes c.push_body.new.text) c.in_ok-push_heading.ensures own.2,
    ))
