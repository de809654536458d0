use Rattle.std.proofs.Common.{◌≡◌, ℕ, List, Some, refl, sym, ap, subst, map, length, arith, ◌∙◌, string_bytes}
use Rattle.std.specs.List.{slice_get}
use Rattle.std.specs.Option.{option_map}
use Rattle.std.proofs.lemmas.List.{length-map}
use Rattle.std.proofs.lemmas.Option.{slice_get-map, slice_get_read}
use Rattle.c25_meaning_objects.specs.Module.{Contents}
use Rattle.c25_module.specs.View.{contents, section_data}
use Rattle.c25_module.specs.declared.parts.Section.{Section}
use Rattle.c25_dis.specs.Sections.{AreTexts, IsModuleText, IsSectionAt}
use Rattle.c25_dis.proofs.Passed.{section_at, texts_more}
use Rattle.c25_dis.proofs.module.disassemble_module.Goals as goal

pub loop-number-preserved : goal.loop-number-preserved
loop-number-preserved c =
    let m = contents c.parts-parts.result.now in
    let items = c.deref-section-items.result.now in
    let number = c.loop-number.number in
    let item = c.section-item.result in
    let there : slice_get items number ≡ Some item = slice_get_read items (length items) number item refl c.loop-number-test.true c.section-item.is in
    let found : slice_get m.sections number ≡ Some (section_data item) =
    ap (λ (xs : List Section). slice_get (map section_data xs) number) (sym c.deref-section-items.ensures.value) ∙ slice_get-map section_data items number ∙ ap (option_map section_data) there in
    let own = c.in_ok-push_section.ensures in
    texts_more (IsSectionAt m) number (string_bytes c.loop-number.text) own.0 (string_bytes c.push_section.new.text) (section_at m number (section_data item) own.0 found own.1) own.2 c.loop-number.invariant

pub push_section-requires : goal.push_section-requires
push_section-requires c =
    let items = c.deref-section-items.result.now in
    let number = c.loop-number.number in
    let item = c.section-item.result in
    ap (λ (xs : List Section). slice_get (map section_data xs) number) (sym c.deref-section-items.ensures.value) ∙ slice_get-map section_data items number
    ∙ ap (option_map section_data) (slice_get_read items (length items) number item refl c.loop-number-test.true c.section-item.is)

pub returns : goal.returns
returns c =
    let m = contents c.parts-parts.result.now in
    let text = string_bytes c.loop-number.text in
    let counted : length m.sections ≡ length c.deref-section-items.result.now = length-map c.parts-parts.result.now.sections.items section_data ∙ ap length (sym c.deref-section-items.ensures.value) in
    let all : c.loop-number.number ≡ length m.sections = omega (arith, c.loop-number-test.false, c.loop-number.auto.number-end, counted) in
    subst (λ (k : Contents). IsModuleText k text) c.parts-parts.ensures.kept (subst (λ (n : ℕ). AreTexts (IsSectionAt m) n text) all c.loop-number.invariant)
