use Rattle.std.proofs.Common.{◌≡◌, ◌+◌, ℕ, Option, get_or, ap, refl, ◌∙◌}
use Rattle.std.specs.Option.{option_map}
use Rattle.c25_meaning_linking.specs.Words.{relocated, relocation_at}
use Rattle.c25_meaning_objects.specs.declared.object.Relocation.{Relocation}
use Rattle.c25_module.specs.View.{contents}
use Rattle.c25_link.specs.Layout.{places_in}
use Rattle.c25_link.specs.Loading.{linked_at}
use Rattle.c25_link.proofs.Loaded.{words_more, copied_mapped}
use Rattle.c25_link.proofs.loading.load_words.Goals as goal

pub loop-offset-preserved : goal.loop-offset-preserved
loop-offset-preserved c =
    let modules = c.args.layout.now.modules.now in
    let places = places_in c.args.layout.now in
    let m = contents c.args.owner.now.parts.now in
    let offset = c.loop-offset.offset in
    let word_at : ℕ → ℕ = linked_at modules places c.args.owner.now.number m c.args.section.now.index c.args.section.now.words.now in
    let which : option_map (λ r. r.now) c.get-relocation.result ≡ relocation_at m c.args.section.now.index offset = copied_mapped c.get-relocation.result ∙ c.get-relocation.ensures.value ∙ c.requires.relocations c.args.section.now.index offset in
    let value : c.linked_word-linked.result ≡ word_at offset = c.linked_word-linked.ensures ∙ ap (λ (o : Option Relocation). relocated modules places c.args.owner.now.number m o (get_or c.args.section.now.words.now offset 0)) which in
    words_more c.args.section.now.base offset c.linked_word-linked.result (c.args.section.now.base + offset) word_at c.args.page.now c.loop-offset.page c.push.new.self refl value c.in_ok-push.ensures.ok c.loop-offset.invariant
