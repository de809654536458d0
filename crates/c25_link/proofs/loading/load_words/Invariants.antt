-- the words so far are loaded
use Rattle.std.proofs.Common.{◌≡◌, ℕ}
use Rattle.std.specs.FinMap as finite
use Rattle.c25_meaning_image.specs.WordMap.{put_all}
use Rattle.c25_module.specs.View.{contents}
use Rattle.c25_link.specs.Layout.{places_in}
use Rattle.c25_link.specs.Loading.{loaded, linked_at}
use Rattle.c25_link.proofs.loading.load_words.Given as goal

abbrev pub invariant-loop-offset : goal.invariant-loop-offset
invariant-loop-offset l = (address : ℕ) → finite.get (put_all l.page) address ≡ loaded l.section.base l.offset (linked_at l.layout.modules.now (places_in l.layout) l.owner.number (contents l.owner.parts.now) l.section.index l.section.words.now) (finite.get (put_all l.fn.page) address) address
