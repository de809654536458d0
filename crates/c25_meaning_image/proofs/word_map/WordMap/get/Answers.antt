use Rattle.std.proofs.Common.{ap}
use Rattle.std.specs.FinMap as map
use Rattle.c25_meaning_image.proofs.WordMaps.{get_view}
use Rattle.c25_meaning_image.proofs.word_map.WordMap.get.Goals as goal

pub returns : goal.returns
returns c =
    let seen = ap (λ m. map.get m c.args.address) c.self.view_is in
    let view = get_view c.self.inside.words c.args.address in
    cc (c.copied.ensures, c.get.ensures.value)
