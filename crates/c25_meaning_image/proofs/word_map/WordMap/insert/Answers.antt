use Rattle.std.proofs.Common.{ap, ◌∙◌}
use Rattle.std.specs.FinMap as map
use Rattle.c25_meaning_image.proofs.WordMaps.{insert_view, in_range-insert}
use Rattle.c25_meaning_image.proofs.word_map.WordMap.insert.Goals as goal

pub returns-clause-ok : goal.returns-clause-ok
returns-clause-ok c =
    insert_view c.self.inside.words c.insert.new.self c.args.address c.args.word c.in_ok-insert.ensures.updates
    ∙ ap (λ m. map.insert m c.args.address c.args.word) c.self.view_is

pub invariant_of-self-2 : goal.invariant_of-self-2
invariant_of-self-2 c =
    in_range-insert _ _ c.args.address c.args.word (insert_view c.self.inside.words c.insert.new.self c.args.address c.args.word c.in_ok-insert.ensures.updates)
    c.self.invariant c.ranges.address.fits c.ranges.word.fits
