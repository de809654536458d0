use Rattle.std.proofs.Common.{◌≡◌, sym, ◌∙◌}
use Rattle.c25_places.proofs.Characters.{at_front}
use Rattle.c25_places.proofs.whole_lines.character_start.Goals as goal

pub returns-after-loop-at : goal.returns-after-loop-at
returns-after-loop-at c = sym (at_front c.args.text.now c.loop-at.at c.loop-at-test.false) ∙ c.loop-at.invariant.0
