use Rattle.std.proofs.Common.{arith, sym, ◌∙◌}
use Rattle.c25_meaning_image.specs.WordMap.{put_all}
use Rattle.c25_meaning_image.proofs.WordMaps.{put_more}
use Rattle.c25_hex.proofs.WordSteps.{none_below, one_below, gap_below, all_below}
use Rattle.c25_hex.proofs.words.words_of.Goals.{in-Some+in_ok-push-in-Some, in-None}
use Rattle.c25_hex.proofs.words.words_of.Goals as goal

pub loop-i-init : goal.loop-i-init
loop-i-init c = rw c.new-words.ensures (none_below c.args.cells.now)

pub loop-i-preserved : goal.loop-i-preserved
loop-i-preserved c =
    elim c.match-word_of.branch [
      | in-Some+in_ok-push-in-Some w ↦ rw (w.words-is, w.in_ok-push-in-Some.ensures.ok, put_more c.loop-i.words _) (one_below c.args.cells.now (put_all c.loop-i.words) c.loop-i.i _ (sym c.word_of.ensures ∙ w.in-Some.is) c.loop-i.invariant)
      | in-None w ↦ rw w.words-is (gap_below c.args.cells.now (put_all c.loop-i.words) c.loop-i.i (sym c.word_of.ensures ∙ w.in-None.is) c.loop-i.invariant)
    ]

pub returns : goal.returns
returns c = rw c.in_ok-map.ensures (all_below c.args.cells.now (put_all c.loop-i.words) c.loop-i.i (omega arith) c.loop-i.invariant)
