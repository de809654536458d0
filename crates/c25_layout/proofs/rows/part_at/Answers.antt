use Rattle.std.proofs.Common.{◌+◌, Option, refl, subst, arith}
use Rattle.c25_layout.proofs.InImage.{AreRowsTo, all_rows, less_left, no_rows, row_added}
use Rattle.c25_layout.specs.declared.rows.Standing.{Standing}
use Rattle.c25_layout.proofs.rows.part_at.Goals as goal

pub loop-next-init : goal.loop-next-init
loop-next-init c =
    rw (c.new-rows.ensures.items, c.from-end.ensures) (no_rows c.args.found.words.now (record { address = c.args.address; word = c.args.word }) c.ranges.address.fits c.requires)

pub loop-next-preserved : goal.loop-next-preserved
loop-next-preserved c =
    let so_far = subst (λ (o : Option Standing). AreRowsTo c.args.found.words.now c.args.address c.loop-next.rows.items c.loop-next.end o) c.in-Some.is c.loop-next.invariant in
    row_added c.args.found.words.now c.args.address c.loop-next.rows.items c.push.new.self.items c.loop-next.end (c.from.result + c.words_in.result) c.in_ok-row.row c.in-Some.start c.next_row-next.result c.in_ok-push.ensures.items
    (omega (arith, c.from.ensures, c.words_in.ensures)) so_far c.in_ok-row.ensures.address c.in_ok-row.ensures.stands c.next_row-next.ensures.place c.next_row-next.ensures.there c.next_row-next.ensures.inside

pub loop-next-smaller : goal.loop-next-smaller
loop-next-smaller c =
    let so_far = subst (λ (o : Option Standing). AreRowsTo c.args.found.words.now c.args.address c.loop-next.rows.items c.loop-next.end o) c.in-Some.is c.loop-next.invariant in
    less_left c.args.found.words.now c.args.address c.loop-next.rows.items c.loop-next.end (c.from.result + c.words_in.result) c.in_ok-row.row c.in-Some.start (omega (arith, c.from.ensures, c.words_in.ensures)) so_far c.in_ok-row.ensures.stands

pub returns : goal.returns
returns c = all_rows c.args.found.words.now c.args.address (record { address = c.args.address; run = c.at.result.runs_at; rows = c.loop-next.rows }) c.loop-next.end c.loop-next.next refl c.in_default.not-Some c.loop-next.invariant
