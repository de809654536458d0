use Rattle.std.proofs.Common.{◌≡◌, length, arith, rules, tests}
use Rattle.std.proofs.lemmas.Bool.Decides.{nat_tests}
use Rattle.std.proofs.lemmas.List.{nil_from_length}
use Rattle.c25_move.proofs.Moving.{keep_all, text_all}
use Rattle.c25_move.proofs.source.moved_lines.Goals as goal

pub returns : goal.returns
returns c =
    let rest = c.loop-rest.rest.now in
    let empty : length rest ≡ 0 = first_of (search (rules, tests), grind (arith, nat_tests)) in
    record {
      lines = text_all c.args.text.now c.loop-rest.lines.items rest (nil_from_length rest empty) c.loop-rest.invariant.1;
      promises = keep_all _ _ _ _ c.loop-rest.lines.items c.loop-rest.invariant.2;
    }
