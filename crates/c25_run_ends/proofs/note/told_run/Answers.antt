use Rattle.std.proofs.Common.{rules, string_bytes}
use Rattle.c25_board.specs.Board.{entries, signals, state, steps}
use Rattle.c25_run_ends.proofs.Ended.{ends_none, ends_some, known_before, not_noted, noted}
use Rattle.c25_run_ends.proofs.note.told_run.Goals as goal

pub returns-in_default : goal.returns-in_default
returns-in_default c =
    let board = c.args.board.now in
    let end = c.args.ended.end in
    let known = known_before (signals board) (entries board) end (state board) c.args.ended.requests c.requires.requests in
    not_noted c.args.image.now c.args.had.now (entries board) (state board) end (steps c.told_end.new.board) (state c.told_end.new.board) c.args.ended.requests (string_bytes c.new.result) c.requires.requests
    (ends_none (signals board) c.args.image.now c.args.had.now (state board) end (steps c.told_end.new.board) (state c.told_end.new.board) c.args.ended.requests (λ k. (string_bytes k.text, k.requests))
    c.in_ok-known.field-0 c.in_default.is (c.in_ok-known.ensures.ends known))
    (search rules)

pub returns : goal.returns
returns c =
    let board = c.args.board.now in
    let end = c.args.ended.end in
    let known = known_before (signals board) (entries board) end (state board) c.args.ended.requests c.requires.requests in
    noted c.args.image.now c.args.had.now (entries board) (state board) end (steps c.told_end.new.board) (state c.told_end.new.board) c.args.ended.requests (string_bytes c.push_str.new.self) c.requires.requests
    (string_bytes c.in-Some.known.text) (string_bytes c.in_ok-rest.rest) c.in-Some.known.requests
    (ends_some (signals board) c.args.image.now c.args.had.now (state board) end (steps c.told_end.new.board) (state c.told_end.new.board) c.args.ended.requests (λ k. (string_bytes k.text, k.requests))
    c.in_ok-known.field-0 c.in-Some.known c.in-Some.is (c.in_ok-known.ensures.ends known))
    c.in_ok-rest.ensures (search rules)
