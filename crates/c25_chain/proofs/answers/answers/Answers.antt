use Rattle.std.proofs.Common.{ap, rules, string_bytes}
use Rattle.std.proofs.Math.ListN.{drop_of_length-le}
use Rattle.c25_board.specs.Board.{entries}
use Rattle.c25_meaning_processor.specs.declared.script.Cmd.TheVariants as cmd
use Rattle.c25_debug.specs.Told.{point_of}
use Rattle.c25_chain.proofs.Scripted.{all_answered, one_answered}
use Rattle.c25_chain.proofs.answers.answers.Goals as goal

pub loop-command-preserved : goal.loop-command-preserved
loop-command-preserved c =
    one_answered (entries c.args.session.now.board) c.args.session.now.image.now c.args.commands.now
    (point_of c.args.session.now.board c.args.session.now.breakpoints) c.loop-command.command-index (cmd.Step 0)
    (entries c.loop-command.session.board) (entries c.answer.new.session.board) c.loop-command.session.image.now c.answer.new.session.image.now
    (point_of c.loop-command.session.board c.loop-command.session.breakpoints) (point_of c.answer.new.session.board c.answer.new.session.breakpoints)
    (string_bytes c.loop-command.text) (string_bytes c.in_ok-told.told) _ c.loop-command-test.true c.in_ok-told.ensures.text c.answer.ensures.schedule (ap (λ image. image.now) c.answer.ensures.image)
    (search rules) c.loop-command.invariant

pub returns : goal.returns
returns c =
    all_answered (entries c.args.session.now.board) c.args.session.now.image.now c.args.commands.now
    (point_of c.args.session.now.board c.args.session.now.breakpoints) _ (entries c.loop-command.session.board) c.loop-command.session.image.now
    (point_of c.loop-command.session.board c.loop-command.session.breakpoints) (string_bytes c.loop-command.text)
    (drop_of_length-le c.args.commands.now c.loop-command-test.false) c.loop-command.invariant
