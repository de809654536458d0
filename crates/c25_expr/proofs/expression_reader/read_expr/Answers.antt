use Rattle.std.proofs.Common.{◌≡◌, ℕ, ◌+◌, ◌-◌, List, length, get_or, take, drop, arith, sym, ap, ◌∙◌}
use Rattle.std.specs.Option.{is_none}
use Rattle.std.proofs.lemmas.List.{take_rest}
use Rattle.std.proofs.lemmas.Result.{err_from_is_err_and, IfOk-weaker}
use Rattle.c25_meaning_language.specs.Reading.{ParserState, step, finished}
use Rattle.c25_meaning_language.specs.Tree.{mark_of}
use Rattle.c25_text.specs.View.{piece_of}
use Rattle.c25_text.specs.declared.tokens.Token.{Token}
use Rattle.c25_expr.specs.Completes.{opens, completes}
use Rattle.c25_expr.specs.View.{marks_of, state_of, tree_of}
use Rattle.c25_expr.proofs.Found.{run_more, one_more, some_of, run_end, no_tree, not_completed, completed, ended, ended_runs, fault_same, as_unit, tree_found, none_found, failed, answered}
use Rattle.c25_expr.proofs.TreeLaws.{reads_tree}
use Rattle.c25_expr.proofs.Reach.{reach-step}
use Rattle.c25_expr.proofs.expression_reader.read_expr.Goals as goal

-- the tokens after a place complete what the slice from there on does
rest_completes : (ts : List Token) (i : ℕ) (t : ParserState) → completes (marks_of (drop i ts)) (is_none t.current) (opens t.frames) ≡ completes (marks_of (take (length ts - i) (drop i ts))) (is_none t.current) (opens t.frames)
rest_completes ts i t = ap (λ us. completes (marks_of us) (is_none t.current) (opens t.frames)) (sym (take_rest ts i))

-- the token has no place after those before it
pub returns-in_err-take-clause-bad : goal.returns-in_err-take-clause-bad
returns-in_err-take-clause-bad c =
    let p = err_from_is_err_and c.from_residual-in_err-take.result c.from_residual-in_err-take.ensures.1 in
    let ts = c.args.tokens.now in
    let refused = failed (step (state_of c.loop-i.builder) (mark_of (piece_of (get_or ts c.loop-i.i _)))) c.in_err-take.field-0.0 c.in_err-take.ensures in
    rw (p.1, p.2) (λ bad. no_tree (marks_of ts)
    (sym c.loop-i.invariant.told ∙ run_more ts c.loop-i.i _ (state_of c.loop-i.builder) _ c.loop-i-test.true (refused.0 (as_unit _ _ bad))))

pub returns-in_err-take-clause-deep : goal.returns-in_err-take-clause-deep
returns-in_err-take-clause-deep c =
    let p = err_from_is_err_and c.from_residual-in_err-take.result c.from_residual-in_err-take.ensures.1 in
    let refused = failed (step (state_of c.loop-i.builder) (mark_of (piece_of (get_or c.args.tokens.now c.loop-i.i _)))) c.in_err-take.field-0.0 c.in_err-take.ensures in
    rw (p.1, p.2) (λ deep. absurd (refused.1 (as_unit _ _ deep)))

pub returns-in_err-take-clause-told : goal.returns-in_err-take-clause-told
returns-in_err-take-clause-told c =
    let p = err_from_is_err_and c.from_residual-in_err-take.result c.from_residual-in_err-take.ensures.1 in
    reads_tree c.args.tokens.now c.from_residual-in_err-take.result (rw p.1 tt) (returns-in_err-take-clause-bad c) (returns-in_err-take-clause-deep c)

pub returns-then-nesting-gt-MOST_NESTED-clause-bad : goal.returns-then-nesting-gt-MOST_NESTED-clause-bad
returns-then-nesting-gt-MOST_NESTED-clause-bad c = λ bad.
    let ts = c.args.tokens.now in
    let more = one_more ts c.loop-i.i _ (state_of c.loop-i.builder) (state_of c.take.new.self) c.loop-i-test.true c.loop-i.invariant.shape c.loop-i.invariant.told c.in_ok-take.ensures in
    no_tree (marks_of ts) (not_completed (marks_of ts) _ _ more.0 more.1 (rest_completes ts (c.loop-i.i + 1) (state_of c.take.new.self) ∙ c.refusal.ensures.bad (fault_same _ _ bad)))

pub returns-then-nesting-gt-MOST_NESTED-clause-deep : goal.returns-then-nesting-gt-MOST_NESTED-clause-deep
returns-then-nesting-gt-MOST_NESTED-clause-deep c = λ deep.
    let ts = c.args.tokens.now in
    let more = one_more ts c.loop-i.i _ (state_of c.loop-i.builder) (state_of c.take.new.self) c.loop-i-test.true c.loop-i.invariant.shape c.loop-i.invariant.told c.in_ok-take.ensures in
    completed (marks_of ts) _ _ c.nesting.result more.0 more.1 c.nesting.ensures c.if-nesting-gt-MOST_NESTED.true
    (rest_completes ts (c.loop-i.i + 1) (state_of c.take.new.self) ∙ c.refusal.ensures.deep (fault_same _ _ deep))

pub returns-then-nesting-gt-MOST_NESTED-clause-told : goal.returns-then-nesting-gt-MOST_NESTED-clause-told
returns-then-nesting-gt-MOST_NESTED-clause-told c =
    reads_tree c.args.tokens.now _ tt (returns-then-nesting-gt-MOST_NESTED-clause-bad c) (returns-then-nesting-gt-MOST_NESTED-clause-deep c)

pub loop-i-preserved : goal.loop-i-preserved
loop-i-preserved c =
    let s = state_of c.loop-i.builder in
    let t = state_of c.take.new.self in
    let stepped = c.in_ok-take.ensures in
    let more = one_more c.args.tokens.now c.loop-i.i _ s t c.loop-i-test.true c.loop-i.invariant.shape c.loop-i.invariant.told stepped in
    record {
      told = more.1;
      shape = more.0;
      shallow = omega (arith, reach-step s t _ (some_of _ t stepped), c.loop-i.invariant.shallow, c.nesting.ensures);
    }

pub returns-clause-ok : goal.returns-clause-ok
returns-clause-ok c =
    let told = sym c.loop-i.invariant.told ∙ run_end c.args.tokens.now c.loop-i.i (state_of c.loop-i.builder) c.loop-i-test.false in
    let found = answered tree_of (tree_found (state_of c.loop-i.builder)) c.finish.result c.finish.ensures in
    IfOk-weaker c.finish.result _ _ (λ e h. ended (marks_of c.args.tokens.now) (state_of c.loop-i.builder) (tree_of e) told h c.loop-i.invariant.shallow) found.ok

pub returns-clause-bad : goal.returns-clause-bad
returns-clause-bad c = λ bad.
    let told = sym c.loop-i.invariant.told ∙ run_end c.args.tokens.now c.loop-i.i (state_of c.loop-i.builder) c.loop-i-test.false in
    let found = answered tree_of (tree_found (state_of c.loop-i.builder)) c.finish.result c.finish.ensures in
    no_tree (marks_of c.args.tokens.now) (told ∙ none_found (finished (state_of c.loop-i.builder)) (found.bad bad))

pub returns-clause-told : goal.returns-clause-told
returns-clause-told c =
    let found = answered tree_of (tree_found (state_of c.loop-i.builder)) c.finish.result c.finish.ensures in
    reads_tree c.args.tokens.now c.finish.result (returns-clause-ok c) (returns-clause-bad c) (λ deep. absurd (found.deep deep))

pub finish-requires : goal.finish-requires
finish-requires c = λ f h.
    let told = sym c.loop-i.invariant.told ∙ run_end c.args.tokens.now c.loop-i.i (state_of c.loop-i.builder) c.loop-i-test.false in
    ended_runs (marks_of c.args.tokens.now) (state_of c.loop-i.builder) f told c.loop-i.invariant.shallow h
