use Rattle.std.proofs.Common.{◌≡◌, ◌<◌, ◌+◌, get_or, ℕ, length, sym, ap, subst, ◌∙◌, arith, cond, Bool, Ok, Err}
use Rattle.c25_hex.specs.declared.hex_fault.HexFault.TheVariants.{NoEnd}
use Rattle.std.proofs.lemmas.Iterator.Splits.{YieldsList-from_lines}
use Rattle.std.proofs.lemmas.Iterator.Consumers.{YieldsList-turn, YieldsList-end}
use Rattle.std.proofs.lemmas.List.{length_push}
use Rattle.std.specs.Str.Lines.{lines}
use Rattle.c25_hex.specs.Hex.{bytes_given}
use Rattle.c25_hex.specs.Cells.{cells_map}
use Rattle.c25_hex.specs.View.{hex_state}
use Rattle.c25_hex.proofs.LineSteps.{line_read, line_failed, no_more}
use Rattle.c25_hex.proofs.hex_reader.bytes_given.Goals as goal

pub loop-line-preserved : goal.loop-line-preserved
loop-line-preserved c =
    let t = YieldsList-turn (YieldsList-from_lines c.args.text.now cc) c.loop-line.yielded _ c.loop-line.yielded_by _ _ c.in-Some.line c.in-Some.is c.next.ensures.steps in
    let n = length_push c.loop-line.yielded c.in-Some.line in
    let within : c.loop-line.number < length (lines c.args.text.now) = omega (arith, t.0, c.loop-line.invariant.counted) in
    let is : c.as_bytes.result.now ≡ get_or (lines c.args.text.now) c.loop-line.number c.in-Some.line.now =
    c.as_bytes.ensures.value ∙ subst (λ (k : ℕ). c.in-Some.line.now ≡ get_or (lines c.args.text.now) k c.in-Some.line.now) (sym c.loop-line.invariant.counted) t.1 in
    record {
      counted = ap (λ (k : ℕ). k + 1) c.loop-line.invariant.counted ∙ sym n;
      told = line_read c.loop-line.number (hex_state c.loop-line.reader) (hex_state c.take_line.new.self) (lines c.args.text.now) c.as_bytes.result.now c.in-Some.line.now (bytes_given c.args.text.now) within is c.in-Ok.ensures c.loop-line.invariant.told;
    }

pub returns-in-Err : goal.returns-in-Err
returns-in-Err c =
    let t = YieldsList-turn (YieldsList-from_lines c.args.text.now cc) c.loop-line.yielded _ c.loop-line.yielded_by _ _ c.in-Some.line c.in-Some.is c.next.ensures.steps in
    let within : c.loop-line.number < length (lines c.args.text.now) = omega (arith, t.0, c.loop-line.invariant.counted) in
    let is : c.as_bytes.result.now ≡ get_or (lines c.args.text.now) c.loop-line.number c.in-Some.line.now =
    c.as_bytes.ensures.value ∙ subst (λ (k : ℕ). c.in-Some.line.now ≡ get_or (lines c.args.text.now) k c.in-Some.line.now) (sym c.loop-line.invariant.counted) t.1 in
    rw c.at_line.ensures (line_failed c.in-Err.failure c.loop-line.number (hex_state c.loop-line.reader) (lines c.args.text.now) c.as_bytes.result.now c.in-Some.line.now (bytes_given c.args.text.now) within is c.in-Err.ensures c.loop-line.invariant.told)

pub returns-then-not-reader : goal.returns-then-not-reader
returns-then-not-reader c =
    let t = YieldsList-end (YieldsList-from_lines c.args.text.now cc) c.loop-line.yielded _ c.loop-line.yielded_by _ _ c.in-None.is c.next.ensures.steps in
    no_more c.loop-line.number (hex_state c.loop-line.reader) (lines c.args.text.now) (bytes_given c.args.text.now) (omega (arith, t.1, c.loop-line.invariant.counted)) c.loop-line.invariant.told
    ∙ ap (λ (b : Bool). cond b (Ok (cells_map c.loop-line.reader.bytes.items)) (Err (record { fault = NoEnd; place = c.loop-line.number }))) c.if-not-reader.true

pub returns : goal.returns
returns c =
    let t = YieldsList-end (YieldsList-from_lines c.args.text.now cc) c.loop-line.yielded _ c.loop-line.yielded_by _ _ c.in-None.is c.next.ensures.steps in
    no_more c.loop-line.number (hex_state c.loop-line.reader) (lines c.args.text.now) (bytes_given c.args.text.now) (omega (arith, t.1, c.loop-line.invariant.counted)) c.loop-line.invariant.told
    ∙ ap (λ (b : Bool). cond b (Ok (cells_map c.loop-line.reader.bytes.items)) (Err (record { fault = NoEnd; place = c.loop-line.number }))) c.if-not-reader.false
