use Rattle.std.proofs.Common.{◌≡◌, ◌+◌, ◌-◌, ◌≤◌, length, arith, rules, ap, sym, refl, ◌∙◌}
use Rattle.c25_phases.specs.Runs.{origins_in, total}
use Rattle.c25_phases.specs.declared.source_lines.FileRun.{FileRun}
use Rattle.c25_phases.proofs.Runs.{run_ends, total_more}
use Rattle.c25_phases.proofs.source_lines.SourceLines.turn_to.Goals as goal

pub invariant_of-self-2 : goal.invariant_of-self-2
invariant_of-self-2 c =
    let old = c.args.self.now in
    let run : FileRun = record { file = old.file; count = c.len.result - old.before } in
    let length_is : c.len.result ≡ length old.numbers.items = search rules in
    let length_after : c.len-self.result ≡ length old.numbers.items = search rules in
    let counted : old.before ≡ total old.runs.items = old.counted in
    let within : old.before ≤ length old.numbers.items = old.within in
    let all : total old.runs.items + run.count ≡ length old.numbers.items = omega (arith, length_is, counted, within) in
    record {
      counted = length_after ∙ sym all ∙ sym (total_more old.runs.items run) ∙ ap total (sym c.in_ok-push.ensures.items);
      within = omega (arith, length_after);
    }

pub returns : goal.returns
returns c =
    let old = c.args.self.now in
    let run : FileRun = record { file = old.file; count = c.len.result - old.before } in
    let length_is : c.len.result ≡ length old.numbers.items = search rules in
    let counted : old.before ≡ total old.runs.items = old.counted in
    let within : old.before ≤ length old.numbers.items = old.within in
    let all : total old.runs.items + run.count ≡ length old.numbers.items = omega (arith, length_is, counted, within) in
    record {
      same = ap (λ runs. origins_in runs c.args.file.now old.numbers.items) c.in_ok-push.ensures.items ∙ run_ends old.runs.items c.args.file.now old.numbers.items run all;
      next = refl;
    }
