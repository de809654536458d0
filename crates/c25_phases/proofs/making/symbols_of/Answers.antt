use Rattle.std.proofs.Common.{map, ap, ◌∙◌, arith}
use Rattle.c25_meaning_assembly.specs.Emission.{symbol_of}
use Rattle.c25_module.specs.View.{symbol_data}
use Rattle.c25_phases.proofs.Listed.{entry_at, none_missing, seen_more}
use Rattle.c25_phases.proofs.making.symbols_of.Goals.{in-Some+in_ok-symbol_of+in_ok-push, in_default}
use Rattle.c25_phases.proofs.making.symbols_of.Goals as goal

pub loop-number-preserved : goal.loop-number-preserved
loop-number-preserved c = elim c.match-entry.branch [
  | in-Some+in_ok-symbol_of+in_ok-push w ↦
      let entries = c.args.symbols.now.entries in
      let f = symbol_of c.args.exported.now in
      seen_more symbol_data f c.loop-number.all.items c.match-entry.all.items _ entries c.loop-number.number _ (map f entries)
      (ap (λ v. v.items) w.all-is ∙ w.in_ok-push.ensures.items) (entry_at entries c.loop-number.number c.entry.result (w.in-Some.name, w.in-Some.value) w.in-Some.is c.entry.ensures) w.in_ok-symbol_of.ensures
      c.loop-number.invariant
  | in_default w ↦ absurd (none_missing c.args.symbols.now.entries c.loop-number.number c.entry.result (omega (arith, c.loop-number-test.true, c.len-number-end.ensures)) c.entry.ensures w.in_default.not-Some)
]
