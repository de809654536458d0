use Rattle.std.proofs.Common.{length, ap, ◌∙◌, arith}
use Rattle.c25_phases.specs.Imports.{imported}
use Rattle.c25_phases.proofs.Declared.{import_at, names_so_far, none_missing}
use Rattle.c25_phases.proofs.emission.import_all.Goals.{in-Some+in_ok-import, in_default}
use Rattle.c25_phases.proofs.emission.import_all.Goals as goal

pub import-requires : goal.import-requires
import-requires c = omega (arith, ap length c.loop-number.invariant, names_so_far c.args.symbols.now.entries c.args.declared.now c.loop-number.number, c.requires)

pub loop-number-preserved : goal.loop-number-preserved
loop-number-preserved c = elim c.match-get.branch [
  | in-Some+in_ok-import w ↦
      ap (λ s. s.entries) w.symbols-is
      ∙ import_at c.args.symbols.now.entries w.import.new.symbols.entries c.args.declared.now c.loop-number.number c.get.result w.in-Some.name w.in-Some.is c.get.ensures.value c.get.ensures.distinct
      (w.in_ok-import.ensures ∙ ap (λ names. imported names w.in-Some.name.now) c.loop-number.invariant)
  | in_default w ↦ absurd (none_missing c.args.declared.now c.loop-number.number c.get.result (omega arith) c.get.ensures.value w.in_default.not-Some)
]
