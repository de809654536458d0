use Rattle.std.proofs.Common.{pos}
use Rattle.c25_meaning_common.specs.declared.relocation.RelocationKind.TheVariants.{Word16}
use Rattle.c25_meaning_objects.specs.declared.object.RelocationBase.TheVariants as base
use Rattle.c25_meaning_objects.specs.declared.object.Relocation.{Relocation}
use Rattle.c25_meaning_objects.specs.Records.{relocation_entry}
use Rattle.c25_records.proofs.Puts.{next_put}
use Rattle.c25_records.proofs.writing.put_relocations.Goals as goal

pub loop-relocation-preserved : goal.loop-relocation-preserved
loop-relocation-preserved c =
    let none : Relocation = record { section = 0; offset = 0; kind = Word16; base = base.Section 0; addend = pos 0 } in
    next_put relocation_entry c.args.relocations.now c.loop-relocation.relocation-index none c.args.out.now.items c.loop-relocation.out.items c.put_relocation.new.out.items c.loop-relocation-test.true c.loop-relocation.invariant c.in_ok-put_relocation.ensures
