use Rattle.c25_meaning_objects.specs.Records.{symbol_entry}
use Rattle.c25_module.specs.View.{symbol_data}
use Rattle.c25_records.proofs.Puts.{next_seen}
use Rattle.c25_records.proofs.writing.put_symbols.Goals as goal

pub put_symbol-requires : goal.put_symbol-requires
put_symbol-requires c = rw c.symbol-item.is (c.requires c.loop-symbol.symbol-index _ c.loop-symbol-test.true)

pub loop-symbol-preserved : goal.loop-symbol-preserved
loop-symbol-preserved c =
    next_seen symbol_data symbol_entry c.args.symbols.now c.loop-symbol.symbol-index c.symbol-item.result c.args.out.now.items c.loop-symbol.out.items c.put_symbol.new.out.items c.loop-symbol-test.true c.symbol-item.is c.loop-symbol.invariant
    c.in_ok-put_symbol.ensures
