use Rattle.std.proofs.Common.{Some, ap}
use Rattle.c25_meaning_instructions.proofs.Spellings.{one_spelling}
use Rattle.c25_isa.proofs.InOrder.{found_written}
use Rattle.c25_isa.proofs.names.mnemonic.Goals as goal

pub returns-in_err-place-clause-all : goal.returns-in_err-place-clause-all
returns-in_err-place-clause-all c = λ s same. absurd (rw c.in_err-place.was at (found_written _ _ c.table.ensures.numbers c.table.ensures.rise c.table.ensures.short c.table.ensures.all c.as_bytes.result.now c.args.text.now c.as_bytes.ensures.value c.in_ok-number.ensures.short c.table.ensures.len _ c.in_ok-number.ensures.value c.binary_search.result c.ok.result c.ok.ensures.value c.binary_search.ensures.position) s same)

pub returns-clause-found : goal.returns-clause-found
returns-clause-found c = (rw c.in_ok-place.was at (found_written _ _ c.table.ensures.numbers c.table.ensures.rise c.table.ensures.short c.table.ensures.all c.as_bytes.result.now c.args.text.now c.as_bytes.ensures.value c.in_ok-number.ensures.short c.table.ensures.len _ c.in_ok-number.ensures.value c.binary_search.result c.ok.result c.ok.ensures.value c.binary_search.ensures.position)) _

pub returns-clause-all : goal.returns-clause-all
returns-clause-all c = λ s same. ap Some (one_spelling c.args.text.now _ s (returns-clause-found c) same)
