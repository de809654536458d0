use Rattle.std.proofs.Common.{◌≡◌, ap, sym, ◌∙◌, arith}
use Rattle.c25_meaning_instructions.specs.declared.insn.Addr.{Addr}
use Rattle.c25_meaning_instructions.specs.declared.insn.Addr.TheVariants.{Direct}
use Rattle.c25_meaning_processor.specs.Operand.{address_of}
use Rattle.c25_pages.proofs.Savings.{whole_address}
use Rattle.c25_pages.proofs.written.operand_may_be.Goals as goal

pub returns-in-Direct : goal.returns-in-Direct
returns-in-Direct c = λ r on e.
    let there : address_of (Direct c.in-Direct.low) r ≡ c.args.word = sym (ap (λ (a : Addr). address_of a r) c.in-Direct.is) ∙ e in
    c.may_be.ensures r.dp on (whole_address (address_of (Direct c.in-Direct.low) r) c.args.word (omega arith) there)
