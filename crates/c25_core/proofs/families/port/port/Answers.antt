use Rattle.std.proofs.Common.{◌≡◌, ◌∙◌, sym, ap, subst, ℕ, Ok, Err}
use Rattle.c25_meaning_processor.specs.declared.registers.Registers.{Registers}
use Rattle.c25_meaning_processor.specs.Effect.{port_effect, settle}
use Rattle.c25_meaning_processor.specs.Operand.{address_of, after_operand}
use Rattle.c25_meaning_processor.specs.State.{data_at, state_of}
use Rattle.c25_meaning_processor.specs.Step.{advanced}
use Rattle.c25_core.specs.Met.{IsMet}
use Rattle.c25_core.proofs.Advanced.{same_address, same_cnf}
use Rattle.c25_core.proofs.Settle.{IsMet_settle}
use Rattle.c25_core.proofs.families.port.port.Goals as goal

pub returns-in-Ok-clause-met : goal.returns-in-Ok-clause-met
returns-in-Ok-clause-met g c =
    let w = g.B.Bus.world c.args.bus.now in
    let new = g.B.Bus.world c.act.new.bus in
    let op = c.args.operand.now in
    let moved = advanced 1 c.args.registers.now in
    let there : c.address_of-address.result ≡ address_of op moved = c.address_of-address.ensures ∙ sym (same_address op 1 c.args.registers.now) in
    let met =
    subst (λ (a : ℕ). IsMet {T = Unit {0}} (port_effect c.args.name (data_at moved.cnf w a) a c.args.number moved w) (Ok c.in-Ok.field-0) moved w new (g.B.Bus.failures c.args.bus.now) (g.B.Bus.failures c.act.new.bus))
    there (c.in-Ok.ensures moved (same_cnf 1 c.args.registers.now)) in
    let settled : c.settle.new.registers ≡ after_operand op moved.arp moved =
    subst (λ (q : Registers). c.settle.new.registers ≡ after_operand op q.arp q) c.advance.ensures c.settle.ensures in
    (ap (settle op moved.arp) met.0 ∙ ap (λ (q : Registers). Ok (state_of q new)) (sym settled), met.1)

pub returns-in-Err-clause-met : goal.returns-in-Err-clause-met
returns-in-Err-clause-met g c =
    let w = g.B.Bus.world c.args.bus.now in
    let new = g.B.Bus.world c.act.new.bus in
    let op = c.args.operand.now in
    let moved = advanced 1 c.args.registers.now in
    let there : c.address_of-address.result ≡ address_of op moved = c.address_of-address.ensures ∙ sym (same_address op 1 c.args.registers.now) in
    IsMet_settle (Unit {0}) (Unit {0}) op moved.arp (port_effect c.args.name (data_at moved.cnf w (address_of op moved)) (address_of op moved) c.args.number moved w) c.in-Err.halt
    moved c.args.registers.now w new _ _
    (subst (λ (a : ℕ). IsMet {T = Unit {0}} (port_effect c.args.name (data_at moved.cnf w a) a c.args.number moved w) (Err c.in-Err.halt) moved w new (g.B.Bus.failures c.args.bus.now) (g.B.Bus.failures c.act.new.bus))
    there (c.in-Err.ensures moved (same_cnf 1 c.args.registers.now)))
