use Rattle.std.proofs.Common.{◌∙◌, ℕ, Bool, Option, ap, sym, subst}
use Rattle.c25_board.specs.Board.{state}
use Rattle.c25_meaning_processor.specs.declared.registers.Regs.{Regs}
use Rattle.c25_meaning_processor.specs.Statements.{standing}
use Rattle.c25_pages.specs.Program.{statements_of}
use Rattle.c25_pages.specs.Table.{knowledge_of, lands_on}
use Rattle.c25_pages.specs.Written.{place_written}
use Rattle.c25_pages.specs.declared.written.Written.{Written}
use Rattle.c25_suppositions.specs.Breaches.{IsBreachBy}
use Rattle.c25_suppositions.proofs.Breaching.{found_by, nothing_found}
use Rattle.c25_suppositions.proofs.found.breach_at.Goals as goal

pub standing_at-requires-clause-b0 : goal.standing_at-requires-clause-b0
standing_at-requires-clause-b0 c = sym (c.cnf_of.ensures (state c.args.board.now).registers c.regs-regs.ensures)

pub returns-in-Some : goal.returns-in-Some
returns-in-Some c =
    let s = state c.args.board.now in
    let ss = statements_of c.args.program.now in
    let kn = knowledge_of c.args.table.now in
    let i = c.in-Some.insn in
    let o = c.breach_by.result in
    let may_go = lands_on c.args.table.now.landings.items in
    let stands = sym c.in-Some.is ∙ c.standing_at.ensures ∙ ap (λ (b : Bool). standing ss b s.world c.args.address) (c.cnf_of.ensures s.registers c.regs-regs.ensures) in
    let acc = ap (λ (r : Regs). r.acc) c.regs-regs.ensures in
    let by =
    subst (λ (n : ℕ). IsBreachBy (kn.spared c.args.address) (place_written c.writes.result s.registers) may_go i n o) acc
    (subst (λ (w : Option ℕ). IsBreachBy (kn.spared c.args.address) w may_go i c.regs-regs.result.acc o) (c.place_written-written.ensures s.registers c.requires.page c.regs-regs.ensures)
    (subst (λ (w : Option ℕ). IsBreachBy w c.place_written-written.result may_go i c.regs-regs.result.acc o) c.spared_at.ensures c.breach_by.ensures)) in
    λ lines awake at.
    found_by ss kn lines s c.args.address awake at i stands o
    (subst (λ (w : Written). IsBreachBy (kn.spared c.args.address) (place_written w s.registers) may_go i s.registers.acc.value o) c.writes.ensures by)

pub returns-in-None : goal.returns-in-None
returns-in-None c =
    let s = state c.args.board.now in
    let ss = statements_of c.args.program.now in
    let stands = sym c.in-None.is ∙ c.standing_at.ensures ∙ ap (λ (b : Bool). standing ss b s.world c.args.address) (c.cnf_of.ensures s.registers c.regs-regs.ensures) in
    λ lines awake at. nothing_found ss (knowledge_of c.args.table.now) lines s c.args.address awake at stands
