-- The clauses of inductive and of closed knowledge, each at one row of a table.
use Rattle.std.specs.Prelude.{◌≡◌, ℕ, suc, ◌+◌, ◌≤◌, true, false, None, Some}
use Rattle.c25_meaning_instructions.specs.declared.insn.Insn.{Insn}
use Rattle.c25_meaning_instructions.specs.Table.{size_of}
use Rattle.c25_meaning_processor.specs.Step.{is_unrepeatable}
use Rattle.c25_meaning_processor.specs.Statements.{Statements, copied_at, statement_at}
use Rattle.c25_meaning_pages.specs.declared.known.Known.{Known}
use Rattle.c25_meaning_pages.specs.Known.{Knowledge, LeadsTo}
use Rattle.c25_meaning_pages.specs.Routines.{Acts, DropsTo, Repeats, Interrupts, ReturnsTo}
use Rattle.c25_meaning_pages.specs.Inductive.{MayStand}
use Rattle.c25_pages.specs.declared.table.Row.{Row}
use Rattle.c25_pages.specs.declared.leads.Call.{Call}

-- a routine begins in one context, as `Begins` has it of some context
pub record BeginsIn (knowledge : Knowledge) (known : Known) (call : Call) (callee : ℕ) : Type 0 where
  pub leads : LeadsTo knowledge (record known { pushed = 0 }) callee call.target
  pub deeper : suc (knowledge.depth call.context + known.pushed) ≤ knowledge.depth callee
  pub room : knowledge.depth callee ≤ 8
  pub returns : ReturnsTo knowledge (knowledge.known_on_return callee) known.pushed call.context call.back
  pub drops : DropsTo knowledge (knowledge.known_on_drop callee) known.pushed call.context

-- each instruction that may act at the address of a row leads on, if the processor may be awake there
abbrev pub ActsAt : Statements → Knowledge → Row → Type 0
ActsAt statements knowledge row =
    row.known.asleep ≡ false → (i : Insn) → MayStand statements row.address i → Acts knowledge i row.known row.context row.address

-- each instruction that may act at the address of a row may be repeated there, if a repeat may be running and the processor awake
abbrev pub RepeatsAt : Statements → Knowledge → Row → Type 0
RepeatsAt statements knowledge row =
    row.known.asleep ≡ false → (i : Insn) → MayStand statements row.address i → Repeats knowledge i row.known row.address

-- each of the three interrupt lines begins a routine at a row, if an interrupt may be taken there
abbrev pub InterruptsAt : Knowledge → Row → Type 0
InterruptsAt knowledge row =
    row.known.masked ≡ false → row.known.shadowed ≡ false →
    Interrupts knowledge row.known 1 2 row.context row.address
    × Interrupts knowledge row.known 2 4 row.context row.address
    × Interrupts knowledge row.known 4 6 row.context row.address

-- a statement stands at the address of a row, as closed knowledge asks
pub record StandsAt (statements : Statements) (row : Row) : Type 0 where
  pub insn : Insn
  pub stands : statement_at statements.plain row.address ≡ Some insn
  pub alone : copied_at statements.copied row.address ≡ None
  pub clear : row.address + size_of insn ≤ 0xFF00
  pub once : is_unrepeatable insn ≡ true → row.known.once ≡ true

-- the same, if the processor may be awake there
abbrev pub ClosedAt : Statements → Row → Type 0
ClosedAt statements row = row.known.asleep ≡ false → StandsAt statements row

-- DP is a page at a row, if the row is at an address
abbrev pub IsOnAt : (address page : ℕ) → Row → Type 0
IsOnAt address page row = row.address ≡ address → row.known.page ≡ Some page
