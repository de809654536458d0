-- A program of two statements, and what is known of it: LDPK 4 at address 0, and at address 1 a branch to itself.
use Rattle.std.specs.Prelude.{ℕ, zero, suc, true, false, Option, None, Some, [], ◌∷◌, pos}
use Rattle.c25_meaning_instructions.specs.declared.insn.Change.TheVariants as change
use Rattle.c25_meaning_instructions.specs.declared.insn.Insn.{Insn}
use Rattle.c25_meaning_instructions.specs.declared.insn.Insn.TheVariants as insn
use Rattle.c25_meaning_instructions.specs.declared.mnemonic.ShortName.TheVariants as short
use Rattle.c25_meaning_instructions.specs.declared.mnemonic.JumpName.TheVariants as jump
use Rattle.c25_meaning_processor.specs.Statements.{Statements, plainly}
use Rattle.c25_meaning_pages.specs.declared.known.Known.{Known}
use Rattle.c25_meaning_pages.specs.Known.{Knowledge}

-- LDPK 4
abbrev pub load_page : Insn
load_page = insn.Short short.Ldpk 0 (pos 4)

-- B 1
abbrev pub stay : Insn
stay = insn.Jump jump.B 1 change.Keep None

-- the program: LDPK 4 at address 0, and B 1 at address 1
abbrev pub example_program : Statements
example_program = plainly (record { address = 0; insn = load_page } ∷ record { address = 1; insn = stay } ∷ [])

-- what is known: DP is a page, INTM is 1, no repeat is running, and no word was pushed; no saved ST0 is known, nor that the processor
-- is asleep
abbrev pub on_page : ℕ → Known
on_page page = record { page = Some page; saved = None; masked = true; shadowed = false; once = true; asleep = false; pushed = 0 }

-- what is known in the program: DP is 0 before the statement at address 0, and 4 before that at address 1
abbrev pub example_table : ℕ → ℕ → Option Known
example_table zero zero = Some (on_page 0)
example_table zero (suc zero) = Some (on_page 4)
example_table zero (suc (suc address)) = None
example_table (suc context) address = None

-- what is known and supposed of the program: it has no routines, and IMR lets no line through
abbrev pub example_knowledge : Knowledge
example_knowledge =
    record {
      known_at = example_table;
      known_on_return = λ context. None;
      known_on_drop = λ context. None;
      depth = λ context. context;
      spared = λ address. None;
      may_go = λ address target. false;
      lines = 0;
    }
