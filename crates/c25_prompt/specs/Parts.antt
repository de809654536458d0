-- One part of a run, up to a meeting of a breakpoint, as the code has it.
use Rattle.std.specs.Prelude.{◌≡◌, ℕ, Option}
use Rattle.c25_meaning_processor.specs.Run.{Signals}
use Rattle.c25_meaning_processor.specs.WordStep.{WordStep}
use Rattle.c25_prompt.specs.Prompt.{PromptPoint, Went, ends_run, with_goal}
use Rattle.c25_prompt.specs.declared.running.Part.{Part}

-- a part of a run that is to end at an address, or at none, leads from one point to another
pub record IsPart (signals : Signals) (goal : Option ℕ) (n : ℕ) (p : PromptPoint) (part : Part) (m : PromptPoint) : Type 0 where
  pub went : Went WordStep signals (with_goal p.at.breaks goal) p.watches n p part.ended m
  pub last : part.is_last ≡ ends_run part.ended goal m.at.state.registers.pc p.ignored
