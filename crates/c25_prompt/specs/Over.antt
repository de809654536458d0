-- One of the steps of `next`, as the code has it.
use Rattle.std.specs.Prelude.{◌≡◌, Option}
use Rattle.c25_meaning_instructions.specs.declared.insn.Insn.{Insn}
use Rattle.c25_meaning_processor.specs.Run.{Signals}
use Rattle.c25_meaning_processor.specs.WordStep.{WordStep}
use Rattle.c25_prompt.specs.Prompt.{PromptPoint, StandsAtPc, WentOver, next_goes_on, returns_to}
use Rattle.c25_prompt.specs.declared.over.Step.{Step}

-- a step of `next` leads from one point to another
pub record IsNext (signals : Signals) (p : PromptPoint) (step : Step) (m : PromptPoint) : Type 0 where
  pub insn : Option Insn
  pub stands : StandsAtPc p.at.state insn
  pub over : WentOver WordStep signals (returns_to insn p.at.state.registers.pc) p step.ended m
  pub going : step.goes_on ≡ next_goes_on step.ended insn p m
