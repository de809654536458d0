-- The program of sources with the inputs of its run, or the first fault; and its run.
use Rattle.std.specs.Prelude.{◌≡◌, ℕ, Result, Ok, Err}
use Rattle.c25_meaning_common.specs.declared.failure.Failure.TheVariants as failure
use Rattle.c25_meaning_processor.specs.Run.{Ending}
use Rattle.c25_chain.specs.Built.{IsBuiltAs}
use Rattle.c25_chain.specs.Chain.{Given, IsAnswer, IsRefused, inputs_in, run_of}
use Rattle.c25_chain.specs.Headline.{RunsItsWords, statements_run}
use Rattle.c25_chain.specs.OutcomeText.{end_text, run_text}
use Rattle.c25_chain.specs.Refusal.{Fault, refusal_of}
use Rattle.c25_chain.specs.Run.{EndsAs}
use Rattle.c25_chain.specs.declared.chain.Chain.{Chain}
use Rattle.c25_chain.specs.declared.ready.Ready.{Ready}

-- the program of the sources and the command, with the samples and the entries of the schedule
pub record IsReady (g : Given) (r : Ready) : Type 0 where
  pub built : IsBuiltAs g.files g.sources g.command r.built
  pub read : inputs_in g ≡ Ok (record { samples = r.samples; entries = r.schedule })

-- the program with the inputs of its run, or the first fault, unless memory ran out
abbrev pub Readies : Given → Result Ready Fault → Type 0
Readies g (Ok r) = IsReady g r
Readies g (Err (failure.NoMemory m)) = Unit {0}
Readies g (Err (failure.Fault f)) = IsRefused g (refusal_of f)

-- ---- its run

-- n steps of the program's words have this end, under its samples and its schedule
abbrev pub RunsReady : Ready → ℕ → Ending → Type 0
RunsReady r = RunsItsWords r.built.linked.image r.samples r.schedule

-- the end of n steps of the statements of the program's sources, read from no word
abbrev pub statements_end : Given → Ready → ℕ → Ending
statements_end g r = statements_run g.files g.sources r.built.linked.image r.samples r.schedule

-- an answer is of this program with its inputs, and of this end of its run: its samples and entries are the
-- program's, its n steps have this end, it has the outcome of this end, and their text is one
pub record IsAnswerOf (r : Ready) (n : ℕ) (end : Ending) (g : Given) (c : Chain) (a : IsAnswer g n c) : Type 0 where
  pub image : a.image ≡ r.built.linked.image
  pub inputs : a.inputs ≡ record { samples = r.samples; entries = r.schedule }
  pub ended : (a.run).0 ≡ end
  pub told : EndsAs n end (run_of c)
  pub text : end_text n end ≡ run_text c
