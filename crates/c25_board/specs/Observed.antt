-- What a run that an observer looks at says of the steps over the program words.
use Rattle.std.specs.Prelude.{◌≡◌, ◌<◌, ◌≤◌, ℕ, ◌+◌, Bool, true, false, Option, Err}
use Rattle.c25_meaning_processor.specs.Run.{Signals}
use Rattle.c25_meaning_processor.specs.State.{State}
use Rattle.c25_meaning_processor.specs.WordStep.{WordStep}
use Rattle.c25_core.specs.Seen.{Sees}
use Rattle.c25_core.specs.Sink.{HasFailed}
use Rattle.c25_core.specs.declared.bus.Halt.{Halt}
use Rattle.c25_core.specs.declared.bus.Halt.TheVariants as halt
use Rattle.c25_board.specs.Run.{Puts}
use Rattle.c25_board.specs.declared.run_to.Halted.{Halted}
use Rattle.c25_board.specs.declared.run_to.Halted.TheVariants as halted

-- the answer of a run in which step j stopped, or the sink refused a word in it
abbrev pub halted_at : Halt → ℕ → Halted
halted_at (halt.Stop stop) j = halted.Left j stop
halted_at halt.Sink j = halted.SinkFault j

module _ {O : Type 0} (tells : O → Option ℕ → O → Type 0) (ends : O → State → Bool) where
  -- the answer to n steps from step k on, none past the first after which the observer ends the run, which led from s to t,
  -- up to step j, and what looks at them from o to p
  abbrev pub IsSeenTo : Signals → ℕ → ℕ → State → O → Halted → ℕ → State → O → ℕ → ℕ → Type 0
  IsSeenTo signals k n s o halted.Ran j t p failed fails =
      Sees tells ends signals k n false s o t p × (j ≡ k + n) × (fails ≡ failed)
  IsSeenTo signals k n s o halted.Met j t p failed fails =
      (done : ℕ) × (done ≤ n) × Sees tells ends signals k done true s o t p × (j ≡ k + done) × (fails ≡ failed)
  IsSeenTo signals k n s o (halted.Left at stop) j t p failed fails =
      (done : ℕ) × (done < n) × (at ≡ k + done) × Sees tells ends signals k done false s o t p × (j ≡ at)
      × WordStep (signals.lines at) (signals.bio at) t (Err stop) × (fails ≡ failed)
  IsSeenTo signals k n s o (halted.SinkFault at) j t p failed fails =
      (done : ℕ) × (done < n) × (at ≡ k + done) × Sees tells ends signals k done false s o t p × (j ≡ at) × HasFailed failed fails × Puts signals at t
