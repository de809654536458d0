-- The counts of the run of a program.
use Rattle.std.specs.Prelude.{◌≡◌, ℕ, List}
use Rattle.c25_chain.specs.Chain.{Given}
use Rattle.c25_chain.specs.Headline.{first_state, source_statements}
use Rattle.c25_chain.specs.Ready.{RunsReady}
use Rattle.c25_chain.specs.declared.ready.Ready.{Ready}
use Rattle.c25_count_laws.specs.Counts.{Event, StatementStep, acts, passes}
use Rattle.c25_counts.specs.Counting.{AreCountsTo}
use Rattle.c25_coverage.specs.Branches.{branches_of}
use Rattle.c25_coverage.specs.Lcov.{lcov_text}
use Rattle.c25_coverage.specs.List.{list_text}
use Rattle.c25_meaning_processor.specs.Run.{Ending, Stepping}
use Rattle.c25_meaning_processor.specs.Signals.{signals_of}
use Rattle.c25_meaning_processor.specs.WordStep.{WordStep}

-- this is the count of an event in n steps of a program, or in those up to the one that stops, by these steps
abbrev pub AreCountsOf : Event → Stepping → Ready → ℕ → (ℕ → ℕ) → Ending → Type 0
AreCountsOf event step ready n count end =
    AreCountsTo event step (signals_of ready.schedule) n (first_state ready.built.linked.image ready.samples) count end

-- this is the count of an event in n steps of a program, or in those up to the one that stops: in the steps of its words, and in
-- the steps of the statements of its sources
pub record IsCountOf (event : Event) (given : Given) (ready : Ready) (n : ℕ) (count : ℕ → ℕ) (end : Ending) : Type 0 where
  pub words : AreCountsOf event WordStep ready n count end
  pub statements : AreCountsOf event (StatementStep (source_statements given.files given.sources ready.built.linked.image.described)) ready n count end

-- two texts have the counts of n steps of a program by the lines of its sources, one as lcov reads them, the other next to these
-- lines: how often each instruction acts, and how often each conditional branch passes
pub record IsCoverage (given : Given) (ready : Ready) (n : ℕ) (lcov list : List ℕ) : Type 0 where
  pub end : Ending
  pub run : RunsReady ready n end
  pub acting : ℕ → ℕ
  pub acts : IsCountOf acts given ready n acting end
  pub passing : ℕ → ℕ
  pub passes : IsCountOf (passes (branches_of ready.built.linked.image)) given ready n passing end
  pub lcov_is : lcov ≡ lcov_text ready.built.linked.image acting passing
  pub list_is : list ≡ list_text given.files ready.built.linked.image acting passing
