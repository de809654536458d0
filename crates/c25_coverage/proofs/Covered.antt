-- The counts of a program's run, by the board that did it.
use Rattle.std.proofs.Common.{◌≡◌, ◌∙◌, ◌↔◌, ℕ, List, ap, subst, sym, map, string_bytes}
use Rattle.std.specs.FinMap as finite
use Rattle.std.specs.Ordering.{nat_cmp}
use Rattle.c25_chain.proofs.Answered.{is_built}
use Rattle.c25_chain.specs.Built.{IsBuilt}
use Rattle.c25_chain.specs.Chain.{Given}
use Rattle.c25_chain.specs.Headline.{first_state, source_statements}
use Rattle.c25_chain.specs.Linked as linked
use Rattle.c25_chain.specs.Linked.{LinkedTexts}
use Rattle.c25_chain.specs.Ready.{IsReady}
use Rattle.c25_chain.specs.declared.ready.Ready.{Ready}
use Rattle.c25_count_laws.specs.Counts.{Counted, Event, StatementStep, acts, passes}
use Rattle.c25_counts.specs.Counting.{AreCountsTo, CountsSteps, count_in}
use Rattle.c25_coverage.specs.Branches.{branches_of}
use Rattle.c25_coverage.specs.Lcov.{lcov_text}
use Rattle.c25_coverage.specs.List.{list_text}
use Rattle.c25_coverage.specs.Run.{AreCountsOf, IsCountOf, IsCoverage}
use Rattle.c25_meaning_expansion.specs.Files.{Files}
use Rattle.c25_meaning_linking.specs.Linking.{ImageData}
use Rattle.c25_meaning_processor.specs.FirstState.{first_of_pages}
use Rattle.c25_meaning_processor.specs.Run.{Ending, Left, Ran, Signals}
use Rattle.c25_meaning_processor.specs.Samples.{samples_at}
use Rattle.c25_meaning_processor.specs.Signals.{signals_of}
use Rattle.c25_meaning_processor.specs.State.{State}
use Rattle.c25_meaning_processor.specs.Statements.{IsImageOf, Statements}
use Rattle.c25_meaning_processor.specs.WordStep.{WordStep}
use Rattle.c25_meaning_processor.specs.declared.sample.Sample.{Sample}
use Rattle.c25_meaning_processor.specs.declared.schedule.ScheduleEntry.{ScheduleEntry}

-- the first state of a program holds the statements of its sources
abbrev pub FirstStates : Type 0
FirstStates =
    (files : Files) (names : List (List ℕ)) (command : List ℕ) (image : ImageData) (texts : LinkedTexts) (listings : List (List ℕ)) (samples : List Sample)
    → IsBuilt files names command image texts listings → IsImageOf (source_statements files names image.described) (first_state image samples).world

-- counts of words and of statements are the same
abbrev pub CountAlike : Type 0
CountAlike =
    (event : Event) (statements : Statements) (s : State) → IsImageOf statements s.world → (signals : Signals) (k n : ℕ) (count : ℕ → ℕ) (t : State)
    → Counted event WordStep signals k n s count t ↔ Counted event (StatementStep statements) signals k n s count t

by_statements : CountAlike → (event : Event) (statements : Statements) (signals : Signals) (n : ℕ) (s : State) (count : ℕ → ℕ) (end : Ending) → IsImageOf statements s.world
    → AreCountsTo event WordStep signals n s count end → AreCountsTo event (StatementStep statements) signals n s count end
by_statements alike event statements signals n s count (Ran t) image counted = (alike event statements s image signals 0 n count t).0 counted
by_statements alike event statements signals n s count (Left j stop t) image counted = (alike event statements s image signals 0 j count t).0 counted

-- the counts of a board that began as the program does
pub covered : FirstStates → CountAlike → (ready : Ready) (n : ℕ) (lcov list branches acting passing : List ℕ) (files : Files) (entries : List ScheduleEntry) (s : State) → entries ≡ ready.schedule
    → s ≡ first_of_pages ready.built.linked.page0.words ready.built.linked.page1.words ready.built.linked.image.marks ready.built.linked.image.run_marks (samples_at ready.samples)
    → branches ≡ branches_of ready.built.linked.image → CountsSteps (signals_of entries) n s branches acting passing → lcov ≡ lcov_text ready.built.linked.image (count_in acting) (count_in passing)
    → list ≡ list_text files ready.built.linked.image (count_in acting) (count_in passing) → (given : Given) → IsReady given ready → given.files ≡ files → IsCoverage given ready n lcov list
covered first alike ready n lcov list branches acting passing files entries s same begin are_branches counted lcov_is list_is given is of_files =
    let l = is.built.linked in
    let image = ready.built.linked.image in
    let of_image = subst (λ (bs : List ℕ). CountsSteps (signals_of entries) n s bs acting passing) are_branches counted in
    let at = subst (λ (es : List ScheduleEntry). CountsSteps (signals_of es) n s (branches_of image) acting passing) same of_image in
    let from = subst (λ (x : State). CountsSteps (signals_of ready.schedule) n x (branches_of image) acting passing) begin at in
    let words0 = subst (λ (w : finite.FinMap nat_cmp ℕ). CountsSteps (signals_of ready.schedule) n (first_of_pages w ready.built.linked.page1.words image.marks image.run_marks (samples_at ready.samples)) (branches_of image) acting passing) l.words0 from in
    let words1 = subst (λ (w : finite.FinMap nat_cmp ℕ). CountsSteps (signals_of ready.schedule) n (first_of_pages image.program w image.marks image.run_marks (samples_at ready.samples)) (branches_of image) acting passing) l.words1 words0 in
    let built = is_built given.files given.sources given.command ready.built is.built in
    let holds = first given.files given.sources given.command image (linked.texts_of ready.built.linked) (map string_bytes ready.built.listings.items) ready.samples built in
    let both : (event : Event) (count : ℕ → ℕ) → AreCountsOf event WordStep ready n count words1.end → IsCountOf event given ready n count words1.end =
    λ event count words.
    record {
      words = words;
      statements = by_statements alike event (source_statements given.files given.sources image.described) (signals_of ready.schedule) n (first_state image ready.samples) count words1.end holds words;
    } in
    record {
      end = words1.end;
      run = words1.run;
      acting = count_in acting;
      acts = both acts (count_in acting) words1.acts;
      passing = count_in passing;
      passes = both (passes (branches_of image)) (count_in passing) words1.passes;
      lcov_is = lcov_is;
      list_is = list_is ∙ ap (λ (f : Files). list_text f ready.built.linked.image (count_in acting) (count_in passing)) (sym of_files);
    }
