-- What is answered of sources on a disk.
use Rattle.std.proofs.Common.{◌≡◌, ◌∙◌, ℕ, List, Option, Result, Ok, Err, true, refl, ap, subst, sym, inr}
use Rattle.std.specs.FinMap as finite
use mathlib.Core.Path.{fun_ext}
use Rattle.std.specs.Ordering.{nat_cmp}
use Rattle.std.specs.Prelude.{OnOk, is_ok}
use Rattle.c25_chain.specs.Built.{IsBuilt}
use Rattle.c25_chain.specs.Chain.{Given, Inputs, given_of, inputs_in, inputs_of}
use Rattle.c25_chain.specs.Debug.{statements_of}
use Rattle.c25_chain.specs.Headline.{first_state, source_modules, source_statements, without_refusal}
use Rattle.c25_chain.specs.Linked.{LinkedTexts, places_of, texts_of}
use Rattle.c25_chain.specs.Refusal.{Fault, refusal_of}
use Rattle.c25_disk.specs.Held.{Held}
use Rattle.c25_disk.specs.declared.work.CopyFault.TheVariants as copy
use Rattle.c25_inputs.specs.Files.{ComesTo}
use Rattle.c25_meaning_common.specs.Results.{FailsBy}
use Rattle.c25_meaning_common.specs.declared.failure.Failure.TheVariants as failure
use Rattle.c25_meaning_expansion.specs.Files.{Files, text_named}
use Rattle.c25_meaning_objects.specs.Module.{Contents}
use Rattle.c25_meaning_processor.specs.FirstState.{first_of_pages}
use Rattle.c25_meaning_processor.specs.Run.{Reaches, Signals}
use Rattle.c25_meaning_processor.specs.Samples.{samples_at}
use Rattle.c25_meaning_processor.specs.Signals.{signals_of}
use Rattle.c25_meaning_processor.specs.State.{State}
use Rattle.c25_meaning_processor.specs.Statements.{IsImageOf, Statements, statement_step}
use Rattle.c25_meaning_processor.specs.WordStep.{WordStep}
use Rattle.c25_meaning_processor.specs.declared.sample.Sample.{Sample}
use Rattle.c25_meaning_linking.specs.Linking.{ImageData}
use Rattle.c25_prompt.specs.Conversing.{Converses, standing}
use Rattle.c25_prompt.specs.Each.{Standing}
use Rattle.c25_prompt.specs.Session.{first_session}
use Rattle.c25_prompt_lines.specs.Addresses.{ProgramData}
use Rattle.c25_prompting.specs.Debugged.{CanDebug, IsDebugged, MakesDebugged, TalksOver, first_of, program_data, read_or_none}
use Rattle.c25_prompting.specs.Prompting.{Answered, PromptsOver, SessionEnd, Talks, TalksBy, program_of}
use Rattle.c25_prompting.specs.declared.program.Debugged.{Debugged}
use Rattle.c25_symbols.specs.Symbols.{all_symbols}

-- ---- programs

-- the sources have a program, of these texts and these listings
pub is_built : (files : Files) (sources : List (List ℕ)) (command : List ℕ) (d : Debugged) (is : IsDebugged files sources command d) → IsBuilt files sources command d.linked.image (texts_of d.linked) is.all.listings
is_built files sources command d is = record { all = is.all; assembled = is.assembled; listings_are = refl; linked = is.linked.under }

-- the samples or the schedule of a program have a fault
pub no_inputs : (g : Given) (d : Debugged) (f : Fault) → IsDebugged g.files g.sources g.command d → FailsBy refusal_of (inputs_in g) f → MakesDebugged g (Err f)
no_inputs g d (failure.NoMemory m) is h = tt
no_inputs g d (failure.Fault r) is h =
    inr (record { image = d.linked.image; texts = texts_of d.linked; listings = is.all.listings; built = is_built g.files g.sources g.command d is; refused = h })

-- ---- what is answered

-- the program's words, in place of those that its hex texts were read as
over_image : (d : Debugged) (g : Given) (inputs : Inputs) (program : ProgramData) (input before after : Option (List ℕ)) → d.linked.page0.words ≡ d.linked.image.program → d.linked.page1.words ≡ d.linked.image.store
    → Talks WordStep (signals_of inputs.entries) program (first_of d.linked inputs) input before after
    → Talks WordStep (signals_of inputs.entries) program (first_state d.linked.image inputs.samples) input before after
over_image d g inputs program input before after words0 words1 talks =
    let image = d.linked.image in
    subst (λ (w : finite.FinMap nat_cmp ℕ). Talks WordStep (signals_of inputs.entries) program (first_of_pages image.program w image.marks image.run_marks (samples_at inputs.samples)) input before after) words1
    (subst (λ (w : finite.FinMap nat_cmp ℕ). Talks WordStep (signals_of inputs.entries) program (first_of_pages w d.linked.page1.words image.marks image.run_marks (samples_at inputs.samples)) input before after) words0 talks)

over_words : (g : Given) (shown : List (List ℕ)) (d : Debugged) (input before after : Option (List ℕ)) → CanDebug g d → TalksOver d shown g.samples g.schedule input before after → TalksBy (λ image. WordStep) g shown input before after
over_words g shown d input before after is talks =
    let image = d.linked.image in
    let of_inputs : Talks WordStep (signals_of is.inputs.entries) (program_data d shown) (first_of d.linked is.inputs) input before after =
    subst (λ (i : Inputs). Talks WordStep (signals_of i.entries) (program_data d shown) (first_of d.linked i) input before after) (ap read_or_none is.read) talks in
    let modules : d.modules.items ≡ source_modules g.files g.sources = is.program.modules_are ∙ sym (ap without_refusal is.program.assembled) in
    let of_sources : Talks WordStep (signals_of is.inputs.entries) (program_of g shown image) (first_of d.linked is.inputs) input before after =
    subst (λ (ms : List Contents). Talks WordStep (signals_of is.inputs.entries) (record { symbols = all_symbols ms shown (places_of image.described); image = image; texts = text_named g.files }) (first_of d.linked is.inputs) input before after)
    modules
    (subst (λ (f : List ℕ → Option (List ℕ)). Talks WordStep (signals_of is.inputs.entries) (record { symbols = all_symbols d.modules.items shown (places_of image.described); image = image; texts = f }) (first_of d.linked is.inputs) input before after)
    (fun_ext is.program.texts_are) of_inputs) in
    record {
      image = image;
      texts = texts_of d.linked;
      listings = is.program.all.listings;
      inputs = is.inputs;
      built = is_built g.files g.sources g.command d is.program;
      read = is.read;
      talks = over_image d g is.inputs (program_of g shown image) input before after is.program.linked.words0 is.program.linked.words1 of_sources;
    }

-- ---- over a disk

abbrev Comes : Held → Files → (names : List (List ℕ)) → (command samples schedule : List ℕ) → Result Debugged Fault → Type 0
Comes held given names command samples schedule answer = ComesTo held given (λ all result. MakesDebugged (given_of all names command samples schedule) result) answer

-- what two laws say: the first state of a program holds the statements of its sources, and a session over the
-- words is one over the statements
module _ (begins : (files : Files) (names : List (List ℕ)) (command : List ℕ) (image : ImageData) (texts : LinkedTexts) (listings : List (List ℕ)) (samples : List Sample)
    → IsBuilt files names command image texts listings → IsImageOf (source_statements files names image.described) (first_state image samples).world)
    (alike : (ss : Statements) (signals : Signals) (program : ProgramData) (first : State) (before after : Standing) → IsImageOf ss first.world
    → Reaches WordStep signals 0 before.point.point.at.steps first before.point.point.at.state → Converses WordStep signals program first before after
    → Converses (λ lines bio t outcome. outcome ≡ statement_step ss lines bio t) signals program first before after) where
  over_statements : (g : Given) (shown : List (List ℕ)) (input before after : Option (List ℕ)) → TalksBy (λ image. WordStep) g shown input before after → TalksBy (statements_of g) g shown input before after
  over_statements g shown input before after t =
      let first = first_state t.image t.inputs.samples in
      let talks = t.talks in
      record {
        image = t.image;
        texts = t.texts;
        listings = t.listings;
        inputs = t.inputs;
        built = t.built;
        read = t.read;
        talks = (
          talks.0,
          talks.1,
          alike (source_statements g.files g.sources t.image.described) (signals_of t.inputs.entries) (program_of g shown t.image) first (standing input before (first_session first)) (standing talks.0 after talks.1)
              (begins g.files g.sources g.command t.image t.texts t.listings t.inputs.samples t.built) refl talks.2,
        );
      }

  answered : (g : Given) (shown : List (List ℕ)) (d : Debugged) (input before after : Option (List ℕ)) (end : SessionEnd) → CanDebug g d → OnOk end (TalksOver d shown g.samples g.schedule input before after) → Answered g shown input before after end
  answered g shown d input before after (Ok done) is talks =
      let by_words = over_words g shown d input before after is talks in
      (by_words, over_statements g shown input before after by_words)
  answered g shown d input before after (Err broken) is talks = tt

  -- a session over the program of sources on a disk
  pub held_session : (held : Held) (given : Files) (names shown : List (List ℕ)) (command samples schedule : List ℕ) (input before after : Option (List ℕ)) (d : Debugged) (end : SessionEnd)
      → OnOk end (TalksOver d shown samples schedule input before after) → Comes held given names command samples schedule (Ok d) → PromptsOver held given names shown command samples schedule input before after (Ok end)
  held_session held given names shown command samples schedule input before after d end talks (Ok a, (files, copied, can), told) =
      let g = given_of files names command samples schedule in
      let is : CanDebug g d = subst (λ (x : Debugged). CanDebug g x) (sym told) can in
      (Ok end, (files, copied, answered g shown d input before after end is talks), refl)
  held_session held given names shown command samples schedule input before after d end talks (Err failure, over, told) = absurd told

-- the samples and the schedule of a program that can be debugged can be read
pub readable : (held : Held) (given : Files) (names : List (List ℕ)) (command samples schedule : List ℕ) (d : Debugged) → Comes held given names command samples schedule (Ok d) → is_ok (inputs_of samples schedule) ≡ true
readable held given names command samples schedule d (Ok a, (files, copied, end), told) = ap is_ok end.read
readable held given names command samples schedule d (Err failure, over, told) = absurd told

-- a failure before the session
pub refused : (held : Held) (given : Files) (names shown : List (List ℕ)) (command samples schedule : List ℕ) (input before after : Option (List ℕ)) (fault : Fault)
    → Comes held given names command samples schedule (Err fault) → PromptsOver held given names shown command samples schedule input before after (Err fault)
refused held given names shown command samples schedule input before after fault (Ok a, over, told) = absurd told
refused held given names shown command samples schedule input before after fault (Err (failure.NoMemory n), (files, copied, end), told) = (Err (failure.NoMemory n), (files, copied, end), told)
refused held given names shown command samples schedule input before after fault (Err (failure.Fault (copy.File f)), (files, copied, end), told) = (Err (failure.Fault (copy.File f)), (files, copied, end), told)
refused held given names shown command samples schedule input before after fault (Err (failure.Fault (copy.Work f)), (files, copied, end), told) = (Err (failure.Fault (copy.Work f)), (files, copied, end), told)

-- the same of equal names and texts
pub prompts_same : (held : Held) (given : Files) (names sources shown modules : List (List ℕ)) (command samples schedule command_shown samples_shown schedule_shown : List ℕ) (input before after : Option (List ℕ)) (answer : Result SessionEnd Fault)
    → sources ≡ names → modules ≡ shown → command_shown ≡ command → samples_shown ≡ samples → schedule_shown ≡ schedule
    → PromptsOver held given sources modules command_shown samples_shown schedule_shown input before after answer → PromptsOver held given names shown command samples schedule input before after answer
prompts_same held given names sources shown modules command samples schedule command_shown samples_shown schedule_shown input before after answer named same same_command same_samples same_schedule prompts =
    let with_names = subst (λ (ns : List (List ℕ)). PromptsOver held given ns modules command_shown samples_shown schedule_shown input before after answer) named prompts in
    let with_shown = subst (λ (ns : List (List ℕ)). PromptsOver held given names ns command_shown samples_shown schedule_shown input before after answer) same with_names in
    let with_command = subst (λ (t : List ℕ). PromptsOver held given names shown t samples_shown schedule_shown input before after answer) same_command with_shown in
    let with_samples = subst (λ (t : List ℕ). PromptsOver held given names shown command t schedule_shown input before after answer) same_samples with_command in
    subst (λ (t : List ℕ). PromptsOver held given names shown command samples t input before after answer) same_schedule with_samples
