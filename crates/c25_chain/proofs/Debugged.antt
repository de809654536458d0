-- What is answered of sources, texts and a script.
use Rattle.std.proofs.Common.{◌≡◌, ℕ, List, map, Result, Ok, Err, String, string_bytes, ap, subst, sym, inl, inr}
use Rattle.std.specs.FinMap as finite
use Rattle.std.specs.Ordering.{nat_cmp}
use Rattle.std.specs.Result.{IsErrAnd}
use Rattle.std.specs.declared.alloc.Global.{Global}
use Rattle.c25_chain.proofs.Answered.{is_built}
use Rattle.c25_chain.specs.Chain.{Given}
use Rattle.c25_chain.specs.Linked as linked
use Rattle.c25_chain.specs.Ready.{IsReady, Readies}
use Rattle.c25_chain.specs.Refusal.{Fault, refusal_of}
use Rattle.c25_chain.specs.declared.fault.ChainFault.{ChainFault}
use Rattle.c25_chain.specs.declared.fault.ChainFault.TheVariants.{Script}
use Rattle.c25_chain.specs.declared.linked.Linked.{Linked}
use Rattle.c25_chain.specs.declared.ready.Ready.{Ready}
use Rattle.c25_chain.specs.Debug.{AnswersBy, AnswersLinked, Debugs, DebugsLinked}
use Rattle.c25_meaning_common.specs.Results.{told}
use Rattle.c25_meaning_common.specs.declared.failure.Failure.TheVariants as failure
use Rattle.c25_meaning_debugger.specs.Debugger.{AnswersScript}
use Rattle.c25_meaning_processor.specs.FirstState.{first_of_pages}
use Rattle.c25_meaning_processor.specs.WordStep.{WordStep}
use Rattle.c25_meaning_processor.specs.Samples.{samples_at}
use Rattle.c25_meaning_processor.specs.Script.{script_of}
use Rattle.c25_meaning_processor.specs.Signals.{signals_of}
use Rattle.c25_meaning_processor.specs.declared.sample.Sample.{Sample}
use Rattle.c25_meaning_processor.specs.declared.schedule.ScheduleEntry.{ScheduleEntry}
use Rattle.c25_meaning_processor.specs.declared.script.Cmd.{Cmd}

-- a text that reads as commands, by its result as the chain's
told_script : (script : List ℕ) (commands : List Cmd) → told {F = ChainFault (List ℕ)} Script (script_of script) ≡ Ok commands → script_of script ≡ Ok commands
told_script script commands h = by_result (script_of script) h where
  by_result : (r : Result (List Cmd) ℕ) → told {F = ChainFault (List ℕ)} Script r ≡ Ok commands → r ≡ Ok commands
  by_result (Ok cs) e = let same : cs ≡ commands = cc in ap Ok same
  by_result (Err line) e = absurd cc

-- ---- over a linked program

module _ (l : Linked) (samples : List Sample) (entries : List ScheduleEntry) (script : List ℕ) where
  pub answers_linked : (commands : List Cmd) (text : List ℕ) → told {F = ChainFault (List ℕ)} Script (script_of script) ≡ Ok commands
      → AnswersScript WordStep (signals_of entries) l.image commands (first_of_pages l.page0.words l.page1.words l.image.marks l.image.run_marks (samples_at samples)) text
      → AnswersLinked l samples entries script text
  answers_linked commands text read answers = record { commands = commands; script_read = told_script script commands read; answers = answers }

-- ---- over the program of sources

module _ (g : Given) (script : List ℕ) where
  -- a refusal of the chain
  refused_before : (f : Fault) → Readies g (Err f) → Debugs g script (Err f)
  refused_before (failure.NoMemory m) h = tt
  refused_before (failure.Fault r) h = inl h

  -- a failure that is passed on
  pub told_on : (result : Result (String Global) Fault) (given : Fault) → IsErrAnd result (λ f. f ≡ given) → Readies g (Err given) → Debugs g script result
  told_on (Ok text) given same h = absurd same
  told_on (Err f) given same h = refused_before f (subst (λ (x : Fault). Readies g (Err x)) (sym same) h)

  answered : (r : Ready) (text : List ℕ) → IsReady g r → AnswersLinked r.built.linked r.samples r.schedule script text → AnswersBy (λ image. WordStep) g script text
  answered r text is a =
      let l = r.built.linked in
      let image = l.image in
      record {
        image = image;
        texts = linked.texts_of l;
        listings = map string_bytes r.built.listings.items;
        inputs = record { samples = r.samples; entries = r.schedule };
        commands = a.commands;
        built = is_built g.files g.sources g.command r.built is.built;
        read = is.read;
        script_read = a.script_read;
        answers =
            subst (λ (w : finite.FinMap nat_cmp ℕ). AnswersScript WordStep (signals_of r.schedule) image a.commands (first_of_pages image.program w image.marks image.run_marks (samples_at r.samples)) text) is.built.linked.words1
            (subst (λ (w : finite.FinMap nat_cmp ℕ). AnswersScript WordStep (signals_of r.schedule) image a.commands (first_of_pages w l.page1.words image.marks image.run_marks (samples_at r.samples)) text) is.built.linked.words0 a.answers);
      }

  -- what is answered of a program that is ready
  pub debugged : (r : Ready) (result : Result (String Global) Fault) → IsReady g r → DebugsLinked r.built.linked r.samples r.schedule script result → Debugs g script result
  debugged r (Ok text) is a = answered r (string_bytes text) is a
  debugged r (Err (failure.NoMemory m)) is h = tt
  debugged r (Err (failure.Fault f)) is h =
      inr (record {
        image = r.built.linked.image;
        texts = linked.texts_of r.built.linked;
        listings = map string_bytes r.built.listings.items;
        inputs = record { samples = r.samples; entries = r.schedule };
        built = is_built g.files g.sources g.command r.built is.built;
        read = is.read;
        refused = h;
      })
