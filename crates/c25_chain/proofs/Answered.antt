-- What is answered of sources, texts and a run.
use Rattle.std.proofs.Common.{◌≡◌, ℕ, List, map, Result, Ok, Err, String, string_bytes, ap, subst, sym, ◌∙◌, inr}
use Rattle.std.specs.FinMap as finite
use Rattle.std.specs.Ordering.{nat_cmp}
use Rattle.std.specs.Result.{IsErrAnd}
use Rattle.std.specs.declared.alloc.Global.{Global}
use Rattle.std.specs.declared.vec.Vec.{Vec}
use Rattle.c25_meaning_expansion.specs.Files.{Files}
use Rattle.c25_meaning_common.specs.Results.{FailsBy, IsNoMemory, MeetsBy, ◌>>=◌, told}
use Rattle.c25_meaning_processor.specs.Samples.{samples_of}
use Rattle.c25_meaning_processor.specs.Schedule.{schedule_of}
use Rattle.c25_meaning_common.specs.declared.failure.Failure.TheVariants as failure
use Rattle.c25_meaning_processor.specs.declared.sample.Sample.{Sample}
use Rattle.c25_meaning_processor.specs.declared.schedule.ScheduleEntry.{ScheduleEntry}
use Rattle.c25_chain.specs.Built.{IsBuilt, IsBuiltAs}
use Rattle.c25_chain.specs.Chain.{Answers, Given, Inputs, IsAnswer, inputs_in, inputs_of, inputs_view, run_of, texts_of}
use Rattle.c25_chain.specs.Linked as linked
use Rattle.c25_chain.specs.Linked.{LinkedTexts}
use Rattle.c25_chain.specs.Ready.{Readies}
use Rattle.c25_chain.specs.Refusal.{Fault, refusal_of}
use Rattle.c25_chain.specs.Run.{EndsAs, HasRun, RunsWords, run_data}
use Rattle.c25_chain.specs.declared.built.Built.{Built}
use Rattle.c25_chain.specs.declared.chain.Chain.{Chain}
use Rattle.c25_chain.specs.declared.fault.ChainFault.{ChainFault}
use Rattle.c25_chain.specs.declared.fault.ChainFault.TheVariants.{Schedule, Samples}
use Rattle.c25_chain.specs.declared.run.RunResult.{RunResult}

-- ---- programs of sources

pub is_built : (files : Files) (sources : List (List ℕ)) (command : List ℕ) (b : Built) → IsBuiltAs files sources command b → IsBuilt files sources command b.linked.image (linked.texts_of b.linked) (map string_bytes b.listings.items)
is_built files sources command b h = record { all = h.all; assembled = h.assembled; listings_are = h.listings_are; linked = h.linked.under }

-- ---- samples and schedule

abbrev samples_in : List ℕ → Result (List Sample) (ChainFault (List ℕ))
samples_in text = told Samples (samples_of text)

abbrev schedule_in : List ℕ → Result (List ScheduleEntry) (ChainFault (List ℕ))
schedule_in text = told Schedule (schedule_of text)

-- the entries in addition to samples
abbrev with_entries : List Sample → List ScheduleEntry → Result Inputs (ChainFault (List ℕ))
with_entries samples entries = Ok (record { samples = samples; entries = entries })

abbrev with_samples : (schedule : List ℕ) → List Sample → Result Inputs (ChainFault (List ℕ))
with_samples schedule samples = schedule_in schedule >>= with_entries samples

pub no_samples : (samples schedule : List ℕ) (f : Fault) → FailsBy refusal_of (samples_in samples) f → FailsBy refusal_of (inputs_of samples schedule) f
no_samples samples schedule (failure.NoMemory m) h = tt
no_samples samples schedule (failure.Fault r) h = ap (λ (x : Result (List Sample) (ChainFault (List ℕ))). x >>= with_samples schedule) h

pub no_schedule : (samples schedule : List ℕ) (read : List Sample) (f : Fault) → samples_in samples ≡ Ok read → FailsBy refusal_of (schedule_in schedule) f → FailsBy refusal_of (inputs_of samples schedule) f
no_schedule samples schedule read (failure.NoMemory m) e h = tt
no_schedule samples schedule read (failure.Fault r) e h =
    ap (λ (x : Result (List Sample) (ChainFault (List ℕ))). x >>= with_samples schedule) e
    ∙ ap (λ (x : Result (List ScheduleEntry) (ChainFault (List ℕ))). x >>= with_entries read) h

pub both_read : (samples schedule : List ℕ) (read : List Sample) (entries : List ScheduleEntry) → samples_in samples ≡ Ok read → schedule_in schedule ≡ Ok entries → inputs_of samples schedule ≡ Ok (record { samples = read; entries = entries })
both_read samples schedule read entries e h =
    ap (λ (x : Result (List Sample) (ChainFault (List ℕ))). x >>= with_samples schedule) e
    ∙ ap (λ (x : Result (List ScheduleEntry) (ChainFault (List ℕ))). x >>= with_entries read) h

-- a fault that is passed on
pub inputs_told_on : (meant : Result Inputs (ChainFault (List ℕ))) (result : Result (List Sample × List ScheduleEntry) Fault) (given : Fault) → IsErrAnd result (λ f. f ≡ given)
    → FailsBy refusal_of meant given → MeetsBy refusal_of inputs_view meant result
inputs_told_on meant (Ok both) given same h = absurd same
inputs_told_on meant (Err f) given same h = subst (FailsBy refusal_of meant) (sym same) h

-- ---- the answer

pub answered : (g : Given) (n : ℕ) (b : Built) (d : RunResult) (c : Chain) (samples : List Sample) (entries : List ScheduleEntry) → IsBuiltAs g.files g.sources g.command b
    → inputs_in g ≡ Ok (record { samples = samples; entries = entries })
    → HasRun b.linked.page0.words b.linked.page1.words b.linked.image.marks b.linked.image.run_marks samples entries n d
    → texts_of c ≡ linked.texts_of b.linked → c.listings ≡ b.listings → run_of c ≡ run_data d → IsAnswer g n c
answered g n b d c samples entries is read run texts listings done =
    let image = b.linked.image in
    let built = is_built g.files g.sources g.command b is in
    record {
      image = image;
      inputs = record { samples = samples; entries = entries };
      built = subst (λ (ls : Vec (String Global) Global). IsBuilt g.files g.sources g.command image (texts_of c) (map string_bytes ls.items)) (sym listings)
          (subst (λ (t : LinkedTexts). IsBuilt g.files g.sources g.command image t (map string_bytes b.listings.items)) (sym texts) built);
      read = read;
      run = (
        run.0,
        subst (λ (w : finite.FinMap nat_cmp ℕ). RunsWords image.program w image.marks image.run_marks samples entries n run.0) is.linked.words1
            (subst (λ (w : finite.FinMap nat_cmp ℕ). RunsWords w b.linked.page1.words image.marks image.run_marks samples entries n run.0) is.linked.words0 run.1),
        subst (EndsAs n run.0) (sym done) run.2,
      );
    }

-- a refused growth
pub growth_refused : (g : Given) (n : ℕ) (f : Fault) → IsNoMemory f → Answers g n (Err f)
growth_refused g n (failure.NoMemory m) h = tt
growth_refused g n (failure.Fault r) h = absurd h

-- ---- what is ready to run

pub inputs_refused : (g : Given) (b : Built) (f : Fault) → IsBuiltAs g.files g.sources g.command b → FailsBy refusal_of (inputs_in g) f → Readies g (Err f)
inputs_refused g b (failure.NoMemory m) is h = tt
inputs_refused g b (failure.Fault r) is h =
    inr (record { image = b.linked.image; texts = linked.texts_of b.linked; listings = map string_bytes b.listings.items; built = is_built g.files g.sources g.command b is; refused = h })
