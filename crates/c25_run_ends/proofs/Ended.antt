-- The note of a program's run.
use Rattle.std.proofs.Common.{◌≡◌, ◌∙◌, ℕ, false, List, [], ◌++◌, Option, Some, None, Result, Ok, Err, ap, arith, inl, inr, refl, sym, subst}
use Rattle.std.specs.Option.{option_map}
use Rattle.std.specs.FinMap as finite
use Rattle.std.specs.Ordering.{nat_cmp}
use Rattle.std.specs.Prelude.{IfSome}
use Rattle.c25_chain.specs.Chain.{Given}
use Rattle.c25_chain.specs.Headline.{first_state}
use Rattle.c25_chain.specs.Ready.{IsReady}
use Rattle.c25_chain.specs.declared.ready.Ready.{Ready}
use Rattle.c25_meaning_instructions.specs.Table.{Reads}
use Rattle.c25_meaning_instructions.specs.declared.insn.Insn.{Insn}
use Rattle.c25_meaning_linking.specs.Linking.{ImageData}
use Rattle.c25_meaning_processor.specs.FirstState.{first_of_pages}
use Rattle.c25_meaning_processor.specs.Run.{Signals}
use Rattle.c25_meaning_processor.specs.Samples.{samples_at, samples_of}
use Rattle.c25_meaning_processor.specs.Signals.{signals_of}
use Rattle.c25_meaning_processor.specs.State.{State}
use Rattle.c25_meaning_processor.specs.declared.sample.Sample.{Sample}
use Rattle.c25_meaning_processor.specs.declared.schedule.ScheduleEntry.{ScheduleEntry}
use Rattle.c25_meaning_processor.specs.declared.stop.Stop.{Stop}
use Rattle.c25_run_ends.specs.EndNote.{AreRead, EndsAs, Explains, ExplainsBy, ExplainsEnd, IsStopNote, IsStopTold}
use Rattle.c25_run_ends.specs.Stepping.{Arrives, Comes, Ends, Known}
use Rattle.c25_unused_inputs.specs.Ports.{counts_of, unread_lines}
use Rattle.c25_unused_inputs.specs.Requests.{requests_of, unwatched}
use Rattle.c25_unused_inputs.specs.Stepping.{StopsWithin}
use Rattle.c25_unused_inputs.specs.Unused.{requests_lines}
use Rattle.c25_unused_inputs.specs.Watched.{KnowAll, TellsSince}
use Rattle.c25_unused_inputs.specs.declared.requests.Requests.{Requests}
use Rattle.c25_unused_inputs.specs.declared.requests.RunEnd.{RunEnd}

-- what a decoder answers about two words
pub read_by : (a b first second : ℕ) (r : Option Insn) → first ≡ a → second ≡ b → IfSome r (Reads first second) → ((i : Insn) → Reads first second i → r ≡ Some i) → AreRead a b r
read_by a b first second (Some i) at next found all =
    subst (λ (x : ℕ). Reads x b i) at (subst (λ (y : ℕ). Reads first y i) next found)
read_by a b first second None at next found all =
    λ i reads. let clash = all i (subst (λ (x : ℕ). Reads x second i) (sym at) (subst (λ (y : ℕ). Reads a y i) (sym next) reads)) in absurd (let no = clash in cc)

-- ---- the end of a run, by how it ended

module _ (signals : Signals) (image : ImageData) (had : List ℕ) (s : State) (end : RunEnd) (j : ℕ) (t : State) (given : Requests) where
  -- all steps were done
  pub ended_done : (r : Option Known) → end.stop ≡ None → Comes signals end.steps s j t given r → Ends signals image had s end j t given r
  ended_done None none h = h
  ended_done (Some known) none h = (h.0, subst (λ (o : Option Stop). EndsAs signals image had s end.steps o known.0) (sym none) h.1)

  -- a step stopped
  pub ended_stop : (stop : Stop) (before lines text : List ℕ) (rs : Requests) → end.stop ≡ Some stop → Arrives signals image s end.steps j t given (Some (before, rs)) → IsStopTold image had t stop lines
      → text ≡ before ++ lines → Ends signals image had s end j t given (Some (text, rs))
  ended_stop stop before lines text rs some arrives told is =
      let note : IsStopNote signals image had s end.steps stop text =
      record { before = before; stood = arrives.1; last = t; reached = arrives.0.reached; lines = lines; told = told; note_is = is } in
      (arrives.0, subst (λ (o : Option Stop). EndsAs signals image had s end.steps o text) (sym some) note)

  -- one of the answers of a code's type
  pub ends_none : {X : Type 0} (view : X → Known) (r : Option X) → r ≡ None → Ends signals image had s end j t given (option_map view r) → StopsWithin signals end.steps s
  ends_none {X = X} view r none h = subst (λ (o : Option X). Ends signals image had s end j t given (option_map view o)) none h

  pub ends_some : {X : Type 0} (view : X → Known) (r : Option X) (x : X) → r ≡ Some x → Ends signals image had s end j t given (option_map view r) → Ends signals image had s end j t given (Some (view x))
  ends_some {X = X} view r x some h = subst (λ (o : Option X). Ends signals image had s end j t given (option_map view o)) some h

-- ---- what is known before the first step

tells_none : (signals : Signals) (bit : ℕ) (last : Option ℕ) (s : State) → TellsSince signals bit last 0 s false
tells_none signals bit None s = refl
tells_none signals bit (Some from) s = λ j u after before reached. absurd (omega (arith, before))

pub known_before : (signals : Signals) (entries : List ScheduleEntry) (end : RunEnd) (s : State) (given : Requests) → given ≡ requests_of entries end → KnowAll signals 0 s given
known_before signals entries end s given is =
    subst (KnowAll signals 0 s) (sym is) (record { int0 = tells_none signals _ _ s; int1 = tells_none signals _ _ s; int2 = tells_none signals _ _ s })

-- ---- the note

module _ (image : ImageData) (had : List ℕ) (entries : List ScheduleEntry) (s : State) (end : RunEnd) (j : ℕ) (t : State) (given : Requests) (note : List ℕ) (is : given ≡ requests_of entries end) where
  pub noted : (front rest : List ℕ) (rs : Requests) → Ends (signals_of entries) image had s end j t given (Some (front, rs))
      → rest ≡ unread_lines had (counts_of t.world.samples) ++ requests_lines j t rs → note ≡ front ++ rest → Explains image had entries s end note
  noted front rest rs ends said all =
      let come = ends.0 in
      inl (record {
        front = front;
        ends = ends.1;
        rest = rest;
        unused = record {
          last = t;
          reached = come.reached;
          requests = rs;
          of_schedule = come.same ∙ ap unwatched is;
          known = come.known;
          text_is = said ∙ ap (λ n. unread_lines had (counts_of t.world.samples) ++ requests_lines n t rs) come.count;
        };
        note_is = all;
      })

  pub not_noted : StopsWithin (signals_of entries) end.steps s → note ≡ [] → Explains image had entries s end note
  not_noted stops empty = inr (empty, stops)

-- ---- a program

-- the note of a board that began as the program does
pub explained_run : (ready : Ready) (counted had : List ℕ) (end : RunEnd) (note : List ℕ) (entries : List ScheduleEntry) (s : State) → counted ≡ had → entries ≡ ready.schedule
    → s ≡ first_of_pages ready.built.linked.page0.words ready.built.linked.page1.words ready.built.linked.image.marks ready.built.linked.image.run_marks (samples_at ready.samples)
    → Explains ready.built.linked.image counted entries s end note → (given : Given) → IsReady given ready
    → Explains ready.built.linked.image had ready.schedule (first_state ready.built.linked.image ready.samples) end note
explained_run ready counted had end note entries s counts same begin said given is =
    let l = is.built.linked in
    let image = ready.built.linked.image in
    let told = subst (λ (h : List ℕ). Explains image h entries s end note) counts said in
    let at = subst (λ (es : List ScheduleEntry). Explains image had es s end note) same told in
    let from = subst (λ (x : State). Explains image had ready.schedule x end note) begin at in
    let words0 = subst (λ (w : finite.FinMap nat_cmp ℕ). Explains image had ready.schedule (first_of_pages w ready.built.linked.page1.words image.marks image.run_marks (samples_at ready.samples)) end note) l.words0 from in
    subst (λ (w : finite.FinMap nat_cmp ℕ). Explains image had ready.schedule (first_of_pages image.program w image.marks image.run_marks (samples_at ready.samples)) end note) l.words1 words0

-- with what the samples read as
pub explained_by : (ready : Ready) (samples : List ℕ) (end : RunEnd) (note : List ℕ) (all : List Sample) → samples_of samples ≡ Ok all
    → Explains ready.built.linked.image (counts_of (samples_at all)) ready.schedule (first_state ready.built.linked.image ready.samples) end note → ExplainsEnd ready samples end note
explained_by ready samples end note all read told = inl (subst (λ (r : Result (List Sample) ℕ). ExplainsBy ready end note r) (sym read) told)

-- of samples that have a fault nothing is said
pub nothing_said : (ready : Ready) (samples : List ℕ) (end : RunEnd) (line : ℕ) (note : List ℕ) → samples_of samples ≡ Err line → note ≡ [] → ExplainsEnd ready samples end note
nothing_said ready samples end line note read empty = inl (subst (λ (r : Result (List Sample) ℕ). ExplainsBy ready end note r) (sym read) empty)
