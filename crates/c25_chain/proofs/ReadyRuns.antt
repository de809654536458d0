-- A program that is ready runs as the chain answers.
use Rattle.std.proofs.Common.{◌≡◌, ◌↔◌, ◌++◌, ◌∙◌, ℕ, List, ap, map, string_bytes, subst, sym}
use Rattle.c25_board.specs.declared.board.Outcome.{Outcome}
use Rattle.c25_board.specs.declared.board.Outcome.TheVariants as outcome
use Rattle.c25_meaning_expansion.specs.Files.{Files}
use Rattle.c25_meaning_linking.specs.Linking.{ImageData}
use Rattle.c25_meaning_processor.specs.Run.{Ending, Left, Ran, Runs, Signals}
use Rattle.c25_meaning_processor.specs.RunText.{outputs_text}
use Rattle.c25_meaning_processor.specs.State.{State}
use Rattle.c25_meaning_processor.specs.Statements.{IsImageOf, RunsAsStatements, Statements}
use Rattle.c25_meaning_processor.specs.WordStep.{WordStep}
use Rattle.c25_meaning_processor.specs.Signals.{signals_of}
use Rattle.c25_meaning_processor.specs.declared.sample.Sample.{Sample}
use Rattle.c25_chain.proofs.Answered.{is_built}
use Rattle.c25_chain.specs.Built.{IsBuilt}
use Rattle.c25_chain.specs.Chain.{Given, Inputs, IsAnswer, run_of, texts_of}
use Rattle.c25_chain.specs.Headline.{RunsItsWords, first_state, source_statements}
use Rattle.c25_chain.specs.Linked as linked
use Rattle.c25_chain.specs.Linked.{LinkedTexts}
use Rattle.c25_chain.specs.OutcomeText.{end_text, outcome_text, run_text}
use Rattle.c25_chain.specs.Ready.{IsAnswerOf, IsReady, RunsReady, statements_end}
use Rattle.c25_chain.specs.Run.{EndsAs}
use Rattle.c25_chain.specs.declared.chain.Chain.{Chain}
use Rattle.c25_chain.specs.declared.ready.Ready.{Ready}

-- ---- the laws that are cited

-- sources and the text of a command have one program
abbrev pub OneProgram : Type 0
OneProgram =
    (files : Files) (names : List (List ℕ)) (command : List ℕ) (image other : ImageData) (texts others : LinkedTexts) (listings more : List (List ℕ))
    → IsBuilt files names command image texts listings → IsBuilt files names command other others more → image ≡ other

-- a run of words has one end
abbrev pub OneEnd : Type 0
OneEnd = (signals : Signals) (k n : ℕ) (s : State) (e f : Ending) → Runs WordStep signals k n s e → Runs WordStep signals k n s f → e ≡ f

-- the first state of a program holds the statements of its sources
abbrev pub FirstStates : Type 0
FirstStates =
    (files : Files) (names : List (List ℕ)) (command : List ℕ) (image : ImageData) (texts : LinkedTexts) (listings : List (List ℕ)) (samples : List Sample)
    → IsBuilt files names command image texts listings → IsImageOf (source_statements files names image.described) (first_state image samples).world

-- from such a state words run as their statements
abbrev pub RunAlike : Type 0
RunAlike = (statements : Statements) (s : State) → IsImageOf statements s.world → RunsAsStatements statements s

-- ---- by the statements

pub sources_of_ready : (first : FirstStates) (alike : RunAlike) (g : Given) (r : Ready) (n : ℕ) (end : Ending) → IsReady g r → RunsReady r n end ↔ (end ≡ statements_end g r n)
sources_of_ready first alike g r n end ready =
    let image = r.built.linked.image in
    let built = is_built g.files g.sources g.command r.built ready.built in
    let holds = first g.files g.sources g.command image (linked.texts_of r.built.linked) (map string_bytes r.built.listings.items) r.samples built in
    alike (source_statements g.files g.sources image.described) (first_state image r.samples) holds (signals_of r.schedule) 0 n end

-- ---- texts

same_text : (xs ys : List (ℕ × ℕ)) (o p : Outcome) (i j : ℕ) → ys ≡ xs → p ≡ o → j ≡ i → outputs_text xs ++ outcome_text o i ≡ outputs_text ys ++ outcome_text p j
same_text xs ys o p i j outputs named counted =
    ap (λ (zs : List (ℕ × ℕ)). outputs_text zs ++ outcome_text o i) (sym outputs)
    ∙ ap (λ (q : Outcome). outputs_text ys ++ outcome_text q i) (sym named)
    ∙ ap (λ (k : ℕ). outputs_text ys ++ outcome_text p k) (sym counted)

-- the text of an end is that of an answer with this end
end_told : (n : ℕ) (end : Ending) (c : Chain) → EndsAs n end (run_of c) → end_text n end ≡ run_text c
end_told n (Ran t) c (named, counted, shows) = same_text t.world.outputs c.outputs.items outcome.Ran c.outcome n c.steps shows.outputs named counted
end_told n (Left j stop t) c (named, counted, shows) = same_text t.world.outputs c.outputs.items (outcome.Left j stop) c.outcome j c.steps shows.outputs named counted

-- ---- by an answer

module _ (one : OneProgram) (once : OneEnd) (g : Given) (r : Ready) (n : ℕ) (end : Ending) (c : Chain) (ready : IsReady g r) (runs : RunsReady r n end) (a : IsAnswer g n c) where
  same_image : a.image ≡ r.built.linked.image
  same_image =
      one g.files g.sources g.command a.image r.built.linked.image (texts_of c) (linked.texts_of r.built.linked) (map string_bytes c.listings.items) (map string_bytes r.built.listings.items) a.built
      (is_built g.files g.sources g.command r.built ready.built)

  same_inputs : a.inputs ≡ record { samples = r.samples; entries = r.schedule }
  same_inputs = let x = a.read in let y = ready.read in cc

  same_end : (a.run).0 ≡ end
  same_end =
      let run = a.run in
      let image = r.built.linked.image in
      let of_image = subst (λ (i : ImageData). RunsItsWords i (a.inputs).samples (a.inputs).entries n run.0) same_image run.1 in
      once (signals_of r.schedule) 0 n (first_state image r.samples) run.0 end (subst (λ (x : Inputs). RunsItsWords image x.samples x.entries n run.0) same_inputs of_image) runs

  pub answer_of_ready : IsAnswerOf r n end g c a
  answer_of_ready =
      let run = a.run in
      let ends = subst (λ (e : Ending). EndsAs n e (run_of c)) same_end run.2 in
      record { image = same_image; inputs = same_inputs; ended = same_end; told = ends; text = end_told n end c ends }
