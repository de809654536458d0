-- Texts that have a program have an answer of n steps, and one.
use Rattle.std.proofs.Common.{◌≡◌, ℕ, zero, suc, ◌<◌, ◌^◌, List, [], ◌∷◌, All, length, slice_index, Result, Ok, Err, refl, ap, sym, ◌∙◌, subst, arith}
use Rattle.c25_source.proofs.BuiltTexts as built_texts
use Rattle.c25_source.proofs.BuiltTexts.{is_built, texts_for}
use Rattle.c25_answer_laws.specs.Answered.{AnswerData, HasAnswer, HasProgram, IsAnswerData, data_of}
use Rattle.c25_board.specs.declared.board.Outcome.{Outcome}
use Rattle.c25_board.specs.declared.board.Outcome.TheVariants as outcome
use Rattle.c25_chain.specs.Built.{IsBuilt}
use Rattle.c25_chain.specs.Chain.{Answers, Given, Inputs}
use Rattle.c25_chain.specs.Headline.{RunsItsWords, first_state, source_statements, statements_run}
use Rattle.c25_chain.specs.Linked.{LinkedTexts, places_of}
use Rattle.c25_chain.specs.Modules.{Modules}
use Rattle.c25_chain.specs.Refusal.{Fault}
use Rattle.c25_chain.specs.Run.{EndsAs, RunData, Shows}
use Rattle.c25_chain.specs.declared.chain.Chain.{Chain}
use Rattle.c25_hex.specs.HexText.{written}
use Rattle.c25_answer_laws.proofs.Refusals.{never_refused}
use Rattle.c25_meaning_assembly.specs.ModuleOfSource.{Assembled, assembled}
use Rattle.c25_meaning_common.specs.declared.failure.Failure.TheVariants as failure
use Rattle.c25_meaning_expansion.specs.Files.{Files}
use Rattle.c25_meaning_linking.specs.Command.{CommandData, IsCommand}
use Rattle.c25_meaning_linking.specs.CommandText.{command_of}
use Rattle.c25_meaning_linking.specs.GoodMap.{IsGoodMap}
use Rattle.c25_meaning_linking.specs.Linking.{ImageData, IsProgram, map_of, names_checked}
use Rattle.c25_meaning_linking.specs.MapText.{IsPrinted, map_text}
use Rattle.c25_meaning_linking.specs.Place.{Place}
use Rattle.c25_meaning_objects.specs.Module.{Contents, IsModule}
use Rattle.c25_meaning_processor.specs.Run.{Ending, Left, Ran, Runs, Signals}
use Rattle.c25_meaning_processor.specs.Signals.{signals_of}
use Rattle.c25_meaning_processor.specs.State.{State}
use Rattle.c25_meaning_processor.specs.Statements.{IsImageOf, RunsAsStatements, Statements}
use Rattle.c25_meaning_processor.specs.Status.{regs_of}
use Rattle.c25_meaning_processor.specs.WordStep.{WordStep}
use Rattle.c25_meaning_processor.specs.declared.sample.Sample.{Sample}

-- the laws on which this rests
pub record Laws : Type 0 where
  pub each_module : (files : Files) (name : List ℕ) (a : Assembled) → assembled files name ≡ Ok a → IsModule a.contents
  pub commands : (text : List ℕ) (command : CommandData) → command_of text ≡ Ok command → IsCommand command
  pub places : (modules : List Contents) (command : CommandData) (image : ImageData) → (p : IsProgram modules command image) → places_of image.described ≡ p.places
  pub printed : (modules : List Contents) (command : CommandData) (places : List Place)
      → All IsModule modules → length modules < 2 ^ 64 → IsCommand command → names_checked modules command.entry ≡ Ok tt → IsGoodMap modules command places
      → IsPrinted (map_of modules command.entry places)
  pub runs : (statements : Statements) (s : State) → IsImageOf statements s.world → RunsAsStatements statements s
  pub once : (signals : Signals) (k n : ℕ) (s : State) (e f : Ending) → Runs WordStep signals k n s e → Runs WordStep signals k n s f → e ≡ f
  pub one_program : (files : Files) (names : List (List ℕ)) (command : List ℕ) (image other : ImageData) (texts others : LinkedTexts) (listings more : List (List ℕ))
      → IsBuilt files names command image texts listings → IsBuilt files names command other others more → image ≡ other
  pub first_states : (files : Files) (names : List (List ℕ)) (command : List ℕ) (image : ImageData) (texts : LinkedTexts) (listings : List (List ℕ)) (samples : List Sample)
      → IsBuilt files names command image texts listings → IsImageOf (source_statements files names image.described) (first_state image samples).world

-- ---- lists

-- the values of a function at the numbers below n, as a list
pub record Listed (n : ℕ) (f : ℕ → ℕ) : Type 0 where
  pub list : List ℕ
  pub size : length list ≡ n
  pub items : (i : ℕ) → i < n → slice_index list i ≡ f i

listed : (n : ℕ) (f : ℕ → ℕ) → Listed n f
listed zero f = record { list = []; size = refl; items = λ i less. absurd (omega (arith, less)) }
listed (suc n) f =
    let rest = listed n (λ i. f (suc i)) in
    let long = rest.size in
    record { list = f 0 ∷ rest.list; size = omega (arith, long); items = each rest }
  where
    each : (rest : Listed n (λ i. f (suc i))) (i : ℕ) → i < suc n → slice_index (f 0 ∷ rest.list) i ≡ f i
    each rest zero less = refl
    each rest (suc i) less = rest.items i (omega (arith, less))

same_items : (xs ys : List ℕ) → length xs ≡ length ys → ((i : ℕ) → i < length xs → slice_index xs i ≡ slice_index ys i) → xs ≡ ys
same_items [] [] e at = refl
same_items [] (y ∷ ys) e at = absurd (omega (arith, e))
same_items (x ∷ xs) (y ∷ ys) e at =
    let first : x ≡ y = at 0 (omega arith) in
    let rest : xs ≡ ys = same_items xs ys (omega (arith, e)) (λ i less. at (suc i) (omega (arith, less))) in
    λ i. first i ∷ rest i
same_items (x ∷ xs) [] e at = absurd (omega (arith, e))

-- ---- the texts

text_laws : Laws → built_texts.Laws
text_laws laws = record { each_module = laws.each_module; commands = laws.commands; places = laws.places; printed = laws.printed }

module _ (laws : Laws) (g : Given) (few : length g.sources < 2 ^ 64) (has : HasProgram g) where
  built : IsBuilt g.files g.sources g.command has.image (texts_for has.image) (has.all).listings
  built = is_built (text_laws laws) g.files g.sources g.command has.all has.command has.image few has.assembled has.commanded has.linked

  abbrev end : ℕ → Ending
  end n = statements_run g.files g.sources has.image (has.inputs).samples (has.inputs).entries n

  ends : (n : ℕ) → RunsItsWords has.image (has.inputs).samples (has.inputs).entries n (end n)
  ends n =
      let holds = laws.first_states g.files g.sources g.command has.image (texts_for has.image) (has.all).listings (has.inputs).samples built in
      (laws.runs (source_statements g.files g.sources (has.image).described) (first_state has.image (has.inputs).samples) holds (signals_of (has.inputs).entries) 0 n (end n)).1 refl

-- ---- the run

abbrev shown : (t : State) (o : Outcome) (steps : ℕ) → Listed 65536 t.world.words → RunData
shown t o steps memory = record { outputs = t.world.outputs; regs = regs_of t.registers; memory = memory.list; outcome = o; steps = steps }

shows : (t : State) (o : Outcome) (steps : ℕ) (memory : Listed 65536 t.world.words) → Shows t (shown t o steps memory)
shows t o steps memory = record { outputs = refl; regs = refl; size = memory.size; memory = memory.items }

run_shown : (n : ℕ) (e : Ending) → (d : RunData) × EndsAs n e d
run_shown n (Ran t) = let memory = listed 65536 t.world.words in (shown t outcome.Ran n memory, (refl, refl, shows t outcome.Ran n memory))
run_shown n (Left j stop t) = let memory = listed 65536 t.world.words in (shown t (outcome.Left j stop) j memory, (refl, refl, shows t (outcome.Left j stop) j memory))

pub answer_data : Laws → (g : Given) (n : ℕ) → length g.sources < 2 ^ 64 → HasProgram g → (d : AnswerData) × IsAnswerData g n d
answer_data laws g n few has =
    let run = run_shown n (end laws g few has n) in
    let data_is : AnswerData = record { texts = texts_for has.image; listings = (has.all).listings; run = run.0 } in
    (data_is, record { image = has.image; inputs = has.inputs; built = built laws g few has; read = has.read; run = (end laws g few has n, ends laws g few has n, run.1) })

pub has_answer : Laws → (g : Given) (n : ℕ) (result : Result Chain Fault) → length g.sources < 2 ^ 64 → Answers g n result → HasProgram g → HasAnswer g n result
has_answer laws g n (Ok c) few answer has =
    record { answer = data_of c; is = record { image = answer.image; inputs = answer.inputs; built = answer.built; read = answer.read; run = answer.run }; answered = refl }
has_answer laws g n (Err (failure.NoMemory m)) few answer has = let some = answer_data laws g n few has in record { answer = some.0; is = some.1; answered = tt }
has_answer laws g n (Err (failure.Fault f)) few answer has = absurd (never_refused g _ has answer)

-- ---- one answer

same_shown : (t : State) (d c : RunData) → d.outcome ≡ c.outcome → d.steps ≡ c.steps → Shows t d → Shows t c → d ≡ c
same_shown t d c named counted x y =
    let outputs = x.outputs ∙ sym y.outputs in
    let regs = x.regs ∙ sym y.regs in
    let long = x.size in
    let memory = same_items d.memory c.memory (x.size ∙ sym y.size) (λ i less. x.memory i (omega (arith, less, long)) ∙ sym (y.memory i (omega (arith, less, long)))) in
    λ i. record { outputs = outputs i; regs = regs i; memory = memory i; outcome = named i; steps = counted i }

pub same_run : (n : ℕ) (e : Ending) (d c : RunData) → EndsAs n e d → EndsAs n e c → d ≡ c
same_run n (Ran t) d c (named, counted, x) (named_2, counted_2, y) = same_shown t d c (named ∙ sym named_2) (counted ∙ sym counted_2) x y
same_run n (Left j stop t) d c (named, counted, x) (named_2, counted_2, y) = same_shown t d c (named ∙ sym named_2) (counted ∙ sym counted_2) x y

module _ (laws : Laws) (g : Given) (n : ℕ) (d c : AnswerData) (a : IsAnswerData g n d) (b : IsAnswerData g n c) where
  same_image : b.image ≡ a.image
  same_image = laws.one_program g.files g.sources g.command b.image a.image c.texts d.texts c.listings d.listings b.built a.built

  same_inputs : b.inputs ≡ a.inputs
  same_inputs = let x = a.read in let y = b.read in cc

  same_all : (b.built).all ≡ (a.built).all
  same_all = let x = (a.built).assembled in let y = (b.built).assembled in cc

  same_listings : d.listings ≡ c.listings
  same_listings = (a.built).listings_are ∙ ap (λ (m : Modules). m.listings) (sym same_all) ∙ sym (b.built).listings_are

  same_texts : d.texts ≡ c.texts
  same_texts =
      let x = ((a.built).linked).texts_are in
      let y = ((b.built).linked).texts_are in
      let page0 = x.page0 ∙ ap (λ (i : ImageData). written i.program) (sym same_image) ∙ sym y.page0 in
      let page1 = x.page1 ∙ ap (λ (i : ImageData). written i.store) (sym same_image) ∙ sym y.page1 in
      let map = (x.printed).text_is ∙ ap (λ (i : ImageData). map_text i.described) (sym same_image) ∙ sym (y.printed).text_is in
      λ i. record { page0 = page0 i; page1 = page1 i; map = map i }

  same_end : (b.run).0 ≡ (a.run).0
  same_end =
      let x = a.run in
      let y = b.run in
      let of_image = subst (λ (i : ImageData). RunsItsWords i (b.inputs).samples (b.inputs).entries n y.0) same_image y.1 in
      laws.once (signals_of (a.inputs).entries) 0 n (first_state a.image (a.inputs).samples) y.0 x.0 (subst (λ (i : Inputs). RunsItsWords a.image i.samples i.entries n y.0) same_inputs of_image) x.1

  pub one_run : d.run ≡ c.run
  one_run =
      let x = a.run in
      let y = b.run in
      same_run n x.0 d.run c.run x.2 (subst (λ (e : Ending). EndsAs n e c.run) same_end y.2)

  pub one_data : d ≡ c
  one_data = λ i. record { texts = same_texts i; listings = same_listings i; run = one_run i }

pub one_answer : Laws → (g : Given) (n : ℕ) (d other : AnswerData) → IsAnswerData g n d → IsAnswerData g n other → d ≡ other
one_answer laws g n d other a b = one_data laws g n d other a b

pub has_program : (g : Given) (n : ℕ) (d : AnswerData) → IsAnswerData g n d → HasProgram g
has_program g n d a =
    let b = a.built in
    let l = b.linked in
    record { all = b.all; command = l.command; image = a.image; inputs = a.inputs; assembled = b.assembled; commanded = l.read; linked = l.program; read = a.read }
