-- When the chain answers: wherever the texts that it is given have a program, and inputs for its run. Each of them is
-- what a definition says of a text; no code, and no memory, has a part in it.
use Rattle.std.specs.Prelude.{◌≡◌, ℕ, List, map, Result, Ok, Err}
use Rattle.std.specs.String.{string_bytes}
use Rattle.c25_chain.specs.Built.{IsBuilt}
use Rattle.c25_chain.specs.Chain.{Given, Inputs, inputs_in, run_of, texts_of}
use Rattle.c25_chain.specs.Linked.{LinkedTexts}
use Rattle.c25_chain.specs.Modules.{Modules, modules_of}
use Rattle.c25_chain.specs.Refusal.{Fault}
use Rattle.c25_chain.specs.Run.{RunData, IsRunOf}
use Rattle.c25_chain.specs.declared.chain.Chain.{Chain}
use Rattle.c25_meaning_common.specs.declared.failure.Failure.TheVariants as failure
use Rattle.c25_meaning_linking.specs.Command.{CommandData}
use Rattle.c25_meaning_linking.specs.CommandText.{command_of}
use Rattle.c25_meaning_linking.specs.Linking.{ImageData, IsProgram}

-- there is a program of the texts: each source has a module, the command file has a command, the modules are linked to
-- this program under it, and the samples and the schedule read as inputs of its run
pub record HasProgram (g : Given) : Type 0 where
  pub all : Modules
  pub command : CommandData
  pub image : ImageData
  pub inputs : Inputs
  pub assembled : modules_of g.files g.sources ≡ Ok all
  pub commanded : command_of g.command ≡ Ok command
  pub linked : IsProgram all.modules command image
  pub read : inputs_in g ≡ Ok inputs

-- what an answer says: the hex texts and the map, the listings, and the run
pub record AnswerData : Type 0 where
  pub texts : LinkedTexts
  pub listings : List (List ℕ)
  pub run : RunData

-- what an answer of the chain says
abbrev pub data_of : Chain → AnswerData
data_of c = record { texts = texts_of c; listings = map string_bytes c.listings.items; run = run_of c }

-- this is what the answer says: the texts and the listings of the program of the sources and the command, and n steps
-- of its words under the samples and the schedule
pub record IsAnswerData (g : Given) (n : ℕ) (d : AnswerData) : Type 0 where
  pub image : ImageData
  pub inputs : Inputs
  pub built : IsBuilt g.files g.sources g.command image d.texts d.listings
  pub read : inputs_in g ≡ Ok inputs
  pub run : IsRunOf image.program image.store image.marks image.run_marks inputs.samples inputs.entries n d.run

-- the chain answers this, unless memory ran out; it refuses nothing
abbrev pub IsAnsweredBy : AnswerData → Result Chain Fault → Type 0
IsAnsweredBy d (Ok c) = data_of c ≡ d
IsAnsweredBy d (Err (failure.NoMemory m)) = Unit {0}
IsAnsweredBy d (Err (failure.Fault f)) = ⊥

-- there is an answer of n steps, and what the chain gives is this answer, unless memory ran out
pub record HasAnswer (g : Given) (n : ℕ) (result : Result Chain Fault) : Type 0 where
  pub answer : AnswerData
  pub is : IsAnswerData g n answer
  pub answered : IsAnsweredBy answer result
