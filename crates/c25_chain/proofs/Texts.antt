-- The texts of a program say where its sections stand.
use Rattle.std.proofs.Common.{◌≡◌, ℕ, List, Ok, Err, Result, ap, subst, sym, ◌∙◌, inr}
use Rattle.c25_meaning_linking.specs.Command.{CommandData}
use Rattle.c25_meaning_linking.specs.CommandText.{command_of}
use Rattle.c25_meaning_linking.specs.GoodMap.{IsGoodMap}
use Rattle.c25_meaning_linking.specs.Linking.{ImageData, IsProgram, HasWords, HasMarks, HasRunMarks}
use Rattle.c25_hex.specs.HexText.{written}
use Rattle.c25_meaning_linking.specs.MapText.{IsMapOf}
use Rattle.c25_meaning_objects.specs.Module.{Contents}
use Rattle.c25_meaning_linking.specs.Place.{Place}
use Rattle.c25_meaning_common.specs.Results.{told}
use Rattle.c25_meaning_common.specs.declared.failure.Failure.TheVariants as failure
use Rattle.c25_meaning_common.specs.declared.placed.Placed.{Placed}
use Rattle.c25_meaning_linking.specs.declared.command_fault.CommandFault.{CommandFault}
use Rattle.c25_chain.specs.Linked.{AreTexts, HasTextsOf, IsLinked, LinkedTexts, Links, LinksText, places_of, texts_of}
use Rattle.c25_chain.specs.Refusal.{Fault}
use Rattle.c25_chain.specs.declared.fault.ChainFault.{ChainFault}
use Rattle.c25_chain.specs.declared.fault.ChainFault.TheVariants.{Command}
use Rattle.c25_chain.specs.declared.linked.Linked.{Linked}

-- a program with its texts
are_texts : (modules : List Contents) (command : CommandData) (image : ImageData) (texts : LinkedTexts) (p : IsProgram modules command image)
    → places_of image.described ≡ p.places → IsMapOf texts.map image.described
    → texts.page0 ≡ written image.program → texts.page1 ≡ written image.store
    → AreTexts modules command image texts
are_texts modules command image texts p places printed page0 page1 =
    let same : p.places ≡ places_of image.described = sym places in
    record {
      printed = printed;
      good = subst (λ (ps : List Place). IsGoodMap modules command ps) same p.good;
      program = subst (λ (ps : List Place). HasWords modules ps 0 image.program) same p.program;
      store = subst (λ (ps : List Place). HasWords modules ps 1 image.store) same p.store;
      marks = subst (λ (ps : List Place). HasMarks modules ps image.marks) same p.marks;
      run_marks = subst (λ (ps : List Place). HasRunMarks modules ps image.marks image.run_marks) same p.run_marks;
      page0 = page0;
      page1 = page1;
    }

-- what was linked under the command of a text, with its texts
pub is_linked : (modules : List Contents) (text : List ℕ) (command : CommandData) (image : ImageData) (l : Linked)
    → command_of text ≡ Ok command → (p : IsProgram modules command image) → places_of image.described ≡ p.places → HasTextsOf image l → IsLinked modules text l
is_linked modules text command image l read program places h =
    let texts = are_texts modules command image (texts_of l) program places h.map_is h.text0 h.text1 in
    let same : image ≡ l.image = sym h.image_is in
    record {
      under = record {
        command = command;
        read = read;
        program = subst (λ (i : ImageData). IsProgram modules command i) same program;
        texts_are = subst (λ (i : ImageData). AreTexts modules command i (texts_of l)) same texts;
      };
      words0 = h.words0 ∙ ap (λ (i : ImageData). i.program) same;
      words1 = h.words1 ∙ ap (λ (i : ImageData). i.store) same;
    }

-- a text that spells a command, by its result as the chain's
pub told_command : (text : List ℕ) (command : CommandData) → told {F = ChainFault (List ℕ)} Command (command_of text) ≡ Ok command → command_of text ≡ Ok command
told_command text command h = by_result (command_of text) h where
  by_result : (r : Result CommandData (Placed ℕ CommandFault)) → told {F = ChainFault (List ℕ)} Command r ≡ Ok command → r ≡ Ok command
  by_result (Ok c) e = let same : c ≡ command = cc in ap Ok same
  by_result (Err f) e = absurd cc

-- the image of modules under a command, of which this is the text
pub links_text : (modules : List Contents) (text : List ℕ) (command : CommandData) (result : Result ImageData Fault) → command_of text ≡ Ok command → Links modules command result → LinksText modules text result
links_text modules text command (Ok image) read is = record { command = command; read = read; program = is }
links_text modules text command (Err (failure.NoMemory n)) read is = tt
links_text modules text command (Err (failure.Fault f)) read is = inr (command, read, is)
