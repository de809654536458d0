-- A linked program and its texts, or why there is none.
use Rattle.std.specs.Prelude.{◌≡◌, ◌⊎◌, ℕ, List, map, Result, Ok, Err, String}
use Rattle.std.specs.String.{string_bytes}
use Rattle.std.specs.declared.alloc.Global.{Global}
use Rattle.c25_meaning_linking.specs.Command.{CommandData}
use Rattle.c25_meaning_linking.specs.CommandText.{command_of}
use Rattle.c25_meaning_linking.specs.GoodMap.{IsGoodMap}
use Rattle.c25_hex.specs.HexText.{written}
use Rattle.c25_meaning_linking.specs.Linking.{HasRunMarks, ImageData, IsProgram, IsRefusal, HasWords, HasMarks}
use Rattle.c25_meaning_linking.specs.MapText.{MapData, IsMapOf}
use Rattle.c25_meaning_objects.specs.Module.{Contents}
use Rattle.c25_meaning_linking.specs.Place.{Place}
use Rattle.c25_meaning_common.specs.Results.{told}
use Rattle.c25_meaning_common.specs.declared.failure.Failure.TheVariants as failure
use Rattle.c25_meaning_common.specs.declared.placed.Placed.{Placed}
use Rattle.c25_meaning_linking.specs.declared.link_fault.LinkFault.{LinkFault}
use Rattle.c25_chain.specs.Refusal.{Fault, refusal_of}
use Rattle.c25_chain.specs.declared.fault.ChainFault.{ChainFault}
use Rattle.c25_chain.specs.declared.fault.ChainFault.TheVariants.{Command, Link}
use Rattle.c25_chain.specs.declared.linked.Linked.{Linked}
use Rattle.c25_chain.specs.declared.page.Page.{Page}

-- ---- texts

-- the hex texts of both pages and the text of the map
pub record LinkedTexts : Type 0 where
  pub page0 : List ℕ
  pub page1 : List ℕ
  pub map : List ℕ

-- the places of the sections that a map names
abbrev pub places_of : MapData → List Place
places_of m = map (λ s. s.place) m.sections

-- the texts of a program of modules under a command. The map's text reads as this one map, which is good; the hex texts are those of
-- the words at its places, neither more nor less, and the instructions are those at its places
pub record AreTexts (modules : List Contents) (command : CommandData) (image : ImageData) (texts : LinkedTexts) : Type 0 where
  pub printed : IsMapOf texts.map image.described
  pub good : IsGoodMap modules command (places_of image.described)
  pub program : HasWords modules (places_of image.described) 0 image.program
  pub store : HasWords modules (places_of image.described) 1 image.store
  pub marks : HasMarks modules (places_of image.described) image.marks
  pub run_marks : HasRunMarks modules (places_of image.described) image.marks image.run_marks
  pub page0 : texts.page0 ≡ written image.program
  pub page1 : texts.page1 ≡ written image.store

-- ---- what the code has

-- the texts of what was linked
abbrev pub texts_of : Linked → LinkedTexts
texts_of l = record { page0 = string_bytes l.page0.text; page1 = string_bytes l.page1.text; map = string_bytes l.map }

-- the text of an image's map and its pages: the texts of its words, and the words that these are read as
pub record AreTextsOf (image : ImageData) (map : String Global) (page0 page1 : Page) : Type 0 where
  pub map_is : IsMapOf (string_bytes map) image.described
  pub text0 : string_bytes page0.text ≡ written image.program
  pub text1 : string_bytes page1.text ≡ written image.store
  pub words0 : page0.words ≡ image.program
  pub words1 : page1.words ≡ image.store

-- an image with the texts of its words and of its map, and the words that the hex texts are read as
pub record HasTextsOf (image : ImageData) (l : Linked) : Type 0 where
  pub image_is : l.image ≡ image
  pub map_is : IsMapOf (string_bytes l.map) image.described
  pub text0 : string_bytes l.page0.text ≡ written image.program
  pub text1 : string_bytes l.page1.text ≡ written image.store
  pub words0 : l.page0.words ≡ image.program
  pub words1 : l.page1.words ≡ image.store

-- ---- linking

-- a fault of linking as a fault of the chain
pub record IsLinkRefusal (modules : List Contents) (command : CommandData) (r : ChainFault (List ℕ)) : Type 0 where
  pub faulty : Placed (List ℕ) LinkFault
  pub told_as : r ≡ Link faulty
  pub refused : IsRefusal modules command faulty

-- the image of modules under a command, or the first fault, unless memory ran out
abbrev pub Links : List Contents → CommandData → Result ImageData Fault → Type 0
Links modules command (Ok image) = IsProgram modules command image
Links modules command (Err (failure.NoMemory n)) = Unit {0}
Links modules command (Err (failure.Fault f)) = IsLinkRefusal modules command (refusal_of f)

-- modules linked under the command of a text
pub record IsLinkedUnder (modules : List Contents) (text : List ℕ) (image : ImageData) (texts : LinkedTexts) : Type 0 where
  pub command : CommandData
  pub read : command_of text ≡ Ok command
  pub program : IsProgram modules command image
  pub texts_are : AreTexts modules command image texts

-- why modules cannot be linked under a text: it is no command file, or linking has a fault
abbrev pub IsRefusedUnder : List Contents → List ℕ → ChainFault (List ℕ) → Type 0
IsRefusedUnder modules text r =
    (told Command (command_of text) ≡ Err r) ⊎ ((command : CommandData) × (command_of text ≡ Ok command) × IsLinkRefusal modules command r)

-- the image of modules under the text of a command file
pub record IsImageUnder (modules : List Contents) (text : List ℕ) (image : ImageData) : Type 0 where
  pub command : CommandData
  pub read : command_of text ≡ Ok command
  pub program : IsProgram modules command image

-- the image of modules under the text of a command file, or the first fault, unless memory ran out
abbrev pub LinksText : List Contents → List ℕ → Result ImageData Fault → Type 0
LinksText modules text (Ok image) = IsImageUnder modules text image
LinksText modules text (Err (failure.NoMemory n)) = Unit {0}
LinksText modules text (Err (failure.Fault f)) = IsRefusedUnder modules text (refusal_of f)

-- modules and the text of a command file, linked, as the code answers it
pub record IsLinked (modules : List Contents) (text : List ℕ) (l : Linked) : Type 0 where
  pub under : IsLinkedUnder modules text l.image (texts_of l)
  pub words0 : l.page0.words ≡ l.image.program
  pub words1 : l.page1.words ≡ l.image.store

-- modules and the text of a command file, linked, or the first fault, unless memory ran out
abbrev pub LinksUnder : List Contents → List ℕ → Result Linked Fault → Type 0
LinksUnder modules text (Ok l) = IsLinked modules text l
LinksUnder modules text (Err (failure.NoMemory n)) = Unit {0}
LinksUnder modules text (Err (failure.Fault f)) = IsRefusedUnder modules text (refusal_of f)
