-- Modules whose sections have been placed, as the code has them.
use Rattle.std.specs.Prelude.{◌≡◌, ◌<◌, ℕ, List, Some, All}
use Rattle.std.specs.List.{slice_get}
use Rattle.std.specs.List.Sorted.{IsNonDecreasingBy, IsPermutation}
use Rattle.c25_meaning_image.specs.declared.mark.Mark.{Mark}
use Rattle.c25_meaning_image.specs.declared.mark.RunMark.{RunMark}
use Rattle.c25_meaning_linking.specs.Linking.{HasMarks, HasRunMarks}
use Rattle.c25_meaning_objects.specs.Module.{SectionData, Contents, IsModule}
use Rattle.c25_meaning_linking.specs.Place.{Place, IsPart, LiesIn}
use Rattle.c25_meaning_linking.specs.Words as words
use Rattle.c25_link.specs.Bases.{HasRoom, KnowsBases}
use Rattle.c25_link.specs.View.{HasDefinitions}
use Rattle.c25_place.specs.View.{places_view}
use Rattle.c25_link.specs.declared.layout.Layout.{Layout}

-- an address of a page lies in one part at most
abbrev pub HasOnePart : List Contents → List Place → Type 0
HasOnePart modules places = (number other index another page address : ℕ) (owner owner_2 : Contents) (section section_2 : SectionData)
    → IsPart modules number index owner section → IsPart modules other another owner_2 section_2
    → LiesIn modules places number section page address → LiesIn modules places other section_2 page address
    → (number ≡ other) × (index ≡ another)

-- the instructions that run elsewhere than they are loaded run apart, in the order in which they run
abbrev pub RunApart : List Contents → List Place → Type 0
RunApart modules places = (marks : List Mark) (run_marks : List RunMark) → HasMarks modules places marks → IsPermutation (words.program_run_marks modules places) run_marks
    → IsNonDecreasingBy (λ m. m.run) run_marks → HasRunMarks modules places marks run_marks

-- the items of a list are modules
abbrev pub AreModules : List Contents → Type 0
AreModules modules = (number : ℕ) (m : Contents) → slice_get modules number ≡ Some m → IsModule m

-- the places of a layout, as clauses see them
abbrev pub places_in : Layout → List Place
places_in l = places_view l.places.now

-- the definitions and bases are those of the modules at these places, where each part has room, no two share a word, and
-- instructions that run elsewhere run apart
pub record IsLaidOut (l : Layout) : Type 0 where
  pub modules : AreModules l.modules.now
  pub definitions : HasDefinitions l.definitions.now (words.definitions l.modules.now)
  pub bases : KnowsBases l.bases.now l.modules.now (places_in l)
  pub room : HasRoom l.modules.now (places_in l)
  pub parts : HasOnePart l.modules.now (places_in l)
  pub runs : RunApart l.modules.now (places_in l)
  pub places : All (λ p. p.base < 65536) (places_in l)

-- the module of a number
abbrev pub IsOwner : Layout → ℕ → Contents → Type 0
IsOwner l number m = slice_get l.modules.now number ≡ Some m
