-- A source and a command file of which a build makes the words of an image again.
use Rattle.std.specs.Prelude.{ℕ, List, [], ◌∷◌}
use Rattle.std.specs.FinMap as finite
use Rattle.std.specs.Ordering.{nat_cmp}
use Rattle.c25_chain.specs.Built.{IsBuilt}
use Rattle.c25_chain.specs.Linked.{LinkedTexts}
use Rattle.c25_meaning_linking.specs.Linking.{ImageData}
use Rattle.c25_source.specs.Kept.{IsKept}

-- two texts, the first under the name of a file
pub record SourceFiles : Type 0 where
  pub name : List ℕ
  pub source : List ℕ
  pub command : List ℕ

-- these texts are built to a program
pub record HasProgram (files : SourceFiles) : Type 0 where
  pub image : ImageData
  pub texts : LinkedTexts
  pub listings : List (List ℕ)
  pub built : IsBuilt ((files.name, files.source) ∷ []) (files.name ∷ []) files.command image texts listings

-- what these texts are built to has the words of an image in program memory, or all but erased ones
pub record IsRebuilt (files : SourceFiles) (words : finite.FinMap nat_cmp ℕ) (blank : ℕ) : Type 0 where
  pub program : HasProgram files
  pub kept : IsKept words program.image.program blank
