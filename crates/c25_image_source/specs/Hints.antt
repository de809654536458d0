-- The hints of a file.
use Rattle.std.specs.Prelude.{◌≡◌, ℕ, List, [], map, Option, Some, None, Result, Ok, Err, String, Vec}
use Rattle.std.specs.declared.alloc.Global.{Global}
use Rattle.c25_disk.specs.Held.{Held}
use Rattle.c25_image_source.specs.Faults.{image_fault}
use Rattle.c25_image_source.specs.Words.{AfterFile, Answer}
use Rattle.c25_image_source.specs.declared.fault.ImageFault.{ImageFault}
use Rattle.c25_image_source.specs.declared.fault.ImageFault.TheVariants as image
use Rattle.c25_layout.specs.Hints.{hint_data, hints_of}
use Rattle.c25_layout.specs.declared.hint.Hint.{Hint}
use Rattle.c25_meaning_common.specs.Results.{MeetsBy, told}

-- hints as the code has them
abbrev pub HintList : Type 0
HintList = Vec (Hint (String Global)) Global

-- an answer is the hints of a text, or its first faulty line (92)
abbrev pub AreHints : (text : List ℕ) → Answer HintList → Type 0
AreHints text answer = MeetsBy image_fault (λ hints. map hint_data hints.items) (told image.Hint (hints_of text)) answer

-- the hints of the file of this name, or why there are none
abbrev pub ReadsNamedHints : Held → (name : List ℕ) → Answer HintList → Type 0
ReadsNamedHints held name answer = AfterFile held name AreHints answer

-- an answer has no hints
abbrev pub HasNone : Answer HintList → Type 0
HasNone (Ok hints) = hints.items ≡ []
HasNone (Err failure) = ⊥

-- the hints of a file, if one is named; else none
abbrev pub ReadsHints : Held → (name : Option (List ℕ)) → Answer HintList → Type 0
ReadsHints held None answer = HasNone answer
ReadsHints held (Some name) answer = ReadsNamedHints held name answer
