-- The answers of a source of an image, as those of its texts.
use Rattle.std.proofs.Common.{◌≡◌, ℕ, List, Ok, string_bytes, subst, sym}
use Rattle.std.specs.FinMap as finite
use Rattle.std.specs.Ordering.{nat_cmp}
use Rattle.c25_layout.specs.Layout.{ArePartsOf}
use Rattle.c25_source.specs.Answer.{Answers, IsLaidOut, files_of_parts}
use Rattle.c25_source.specs.Rebuilt.{IsRebuilt, SourceFiles}
use Rattle.c25_source.specs.declared.source.Source.{Source}

-- the texts of parts that are rebuilt
pub sure : (name : List ℕ) (words : finite.FinMap nat_cmp ℕ) (blank : ℕ) (made : Source) → IsLaidOut made → ArePartsOf words blank made.parts.items → IsRebuilt (files_of_parts name made.parts.items) words blank → Answers name words blank (Ok made)
sure name words blank made laid are h =
    (laid, are, subst (λ (f : SourceFiles). IsRebuilt f words blank) (λ i. record { name = name; source = (sym laid.source) i; command = (sym laid.command) i }) h)
