-- What is asked of sources of a disk, found by linking them again.
use Rattle.std.proofs.Common.{◌≡◌, subst, sym, ℕ, List, [], Option, Some, None}
use Rattle.std.specs.Prelude.{IfOk, IfSome, Result, Ok, Err}
use Rattle.std.specs.declared.alloc.Global.{Global}
use Rattle.std.specs.declared.vec.Vec.{Vec}
use Rattle.c25_chain.specs.Refusal.{Fault}
use Rattle.c25_disk.specs.Copies.{HasCopied}
use Rattle.c25_disk.specs.Held.{Held, ReadsSources}
use Rattle.c25_meaning_expansion.specs.Files.{Files}
use Rattle.c25_explain.specs.Again.{AreNotesAmong, AreNotesOfSources, Question, notes_view}
use Rattle.c25_inputs.specs.Files.{ComesTo, IsOptional}
use Rattle.c25_explain.specs.declared.note_lines.LinkNote.{LinkNote}

notes_of_sources : (asked : Question) (held : Held) (sources shown : List (List ℕ)) (command : Option (List ℕ)) (given : Files) (text text_shown : List ℕ) (notes : Option (Vec LinkNote Global)) → shown ≡ sources → text_shown ≡ text
    → ReadsSources held [] sources (Ok given) → IsOptional held command text → ((files : Files) × HasCopied held given 256 files × IfSome notes (λ v. AreNotesAmong asked files shown text_shown (notes_view v.items)))
    → IfSome notes (λ v. AreNotesOfSources asked held sources command (notes_view v.items))
notes_of_sources asked held sources shown command given text text_shown None named same read of_command over = tt
notes_of_sources asked held sources shown command given text text_shown (Some notes) named same read of_command (files, copied, told) = record {
  given = given;
  read = read;
  text = text;
  of_command = of_command;
  files = files;
  copied = copied;
  told = subst (λ (t : List ℕ). AreNotesAmong asked files sources t (notes_view notes.items)) same (subst (λ (ns : List (List ℕ)). AreNotesAmong asked files ns text_shown (notes_view notes.items)) named told);
}

-- what comes of looking for it over them
pub notes_of_work : (asked : Question) (held : Held) (sources shown : List (List ℕ)) (command : Option (List ℕ)) (given : Files) (text text_shown : List ℕ) (answer : Result (Option (Vec LinkNote Global)) Fault) → shown ≡ sources → text_shown ≡ text
    → ReadsSources held [] sources (Ok given) → IsOptional held command text → ComesTo held given (λ files result. IfOk result (λ notes. IfSome notes (λ v. AreNotesAmong asked files shown text_shown (notes_view v.items)))) answer
    → IfOk answer (λ notes. IfSome notes (λ v. AreNotesOfSources asked held sources command (notes_view v.items)))
notes_of_work asked held sources shown command given text text_shown (Ok seen) named same read of_command (Ok found, (files, copied, told), is) =
    notes_of_sources asked held sources shown command given text text_shown seen named same read of_command
    (files, copied, subst (λ (n : Option (Vec LinkNote Global)). IfSome n (λ v. AreNotesAmong asked files shown text_shown (notes_view v.items))) (sym is) told)
notes_of_work asked held sources shown command given text text_shown (Ok seen) named same read of_command (Err failure, over, is) = absurd is
notes_of_work asked held sources shown command given text text_shown (Err fault) named same read of_command comes = tt
