-- What is reported of images, what is written of them, and what is done for what `dis` is asked for.
use Rattle.std.proofs.Common.{◌≡◌, inl, inr, refl, sym, subst, ℕ, Bool, false, List, [], ◌∷◌, Bor, Option, string_bytes}
use Rattle.std.specs.Io.KnownBytes.{Keeps}
use Rattle.std.specs.Prelude.{IfOk, None, Result, Ok, Err, String}
use Rattle.std.specs.declared.alloc.Global.{Global}
use Rattle.c25_disk.specs.Held.{Held, Stay}
use Rattle.c25_chain.specs.declared.fault.ChainFault.{ChainFault}
use Rattle.c25_image_source.specs.Asked.{first_file}
use Rattle.c25_image_source.specs.Faults.{image_fault, image_line}
use Rattle.c25_image_source.specs.Made.{AreNames, MakesSource, overwrites, source_name}
use Rattle.c25_image_source.specs.declared.asked.DisAsked.{DisAsked}
use Rattle.c25_image_source.specs.declared.asked.ImageAsked.{ImageAsked}
use Rattle.c25_image_source.specs.declared.fault.ImageFault.{ImageFault}
use Rattle.c25_image_source.specs.declared.fault.ImageFault.TheVariants as image
use Rattle.c25_image_source.specs.declared.fault.SourceFault.{SourceFault}
use Rattle.c25_image_source.specs.declared.made.MadeNames.{MadeNames}
use Rattle.c25_image_source.specs.declared.made.MadeSource.{MadeSource}
use Rattle.c25_image_source.specs.declared.mistake.Mistake.{Mistake}
use Rattle.c25_inputs.specs.Files.{SourceNames, plain_names}
use Rattle.c25_meaning_common.specs.declared.failure.Failure.{Failure}
use Rattle.c25_meaning_common.specs.declared.no_memory.NoMemory.{NoMemory}
use Rattle.c25_options.specs.Task.{text_of}
use Rattle.c25_report.specs.declared.ending.Ending.{Ending}
use Rattle.c25_source_notes.specs.declared.notes.SourceNotes.{SourceNotes}
use Rattle.c25_tasks.specs.BuildToDisk.{WritesAndPrints}
use Rattle.c25_tasks.specs.Images.{DoesAsked, DoesBy, DoesSource, IsImageNote, OnlyMisuse, TellsFailure, TellsImage, TellsNoted, WritesBy, WritesMade, WritesUnder, WritesUnless, made_files}
use Rattle.c25_tasks.specs.Reading.{AreNotesUnder}
use Rattle.c25_tasks.specs.Running.{is_explained}
use Rattle.c25_tasks.specs.Tells.{IsMisuse, Printed, Wrote}

-- ---- lines

-- the text of a line that was made
pub ok_text : (answer : Result (String Global) NoMemory) (line : String Global) (text : List ℕ) → answer ≡ Ok line → IfOk answer (λ l. string_bytes l ≡ text) → string_bytes line ≡ text
ok_text answer line text is holds = subst (λ (r : Result (String Global) NoMemory). IfOk r (λ l. string_bytes l ≡ text)) is holds

-- a line that is reported with its note
pub noted_by : (text : List ℕ) (noted : List ℕ → Type 0) (given : List ℕ) (e : Ending) (note : List ℕ) → noted given → TellsNoted text (λ n. n ≡ given) e note → TellsNoted text noted e note
noted_by text noted given e note holds (inl (has, is)) = inl (has, subst noted (sym is) holds)
noted_by text noted given e note holds (inr short) = inr short

-- a fault that is none of the chain's is reported with its note
pub tells_own : (held : Held) (notes : SourceNotes) (hints : Option (List ℕ)) (fault : ImageFault (String Global)) (e : Ending) (note : List ℕ) → ((f : ChainFault (String Global)) → fault ≡ image.Chain f → ⊥)
    → TellsNoted (image_line (image_fault fault)) (IsImageNote held hints (is_explained notes) fault) e note → TellsImage held notes hints fault e note
tells_own held notes hints (image.Chain f) e note none own = absurd (none f refl)
tells_own held notes hints (image.NoHex name) e note none own = own
tells_own held notes hints (image.Binary f) e note none own = own
tells_own held notes hints (image.Hint line) e note none own = own

-- a misuse that is reported, and nothing is done
pub only_misuse : (line : List ℕ) (e told : Ending) (note : List ℕ) (written : Wrote) (out : Printed) → told ≡ e → note ≡ [] → IsMisuse line e → Stay written.0 written.1 → Keeps out.0 out.1 → OnlyMisuse line told note written out
only_misuse line e told note written out same none misuse stay keeps = (subst (λ (x : Ending). IsMisuse line x) (sym same) misuse, none, (stay, keeps))

-- ---- what is written

module _ (held : Held) (notes : SourceNotes) (asked : ImageAsked) (source command : List ℕ) (answer : Result MadeSource (Failure SourceFault)) (e : Ending) (note : List ℕ) (written : Wrote) (out : Printed) where
  -- an image has a source
  pub under_made : (made : MadeSource) → answer ≡ Ok made → MakesSource held asked source answer → WritesAndPrints held notes (made_files source command made.source) (string_bytes made.told) e note written out
      → WritesUnder held notes asked source command e note written out
  under_made made is makes writes =
      (answer, makes, subst (λ (r : Result MadeSource (Failure SourceFault)). WritesMade held notes (text_of asked.hints) source command r e note written out) (sym is) writes)

  -- an image has no source
  pub under_failed : (failed : Failure SourceFault) → answer ≡ Err failed → MakesSource held asked source answer → TellsFailure held notes (text_of asked.hints) failed e note → Stay written.0 written.1 → Keeps out.0 out.1
      → WritesUnder held notes asked source command e note written out
  under_failed failed is makes tells stay keeps =
      (answer, makes, subst (λ (r : Result MadeSource (Failure SourceFault)). WritesMade held notes (text_of asked.hints) source command r e note written out) (sym is) (tells, (stay, keeps)))

module _ (held : Held) (notes : SourceNotes) (asked : ImageAsked) (source command : List ℕ) (e : Ending) (note : List ℕ) (written : Wrote) (out : Printed) where
  -- what is done by whether a file that is read would be written
  pub unless_by : (b : Bool) → b ≡ overwrites asked source command → WritesBy b held notes asked source command e note written out → WritesUnless held notes asked source command e note written out
  unless_by b is writes = subst (λ (x : Bool). WritesBy x held notes asked source command e note written out) is writes

-- an image is written under the names that its base gives
pub does_source : (held : Held) (given : SourceNames) (notes : SourceNotes) (explain : Bool) (asked : ImageAsked) (file : Bor (List ℕ)) (names : MadeNames) (e : Ending) (note : List ℕ) (written : Wrote) (out : Printed) → AreNames asked.base.now names
    → given ≡ plain_names [] → file ≡ first_file asked.files → AreNotesUnder (record { explain = explain; all = false }) None given (file.now ∷ []) notes
    → WritesUnless held notes asked (string_bytes names.source) (string_bytes names.command) e note written out → DoesSource held explain asked e note written out
does_source held given notes explain asked file names e note written out are plain first noting writes =
    let of_source = subst (λ (s : List ℕ). WritesUnless held notes asked s (string_bytes names.command) e note written out) are.source writes in
    let of_both = subst (λ (s : List ℕ). WritesUnless held notes asked (source_name asked.base.now) s e note written out) are.command of_source in
    let of_plain = subst (λ (s : SourceNames). AreNotesUnder (record { explain = explain; all = false }) None s (file.now ∷ []) notes) plain noting in
    inr (notes, subst (λ (f : Bor (List ℕ)). AreNotesUnder (record { explain = explain; all = false }) None (plain_names []) (f.now ∷ []) notes) first of_plain, of_both)

-- ---- what is asked for

module _ (held : Held) (explain : Bool) (e : Ending) (note : List ℕ) (written : Wrote) (out : Printed) where
  pub does_asked : (asked given : DisAsked) → asked ≡ given → DoesAsked held explain given e note written out → DoesAsked held explain asked e note written out
  does_asked asked given is does = subst (λ (a : DisAsked). DoesAsked held explain a e note written out) (sym is) does

  pub does_by : (meant answer given : Result DisAsked Mistake) → answer ≡ meant → answer ≡ given → DoesBy held explain given e note written out → DoesBy held explain meant e note written out
  does_by meant answer given are is does =
      let of_answer = subst (λ (r : Result DisAsked Mistake). DoesBy held explain r e note written out) (sym is) does in
      subst (λ (r : Result DisAsked Mistake). DoesBy held explain r e note written out) are of_answer
