-- The task `run` with its files of counts.
use Rattle.std.proofs.Common.{◌≡◌, ◌∙◌, ap, inl, inr, refl, subst, sym, ℕ, Bool, true, false, ◌&&◌, ◌++◌, List, [], map, string_bytes, Option}
use Rattle.std.specs.Prelude.{IfNone, IfSome, None, Some}
use Rattle.c25_coverage.specs.declared.run.LineCounts.{LineCounts}
use Rattle.c25_disk.specs.Held.{Held, Stay}
use Rattle.c25_disk.specs.Written.{contents_of}
use Rattle.c25_disk.specs.declared.writing.Output.{Output}
use Rattle.c25_inputs.specs.Files.{SourceNames}
use Rattle.c25_meaning_expansion.specs.Files.{Files}
use Rattle.c25_options.specs.declared.task.RunFiles.{RunFiles}
use Rattle.c25_options.specs.declared.task.RunResults.{RunResults}
use Rattle.c25_report.specs.Ending.{IsShort}
use Rattle.c25_report.specs.declared.ending.Ending.{Ending}
use Rattle.c25_source_notes.specs.declared.notes.SourceNotes.{SourceNotes}
use Rattle.c25_tasks.specs.Counting.{AreCountsFrom, WritesCounts, counts_files}
use Rattle.c25_tasks.specs.Tells.{Wrote, WritesAfter}

-- what is known of sources and of a disk as they are lent is known of those of the task
pub seen : (P : Held → SourceNames → Type 0) (given meant : SourceNames) (read whole : Held) → given ≡ meant → read ≡ whole → P read given → P whole meant
seen P given meant read whole same of_read p = subst (λ (h : Held). P h meant) of_read (subst (λ (s : SourceNames). P read s) same p)

both_counted : (counted ran : Bool) → (counted && ran) ≡ true → (counted ≡ true) × (ran ≡ true)
both_counted true ran e = (refl, e)
both_counted false ran e = absurd (cc)

module _ (writes : Bool) (notes : SourceNotes) (results : RunResults) (told : Ending) (front : List ℕ) (e : Ending) (note : List ℕ) (written : Wrote) (held : Held) (sources : SourceNames) (steps : ℕ) (files : RunFiles) where
  -- nothing is to be written
  pub none_written : (asked : Bool) → asked ≡ writes → asked ≡ false → e ≡ told → note ≡ front → Stay written.0 written.1 → WritesCounts writes held notes sources steps files results told front e note written
  none_written asked is not same of_note stay = subst (λ (b : Bool). WritesCounts b held notes sources steps files results told front e note written) (sym not ∙ is) (same, of_note, stay)

  -- the files are written, or one cannot be written
  pub counts_written : (asked : Bool) (outputs shown : List Output) (counts : LineCounts) → asked ≡ writes → asked ≡ true → map contents_of outputs ≡ counts_files results (string_bytes counts.lcov) (string_bytes counts.list) → shown ≡ outputs
      → AreCountsFrom held sources steps files (string_bytes counts.lcov) (string_bytes counts.list) → WritesAfter held notes (map contents_of shown) told front e note written
      → WritesCounts writes held notes sources steps files results told front e note written
  counts_written asked outputs shown counts is agreed are same from writes_after =
      let of_outputs = subst (λ (os : List Output). WritesAfter held notes (map contents_of os) told front e note written) same writes_after in
      let of_files = subst (λ (fs : Files). WritesAfter held notes fs told front e note written) are of_outputs in
      subst (λ (b : Bool). WritesCounts b held notes sources steps files results told front e note written) (sym agreed ∙ is) (inl (string_bytes counts.lcov, string_bytes counts.list, from, of_files))

  -- memory runs out
  pub counts_short : (asked : Bool) → asked ≡ writes → asked ≡ true → IsShort e → note ≡ [] → Stay written.0 written.1 → WritesCounts writes held notes sources steps files results told front e note written
  counts_short asked is agreed short none stay = subst (λ (b : Bool). WritesCounts b held notes sources steps files results told front e note written) (sym agreed ∙ is) (inr (short, none, stay))

-- the counts of a run, by what is there
pub counts_there : (found : Option LineCounts) (c : LineCounts) (P : LineCounts → Type 0) → found ≡ Some c → IfSome found P → P c
counts_there found c P is all = subst (λ (o : Option LineCounts). IfSome o P) is all

-- a run that was printed to its end has its counts
pub never_none : {P : Type 0} (counted ran asked : Bool) (found : Option LineCounts) → asked ≡ (counted && ran) → asked ≡ true → (counted ≡ true → IfNone found (ran ≡ false)) → found ≡ None → P
never_none counted ran asked found is agreed none there =
    let both = both_counted counted ran (sym is ∙ agreed) in
    let not : ran ≡ false = subst (λ (o : Option LineCounts). IfNone o (ran ≡ false)) there (none both.0) in
    absurd (let clash = sym not ∙ both.1 in cc)
