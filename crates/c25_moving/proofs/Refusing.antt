-- How the program ends where nothing is moved.
use Rattle.std.proofs.Common.{◌≡◌, ◌++◌, ◌∙◌, ℕ, Bool, true, false, not, List, Option, Some, None, Result, Ok, Err, IfErr, append-nil, ap, inl, inr, map, refl, string_bytes, subst, sym}
use Rattle.std.specs.Io.KnownBytes.{Keeps}
use Rattle.std.specs.List.{Any}
use Rattle.std.specs.Prelude.{String}
use Rattle.std.specs.Result.{IsErrAnd}
use Rattle.std.specs.declared.alloc.Global.{Global}
use Rattle.c25_disk.specs.Held.{Held, Stay}
use Rattle.c25_disk.specs.Written.{IsUnwritten, contents_of}
use Rattle.c25_disk.specs.declared.fault.FileFault.{FileFault}
use Rattle.c25_disk.specs.declared.fault.FileFault.TheVariants.{CannotWrite}
use Rattle.c25_disk.specs.declared.writing.Output.{Output}
use Rattle.c25_meaning_common.specs.declared.failure.Failure.{Failure}
use Rattle.c25_meaning_common.specs.declared.failure.Failure.TheVariants as failure
use Rattle.c25_meaning_common.specs.declared.no_memory.NoMemory as no_memory
use Rattle.c25_meaning_common.specs.declared.placed.Placed.{Placed}
use Rattle.c25_meaning_expansion.specs.Files.{Files}
use Rattle.c25_options.specs.Task.{text_of}
use Rattle.c25_options.specs.declared.task.MoveTask.{MoveTask}
use Rattle.c25_report.specs.Ending.{IsShort}
use Rattle.c25_report.specs.declared.ending.Ending.{Ending}
use Rattle.c25_report.specs.declared.ending.Ending.TheVariants as ending
use Rattle.c25_move_files.specs.Refusals.{AreRefused, IsFaulty, IsMisused, IsNoCodePage, IsNoOrder, IsNoProgram, IsNoStyle, file_line}
use Rattle.c25_move_files.specs.declared.refusals.Refusal.{Refusal}
use Rattle.c25_move_files.specs.declared.refusals.Refusal.TheVariants.{Faulty, Misused, NoMemory}
use Rattle.c25_move_files.specs.Files.{new_of, old_of}
use Rattle.c25_move_files.specs.Names.{meet}
use Rattle.c25_move_files.specs.declared.gathered.Gathered.{Gathered}
use Rattle.c25_move_files.specs.declared.gathered.OldSources.{OldSources}
use Rattle.c25_moving.specs.Moving.{AreUnread, EndsBy, EndsFaulty, Finishes, HasNoArgument, IsAskedBy, IsNoProgramOf, IsRefusal, MayBeOld, WouldReplace, WouldReplaceNamed, WritesThenReports, command_output, ending_of, in_place_line, names_of_task, written_files}
use Rattle.c25_moving.specs.declared.made.Made.{Made}

-- the ending of a refusal of inputs
pub faulty_end : (faulty misused holds : List ℕ → Type 0) (r : Refusal) (e : Ending) → e ≡ ending_of r → ((line : List ℕ) → holds line → faulty line) → IsFaulty holds r → EndsBy faulty misused e
faulty_end faulty misused holds r e same turn is = subst (EndsBy faulty misused) (sym same) (by_cases r is)
  where
    by_cases : (r : Refusal) → IsFaulty holds r → EndsBy faulty misused (ending_of r)
    by_cases (Faulty line) is = turn (string_bytes line) is
    by_cases (Misused line) is = absurd is
    by_cases (NoMemory n) is = tt

-- the ending of a refusal of an option's argument
pub misused_end : (faulty misused holds : List ℕ → Type 0) (r : Refusal) (e : Ending) → e ≡ ending_of r → ((line : List ℕ) → holds line → misused line) → IsMisused holds r → EndsBy faulty misused e
misused_end faulty misused holds r e same turn is = subst (EndsBy faulty misused) (sym same) (by_cases r is)
  where
    by_cases : (r : Refusal) → IsMisused holds r → EndsBy faulty misused (ending_of r)
    by_cases (Faulty line) is = absurd is
    by_cases (Misused line) is = turn (string_bytes line) is
    by_cases (NoMemory n) is = tt

-- an argument of `--style` names no style
pub no_style : (held : Held) (task : MoveTask) (r : Refusal) (e : Ending) → e ≡ ending_of r → IsMisused (IsNoStyle (text_of task.writing.style)) r → IsRefusal held task e
no_style held task r e same is =
    misused_end (AreUnread held task) (HasNoArgument task) (IsNoStyle (text_of task.writing.style)) r e same (λ line not_so. inl not_so) is

-- an argument of `--long-order` names no order
pub no_order : (held : Held) (task : MoveTask) (r : Refusal) (e : Ending) → e ≡ ending_of r → IsMisused (IsNoOrder (text_of task.writing.long_order)) r → IsRefusal held task e
no_order held task r e same is =
    misused_end (AreUnread held task) (HasNoArgument task) (IsNoOrder (text_of task.writing.long_order)) r e same (λ line not_so. inr (inl not_so)) is

-- an argument of `--from` names no code page
pub no_code_page : (held : Held) (task : MoveTask) (r : Refusal) (e : Ending) → e ≡ ending_of r → IsMisused (IsNoCodePage (text_of task.writing.from)) r → IsRefusal held task e
no_code_page held task r e same is =
    misused_end (AreUnread held task) (HasNoArgument task) (IsNoCodePage (text_of task.writing.from)) r e same (λ line not_so. inr (inr not_so)) is

-- the old files are not read
pub no_files : (held : Held) (task : MoveTask) (asked : OldSources) (r : Refusal) (e : Ending) → IsAskedBy task asked → e ≡ ending_of r → IsFaulty (AreRefused held asked) r → IsRefusal held task e
no_files held task asked r e by same is =
    faulty_end (AreUnread held task) (HasNoArgument task) (AreRefused held asked) r e same (λ line unread. inl (asked, by, unread)) is

-- the old program is not read
pub no_program : (held : Held) (task : MoveTask) (name : List ℕ) (r : Refusal) (e : Ending) → text_of task.hex ≡ Some name → e ≡ ending_of r → IsFaulty (IsNoProgram held name) r → IsRefusal held task e
no_program held task name r e named same is =
    faulty_end (AreUnread held task) (HasNoArgument task) (IsNoProgram held name) r e same
    (λ line not_so. inr (subst (λ (hex : Option (List ℕ)). IsNoProgramOf held hex line) (sym named) not_so)) is

-- the ending where memory ran out
pub short_end : (faulty misused : List ℕ → Type 0) (e : Ending) → IsShort e → EndsBy faulty misused e
short_end faulty misused e (n, same) = subst (EndsBy faulty misused) (sym same) tt

pub all_short : {A : Type 0} (faulty misused : List ℕ → Type 0) (r : Result A Ending) → IfErr r IsShort → IfErr r (EndsBy faulty misused)
all_short faulty misused (Ok a) is = tt
all_short faulty misused (Err e) is = short_end faulty misused e is

-- an ending that `?` hands on
pub handed_on : {A : Type 0} (holds : Ending → Type 0) (r : Result A Ending) (e : Ending) → IsErrAnd r (λ x. x ≡ e) → holds e → IfErr r holds
handed_on holds (Ok a) e is held = tt
handed_on holds (Err x) e is held = subst holds (sym is) held

-- what holds of the line holds of it in other words
pub end_in_other_words : (holds other : List ℕ → Type 0) (e : Ending) → ((line : List ℕ) → holds line → other line) → EndsFaulty holds e → EndsFaulty other e
end_in_other_words holds other (ending.Faulty line) turn is = turn (string_bytes line) is
end_in_other_words holds other (ending.NoMemory n) turn is = tt
end_in_other_words holds other (ending.Misused line) turn is = absurd is
end_in_other_words holds other e turn is = absurd is

-- nothing was written, and nothing was printed
stays : (files : Option Files) → Stay files files
stays None = tt
stays (Some files) = sym (append-nil files)

keeps : (known : Option (List ℕ)) → Keeps known known
keeps None = tt
keeps (Some xs) = refl

-- the ending where a file that is read would be written, by its name
pub named_in_place : (folder : List ℕ) (read : List (List ℕ)) (files outputs : Files) (e : Ending) (apart : Bool) → outputs ≡ files → apart ≡ not (meet (map (λ f. f.0) outputs) read) → apart ≡ false
    → EndsFaulty (λ line. line ≡ in_place_line folder) e → EndsFaulty (WouldReplaceNamed folder read files) e
named_in_place folder read files outputs e apart same is not_so ends =
    let met : meet (map (λ f. f.0) files) read ≡ true = subst (λ (fs : Files). meet (map (λ f. f.0) fs) read ≡ true) same (meets (meet (map (λ f. f.0) outputs) read) (sym not_so ∙ is)) in
    end_in_other_words (λ line. line ≡ in_place_line folder) (WouldReplaceNamed folder read files) e (λ line at. (at, met)) ends
  where
    meets : (b : Bool) → false ≡ not b → b ≡ true
    meets true known = refl
    meets false known = known

-- the files of a task are not written, since one has the name of a file that is read, or memory ran out
pub refused_by_name : (held : Held) (task : MoveTask) (g : Gathered) (made : Made) (command name : List ℕ) (e : Ending) (files : Option Files) (out : Option (List ℕ)) → command ≡ name
    → written_files task.folder.now made ≡ map new_of made.files.items ++ command_output name (string_bytes made.command)
    → EndsFaulty (WouldReplaceNamed task.folder.now (names_of_task g task) (map new_of made.files.items ++ command_output command (string_bytes made.command))) e
    → Finishes held task g made e files files out out
refused_by_name held task g made command name e files out same written ends =
    let now : EndsFaulty (WouldReplaceNamed task.folder.now (names_of_task g task) (written_files task.folder.now made)) e =
    subst (λ (fs : Files). EndsFaulty (WouldReplaceNamed task.folder.now (names_of_task g task) fs) e) (sym written)
    (subst (λ (n : List ℕ). EndsFaulty (WouldReplaceNamed task.folder.now (names_of_task g task) (map new_of made.files.items ++ command_output n (string_bytes made.command))) e) same ends) in
    inl (
      end_in_other_words (WouldReplaceNamed task.folder.now (names_of_task g task) (written_files task.folder.now made)) (WouldReplace held g.code_page task.folder.now (map old_of g.files.items) (names_of_task g task) (written_files task.folder.now made)) e
          (λ line is. (is.0, inl is.1)) now,
      stays files,
      keeps out,
    )

-- the files of a task are not written, since one may be an old file
pub refused_by_text : (held : Held) (task : MoveTask) (g : Gathered) (made : Made) (command name : List ℕ) (outputs shown : Files) (e : Ending) (files : Option Files) (out : Option (List ℕ)) → command ≡ name
    → written_files task.folder.now made ≡ map new_of made.files.items ++ command_output name (string_bytes made.command) → outputs ≡ map new_of made.files.items ++ command_output command (string_bytes made.command) → shown ≡ outputs
    → Any (MayBeOld held g.code_page (map old_of g.files.items)) shown → EndsFaulty (λ line. line ≡ in_place_line task.folder.now) e → Finishes held task g made e files files out out
refused_by_text held task g made command name outputs shown e files out same written are is old ends =
    let all : shown ≡ written_files task.folder.now made = is ∙ are ∙ ap (λ (n : List ℕ). map new_of made.files.items ++ command_output n (string_bytes made.command)) same ∙ sym written in
    let now : Any (MayBeOld held g.code_page (map old_of g.files.items)) (written_files task.folder.now made) = subst (Any (MayBeOld held g.code_page (map old_of g.files.items))) all old in
    inl (
      end_in_other_words (λ line. line ≡ in_place_line task.folder.now) (WouldReplace held g.code_page task.folder.now (map old_of g.files.items) (names_of_task g task) (written_files task.folder.now made)) e (λ line at. (at, inr now)) ends,
      stays files,
      keeps out,
    )

-- the files of a task are not written, since memory ran out
pub refused_by_memory : (held : Held) (task : MoveTask) (g : Gathered) (made : Made) (e : Ending) (files : Option Files) (out : Option (List ℕ)) → IsShort e → Finishes held task g made e files files out out
refused_by_memory held task g made e files out short =
    inl (short_end (WouldReplace held g.code_page task.folder.now (map old_of g.files.items) (names_of_task g task) (written_files task.folder.now made)) (λ line. ⊥) e short, stays files, keeps out)

-- the files of a task are written
pub written_apart : (held : Held) (task : MoveTask) (g : Gathered) (made : Made) (command name : List ℕ) (outputs shown : Files) (e : Ending) (before after : Option Files) (old new : Option (List ℕ)) → command ≡ name
    → written_files task.folder.now made ≡ map new_of made.files.items ++ command_output name (string_bytes made.command) → outputs ≡ map new_of made.files.items ++ command_output command (string_bytes made.command) → shown ≡ outputs
    → meet (map (λ f. f.0) outputs) (names_of_task g task) ≡ false → WritesThenReports shown made e before after old new → Finishes held task g made e before after old new
written_apart held task g made command name outputs shown e before after old new same written are is apart writes =
    let all : outputs ≡ written_files task.folder.now made = are ∙ ap (λ (n : List ℕ). map new_of made.files.items ++ command_output n (string_bytes made.command)) same ∙ sym written in
    inr (
      subst (λ (fs : Files). meet (map (λ f. f.0) fs) (names_of_task g task) ≡ false) all apart,
      subst (λ (fs : Files). WritesThenReports fs made e before after old new) (is ∙ all) writes,
    )

-- a file is not written, since memory ran out
pub unwritten_short : (outputs : List Output) (made : Made) (r : Failure (Placed (String Global) FileFault)) (n : no_memory.NoMemory) (e : Ending) (before after : Option Files) (out : Option (List ℕ)) → r ≡ failure.NoMemory n
    → IsUnwritten before after outputs r → e ≡ ending.NoMemory n → WritesThenReports (map contents_of outputs) made e before after out out
unwritten_short outputs made r n e before after out is (file, ends, kind) same =
    inr ((file, ends, short_end (λ line. line ≡ file_line file.0 CannotWrite) (λ line. ⊥) e (n, same)), keeps out)

-- a file cannot be written
pub unwritten_fault : (outputs : List Output) (made : Made) (r : Failure (Placed (String Global) FileFault)) (f : Placed (String Global) FileFault) (name : List ℕ) (e : Ending) (before after : Option Files) (out : Option (List ℕ))
    → r ≡ failure.Fault f → name ≡ string_bytes f.place → IsUnwritten before after outputs r → EndsFaulty (λ line. line ≡ file_line name f.fault) e → WritesThenReports (map contents_of outputs) made e before after out out
unwritten_fault outputs made r f name e before after out is shown unwritten ends =
    by_file (subst (IsUnwritten before after outputs) is unwritten)
  where
    by_file : IsUnwritten before after outputs (failure.Fault f) → WritesThenReports (map contents_of outputs) made e before after out out
    by_file (file, stop, reported) =
        inr (
          (
            file,
            stop,
            end_in_other_words (λ line. line ≡ file_line name f.fault) (λ line. line ≡ file_line file.0 CannotWrite) e
                (λ line at. at ∙ ap (λ (n : List ℕ). file_line n f.fault) (shown ∙ reported.0) ∙ ap (λ (k : FileFault). file_line file.0 k) reported.1) ends,
          ),
          keeps out,
        )
