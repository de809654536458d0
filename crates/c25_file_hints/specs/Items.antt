-- Why a line of samples, of a schedule or of a script is refused.
use Rattle.std.specs.Prelude.{◌≡◌, ◌<◌, ◌+◌, ◌==◌, ℕ, Bool, List, [], ◌∷◌, codes, slice_index, Option, Some, None, is_some, option_map, if◌then◌else◌, ◌||◌}
use Rattle.std.specs.List.{list_any}
use Rattle.std.specs.Str.{str_eq_ignore_ascii_case}
use Rattle.c25_meaning_common.specs.Digits.{decimal_of, hexadecimal_of}
use Rattle.c25_meaning_processor.specs.Schedule.{event_of, last_step}
use Rattle.c25_meaning_processor.specs.declared.schedule.ScheduleEntry.{ScheduleEntry}
use Rattle.c25_file_hints.specs.declared.cause.Cause.{Cause}
use Rattle.c25_file_hints.specs.declared.cause.Cause.TheVariants as cause

-- what is wanted in a line
abbrev pub cause_text : Cause → List ℕ
cause_text cause.Comment = codes "there are no comments in samples, schedules and scripts: take it out"
cause_text cause.SampleParts = codes "a line has two parts, a port and a word"
cause_text cause.Port = codes "the first part is a port, a decimal number from 0 to 15"
cause_text cause.Word = codes "the second part is a word of four hexadecimal digits, without h"
cause_text cause.EntryParts = codes "a line has two parts, a step and an event"
cause_text cause.Step = codes "the first part is a step, a decimal number up to 4294967295"
cause_text cause.Event = codes "the second part is INT0, INT1, INT2, BIO0 or BIO1"
cause_text cause.Order = codes "the step is less than that of the line before"
cause_text cause.Command = codes "a command is step, run, list, break, clear, regs, data, prog, stack, where or symbols"
cause_text cause.Alone = codes "regs, stack, where and symbols stand alone in a line"
cause_text cause.Count = codes "after step, run or list stands a count alone, a decimal number up to 4294967295"
cause_text cause.Address = codes "after break or clear stands an address alone, one to four hexadecimal digits without h"
cause_text cause.MemoryParts = codes "after data or prog stand an address and a count of words"
cause_text cause.MemoryAddress = codes "the second part is an address, one to four hexadecimal digits without h"
cause_text cause.MemoryCount = codes "the third part is a count of words, a decimal number up to 4294967295"
cause_text cause.PastMemory = codes "the words go on past FFFF, the last word of the memory"

-- whether a byte begins a comment in other files, besides `;`: `*`, `#` or `/`
abbrev pub begins_comment : ℕ → Bool
begins_comment b = b == 42 || b == 35 || b == 47

-- whether a part of a line is of a comment, as other files have them: it has a `;`, or begins with such a byte
abbrev pub is_comment : List ℕ → Bool
is_comment part = list_any (λ b. b == 59) part || begins_comment (slice_index part 0)

-- that a comment stands in a line of these parts, if one does, and else this cause
abbrev pub or_comment : List (List ℕ) → Cause → Cause
or_comment parts because = if list_any is_comment parts then cause.Comment else because

-- the first of two tests that fails, by its cause
abbrev pub first_failed : (first : Bool) → Cause → (second : Bool) → Cause → Option Cause
first_failed first because second other = if first then (if second then None else Some other) else Some because

-- why the parts of a line are no sample, comments aside
abbrev pub sample_parts_cause : List (List ℕ) → Option Cause
sample_parts_cause [] = None
sample_parts_cause (port ∷ word ∷ []) = first_failed (is_some (decimal_of 15 port)) cause.Port (is_some (hexadecimal_of 4 word)) cause.Word
sample_parts_cause (part ∷ parts) = Some cause.SampleParts

-- why the parts of a line are no sample; none where they are one, or the line is blank
abbrev pub sample_cause : List (List ℕ) → Option Cause
sample_cause parts = option_map (or_comment parts) (sample_parts_cause parts)

-- why two parts are refused in a schedule
abbrev pub pair_cause : (step event : List ℕ) → Cause
pair_cause step event = if is_some (decimal_of 4294967295 step) then (if is_some (event_of event) then cause.Order else cause.Event) else cause.Step

-- why the parts of a line are refused in a schedule, comments aside
abbrev pub entry_parts_cause : List (List ℕ) → Cause
entry_parts_cause (step ∷ event ∷ []) = pair_cause step event
entry_parts_cause parts = cause.EntryParts

-- why the parts of a line are refused in a schedule, where the line is refused after those before it
abbrev pub entry_cause : List (List ℕ) → Cause
entry_cause parts = or_comment parts (entry_parts_cause parts)

-- the first part of a line is a step that is less than the last one of these entries
abbrev pub IsEarlier : List ScheduleEntry → List (List ℕ) → Type 0
IsEarlier before [] = ⊥
IsEarlier before (part ∷ parts) = (step : ℕ) × (decimal_of 4294967295 part ≡ Some step) × (step < last_step before)

-- whether a part of a line is this name, in letters of either case
abbrev pub is_name : (part name : List ℕ) → Bool
is_name part name = str_eq_ignore_ascii_case part name

-- whether a part is the name of a command that stands alone
unfoldable pub stands_alone : List ℕ → Bool
stands_alone part = is_name part (codes "regs") || is_name part (codes "stack") || is_name part (codes "where") || is_name part (codes "symbols")

-- whether a part is the name of a command that takes a count
unfoldable pub takes_count : List ℕ → Bool
takes_count part = is_name part (codes "step") || is_name part (codes "run") || is_name part (codes "list")

-- whether a part is the name of a command that takes an address
unfoldable pub takes_address : List ℕ → Bool
takes_address part = is_name part (codes "break") || is_name part (codes "clear")

-- whether a part is the name of a command that shows words of the memory
unfoldable pub shows_words : List ℕ → Bool
shows_words part = is_name part (codes "data") || is_name part (codes "prog")

-- why what stands after `data` or `prog` is refused
abbrev pub memory_cause : List (List ℕ) → Cause
memory_cause (address ∷ count ∷ []) =
    if is_some (hexadecimal_of 1 address) then (if is_some (decimal_of 4294967295 count) then cause.PastMemory else cause.MemoryCount) else cause.MemoryAddress
memory_cause parts = cause.MemoryParts

-- why the parts of a line of a script are refused, comments aside
abbrev pub command_parts_cause : List (List ℕ) → Cause
command_parts_cause [] = cause.Command
command_parts_cause (name ∷ parts) =
    if stands_alone name then cause.Alone
    else (if takes_count name then cause.Count
    else (if takes_address name then cause.Address
    else (if shows_words name then memory_cause parts
    else cause.Command)))

-- why the parts of a line of a script are refused, where they are no command
abbrev pub command_cause : List (List ℕ) → Cause
command_cause parts = or_comment parts (command_parts_cause parts)

-- the last word that an address and a count ask for is past the end of the memory
abbrev pub IsPastMemory : List (List ℕ) → Type 0
IsPastMemory (name ∷ address ∷ count ∷ []) =
    (first : ℕ) × (hexadecimal_of 1 address ≡ Some first) × ((words : ℕ) × (decimal_of 4294967295 count ≡ Some words) × (65536 < first + words))
IsPastMemory parts = ⊥
