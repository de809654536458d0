-- Lines of a script that are refused for the end of the memory.
use Rattle.std.proofs.Common.{◌≡◌, ℕ, ◌<◌, ◌+◌, Bool, true, false, cond, List, [], ◌∷◌, Option, Some, None, is_some, refl, arith}
use Rattle.std.specs.Prelude.{codes, nat_le, option_and_then, option_map, ◌||◌}
use Rattle.std.specs.List.{list_any}
use Rattle.std.specs.Str.{str_eq_ignore_ascii_case}
use Rattle.std.proofs.lemmas.Bool.Decides.{nat_tests}
use Rattle.c25_meaning_common.specs.Digits.{decimal_of, hexadecimal_of}
use Rattle.c25_meaning_processor.specs.Script.{command_with_two, script_command_of, words_in_memory}
use Rattle.c25_meaning_processor.specs.declared.script.Cmd.{Cmd}
use Rattle.c25_meaning_processor.specs.declared.script.Cmd.TheVariants as cmd
use Rattle.c25_file_hints.specs.Items.{IsPastMemory, command_cause, command_parts_cause, is_comment, memory_cause, shows_words, stands_alone, takes_address, takes_count}
use Rattle.c25_file_hints.specs.declared.cause.Cause.{Cause}
use Rattle.c25_file_hints.specs.declared.cause.Cause.TheVariants as cause

-- an address and a count whose words do not all lie in the memory
beyond : (name address count : List ℕ) (first words : Option ℕ) → hexadecimal_of 1 address ≡ first → decimal_of 4294967295 count ≡ words
    → option_and_then {U = ℕ × ℕ} (λ a. option_and_then {U = ℕ × ℕ} (λ n. cond {A = Option (ℕ × ℕ)} (nat_le (a + n) 65536) (Some (a, n)) None) words) first ≡ None
    → cond (is_some first) (cond (is_some words) cause.PastMemory cause.MemoryCount) cause.MemoryAddress ≡ cause.PastMemory
    → IsPastMemory (name ∷ address ∷ count ∷ [])
beyond name address count None words is_first is_words none because = absurd cc
beyond name address count (Some a) None is_first is_words none because = absurd cc
beyond name address count (Some a) (Some n) is_first is_words none because = (a, is_first, (n, is_words, by (nat_le (a + n) 65536) refl none)) where
  by : (b : Bool) → nat_le (a + n) 65536 ≡ b → cond {A = Option (ℕ × ℕ)} b (Some (a, n)) None ≡ None → 65536 < a + n
  by true fits none = absurd cc
  by false fits none = grind (arith, nat_tests)

-- what a command that shows words of the memory is, where it is none
no_words : (d p : Bool) (range : Option (ℕ × ℕ))
    → cond d (option_map (λ r. cmd.Data r.0 r.1) range) (cond p (option_map (λ r. cmd.Prog r.0 r.1) range) None) ≡ None → (d || p) ≡ true → range ≡ None
no_words true p None none shows = refl
no_words true p (Some r) none shows = absurd cc
no_words false true None none shows = refl
no_words false true (Some r) none shows = absurd cc
no_words false false range none shows = absurd cc

-- the cause of a name and what stands after it, where it is the end of the memory
memory : (alone count address shows : Bool) (because : Cause)
    → cond alone cause.Alone (cond count cause.Count (cond address cause.Address (cond shows because cause.Command))) ≡ cause.PastMemory
    → (shows ≡ true) × (because ≡ cause.PastMemory)
memory true count address shows because is = absurd cc
memory false true address shows because is = absurd cc
memory false false true shows because is = absurd cc
memory false false false true because is = (refl, is)
memory false false false false because is = absurd cc

-- other than two parts after the name are refused for another cause
parts : {A : Type 0} (name : List ℕ)
    → cond (stands_alone name) cause.Alone (cond (takes_count name) cause.Count (cond (takes_address name) cause.Address (cond (shows_words name) cause.MemoryParts cause.Command))) ≡ cause.PastMemory → A
parts name because = absurd (other (memory (stands_alone name) (takes_count name) (takes_address name) (shows_words name) cause.MemoryParts because).1) where
  other : cause.MemoryParts ≡ cause.PastMemory → ⊥
  other is = cc

-- without comments
parts_past_memory : (before : List Cmd) (parts : List (List ℕ)) → script_command_of before parts ≡ None → command_parts_cause parts ≡ cause.PastMemory → IsPastMemory parts
unfolding command_with_two shows_words words_in_memory
parts_past_memory before [] none because = absurd cc
parts_past_memory before (name ∷ []) none because = parts name because
parts_past_memory before (name ∷ address ∷ []) none because = parts name because
parts_past_memory before (name ∷ address ∷ count ∷ other ∷ rest) none because = parts name because
parts_past_memory before (name ∷ address ∷ count ∷ []) none because = beyond name address count (hexadecimal_of 1 address) (decimal_of 4294967295 count) refl refl range is.1 where
  is : (shows_words name ≡ true) × (memory_cause (address ∷ count ∷ []) ≡ cause.PastMemory)
  is = memory (stands_alone name) (takes_count name) (takes_address name) (shows_words name) (memory_cause (address ∷ count ∷ [])) because

  range : words_in_memory address count ≡ None
  range = no_words (str_eq_ignore_ascii_case name (codes "data")) (str_eq_ignore_ascii_case name (codes "prog")) (words_in_memory address count) none is.0

-- where no comment stands in a line, the cause is that of its parts
of_parts : (comment : Bool) (because : Cause) → cond comment cause.Comment because ≡ cause.PastMemory → because ≡ cause.PastMemory
of_parts true because is = absurd cc
of_parts false because is = is

pub past_memory : (before : List Cmd) (parts : List (List ℕ)) → script_command_of before parts ≡ None → command_cause parts ≡ cause.PastMemory → IsPastMemory parts
past_memory before parts none because = parts_past_memory before parts none (of_parts (list_any is_comment parts) (command_parts_cause parts) because)
