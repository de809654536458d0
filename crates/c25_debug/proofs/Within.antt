-- Scripts that are read show only words that there are.
use Rattle.std.proofs.Common.{◌≡◌, ℕ, ◌+◌, ◌≤◌, Bool, true, false, List, [], ◌∷◌, ◌++◌, Option, Some, None, Ok, refl, subst, nat_le, option_map, option_and_then, if◌then◌else◌}
use Rattle.std.specs.Prelude.{IfSome, codes}
use Rattle.std.specs.Str.{str_eq_ignore_ascii_case}
use Rattle.std.specs.Str.Lines.{lines}
use Rattle.std.proofs.lemmas.Bool.{leb-true}
use Rattle.c25_meaning_processor.specs.declared.script.Cmd.{Cmd}
use Rattle.c25_meaning_processor.specs.declared.script.Cmd.TheVariants as cmd
use Rattle.c25_meaning_common.specs.Digits.{decimal_of, hexadecimal_of}
use Rattle.c25_meaning_processor.specs.Script.{words_in_memory, plain_command, command_with_one, command_with_two, script_command_of, script_of}
use Rattle.c25_meaning_common.proofs.ItemsHold.{items_hold}
use Rattle.c25_debug.specs.WithinMemory.{IsWithin, AreWithin}

one_more : (before : List Cmd) (a : Cmd) → AreWithin before → IsWithin a → AreWithin (before ++ a ∷ [])
one_more [] a h l = (l, tt)
one_more (b ∷ before) a h l = (h.0, one_more before a h.1 l)

-- ---- what holds of an option that is made of others

chosen : {A : Type 0} (P : A → Type 0) (b : Bool) (x y : Option A) → IfSome x P → IfSome y P → IfSome (if b then x else y) P
chosen P true x y h k = h
chosen P false x y h k = k

mapped : {A B : Type 0} (P : B → Type 0) (f : A → B) (o : Option A) → ((a : A) → P (f a)) → IfSome (option_map f o) P
mapped P f None h = tt
mapped P f (Some a) h = h a

followed : {A B : Type 0} (P : B → Type 0) (f : A → Option B) (o : Option A) → ((a : A) → IfSome (f a) P) → IfSome (option_and_then f o) P
followed P f None h = tt
followed P f (Some a) h = h a

-- ---- the commands

short : (a n : ℕ) (b : Bool) → b ≡ nat_le (a + n) 65536 → IfSome {T = ℕ × ℕ} (if b then Some (a, n) else None) (λ r. r.0 + r.1 ≤ 65536)
short a n true e = leb-true (a + n) 65536 (cc)
short a n false e = tt

within : (address count : List ℕ) → IfSome (words_in_memory address count) (λ r. r.0 + r.1 ≤ 65536)
unfolding words_in_memory
within address count =
    followed (λ r. r.0 + r.1 ≤ 65536) _ (hexadecimal_of 1 address)
    (λ a. followed (λ r. r.0 + r.1 ≤ 65536) _ (decimal_of 4294967295 count) (λ n. short a n (nat_le (a + n) 65536) refl))

shown : (make : ℕ × ℕ → Cmd) (o : Option (ℕ × ℕ)) → ((r : ℕ × ℕ) → r.0 + r.1 ≤ 65536 → IsWithin (make r)) → IfSome o (λ r. r.0 + r.1 ≤ 65536) → IfSome (option_map make o) IsWithin
shown make None h k = tt
shown make (Some r) h k = h r k

plain : (word : List ℕ) → IfSome (plain_command word) IsWithin
unfolding plain_command
plain word =
    chosen IsWithin (str_eq_ignore_ascii_case word (codes "regs")) _ _ tt
    (chosen IsWithin (str_eq_ignore_ascii_case word (codes "stack")) _ _ tt
    (chosen IsWithin (str_eq_ignore_ascii_case word (codes "where")) _ _ tt
    (chosen IsWithin (str_eq_ignore_ascii_case word (codes "symbols")) _ _ tt tt)))

with_one : (word number : List ℕ) → IfSome (command_with_one word number) IsWithin
unfolding command_with_one
with_one word number =
    chosen IsWithin (str_eq_ignore_ascii_case word (codes "step")) _ _ (mapped IsWithin cmd.Step (decimal_of 4294967295 number) (λ n. tt))
    (chosen IsWithin (str_eq_ignore_ascii_case word (codes "run")) _ _ (mapped IsWithin cmd.Run (decimal_of 4294967295 number) (λ n. tt))
    (chosen IsWithin (str_eq_ignore_ascii_case word (codes "list")) _ _ (mapped IsWithin cmd.List (decimal_of 4294967295 number) (λ n. tt))
    (chosen IsWithin (str_eq_ignore_ascii_case word (codes "break")) _ _ (mapped IsWithin cmd.Break (hexadecimal_of 1 number) (λ n. tt))
    (chosen IsWithin (str_eq_ignore_ascii_case word (codes "clear")) _ _ (mapped IsWithin cmd.Clear (hexadecimal_of 1 number) (λ n. tt)) tt))))

with_two : (word address count : List ℕ) → IfSome (command_with_two word address count) IsWithin
unfolding command_with_two
with_two word address count =
    chosen IsWithin (str_eq_ignore_ascii_case word (codes "data")) _ _ (shown (λ r. cmd.Data r.0 r.1) (words_in_memory address count) (λ r h. h) (within address count))
    (chosen IsWithin (str_eq_ignore_ascii_case word (codes "prog")) _ _ (shown (λ r. cmd.Prog r.0 r.1) (words_in_memory address count) (λ r h. h) (within address count)) tt)

of_words : (before : List Cmd) (words : List (List ℕ)) → IfSome (script_command_of before words) IsWithin
of_words before [] = tt
of_words before (word ∷ []) = plain word
of_words before (word ∷ number ∷ []) = with_one word number
of_words before (word ∷ address ∷ count ∷ []) = with_two word address count
of_words before (word ∷ address ∷ count ∷ more ∷ rest) = tt

found : (o : Option Cmd) (a : Cmd) → IfSome o IsWithin → o ≡ Some a → IsWithin a
found None a h e = absurd (cc)
found (Some b) a h e = let same : b ≡ a = cc in subst IsWithin same h

one_command : (before : List Cmd) (words : List (List ℕ)) (a : Cmd) → AreWithin before → script_command_of before words ≡ Some a → AreWithin (before ++ a ∷ [])
one_command before words a holds e = one_more before a holds (found (script_command_of before words) a (of_words before words) e)

pub script_within : (text : List ℕ) (commands : List Cmd) → script_of text ≡ Ok commands → AreWithin commands
script_within text commands h = items_hold AreWithin script_command_of one_command [] commands 1 (lines text) tt h
