-- The words of operands, their texts, and that they are lexed.
use Rattle.std.proofs.Common.{◌≡◌, ℕ, List, [], ◌∷◌, ◌++◌, codes, Option, Some, None, refl, ap, arith, length, ◌+◌, ◌≤◌}
use Rattle.std.specs.List.{prefix_len}
use Rattle.std.specs.Fmt.{decimal}
use mathlib.Core.List.{append-nil}
use Rattle.c25_meaning_common.specs.Bytes.{is_letter_or_digit, goes_on_name}
use Rattle.c25_meaning_common.specs.Digits.{two_digits}
use Rattle.c25_meaning_language.specs.Lexeme.{lexeme}
use Rattle.c25_meaning_language.specs.declared.line.TokenKind.TheVariants as kind
use Rattle.c25_meaning_language.specs.declared.line.Sign.TheVariants as sign
use Rattle.c25_meaning_instructions.specs.Show.{change_text, place_text, next_text, tail_text}
use Rattle.c25_meaning_instructions.specs.Table.{AddrInRange, NextInRange}
use Rattle.c25_meaning_instructions.specs.declared.insn.Addr.{Addr}
use Rattle.c25_meaning_instructions.specs.declared.insn.Addr.TheVariants as addr
use Rattle.c25_meaning_instructions.specs.declared.insn.Change.{Change}
use Rattle.c25_meaning_instructions.specs.declared.insn.Change.TheVariants as change
use Rattle.c25_meaning_language.specs.declared.statement.AddrForm.{AddrForm}
use Rattle.c25_meaning_language.specs.declared.statement.AddrForm.TheVariants.{Direct, Indirect}
use Rattle.c25_print_laws.proofs.Numerals.{IsConstantOf, byte_constant}
use Rattle.c25_print_laws.proofs.Names.{IsNameOf, register_name}
use Rattle.c25_print_laws.proofs.Tokens.{Word, texts, AreLexed}

-- ---- words

abbrev pub constant : List ℕ → Word
constant text = record { kind = kind.Constant; text = text }

abbrev pub name : List ℕ → Word
name text = record { kind = kind.Name; text = text }

abbrev pub comma : Word
comma = record { kind = kind.Sign sign.Comma; text = 44 ∷ [] }

abbrev star : Word
star = record { kind = kind.Sign sign.Star; text = 42 ∷ [] }

abbrev pub minus : Word
minus = record { kind = kind.Sign sign.Minus; text = 45 ∷ [] }

abbrev pub plus : Word
plus = record { kind = kind.Sign sign.Plus; text = 43 ∷ [] }

-- an indirect operand in front of words
abbrev pub changing : Change → List Word → List Word
changing change.Keep ws = star ∷ ws
changing change.Decrement ws = star ∷ minus ∷ ws
changing change.Increment ws = star ∷ plus ∷ ws
changing change.ReverseSubtract ws = star ∷ name (codes "BR0") ∷ minus ∷ ws
changing change.Subtract ws = star ∷ constant (codes "0") ∷ minus ∷ ws
changing change.Add ws = star ∷ constant (codes "0") ∷ plus ∷ ws
changing change.ReverseAdd ws = star ∷ name (codes "BR0") ∷ plus ∷ ws

-- a memory operand in front of words: a direct one has a text
abbrev pub place : AddrForm → List ℕ → List Word → List Word
place Direct low ws = constant low ∷ ws
place (Indirect c) low ws = changing c ws

-- a next register after all others: it has a text
abbrev pub next : Option (List ℕ) → List Word
next None = []
next (Some text) = comma ∷ name text ∷ []

-- a next register of a memory operand after all others: it has a text
abbrev pub tail : AddrForm → Option (List ℕ) → List Word
tail Direct o = []
tail (Indirect c) o = next o

-- ---- the texts of an instruction's operands

-- AR and a number
abbrev pub register_text : ℕ → List ℕ
register_text n = 65 ∷ 82 ∷ decimal n

-- a direct address
abbrev pub low_text : ℕ → List ℕ
low_text n = codes "0" ++ two_digits n ++ codes "h"

-- an address's form, its direct address, its next register
abbrev pub form_of : Addr → AddrForm
form_of (addr.Direct low) = Direct
form_of (addr.Indirect c n) = Indirect c

abbrev pub low_of : Addr → List ℕ
low_of (addr.Direct low) = low_text low
low_of (addr.Indirect c n) = []

abbrev pub register_of : Option ℕ → Option (List ℕ)
register_of None = None
register_of (Some n) = Some (register_text n)

abbrev pub next_of : Addr → Option (List ℕ)
next_of (addr.Direct low) = None
next_of (addr.Indirect c n) = register_of n

-- the words of an address in front of others, and after them
abbrev pub front : Addr → List Word → List Word
front a ws = place (form_of a) (low_of a) ws

abbrev pub back : Addr → List Word
back a = tail (form_of a) (next_of a)

-- ---- the texts of operands are what is printed

pub changing_text : (c : Change) (ws : List Word) → texts (changing c ws) ≡ change_text c ++ texts ws
changing_text change.Keep ws = refl
changing_text _ ws = refl

pub next_printed : (n : Option ℕ) → texts (next (register_of n)) ≡ next_text n
next_printed None = refl
next_printed (Some n) = ap (λ (ds : List ℕ). 44 ∷ 65 ∷ 82 ∷ ds) (append-nil (decimal n))

pub front_text : (a : Addr) (ws : List Word) → texts (front a ws) ≡ place_text a ++ texts ws
front_text (addr.Direct low) ws = refl
front_text (addr.Indirect c n) ws = changing_text c ws

pub back_text : (a : Addr) → texts (back a) ≡ tail_text a
back_text (addr.Direct low) = refl
back_text (addr.Indirect c n) = next_printed n

-- ---- operands are lexed

pub constant_lexed : (n : ℕ) (text : List ℕ) (ws : List Word) → IsConstantOf n text → prefix_len is_letter_or_digit (texts ws) ≡ 0 → AreLexed ws → AreLexed (constant text ∷ ws)
constant_lexed n text ws is ends h = (is.lexed (texts ws) ends, is.some, is.quiet, is.short, h)

pub name_lexed : (n : ℕ) (text : List ℕ) (ws : List Word) → IsNameOf n text → prefix_len goes_on_name (texts ws) ≡ 0 → AreLexed ws → AreLexed (name text ∷ ws)
name_lexed n text ws is ends h = (is.lexed (texts ws) ends, is.some, is.quiet, is.short, h)

pub comma_lexed : (ws : List Word) → AreLexed ws → AreLexed (comma ∷ ws)
unfolding lexeme
comma_lexed ws h = (refl, omega arith, refl, omega arith, h)

pub minus_lexed : (ws : List Word) → AreLexed ws → AreLexed (minus ∷ ws)
unfolding lexeme
minus_lexed ws h = (refl, omega arith, refl, omega arith, h)

pub changing_lexed : (c : Change) (ws : List Word) → AreLexed ws → AreLexed (changing c ws)
unfolding lexeme
changing_lexed change.Keep ws h = (refl, omega arith, refl, omega arith, h)
changing_lexed change.Decrement ws h = (refl, omega arith, refl, omega arith, (refl, omega arith, refl, omega arith, h))
changing_lexed change.Increment ws h = (refl, omega arith, refl, omega arith, (refl, omega arith, refl, omega arith, h))
changing_lexed change.ReverseSubtract ws h = (refl, omega arith, refl, omega arith, (refl, omega arith, refl, omega arith, (refl, omega arith, refl, omega arith, h)))
changing_lexed change.Subtract ws h = (refl, omega arith, refl, omega arith, (refl, omega arith, refl, omega arith, (refl, omega arith, refl, omega arith, h)))
changing_lexed change.Add ws h = (refl, omega arith, refl, omega arith, (refl, omega arith, refl, omega arith, (refl, omega arith, refl, omega arith, h)))
changing_lexed change.ReverseAdd ws h = (refl, omega arith, refl, omega arith, (refl, omega arith, refl, omega arith, (refl, omega arith, refl, omega arith, h)))

pub next_lexed : (n : Option ℕ) → NextInRange n → AreLexed (next (register_of n))
next_lexed None h = tt
next_lexed (Some n) h = comma_lexed (name (register_text n) ∷ []) (name_lexed n (register_text n) [] (register_name n h) refl tt)

-- nothing goes on with a number in front of a next register
next_ends : (n : Option ℕ) → prefix_len is_letter_or_digit (texts (next (register_of n))) ≡ 0
next_ends None = refl
next_ends (Some n) = refl

pub back_ends : (a : Addr) → prefix_len is_letter_or_digit (texts (back a)) ≡ 0
back_ends (addr.Direct low) = refl
back_ends (addr.Indirect c n) = next_ends n

next_ends_names : (n : Option ℕ) → prefix_len goes_on_name (texts (next (register_of n))) ≡ 0
next_ends_names None = refl
next_ends_names (Some n) = refl

pub back_ends_names : (a : Addr) → prefix_len goes_on_name (texts (back a)) ≡ 0
back_ends_names (addr.Direct low) = refl
back_ends_names (addr.Indirect c n) = next_ends_names n

pub back_lexed : (a : Addr) → AddrInRange a → AreLexed (back a)
back_lexed (addr.Direct low) h = tt
back_lexed (addr.Indirect c n) h = next_lexed n h

pub front_lexed : (a : Addr) (ws : List Word) → AddrInRange a → prefix_len is_letter_or_digit (texts ws) ≡ 0 → AreLexed ws → AreLexed (front a ws)
front_lexed (addr.Direct low) ws h ends lexed = constant_lexed low (low_text low) ws (byte_constant low (omega (arith, h))) ends lexed
front_lexed (addr.Indirect c n) ws h ends lexed = changing_lexed c ws lexed

-- ---- operands are few

changing_few : (c : Change) (ws : List Word) → length (changing c ws) ≤ length ws + 3
changing_few change.Keep ws = omega arith
changing_few _ ws = omega arith

pub front_few : (a : Addr) (ws : List Word) → length (front a ws) ≤ length ws + 3
front_few (addr.Direct low) ws = omega arith
front_few (addr.Indirect c n) ws = changing_few c ws

pub back_few : (a : Addr) → length (back a) ≤ 2
back_few (addr.Direct low) = omega arith
back_few (addr.Indirect c None) = omega arith
back_few (addr.Indirect c (Some n)) = omega arith
