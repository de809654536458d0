-- Hints: one a line; a comment begins with `;`, numbers are hexadecimal (this project's own).
use Rattle.std.specs.Prelude.{ℕ, ◌+◌, ◌*◌, ◌-◌, ◌&&◌, ◌||◌, ◌==◌, not, Bool, true, false, nat_le, nat_lt, List, [], ◌∷◌, length, codes, Option, Some, None, is_some, option_map, option_and_then, Result, if◌then◌else◌, map, string_bytes, String}
use Rattle.std.specs.List.{before_first, list_all}
use Rattle.std.specs.Str.{bytes_eq, is_utf8, str_eq_ignore_ascii_case}
use Rattle.std.specs.Str.Lines.{lines}
use Rattle.std.specs.declared.alloc.Global.{Global}
use Rattle.c25_layout.specs.declared.hint.Hint.{Hint}
use Rattle.c25_layout.specs.declared.hint.Hint.TheVariants as hint
use Rattle.c25_meaning_common.specs.Bytes.{begins_name, goes_on_name}
use Rattle.c25_meaning_common.specs.Digits.{hexadecimal_of}
use Rattle.c25_meaning_common.specs.Items.{ItemOf, items}
use Rattle.c25_meaning_language.specs.Value.{predefined}

-- ---- the parts of a hint

-- an address or a count, in one to four hexadecimal digits
abbrev pub number_of : List ℕ → Option ℕ
number_of word = hexadecimal_of 1 word

-- a name: a letter or `_`, then letters, digits, `_` and `$`
abbrev pub is_name : List ℕ → Bool
is_name [] = false
is_name (first ∷ rest) = begins_name first && list_all goes_on_name rest

-- a text, which is UTF-8
abbrev pub text_of : List ℕ → Option (List ℕ)
text_of word = if is_utf8 word then Some word else None

-- a name may be a label: it has at most 128 bytes, and is no register's and no port's
abbrev pub may_be_label : List ℕ → Bool
may_be_label name = nat_le (length name) 128 && not (is_some (predefined name))

-- a name, if it may be a label
abbrev pub label_of : List ℕ → Option (List ℕ)
label_of name = if may_be_label name then Some name else None

-- the name that a field is
abbrev pub name_of : List ℕ → Option (List ℕ)
name_of word = if is_name word then text_of word else None

-- whether there are words, and all of them lie in the memory
abbrev pub lie_in_memory : ℕ → ℕ → Bool
lie_in_memory address count = nat_le 1 count && nat_le (address + count) 65536

-- whether there are words of a table, a number apart, and all of them lie in the memory
abbrev pub table_lies_in_memory : ℕ → ℕ → ℕ → Bool
table_lies_in_memory address count step = nat_le 1 count && nat_le 1 step && nat_lt (address + (count - 1) * step) 65536

-- whether words may run there: in block B0, which is program memory from FF00h on
abbrev pub run_in_b0 : ℕ → ℕ → Bool
run_in_b0 run count = nat_le 65280 run && nat_le (run + count) 65536

-- ---- the hints of each form

-- a hint of an address
unfoldable pub address_hint : List ℕ → ℕ → Option (Hint (List ℕ))
address_hint word address =
    if str_eq_ignore_ascii_case word (codes "code") then Some (hint.Code address)
    else (if str_eq_ignore_ascii_case word (codes "ref") then Some (hint.Reference address)
    else (if str_eq_ignore_ascii_case word (codes "noref") then Some (hint.Number address)
    else (if str_eq_ignore_ascii_case word (codes "noreturn") then Some (hint.NoReturn address)
    else None)))

-- a hint of words
unfoldable pub words_hint : List ℕ → ℕ → ℕ → Option (Hint (List ℕ))
words_hint word address count =
    if str_eq_ignore_ascii_case word (codes "data") && lie_in_memory address count then Some (hint.Data address count)
    else (if str_eq_ignore_ascii_case word (codes "table") && table_lies_in_memory address count 1 then Some (hint.Table address count 1)
    else None)

-- a hint of words and one more number
unfoldable pub long_hint : List ℕ → ℕ → ℕ → ℕ → Option (Hint (List ℕ))
long_hint word address count last =
    if str_eq_ignore_ascii_case word (codes "table") && table_lies_in_memory address count last then Some (hint.Table address count last)
    else (if str_eq_ignore_ascii_case word (codes "run") && lie_in_memory address count && run_in_b0 last count then Some (hint.Run address count last)
    else None)

-- a hint of a name
unfoldable pub label_hint : ℕ → List ℕ → Option (Hint (List ℕ))
label_hint address word = option_map (λ name. hint.Label address name) (option_and_then label_of (name_of word))

-- ---- lines

-- the hint of a word, an address and a count
abbrev pub counted_hint : List ℕ → ℕ → List ℕ → Option (Hint (List ℕ))
counted_hint word address count = option_and_then (λ n. words_hint word address n) (number_of count)

-- the hint of a word, an address, and a name after `label`, else a count
unfoldable pub two_hint : List ℕ → ℕ → List ℕ → Option (Hint (List ℕ))
two_hint word address second = if str_eq_ignore_ascii_case word (codes "label") then label_hint address second else counted_hint word address second

-- the hint of a word, an address, a count and one more number
abbrev pub three_hint : List ℕ → ℕ → List ℕ → List ℕ → Option (Hint (List ℕ))
three_hint word address count last = option_and_then (λ n. option_and_then (λ l. long_hint word address n l) (number_of last)) (number_of count)

-- the hint of a word, an address and the fields after them
abbrev pub hint_at : List ℕ → ℕ → List (List ℕ) → Option (Hint (List ℕ))
hint_at word address [] = address_hint word address
hint_at word address (second ∷ []) = two_hint word address second
hint_at word address (count ∷ last ∷ []) = three_hint word address count last
hint_at word address _ = None

-- the hint of a line, if its fields are one by themselves
abbrev pub hint_said : List (List ℕ) → Option (Hint (List ℕ))
hint_said (word ∷ address ∷ rest) = option_and_then (λ at. hint_at word at rest) (number_of address)
hint_said _ = None

-- ---- hints that go together

-- so many words at one address and so many at another have none in common
abbrev pub are_apart : (one count other others : ℕ) → Bool
are_apart one count other others = nat_le (one + count) other || nat_le (other + others) one

-- words are loaded and run at one place each, with those that are loaded at one address and run at another: either the
-- two are as far from each other, or none is among the others
abbrev pub run_apart : (load count run other others runs : ℕ) → Bool
run_apart load count run other others runs = (load + runs == other + run) || (are_apart load count other others && are_apart run count runs others)

-- a name of an address goes together with a hint: no other address has it
abbrev pub label_goes : ℕ → List ℕ → Hint (List ℕ) → Bool
label_goes address name (hint.Label other others) = address == other || not (bytes_eq name others)
label_goes address name _ = true

-- words that run elsewhere go together with a hint
abbrev pub run_goes : (load count run : ℕ) → Hint (List ℕ) → Bool
run_goes load count run (hint.Run other others runs) = run_apart load count run other others runs
run_goes load count run _ = true

-- two hints go together
abbrev pub go_together : Hint (List ℕ) → Hint (List ℕ) → Bool
go_together (hint.Label address name) other = label_goes address name other
go_together (hint.Run load count run) other = run_goes load count run other
go_together _ other = true

-- a hint goes together with all that come before it
abbrev pub fits : List (Hint (List ℕ)) → Hint (List ℕ) → Bool
fits before h = list_all (λ one. go_together h one) before

-- a hint, if it goes together with those before it
abbrev pub fitting : List (Hint (List ℕ)) → Hint (List ℕ) → Option (Hint (List ℕ))
fitting before h = if fits before h then Some h else None

-- the hint of a line after others, if its fields are one
abbrev pub hint_of : ItemOf (Hint (List ℕ))
hint_of before fields = option_and_then (fitting before) (hint_said fields)

-- a line up to its comment
abbrev pub without_comment : List ℕ → List ℕ
without_comment line = before_first (λ b. b == 59) line

-- the hints of a text, or the number of its first faulty line, counted from 1
abbrev pub hints_of : List ℕ → Result (List (Hint (List ℕ))) ℕ
hints_of text = items hint_of [] 1 (map without_comment (lines text))

-- ---- what the code has

-- a hint with its name as bytes
abbrev pub hint_data : Hint (String Global) → Hint (List ℕ)
hint_data (hint.Code address) = hint.Code address
hint_data (hint.Data address count) = hint.Data address count
hint_data (hint.Table address count step) = hint.Table address count step
hint_data (hint.Label address name) = hint.Label address (string_bytes name)
hint_data (hint.Reference address) = hint.Reference address
hint_data (hint.Number address) = hint.Number address
hint_data (hint.Run address count run) = hint.Run address count run
hint_data (hint.NoReturn address) = hint.NoReturn address
