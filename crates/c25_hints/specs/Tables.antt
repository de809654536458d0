-- Words with what belongs to them: what to write in place of a word, the operands of a directive.
use Rattle.std.specs.Prelude.{ℕ, Bool, true, if◌then◌else◌, List, [], ◌∷◌, map, codes, Option, Some, None, ◌==◌, ◌&&◌, slice_index, drop}
use Rattle.std.specs.List.{list_any}
use Rattle.std.specs.Str.{str_eq_ignore_ascii_case}
use denote.Ref.{Bor}

-- a table: words with their texts
abbrev pub Rows : Type 0
Rows = List (List ℕ × List ℕ)

-- whether two words have the same letters, in either case
unfoldable pub is_spelled : List ℕ → List ℕ → Bool
is_spelled word name = str_eq_ignore_ascii_case word name

-- the text of a word, letters in either case
unfoldable pub text_in : Rows → List ℕ → Option (List ℕ)
text_in [] word = None
text_in (r ∷ rows) word = if is_spelled word r.0 then Some r.1 else text_in rows word

-- the table that an array stands for
abbrev pub rows_of : List (Bor (List ℕ) × Bor (List ℕ)) → Rows
rows_of rows = map (λ r. (r.0.now, r.1.now)) rows

-- words of other assemblers, and what is written here in their place
abbrev pub instead : Rows
instead =
    (codes "DATA", codes ".word") ∷ (codes "TEXT", codes ".string") ∷ (codes "BES", codes ".space, and after it a .set of $-1")
    ∷ (codes "AORG", codes ".sect, and an address in the command file")
    ∷ (codes "DORG", codes ".usect, and an address in the command file")
    ∷ (codes "ORG", codes ".sect, and an address in the command file")
    ∷ (codes "PSEG", codes ".text") ∷ (codes "RORG", codes ".text") ∷ (codes "DSEG", codes ".data") ∷ (codes "CSEG", codes ".sect")
    ∷ (codes "PEND", codes ".text") ∷ (codes "DEND", codes ".text") ∷ (codes "CEND", codes ".text")
    ∷ (codes "SREF", codes ".ref") ∷ (codes "MLIB", codes ".copy of a file of macros")
    ∷ (codes "ASMIF", codes ".if") ∷ (codes "ASMELS", codes ".else") ∷ (codes "ASMEND", codes ".endif")
    ∷ (codes "$MACRO", codes ".macro") ∷ (codes "$END", codes ".endm") ∷ (codes "$EXIT", codes ".mexit")
    ∷ (codes "IDT", codes ".title") ∷ (codes "TITL", codes ".title") ∷ (codes "UNL", codes ".nolist")
    ∷ (codes ".long", codes ".word n&0FFFFh,n>>16: TI's .long has the low half first")
    ∷ (codes ".float", codes ".word with the words, worked out beforehand")
    ∷ (codes ".bfloat", codes ".word with the words, worked out beforehand")
    ∷ (codes ".field", codes ".word with the fields, shifted and joined by |")
    ∷ (codes ".asect", codes ".sect, and an address in the command file")
    ∷ (codes ".org", codes ".sect, and an address in the command file")
    ∷ (codes ".align", codes ".sect, and an address in the command file")
    ∷ (codes ".even", codes "nothing: each place is a word")
    ∷ (codes ".bes", codes ".space, and after it a .set of $-1")
    ∷ (codes ".newblock", codes "nothing, and names for local labels")
    ∷ (codes ".mlib", codes ".copy of a file of macros")
    ∷ (codes ".var", codes "one more parameter, which callers leave out")
    ∷ (codes ".emsg", codes "nothing: it has no effect on words")
    ∷ (codes ".mmsg", codes "nothing: it has no effect on words")
    ∷ (codes ".wmsg", codes "nothing: it has no effect on words")
    ∷ (codes ".tab", codes "nothing: it has no effect on words")
    ∷ (codes ".port", codes "nothing: it has no effect on words")
    ∷ (codes ".version", codes "nothing: it has no effect on words")
    ∷ (codes ".drlist", codes "nothing: it has no effect on words")
    ∷ (codes ".drnolist", codes "nothing: it has no effect on words") ∷ []

-- the directives whose operands may be fractions; this assembler has neither
abbrev pub of_floats : List (List ℕ)
of_floats = codes ".float" ∷ codes ".bfloat" ∷ []

-- the directives with their operands
abbrev pub directive_forms : Rows
directive_forms =
    (codes ".text", []) ∷ (codes ".data", []) ∷ (codes ".sect", codes "section") ∷ (codes ".bss", codes "name,words[,flag]")
    ∷ (codes ".usect", codes "section,words") ∷ (codes ".word", codes "value[,value]") ∷ (codes ".int", codes "value[,value]")
    ∷ (codes ".byte", codes "value[,value]") ∷ (codes ".string", codes "\"text\"[,\"text\"]") ∷ (codes ".space", codes "bits")
    ∷ (codes ".set", codes "value") ∷ (codes ".equ", codes "value") ∷ (codes ".global", codes "name[,name]")
    ∷ (codes ".ref", codes "name[,name]") ∷ (codes ".def", codes "name[,name]") ∷ (codes ".label", codes "name")
    ∷ (codes ".mmregs", [])
    ∷ (codes ".title", codes "\"text\"") ∷ (codes ".list", []) ∷ (codes ".nolist", []) ∷ (codes ".page", []) ∷ (codes ".width", codes "columns")
    ∷ (codes ".length", codes "lines") ∷ (codes ".option", codes "letter[,letter]") ∷ (codes ".mlist", []) ∷ (codes ".mnolist", [])
    ∷ (codes ".fclist", []) ∷ (codes ".fcnolist", []) ∷ (codes ".sslist", []) ∷ (codes ".ssnolist", [])
    ∷ (codes ".if", codes "value") ∷ (codes ".elseif", codes "value") ∷ (codes ".else", []) ∷ (codes ".endif", [])
    ∷ (codes ".macro", codes "[parameter,..]") ∷ (codes ".endm", []) ∷ (codes ".mexit", []) ∷ (codes ".loop", codes "[count]")
    ∷ (codes ".break", codes "[value]") ∷ (codes ".endloop", []) ∷ (codes ".asg", codes "text,name") ∷ (codes ".eval", codes "value,name")
    ∷ (codes ".copy", codes "\"file\"") ∷ (codes ".include", codes "\"file\"") ∷ (codes ".end", []) ∷ []

-- what takes a longer number
abbrev pub longer : Rows
longer =
    (codes "LACK", codes "LALK") ∷ (codes "LARK", codes "LRLK") ∷ (codes "ADDK", codes "ADLK") ∷ (codes "SUBK", codes "SBLK")
    ∷ (codes ".byte", codes ".word") ∷ []

-- whether a name is a dot and this word after it, letters in either case
abbrev pub lacks_dot : List ℕ → List ℕ → Bool
lacks_dot word name = slice_index name 0 == 46 && is_spelled (drop 1 name) word

-- whether a directive that has this text for its operands may be meant, where a line has operands or has none
abbrev pub may_have : Bool → List ℕ → Bool
may_have operands [] = true
may_have operands (b ∷ rest) = operands

-- whether a word is a directive without its dot
abbrev pub is_without_dot : Rows → Bool → List ℕ → Bool
is_without_dot rows operands word = list_any (λ r. lacks_dot word r.0 && may_have operands r.1) rows
