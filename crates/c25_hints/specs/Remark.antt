-- What a remark on a refused line says: its sentence, with the words that it names.
use Rattle.std.specs.Prelude.{ℕ, List, [], ◌++◌, codes}
use Rattle.c25_hints.specs.declared.cause.Cause.{Cause}
use Rattle.c25_hints.specs.declared.cause.Cause.TheVariants as cause
use Rattle.c25_hints.specs.declared.hint.Hint.{Hint}

-- a cause, the word that the remark names, and what stands after its sentence; both may be empty
pub record Remark : Type 0 where
  pub cause : Cause
  pub word : List ℕ
  pub more : List ℕ

-- a remark that names no word
abbrev pub plain : Cause → Remark
plain c = record { cause = c; word = []; more = [] }

-- a remark that names one word
abbrev pub about : Cause → List ℕ → Remark
about c word = record { cause = c; word = word; more = [] }

-- a remark that names a word, and has another text after its sentence
abbrev pub naming : Cause → (word more : List ℕ) → Remark
naming c word more = record { cause = c; word = word; more = more }

-- the remark that a hint stands for
abbrev pub remark_of : Hint → Remark
remark_of h = record { cause = h.cause; word = h.word.now; more = h.more.now }

-- the sentence of a cause up to the word that it names
abbrev pub front : Cause → List ℕ
front cause.ControlZ = codes "Ctrl-Z (1Ah), with which old files end: take it out"
front cause.ControlCharacter = codes "a control character: take it out"
front cause.DirectiveAsLabel = codes "a blank stands before a directive"
front cause.LocalLabel = codes "there are no local labels, as $1: write a name"
front cause.LabelWithDigit = codes "a name begins with a letter or _"
front cause.NoLabel = codes "this directive needs a label in column 1"
front cause.LabelWithColon = codes "a blank stands after the colon of a label"
front cause.LongName = codes "a name has at most 128 characters"
front cause.StrayInName = codes "a name has letters, digits, _ and $ alone"
front cause.HexadecimalByX = codes "a hexadecimal constant is written 0FFh, not 0xFF"
front cause.HexadecimalAlone = codes "a hexadecimal constant ends in h"
front cause.HexadecimalDigits = codes "a constant that ends in h has the digits 0 to 9 and A to F"
front cause.OctalDigits = codes "a constant that ends in q has the digits 0 to 7"
front cause.BinaryDigits = codes "a constant that ends in b has the digits 0 and 1"
front cause.DecimalDigits = codes "a constant has the digits 0 to 9, or ends in h, q or b"
front cause.OpenString = codes "this quote of a string is not closed"
front cause.Apostrophe = codes "a comment begins with ;, and an apostrophe stands in comments alone"
front cause.ManyCharacters = codes "one character stands between two ': write 'A'*256+'B' for 'AB'"
front cause.OpenCharacter = codes "one character stands between two '"
front cause.NumberSign = codes "there is no # before an operand"
front cause.AtSign = codes "there is no @ before an operand"
front cause.Fraction = codes "there are no fractions: write the words, worked out beforehand"
front cause.Exclamation = codes "write ~ to invert all bits, and =0 after a value for a logical not"
front cause.BeyondAscii = codes "characters that are not ASCII stand in comments alone"
front cause.Unsubstituted = codes "substitution left this: nothing has the name"
front cause.MnemonicAsLabel = codes "in column 1 "
front cause.LabelAsMnemonic = codes "a label begins in column 1: "
front cause.DirectiveWithoutDot = codes "a directive begins with a dot: ."
front cause.Instead = codes "in place of "
front cause.OtherCase = codes "upper and lower case differ in names: "
front cause.HexadecimalName = codes "a hexadecimal constant begins with a digit: 0"
front cause.RegisterName = []
front cause.NoSuchRegister = codes "there are AR0 to AR7 and PA0 to PA15, and no "
front cause.HexadecimalByGreater = codes "a hexadecimal constant is written 0FFh, not >FF"
front cause.RegisterInExpression = []
front cause.NextAfterShift = []
front cause.NextAfterPort = []
front cause.NextAfterBit = []
front cause.CommentInExpression = codes "put ; before "
front cause.NoOperator = codes "an operator or a comma is missing before "
front cause.NoOperand = codes "an operand is missing"
front cause.NothingAfter = codes "nothing stands after "
front cause.NoComma = codes "a comma is missing before "
front cause.TakesNothing = []
front cause.Form = codes "the form is "
front cause.FormOfNone = codes "no operand stands here: the form is "
front cause.FormOfOne = codes "one operand stands here: the form is "
front cause.FormOfTwo = codes "two operands stand here: the form is "
front cause.FormOfThree = codes "three operands stand here: the form is "
front cause.FormOfMore = codes "more than three operands stand here: the form is "
front cause.IndirectForms = codes "the indirect operands are *, *+, *-, *0+, *0-, *BR0+ and *BR0-; a register follows a comma"
front cause.NoIndirect = []
front cause.ReservedSection = codes "this is a section of .bss or .usect: take another name"
front cause.FilledSection = codes "this is a section of .text, .data or .sect: take another name"
front cause.Predefined = []
front cause.ShiftBefore = []
front cause.NowhereDefined = codes "nothing in this module defines "
front cause.Longer = []
front cause.TakesAddress = []
front cause.NeededAtOnce = []
front cause.MacroElsewhere = codes "the .macro of "
front cause.Similar = codes "similar: "

-- the sentence after the word
abbrev pub back : Cause → List ℕ
back cause.MnemonicAsLabel = codes " is a label: put a blank before it"
back cause.Instead = codes " write "
back cause.OtherCase = codes " is defined"
back cause.RegisterName = codes " is a name that .mmregs defines"
back cause.RegisterInExpression = codes " follows a comma, as in *,AR1"
back cause.NextAfterShift = codes " has a shift before the next register: write ,0, before "
back cause.NextAfterPort = codes " has a port before the next register: write ,PA0, before "
back cause.NextAfterBit = codes " has a bit before the next register: write ,0, before "
back cause.CommentInExpression = codes " if a comment begins there"
back cause.TakesNothing = codes " has no operand; a comment begins with ;"
back cause.Form = codes " "
back cause.FormOfNone = codes " "
back cause.FormOfOne = codes " "
back cause.FormOfTwo = codes " "
back cause.FormOfThree = codes " "
back cause.FormOfMore = codes " "
back cause.NoIndirect = codes " has no indirect operand, and nothing stands before *"
back cause.Predefined = codes " is predefined: take this line out, or write another name"
back cause.ShiftBefore = codes " has a shift of 3 bits: shift before it, by LAC or SFL"
back cause.Longer = codes " takes a longer number"
back cause.TakesAddress = codes " takes an address"
back cause.NeededAtOnce = codes " has no value above this line, and this directive needs it at once"
back cause.MacroElsewhere = codes " comes before its first call, in the same module"
back _ = []

-- the text of a remark
abbrev pub text_of : Remark → List ℕ
text_of r = front r.cause ++ r.word ++ back r.cause ++ r.more
