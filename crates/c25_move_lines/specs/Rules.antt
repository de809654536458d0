-- The rules by which lines of old sources are rewritten, and what is reported of each. A line is *done* where the rule
-- alone says what the assembler is to read, and *left* where something rests on a guess or is lost.
--
--   rule          of a line                                     becomes
--   Comment       `ADD >60 SAVE IT` of the early style          ` ; ` is put before the comment; left where the comment
--                                                               begins like the rest of an expression: `15 -1`, `>60 ,1`
--   LeftToRight   `10-2*3` of the early style                   `(10-2)*3`; left where it has parentheses of its own or
--                                                               other operators, and may have another value
--   Directive     `EQU DATA DEF END ..` without a dot           the directive of the COFF assembler: `renamed`
--   Hexadecimal   `>1F` where an operand may begin, `0x1F`      `1Fh`, `0FFh`; a `>` after an operand is an operator
--   Characters    `'AB'`, `''`                                  `('A'<<8|'B')`, `0`
--   Quotes        `'..'` of TEXT, .string, .title, .copy,       `".."`; left where a `"` stands within
--                 a file's name without quotes
--   LocalLabel    `$1`                                          `Z1N3`: the digit, and how many blocks began before; in a
--                                                               macro `Z1?`; left where the line may not say the same
--   NewBlock      `.newblock`                                   a comment line
--   Address       `AORG >20`, `.asect "s",20h`                  `.sect "org0"`, `.sect "s"`, and an address for the
--                                                               command file
--   Segment       `PSEG RORG`, `DSEG CSEG`, `PEND DEND CEND`    `.text`, `.data`, a comment line; data is left
--   Dummy         `DORG >60`, `X BSS 2`, `DEND`                 comment lines, `X .set 60h`; left where other lines follow
--   Reserve       `X BSS 2` outside of a dummy section          `X .space (2)*16`
--   BlockEnd      `X BES 4`, `X .bes 64`                        `.space (4)*16`, `.space 64`, then `X .set $-1`; `BES` is
--                                                               left
--   Register      `AR1 EQU 1`, `PA3 .set 3`                     a comment line; left where the number is another one
--   Flag          `.usect "s",5,1`, `.bss x,4,1,1`              the same without its last operand, left
--   Long          `.long a`                                     `.word (a)&0FFFFh,(a)>>16&0FFFFh`; left where it is not known
--                                                               which word is first; `.float 1.0` becomes `.word 0000h,3F80h`
--   Library       `.mlib "l"`                                   `.copy "l"`, left
--   NoEffect      `.even .port .tab .version .emsg ..`          a comment line, after a line with the label
--   NoForm        `.align .field .var .struct .bfloat ..`       stays, and is left
--   ByteString    `.byte "ok"`                                  `.byte 'o','k'`; `.word "ok"` is left
use Rattle.std.specs.Prelude.{ℕ, List, codes}
use Rattle.c25_move_lines.specs.declared.rule.Rule.{Rule}
use Rattle.c25_move_lines.specs.declared.rule.Rule.TheVariants as rule

-- what is reported of a line that a rule rewrote
abbrev pub done_text : Rule → List ℕ
done_text rule.Comment = codes "comment"
done_text rule.LeftToRight = codes "operators from left to right"
done_text rule.Directive = codes "directive"
done_text rule.Hexadecimal = codes "hexadecimal"
done_text rule.Characters = codes "constant of two characters"
done_text rule.Quotes = codes "quotes"
done_text rule.LocalLabel = codes "local label"
done_text rule.NewBlock = codes "local label"
done_text rule.Address = codes "section at an address"
done_text rule.Segment = codes "segment"
done_text rule.Dummy = codes "dummy section"
done_text rule.Reserve = codes "reserved words"
done_text rule.BlockEnd = codes "end of a block"
done_text rule.Register = codes "register's name"
done_text rule.Flag = codes "flag"
done_text rule.Long = codes "32 bits"
done_text rule.Library = codes "library of macros"
done_text rule.NoEffect = codes "directive without effect"
done_text rule.NoForm = codes "directive without a form"
done_text rule.ByteString = codes "string of bytes"

-- what is reported of a line on which a rule leaves something to the reader
abbrev pub left_text : Rule → List ℕ
left_text rule.Comment = codes "what follows the blank is taken as a comment"
left_text rule.LeftToRight = codes "operators with parentheses: compare the words"
left_text rule.Directive = codes "the name may change its value"
left_text rule.Hexadecimal = codes "hexadecimal: compare the words"
left_text rule.Characters = codes "constant of two characters: compare the words"
left_text rule.Quotes = codes "a quote stands within the string"
left_text rule.LocalLabel = codes "local label: compare the words"
left_text rule.NewBlock = codes "local label: compare the words"
left_text rule.Address = codes "the address is no constant"
left_text rule.Segment = codes "segment of data: give .data an address"
left_text rule.Dummy = codes "a dummy section has only BSS lines"
left_text rule.Reserve = codes "reserved words: compare the words"
left_text rule.BlockEnd = codes "the label is the last word of the block: compare the words"
left_text rule.Register = codes "the name is that of another number here"
left_text rule.Flag = codes "the flag is taken out: give the section a range of one page"
left_text rule.Long = codes "the low word is first: compare the words"
left_text rule.Library = codes "the members of the library have to be in this file"
left_text rule.NoEffect = codes "the directive has no effect here"
left_text rule.NoForm = codes "the directive has no form here"
left_text rule.ByteString = codes "a string has no form here"
