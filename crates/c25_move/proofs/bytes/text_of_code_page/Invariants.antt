-- the text so far, with that of the bytes that are left, is that of all
use Rattle.std.proofs.Common.{◌≡◌, ◌++◌, drop, string_bytes}
use Rattle.c25_move.specs.Bytes.{text_of_code_page}
use Rattle.c25_move.proofs.bytes.text_of_code_page.Given as goal

abbrev pub invariant-loop-byte : goal.invariant-loop-byte
invariant-loop-byte l = string_bytes l.text ++ text_of_code_page l.code_page (drop l.byte-index l.bytes) ≡ text_of_code_page l.code_page l.bytes
