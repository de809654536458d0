-- what stands in front, with the rest, is the text
use denote.Text.{Utf8}
use denote.Shadow.{shadow}
use Rattle.std.proofs.Common.{◌≡◌, ◌++◌, string_bytes}
use Rattle.c25_moving.proofs.bss_text.replaced.Given as goal

abbrev pub invariant-loop : goal.invariant-loop
invariant-loop l = shadow (Utf8 l.rest) × (string_bytes l.front ++ l.rest ≡ l.text)
