-- Ranges of a command file.
use Rattle.std.proofs.Common.{◌≡◌, ℕ, ◌<◌, List, All, length, get_or, sym, ap, subst, ◌∙◌, arith}
use Rattle.std.proofs.lemmas.List.{get_or-map, length-map}
use Rattle.c25_cmd.specs.View.{range_of, ranges_of}
use Rattle.c25_cmd.specs.declared.command.MemoryRange.{MemoryRange}
use Rattle.c25_meaning_linking.specs.Command.{IsRange}

pub range_at : (memory : List MemoryRange) (i : ℕ) (r : MemoryRange) → All IsRange (ranges_of memory) → i < length memory → r ≡ get_or memory i r → IsRange (range_of r)
range_at memory i r all low at =
    let many : length (ranges_of memory) ≡ length memory = length-map memory range_of in
    let found : get_or (ranges_of memory) i (range_of r) ≡ range_of r = get_or-map range_of memory i r (range_of r) low ∙ ap range_of (sym at) in
    subst IsRange found (all i (range_of r) (omega (arith, many)))
