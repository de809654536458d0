use Rattle.std.proofs.Common.{◌≡◌, ℕ, ◌+◌, ◌-◌, length, take, drop, is_some, ap, ◌∙◌, arith}
use Rattle.std.specs.List.{list_any}
use Rattle.c25_hex.proofs.CellMaps.{cells-again}
use Rattle.c25_hex.proofs.reader.gives_again.Goals as goal

pub returns : goal.returns
returns c =
    let count : c.args.place + length c.args.bytes.now - c.args.place ≡ length c.args.bytes.now = omega arith in
    c.any_given.ensures ∙ ap (λ (n : ℕ). list_any is_some (take n (drop c.args.place c.args.cells.now))) count
    ∙ cells-again c.args.cells.now c.args.place c.args.bytes.now c.requires
