use Rattle.std.proofs.Common.{ℕ, List, length, arith}
use Rattle.std.proofs.lemmas.List.{length-map}
use Rattle.c25_module.specs.Differing.{name_at}
use Rattle.c25_module.specs.View.{symbol_data, symbols_data}
use Rattle.c25_module.proofs.ByName.{differ_if_neighbours, neighbours_if_differ}
use Rattle.c25_module.proofs.differing.numbers_differ.Goals as goal

pub returns : goal.returns
returns c =
    let name : ℕ → List ℕ = name_at (symbols_data c.args.symbols.now) in
    let n : ℕ = length (symbols_data c.args.symbols.now) in (
      λ yes. differ_if_neighbours name n c.count_up.new.numbers c.sort_by_name.new.numbers (let k = length-map c.args.symbols.now symbol_data in omega arith) c.count_up.ensures c.sort_by_name.ensures.permutation c.sort_by_name.ensures.sorted (c.neighbours_differ.ensures.0 yes),
      λ h. c.neighbours_differ.ensures.1 (neighbours_if_differ name n c.count_up.new.numbers c.sort_by_name.new.numbers (let k = length-map c.args.symbols.now symbol_data in omega arith) c.count_up.ensures c.sort_by_name.ensures.permutation h),
    )
