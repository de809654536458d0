-- The parts of sections by their names, as the code has them.
use Rattle.std.specs.Prelude.{ℕ, List, [], map}
use Rattle.std.specs.Borrow.{Bor}
use Rattle.std.specs.Fmt.{decimal}
use Rattle.std.specs.HashMap.{HashMap}
use Rattle.std.specs.Option.{option_map_or}
use Rattle.std.specs.declared.alloc.Global.{Global}
use Rattle.std.specs.declared.vec.Vec.{Vec}
use Rattle.c25_meaning_linking.specs.MapText.{PartData}
use Rattle.c25_place.specs.View.{named}
use Rattle.c25_link.specs.declared.described.PartPlace.{PartPlace}

-- a part with the digits of its module's number
abbrev pub part_data_of : PartPlace → PartData
part_data_of p = record { number = decimal p.number; base = p.base; size = p.size }

-- the parts of a name
abbrev pub parts_named : {S : Type 0} → HashMap (Bor (List ℕ)) (Vec PartPlace Global) S → List ℕ → List PartData
parts_named m name = option_map_or (λ v. map part_data_of v.items) (named m name) []
