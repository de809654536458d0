-- What a reader of a disk with fronts has left.
use Rattle.std.specs.Prelude.{ℕ, List, Option, Some}
use Rattle.c25_fronts.specs.declared.fronted.FrontReader.{FrontReader}
use Rattle.c25_fronts.specs.declared.fronted.FrontReader.TheVariants.{Front, File}

abbrev pub left_of : {R : Type 0} → (R → Option (List ℕ)) → FrontReader R → Option (List ℕ)
left_of left (Front rest) = Some rest.now
left_of left (File reader) = left reader
