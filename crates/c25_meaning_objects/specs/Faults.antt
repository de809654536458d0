-- The numbers and names of the faults of an object file.
use Rattle.std.specs.Prelude.{ℕ, List, codes}
use Rattle.c25_meaning_common.specs.Faults.{numbered}
use Rattle.c25_meaning_objects.specs.declared.object.ObjectFault.{ObjectFault}
use Rattle.c25_meaning_objects.specs.declared.object.ObjectFault.TheVariants as object

-- the number of a fault of an object file
abbrev pub object_number : ObjectFault → ℕ
object_number object.BadMagic = 40
object_number object.BadVersion = 41
object_number object.Short = 42
object_number object.BadTag = 43
object_number object.BadField = 44
object_number object.Trailing = 45

-- the name of a fault of an object file
abbrev pub object_name : ObjectFault → List ℕ
object_name object.BadMagic = codes "BadMagic"
object_name object.BadVersion = codes "BadVersion"
object_name object.Short = codes "Short"
object_name object.BadTag = codes "BadTag"
object_name object.BadField = codes "BadField"
object_name object.Trailing = codes "Trailing"

-- a fault of an object file with its number and name, as a report shows them
abbrev pub object_text : ObjectFault → List ℕ
object_text f = numbered (object_number f) (object_name f)
