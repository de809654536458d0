-- What an operand that is refused for its value stands for.
use Rattle.c25_expr.specs.Pieces.{pieces_of}
use Rattle.c25_places.specs.Values as values
use Rattle.c25_places.specs.declared.value_parts.Found.{Found}

abbrev pub found_of : Found → values.Found
found_of f = record { index = f.index; role = f.role; operand = pieces_of f.operand.now }
