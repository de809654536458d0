-- The tokens after one that must stand at their front.
use Rattle.std.specs.Prelude.{ℕ, List, Result, Ok}
use Rattle.c25_meaning_common.specs.Results.{◌>>=◌}
use Rattle.c25_meaning_common.specs.declared.placed.Placed.{Placed}
use Rattle.c25_meaning_linking.specs.declared.command_fault.CommandFault.{CommandFault}
use Rattle.c25_meaning_linking.specs.declared.command_token.Want.{Want}
use Rattle.c25_meaning_linking.specs.CommandTokens.{Token}
use Rattle.c25_meaning_linking.specs.CommandGrammar.{wanted}

-- the tokens that `wanted` leaves
abbrev pub after : Want → List Token → Result (List Token) (Placed ℕ CommandFault)
after want ts = wanted want ts >>= λ x. Ok x.1
