-- Where a session at the prompt stands.
use Rattle.c25_debug.specs.Told as told
use Rattle.c25_board.specs.declared.board.Board.{Board}
use Rattle.c25_board.specs.declared.ports.Feed as feeds
use Rattle.c25_board.specs.declared.ports.Sink as sinks
use Rattle.c25_prompt.specs.Displays.{DisplayData}
use Rattle.c25_prompt.specs.Prompt.{PromptPoint}
use Rattle.c25_prompt.specs.Session.{SessionPoint}
use Rattle.c25_prompt.specs.declared.stops.Stops.{Stops}

-- the point of a session over a board with these stops
abbrev pub point_of : {F S : Type 0} {feed : feeds.Ghosts F} {sink : sinks.Ghosts S} → Board F S feed sink → Stops → PromptPoint
point_of board stops = record { at = told.point_of board stops.breakpoints; once = stops.once; watches = stops.watches; ignored = stops.ignored }

-- the point of a session over a board with these stops, where this is displayed
abbrev pub session_of : {F S : Type 0} {feed : feeds.Ghosts F} {sink : sinks.Ghosts S} → Board F S feed sink → Stops → DisplayData → SessionPoint
session_of board stops displays = record { point = point_of board stops; displays = displays }
