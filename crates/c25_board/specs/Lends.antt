-- What a board is after its sink or its feed was borrowed.
use Rattle.std.specs.Borrow.{Fml, Lends, MutBor, RattleType}
use Rattle.c25_board.specs.contracts.board.Board.{the_row}
use Rattle.c25_board.specs.declared.board.Board.{Board}
use Rattle.c25_board.specs.declared.ports.Feed as feeds
use Rattle.c25_board.specs.declared.ports.Sink as sinks

module _ {F S : Type 0} {feed : feeds.Ghosts F} {sink : sinks.Ghosts S} (board : Board F S feed sink) where
  -- the board with another sink, and all else as it is
  abbrev pub with_sink : S → Board F S feed sink
  with_sink other = record board { devices = record board.devices { sink = other } }

  -- the board with another feed, and all else as it is
  abbrev pub with_feed : F → Board F S feed sink
  with_feed other = record board { devices = record board.devices { feed = other } }

module _ (F S : RattleType) (feed : feeds.Ghosts F.Denot) (sink : sinks.Ghosts S.Denot) (board : MutBor (Board F.Denot S.Denot feed sink)) where
  -- once the borrow ends, the board has the sink last written through it
  abbrev pub LendsSink : MutBor S.Denot → Fml
  LendsSink lent = Lends (the_row F S feed sink) S board lent (with_sink board.now)

  -- once the borrow ends, the board has the feed last written through it
  abbrev pub LendsFeed : MutBor F.Denot → Fml
  LendsFeed lent = Lends (the_row F S feed sink) F board lent (with_feed board.now)
