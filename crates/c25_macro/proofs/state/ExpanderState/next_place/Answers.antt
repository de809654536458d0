use Rattle.c25_macro.proofs.Trails.{found, missed}
use Rattle.c25_macro.proofs.state.ExpanderState.next_place.Goals as goal

pub returns-in-Some : goal.returns-in-Some
returns-in-Some c = found c.args.self.now.top.lines.rest c.args.self.now.below c.args.self.now.top.frame.last c.in-Some.place c.in-Some.ensures

pub returns-in-None : goal.returns-in-None
returns-in-None c = missed c.args.self.now.top.lines.rest c.args.self.now.below c.args.self.now.top.frame.last c.in-None.ensures
