use Rattle.std.proofs.Common.{◌≡◌, Bool, Option, Some, None}
use Rattle.clap.specs.Words.{Text}
use Rattle.c25_options.specs.Task.{IsFlag}
use Rattle.c25_options.specs.Together.{says_on}
use Rattle.c25_options.proofs.together.is_on.Goals as goal

on : (found : Option Text) (given : Bool) → IsFlag found given → given ≡ says_on found
on None given is = is
on (Some text) given is = is

pub returns : goal.returns
returns c = on _ c.flag.result c.flag.ensures
