-- The instructions with their lines, as clauses see them.
use Rattle.std.specs.Prelude.{List, map}
use Rattle.c25_coverage.specs.Branches.{CountedBranch}
use Rattle.c25_coverage.specs.Lines.{CountedPlace}
use Rattle.c25_coverage.specs.declared.branches.Branch.{Branch}
use Rattle.c25_coverage.specs.declared.lines.Place.{Place}

abbrev pub place_of : Place → CountedPlace
place_of place = record { file = place.file.now; line = place.line; count = place.count }

abbrev pub places_of : List Place → List CountedPlace
places_of places = map place_of places

-- the conditional branches with their lines, as clauses see them
abbrev pub branch_of : Branch → CountedBranch
branch_of branch = record { file = branch.file.now; line = branch.line; acts = branch.acts; passes = branch.passes }

abbrev pub branches_seen : List Branch → List CountedBranch
branches_seen branches = map branch_of branches
