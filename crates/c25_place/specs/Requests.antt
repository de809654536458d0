-- The sections that are to be placed, as the code has them.
use Rattle.std.specs.Prelude.{◌≡◌, ◌≤◌, ℕ, Bool, true, false, ◌&&◌, not, List, All, None, IfSome}
use Rattle.c25_meaning_linking.specs.Command.{PlacingData, Anywhere}
use Rattle.c25_meaning_linking.specs.GoodMap.{has_address, is_among}
use Rattle.c25_meaning_linking.specs.GoodMap as good
use Rattle.c25_meaning_objects.specs.Module.{Contents}
use Rattle.c25_meaning_linking.specs.Place.{blocks_of, is_there}
use Rattle.c25_place.specs.declared.outputs.Output.{Output}
use Rattle.c25_place.specs.declared.requests.Request.{Request}

-- whether a module has the section, and it has an address, or has none
abbrev pub is_due : Bool → List Contents → PlacingData → Bool
is_due true modules p = has_address p.target && is_there p.name modules
is_due false modules p = not (has_address p.target) && is_there p.name modules

-- a section of modules with the sum of its parts
abbrev pub request_by : List Contents → Output → PlacingData → good.Request
request_by modules output p = record {
  name = p.name;
  size = output.size;
  initialised = output.initialised;
  target = p.target;
  page = p.page;
  blocks = blocks_of p.name modules;
  run = p.run;
}

-- what a command says of a section that it does not list
abbrev pub unlisted : List ℕ → PlacingData
unlisted name = record { name = name; target = Anywhere; page = None; run = None }

-- no page is named but 0 and 1
abbrev pub HasPages : List Request → Type 0
HasPages requests = All (λ r. IfSome r.page (λ n. n ≤ 1)) requests

-- names are those of a list, each once
abbrev pub HasNames : List (List ℕ) → List (List ℕ) → Type 0
HasNames names listed = (name : List ℕ) → is_among name names ≡ is_among name listed
