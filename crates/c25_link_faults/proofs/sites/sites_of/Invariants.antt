-- the places of the definitions so far stand there
use Rattle.std.proofs.Common.{◌≡◌, take, map, filter}
use Rattle.c25_link_faults.specs.Sites.{is_definition_of, sites_data, symbol_site}
use Rattle.c25_link_faults.specs.View.{definitions_view}
use Rattle.c25_link_faults.proofs.sites.sites_of.Given as goal

abbrev pub invariant-loop-definition : goal.invariant-loop-definition
invariant-loop-definition l = sites_data l.sites.items ≡ map symbol_site (filter (is_definition_of l.name) (definitions_view (take l.definition-index l.list)))
