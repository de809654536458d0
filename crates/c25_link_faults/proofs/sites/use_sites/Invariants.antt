-- the uses of the modules so far stand there
use Rattle.std.proofs.Common.{◌≡◌, take, map, filter}
use Rattle.c25_meaning_linking.specs.Linking.{module_uses}
use Rattle.c25_meaning_linking.specs.Place.{by_modules}
use Rattle.c25_link_faults.specs.Sites.{is_use, sites_data, use_site}
use Rattle.c25_link_faults.proofs.sites.use_sites.Given as goal

abbrev pub invariant-loop-number : goal.invariant-loop-number
invariant-loop-number l = sites_data l.sites.items ≡ map use_site (filter (is_use l.name) (by_modules module_uses 0 (take l.number l.modules)))
