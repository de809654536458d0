-- the uses so far stand there
use Rattle.std.proofs.Common.{◌≡◌, ◌++◌, take, map, filter}
use Rattle.c25_meaning_linking.specs.Linking.{use_of}
use Rattle.c25_module.specs.View.{contents}
use Rattle.c25_link_faults.specs.Sites.{is_use, sites_data, use_site}
use Rattle.c25_link_faults.proofs.sites.push_uses.Given as goal

abbrev pub invariant-loop-relocation : goal.invariant-loop-relocation
invariant-loop-relocation l = sites_data l.sites.items ≡ sites_data l.fn.sites.items ++ map use_site (filter (is_use l.name) (map (use_of l.number (contents l.owner)) (take l.relocation-index l.owner.relocations.items)))
