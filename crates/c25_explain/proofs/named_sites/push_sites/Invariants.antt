-- the notes about the places so far stand there
use Rattle.std.proofs.Common.{◌≡◌, ◌++◌, map, string_bytes, take}
use Rattle.c25_link_faults.specs.Sites.{sites_data}
use Rattle.c25_explain.specs.Again.{notes_view, site_note}
use Rattle.c25_explain.specs.SiteView.{deed_of}
use Rattle.c25_explain.proofs.named_sites.push_sites.Given as goal

abbrev pub invariant-loop-site : goal.invariant-loop-site
invariant-loop-site l = notes_view l.notes.items ≡ notes_view l.fn.notes.items ++ map (site_note (map string_bytes l.about.names.now) (deed_of l.deed) l.about.name.now) (sites_data (take l.site-index l.sites))
