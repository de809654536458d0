use Rattle.c25_meaning_linking.specs.GoodMap.{ranges_for, placings_for, requests}
use Rattle.c25_linking_laws.proofs.OneMap.{placed_once}
use Rattle.c25_linking_laws.proofs.placing.one_good_map.Goals as goal

pub returns : goal.returns
returns c modules command places others x y = placed_once (ranges_for command) (requests modules (placings_for command)) places others x y
