use Rattle.c25_meaning_linking.specs.GoodMap.{ranges_for, placings_for}
use Rattle.c25_meaning_linking.proofs.Parts.{one_part}
use Rattle.c25_linking_laws.proofs.placing.two_parts_share_no_word.Goals as goal

pub returns : goal.returns
returns c modules command places number other index another page address owner owner_2 section section_2 each good p q l k =
    let one = one_part (ranges_for command) modules (placings_for command) places each good number other index another page address owner owner_2 section section_2 p q l k in
    (one.numbers, one.indexes)
