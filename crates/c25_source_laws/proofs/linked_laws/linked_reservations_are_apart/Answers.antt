use Rattle.c25_source_laws.proofs.ReservedApart as reserved
use Rattle.c25_source_laws.proofs.linked_laws.linked_reservations_are_apart.Goals as goal

pub returns-clause-inside : goal.returns-clause-inside
returns-clause-inside c files names modules command image of p = reserved.inside files names modules of p.places

pub returns-clause-apart : goal.returns-clause-apart
returns-clause-apart c files names modules command image of p = reserved.apart files names modules of p.places command p.good

pub returns-clause-items : goal.returns-clause-items
returns-clause-items c files names modules command image of p = reserved.items files names modules of p.places command p.good

pub returns-clause-program : goal.returns-clause-program
returns-clause-program c files names modules command image of p source position address r is =
    reserved.none_there files names modules of p.places command p.good image.program source position 0 address r p.program is

pub returns-clause-store : goal.returns-clause-store
returns-clause-store c files names modules command image of p source position address r is =
    reserved.none_there files names modules of p.places command p.good image.store source position 1 address r p.store is

pub returns-clause-names : goal.returns-clause-names
returns-clause-names c files names modules command image of p = reserved.value_of files names modules of p.places

pub returns-clause-blocks : goal.returns-clause-blocks
returns-clause-blocks c files names modules command image of p = reserved.blocks files names modules of p.places command p.good
