use Rattle.c25_map.proofs.Readers.{is_found, is_refused, is_printable}
use Rattle.c25_map.proofs.map_reader.read_map.Goals as goal

pub returns-clause-found : goal.returns-clause-found
returns-clause-found c = is_found c.args.text.now c.map_of.result c.map_of.ensures

pub returns-clause-refused : goal.returns-clause-refused
returns-clause-refused c = is_refused c.args.text.now c.map_of.result c.map_of.ensures

pub returns-clause-prints : goal.returns-clause-prints
returns-clause-prints c = is_printable c.args.text.now c.map_of.result c.map_of.ensures
