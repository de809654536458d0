use Rattle.c25_inputs.proofs.files.read_named.Goals as goal

pub returns-in-Err : goal.returns-in-Err
returns-in-Err g c = (c.in-Err.failure, c.in-Err.ensures.fault, c.fault_of_file.ensures)
