use Rattle.c25_run_laws.proofs.InB0.{held_runs, changed_stops, no_other_runs, else_plain, plain_stands, loads_are_code, loads_stop}
use Rattle.c25_run_laws.proofs.runs.code_in_b0.Goals as goal

pub returns-clause-held : goal.returns-clause-held
returns-clause-held c = held_runs

pub returns-clause-changed : goal.returns-clause-changed
returns-clause-changed c = changed_stops

pub returns-clause-no_other : goal.returns-clause-no_other
returns-clause-no_other c = no_other_runs

pub returns-clause-elsewhere : goal.returns-clause-elsewhere
returns-clause-elsewhere c = else_plain

pub returns-clause-as_data : goal.returns-clause-as_data
returns-clause-as_data c = plain_stands

pub returns-clause-loads : goal.returns-clause-loads
returns-clause-loads c = λ ss w pc x c image at low high. loads_are_code ss w pc image x c at low high

pub returns-clause-load_stops : goal.returns-clause-load_stops
returns-clause-load_stops c = loads_stop
