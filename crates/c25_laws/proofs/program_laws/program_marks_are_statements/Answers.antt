use Rattle.c25_laws.proofs.ProgramMarks.{marks_are}
use Rattle.c25_laws.proofs.SourcesRead.{source_lines}
use Rattle.c25_laws.proofs.program_laws.program_marks_are_statements.Goals as goal

pub returns-clause-sources : goal.returns-clause-sources
returns-clause-sources c = source_lines

pub returns-clause-marks : goal.returns-clause-marks
returns-clause-marks c = marks_are
