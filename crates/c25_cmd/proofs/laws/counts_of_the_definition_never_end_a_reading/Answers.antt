use Rattle.c25_cmd.proofs.Counts.{parts_counted, ranges_counted, sections_counted}
use Rattle.c25_cmd.proofs.laws.counts_of_the_definition_never_end_a_reading.Goals as goal

pub returns-clause-parts : goal.returns-clause-parts
returns-clause-parts c = parts_counted

pub returns-clause-ranges : goal.returns-clause-ranges
returns-clause-ranges c = ranges_counted

pub returns-clause-sections : goal.returns-clause-sections
returns-clause-sections c = sections_counted
