use Rattle.c25_inputs.specs.Files.{source_names}
use Rattle.c25_tasks.proofs.ReadyCounts.{counted_from, counted_ready}
use Rattle.c25_tasks.proofs.counting.report_counted.Goals as goal

pub run_ready-report-requires : goal.run_ready-report-requires
run_ready-report-requires g c =
    counted_ready (g.D.Disk.bytes_of c.args.disk.now) (source_names c.args.asked.named.sources) c.args.asked.options.steps c.args.asked.named.files c.args.counted c.requires

pub returns-clause-counts : goal.returns-clause-counts
returns-clause-counts g c =
    counted_from (g.D.Disk.bytes_of c.args.disk.now) (source_names c.args.asked.named.sources) c.args.asked.options.steps c.args.asked.named.files c.args.counted c.requires
