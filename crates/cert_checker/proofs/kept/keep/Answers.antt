use Rattle.cert_checker.proofs.kept.keep.Goals as goal

pub returns-clause-kept : goal.returns-clause-kept
returns-clause-kept c = record {
  rooms = record { are = c.in_ok-rooms.ensures.value; short = c.in_ok-rooms.ensures.short };
  rows = c.in_ok-ranges.ensures.rows (c.new-table.ensures.rows c.args.job.now);
  ranges = c.in_ok-ranges.ensures.ranges;
}
