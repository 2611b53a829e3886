use Rattle.popd_program.proofs.warning.WarningDisplay.fmt.Goals as goal

pub returns-in-Network-clause-writes : goal.returns-in-Network-clause-writes
returns-in-Network-clause-writes g c = rw c.in-Network.is c.write-in-Network.ensures.writes

pub returns-in-NotRemoved-clause-writes : goal.returns-in-NotRemoved-clause-writes
returns-in-NotRemoved-clause-writes g c = rw (
  c.in-NotRemoved.is,
  ← c.as_str.ensures.value,
  ← c.as_str-in-NotRemoved.ensures.value,
) c.write_not_removed.ensures
