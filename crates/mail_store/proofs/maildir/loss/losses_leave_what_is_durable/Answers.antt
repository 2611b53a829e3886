use Rattle.std.proofs.Common.{refl, map, None}
use Rattle.mail_store.proofs.LossLemmas.{files_all_left, all_may_be_left, files_left, left_durable, names_left, files_part_left, secured}
use Rattle.mail_store.proofs.maildir.loss.losses_leave_what_is_durable.Goals as goal

pub returns-clause-named : goal.returns-clause-named
returns-clause-named c = λ old new f loses. names_left old.files new.files f loses.files

pub returns-clause-whole : goal.returns-clause-whole
returns-clause-whole c = λ old new f loses. files_left old.files new.files f loses.files

pub returns-clause-part : goal.returns-clause-part
returns-clause-part c = λ old new loses all. files_part_left old.files new.files all loses.files

pub returns-clause-same : goal.returns-clause-same
returns-clause-same c = λ old new loses all. files_all_left old.files new.files all loses.files

pub returns-clause-durable : goal.returns-clause-durable
returns-clause-durable c = λ old new loses. left_durable old.files new.files loses.files

pub returns-clause-possible : goal.returns-clause-possible
returns-clause-possible c = λ old. (
  record old { files = map secured old.files; begun = None },
  record {
    there = refl;
    files =
        all_may_be_left old.files;
    begun = refl;
    taken = refl;
  },
)
