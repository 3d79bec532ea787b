use Rattle.am_store.proofs.UnsyncedSaves.{whole, file_lost, names_lost}
use Rattle.am_store.proofs.laws.each_sync_is_needed.Goals as goal

pub returns-clause-whole : goal.returns-clause-whole
returns-clause-whole c = λ path row old. whole path old row

pub returns-clause-file : goal.returns-clause-file
returns-clause-file c = λ path old found. file_lost path old found

pub returns-clause-directory : goal.returns-clause-directory
returns-clause-directory c = λ path row old. names_lost path old row
