-- The exit status of the program for each fault: 1 if input is refused, 2 if the command line is, 3 if a read, a write, a file or
-- a socket failed, and 4 if memory ran out.
use Rattle.std.specs.Prelude.{ℕ}
use Rattle.am_store.specs.declared.file_fault.FileFault.{FileFault}
use Rattle.am_store.specs.declared.file_fault.FileFault.TheVariants as files
use Rattle.am_memberlist.specs.declared.error.AnswerError.{AnswerError}
use Rattle.am_memberlist.specs.declared.error.AnswerError.TheVariants as answers
use Rattle.am_peers.specs.declared.error.ServerFault.{ServerFault}
use Rattle.am_peers.specs.declared.error.ServerFault.TheVariants as servers
use Rattle.am_gossip.specs.declared.refusals.ConfigError.{ConfigError}
use Rattle.am_gossip.specs.declared.refusals.ConfigError.TheVariants as names
use Rattle.am_peer_auth.specs.declared.secret.SecretFault.{SecretFault}
use Rattle.am_peer_auth.specs.declared.secret.SecretFault.TheVariants as secrets
use Rattle.am_silence_json.specs.declared.list_error.ListError.{ListError}
use Rattle.am_silence_json.specs.declared.list_error.ListError.TheVariants as lists
use Rattle.am_snapshot.specs.Loads.{load_fault}
use Rattle.am_snapshot.specs.declared.error.SnapshotError.{SnapshotError}
use Rattle.am_snapshot.specs.declared.error.SnapshotError.TheVariants as rows
use Rattle.am_diagnostics.specs.declared.fault.Fault.{Fault}
use Rattle.am_diagnostics.specs.declared.fault.Fault.TheVariants as faults

-- the status for a row that is read or written
abbrev pub row_status : SnapshotError → ℕ
row_status (rows.Read at) = 3
row_status (rows.Write written) = 3
row_status rows.Memory = 4
row_status _ = 1

-- the status for a file
abbrev pub file_status : FileFault → ℕ
file_status (files.Snapshot error) = row_status error
file_status _ = 3

-- the status for a server that is asked
abbrev pub server_status : ServerFault → ℕ
server_status (servers.Connect kind) = 3
server_status (servers.Write written) = 3
server_status (servers.Read at) = 3
server_status servers.Memory = 4
server_status _ = 1

-- the status for a replica's answer by gossip
abbrev pub answer_status : AnswerError → ℕ
answer_status (answers.Row fault) = row_status (load_fault fault)
answer_status answers.Memory = 4
answer_status _ = 1

-- the status for the list that a server replied
abbrev pub list_status : ListError → ℕ
list_status lists.Memory = 4
list_status _ = 1

-- the status for the names of members
abbrev pub names_status : ConfigError → ℕ
names_status names.Memory = 4
names_status _ = 2

-- the status for the file of a secret
abbrev pub secret_status : SecretFault → ℕ
secret_status (secrets.File kind) = 3
secret_status (secrets.Read at) = 3
secret_status secrets.Memory = 4
secret_status _ = 1

-- the status for any fault
abbrev pub fault_status : Fault → ℕ
fault_status (faults.Memory error) = 4
fault_status (faults.Snapshot error) = row_status error
fault_status (faults.File fault) = file_status fault
fault_status (faults.Silences fault) = file_status fault
fault_status (faults.Log fault) = file_status fault
fault_status (faults.Server fault) = server_status fault
fault_status (faults.List error) = list_status error
fault_status (faults.Gossip error) = answer_status error
fault_status faults.Peer = 2
fault_status (faults.Config error) = names_status error
fault_status (faults.Secret fault) = secret_status fault
fault_status _ = 3
