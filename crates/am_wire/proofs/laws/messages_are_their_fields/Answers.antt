use Rattle.am_wire.proofs.Meanings.{message_found, message_read, failure_found, failure_read}
use Rattle.am_wire.proofs.laws.messages_are_their_fields.Goals as goal

pub returns-clause-read : goal.returns-clause-read
returns-clause-read g c = λ table tests value place at bytes v. (message_found table tests value place at bytes v, message_read table tests value place at bytes v)

pub returns-clause-fault : goal.returns-clause-fault
returns-clause-fault g c = λ table tests value place at bytes fault. (failure_found table tests value place at bytes fault, failure_read table tests value place at bytes fault)
