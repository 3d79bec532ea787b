use Rattle.am_wire.specs.Reading.{fields_in}
use Rattle.am_wire.proofs.Insides.{text_clean, text_read, text_fault_found, text_fault_read, item_clean, item_read, item_fault_found, item_fault_read, numbers_clean, numbers_clean_read, numbers_fault_found, numbers_fault_read}
use Rattle.am_wire.proofs.Meanings.{sound_found, sound_read, fault_found, fault_read}
use Rattle.am_wire.proofs.laws.insides_are_told.Goals as goal

pub returns-clause-text : goal.returns-clause-text
returns-clause-text c = λ n at inside bytes. (text_clean n at inside bytes, text_read n at inside bytes)

pub returns-clause-text_fault : goal.returns-clause-text_fault
returns-clause-text_fault c = λ n at inside bytes fault. (text_fault_found n at inside bytes fault, text_fault_read n at inside bytes fault)

pub returns-clause-part : goal.returns-clause-part
returns-clause-part c = λ table n at inside bytes. (
  λ h. (fields_in table inside bytes, sound_found table inside bytes h),
  λ is. (sound_read table inside bytes is.0 is.1).0,
)

pub returns-clause-part_fault : goal.returns-clause-part_fault
returns-clause-part_fault c = λ table n at inside bytes fault. (fault_found table inside bytes fault, fault_read table inside bytes fault)

pub returns-clause-item : goal.returns-clause-item
returns-clause-item c = λ table tests n at inside bytes. (item_clean n at inside bytes table tests, item_read n at inside bytes table tests)

pub returns-clause-item_fault : goal.returns-clause-item_fault
returns-clause-item_fault c = λ table tests n at inside bytes fault. (item_fault_found n at inside bytes table tests fault, item_fault_read n at inside bytes table tests fault)

pub returns-clause-numbers : goal.returns-clause-numbers
returns-clause-numbers c = λ n at inside bytes. (numbers_clean n at inside bytes, numbers_clean_read n at inside bytes)

pub returns-clause-numbers_fault : goal.returns-clause-numbers_fault
returns-clause-numbers_fault c = λ n at inside bytes fault. (numbers_fault_found n at inside bytes fault, numbers_fault_read n at inside bytes fault)
