use Rattle.std.proofs.Common.{arith}
use Rattle.index_tests.proofs.records_at_once.key_of.Goals as goal

pub overflow_sub-result : goal.overflow_sub-result
overflow_sub-result c = omega arith

pub overflow_add-result : goal.overflow_add-result
overflow_add-result c = omega arith

pub returns-then-caller-eq1 : goal.returns-then-caller-eq1
returns-then-caller-eq1 c = omega arith

pub returns-else-caller-eq1 : goal.returns-else-caller-eq1
returns-else-caller-eq1 c = omega arith
