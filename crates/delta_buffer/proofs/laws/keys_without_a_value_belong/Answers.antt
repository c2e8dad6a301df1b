use Rattle.delta_buffer.proofs.Linking.{keys_belong}
use Rattle.delta_buffer.proofs.laws.keys_without_a_value_belong.Goals as goal

pub returns : goal.returns
returns c = keys_belong
